-- What a packed field holds: `Field` has one field, `Fields` adjacent ones. `FieldLaws` has what is
-- established.
pub mod Field
pub mod Fields
pub mod FieldLaws
