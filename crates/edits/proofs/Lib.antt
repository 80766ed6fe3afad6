-- What the edits of the bytes do to the facts that the bytes hold.
pub mod PackedChanges
