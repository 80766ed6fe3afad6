-- `Laws` has the laws of fields, for this crate and those that link it, and `FieldLaws` what is established of them. `Bits` has rows of
-- bits, `Windows` fields by the bytes that hold them, `Words` what `src/word.rt` computes.
mod Bits
pub mod Laws
pub mod FieldLaws
mod Windows
mod Words
