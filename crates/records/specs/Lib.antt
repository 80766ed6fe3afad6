-- Arrays of equal records in bytes. `Pack` has one record, `Slots` arrays of records that may be absent, `OneSlot` one slot's bytes, `Places` records that come
-- first in their array, `Numbered` slots by their number, `Pairs` tests of pairs and of neighbours, `Widths` fields that are written at once, and `Edits` what the functions of this crate leave.
pub mod Pack
pub mod Slots
pub mod OneSlot
pub mod Places
pub mod Numbered
pub mod Pairs
pub mod Widths
pub mod Edits
