-- `Pack` has one record, `Slots` slots and arrays written and read again, `OneSlot` one slot of an array, `SlotTests` its test, `Zeros`
-- free slots, `Arrays` arrays that are edited, `Scan` one pass over the slots, `Places` records that come first, `Numbered` slots by number.
-- `NumberSet`, `WrittenFields` and `WrittenSlots` have fields got and written, `Edits` the bytes that the functions leave,
-- `Replaced` bytes written over others, `Parts` bytes cut into parts.
mod Parts
pub mod Pack
pub mod Slots
pub mod Zeros
pub mod Numbered
pub mod Places
pub mod OneSlot
pub mod Scan
pub mod NumberSet
pub mod Edits
pub mod Replaced
pub mod Arrays
pub mod WrittenFields
pub mod WrittenSlots
pub mod SlotTests
