-- The packed ledger: any layout, the one in force, where its parts stand, and what is established of it.
pub mod Layout
pub mod Check
pub mod PresentLayout
pub mod Offsets
pub mod Present
pub mod Theorems
pub mod RowsInOrder
pub mod LayoutExample
