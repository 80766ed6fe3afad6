-- Laws of any layout, of the check of a ledger so laid out, and of the packed ledger in force.
pub mod Order
pub mod LayoutLaws
pub mod Lawful
pub mod RoundTrips
pub mod Changes
pub mod Access
pub mod RowChecks
pub mod CheckedParts
pub mod HeldRows
pub mod Machine
pub mod PresentLayout
pub mod Present
pub mod Theorems
pub mod RowsInOrder
pub mod LayoutExample
