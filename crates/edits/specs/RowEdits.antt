-- What is needed to insert, replace and remove a row of a packed ledger. Assumes nothing.
use Rattle.std.specs.Prelude.{ℕ, ◌≤◌, ◌<◌}
use Rattle.limits.specs.Limits.{row_count}
use Rattle.fields.specs.Fields.{Fit}
use Rattle.model.specs.declared.Row.{Row}
use Rattle.layout.specs.PresentLayout.{row_record}

pub record Insertable (rows place : ℕ) (x : Row) : Type 0 where
  pub inside : place ≤ rows
  pub room : rows < row_count
  pub fits : Fit row_record.widths (row_record.values x)

pub record Replaceable (place : ℕ) (x : Row) : Type 0 where
  pub inside : place < row_count
  pub fits : Fit row_record.widths (row_record.values x)

pub record Removable (rows place : ℕ) : Type 0 where
  pub inside : place < rows
  pub count : rows ≤ row_count
