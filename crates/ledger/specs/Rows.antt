-- A row under its contract. Assumes nothing.
use Rattle.std.specs.Prelude.{Bool, false, ◌&&◌, eqb, Option, Some, None}
use Rattle.rates.specs.declared.Contract.{Contract}
use Rattle.amounts.specs.Amounts.{amount, by_terms}
use Rattle.model.specs.declared.Row.{Row}
use Rattle.model.specs.PresentRules.{bill_ok}

-- a row keeps the ranges under its contract, which is open, and its amount is that by the terms of its first day
abbrev pub row_under : Option Contract → Row → Bool
row_under None x = false
row_under (Some k) x = bill_ok k x.bill && eqb x.amount (by_terms amount k x.bill)
