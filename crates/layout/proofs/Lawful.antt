-- Rules and a layout that keep their laws, as one. Assumes nothing.
use Rattle.records.specs.Pack.{size}
use Rattle.model.specs.Rules.{Rules}
use Rattle.model.proofs.RulesLaws.{RulesLaws}
use Rattle.layout.specs.Layout.{Layout, first_contract, first_row, ledger_length}
use Rattle.layout.proofs.LayoutLaws.{LayoutLaws}

pub record Lawful (R : Rules) (L : Layout) : Type 0 where
  pub rules : RulesLaws R
  pub layout : LayoutLaws R L

-- to unfold it is to unfold where the parts of a ledger stand: numbers, where the rules and the layout are given
unfoldable pub offsets : Unit {0}
unfolding ledger_length first_row first_contract size
offsets = tt
