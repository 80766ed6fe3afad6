-- A ledger stored earlier is well formed just where its amounts are those by day: the rules differ in the amount alone. Assumes nothing.
use mathlib.Core.Path.{◌≡◌, refl}
use mathlib.Core.List.{List}
use Prim.Native.Nat.{ℕ, ◌≤◌}
use native.Mathlib.Omega.{arith}
use lib.ListN.{length}
use Rattle.limits.specs.Limits.{row_count}
use Rattle.basics.specs.Lists.{All}
use Rattle.basics.proofs.Lists.{all_map, all_both}
use Rattle.rates.specs.declared.Terms.{Terms}
use Rattle.amounts.specs.declared.Bill.{Bill}
use Rattle.amounts.specs.Amounts.{amount}
use Rattle.amounts.specs.EarlierAmount.{earlier_amount}
use Rattle.model.specs.declared.Row.{Row}
use Rattle.model.specs.Rules.{part_of_due}
use Rattle.model.specs.PresentRules.{bill_ok, present_rules}
use Rattle.model.specs.Ledger.{Ledger, ledger_with_rows}
use Rattle.model.specs.History.{state_after, ledger_machine}
use Rattle.model.specs.WellFormed.{RowOk, Apart, WellFormed}
use Rattle.model.specs.StoredEarlier.{rules_with, RatedByDay, certified_inside, stored_with, StoredEarlier}
use Rattle.model.proofs.PresentRules.{present-rules-laws}
use Rattle.model.proofs.StaysWellFormed.{history-formed}
use Rattle.model.proofs.Computed.{answers_computed}

pub by_day : (l : Ledger) → WellFormed present_rules l → All (RatedByDay l.contracts) l.rows
unfolding part_of_due
by_day l f = all_map _ _ (λ x ok. ok.part) l.rows f.rows

-- a well-formed ledger with other rows, by another amount
rated : (f g : Terms → Bill → ℕ) (l : Ledger) → WellFormed (rules_with f) l → (xs : List Row) → length xs ≤ row_count → All (RowOk (rules_with g) l.contracts) xs → Apart xs
    → WellFormed (rules_with g) (ledger_with_rows l xs)
rated f g l w xs few rows apart = record {
  territory = w.territory;
  claims = w.claims;
  pence = w.pence;
  unclaimed = w.unclaimed;
  numbers = w.numbers;
  contracts = w.contracts;
  count = few;
  rows = rows;
  apart = apart;
}

still_formed : (l : Ledger) → WellFormed (rules_with earlier_amount) l → All (RatedByDay l.contracts) l.rows → WellFormed present_rules l
unfolding part_of_due
still_formed l w same =
    rated earlier_amount amount l w l.rows w.count
    (all_map _ _ (λ x both. record { number = both.0.number; is_opened = both.0.is_opened; ranges = both.0.ranges; part = both.1 }) l.rows (all_both _ _ l.rows w.rows same))
    w.apart

-- ---- the example, by computation

opened : WellFormed present_rules (state_after (ledger_machine present_rules) 0 certified_inside)
opened = history-formed present_rules present-rules-laws 0 (omega arith) certified_inside

was : WellFormed (rules_with earlier_amount) (stored_with 17800000)
unfolding answers_computed earlier_amount stored_with state_after bill_ok part_of_due
was = rated amount earlier_amount _ opened _ (omega arith) (record { number = omega arith; is_opened = refl; ranges = refl; part = refl }, tt) (tt, tt)

is_not : WellFormed present_rules (stored_with 17800000) → ⊥
unfolding answers_computed stored_with state_after part_of_due
is_not w = let same : ◌≡◌ {A = ℕ} 17800000 51043280 = w.rows.0.part in omega arith

is_now : WellFormed present_rules (stored_with 51043280)
unfolding answers_computed stored_with state_after bill_ok part_of_due
is_now = rated amount amount _ opened _ (omega arith) (record { number = omega arith; is_opened = refl; ranges = refl; part = refl }, tt) (tt, tt)

pub stored_earlier : StoredEarlier
stored_earlier = record { exactly = λ l w. (by_day l, still_formed l w); was = was; is_not = is_not; is_now = is_now }
