-- The ledger holds exactly the accepted facts after every history, and so do its bytes in any format. Assumes nothing.
use mathlib.Core.Path.{◌≡◌, ◌∙◌}
use mathlib.Core.Bool.{true, cond}
use mathlib.Core.List.{Memᴰ, []}
use native.Mathlib.Omega.{arith}
use lib.IntN.{+ℤ_idl}
use Rattle.amounts.specs.declared.Bill.{Bill}
use Rattle.model.specs.declared.Row.{Row}
use Rattle.model.specs.declared.Call.{Call}
use Rattle.model.specs.Calls.{◌with◌}
use Rattle.model.specs.Rules.{Rules, part_of_due, standing_row}
use Rattle.model.specs.Ledger.{Ledger, fresh}
use Rattle.model.specs.Sheet.{Sheet, blank}
use Rattle.model.specs.History.{sheet_after, state_after, answers_to, ledger_machine}
use Rattle.model.specs.Format.{Format, bytes_machine, FormatLaws}
use Rattle.model.specs.HoldsFacts.{HoldsFacts, EveryHistoryHoldsItsFacts}
use Rattle.model.proofs.RulesLaws.{RulesLaws}
use Rattle.model.proofs.Relation.{Related}
use Rattle.model.proofs.StandingRows.{equal, equal-refl, equal-path, counted, placed}
use Rattle.model.proofs.Balance.{start, related, pence-run}
use Rattle.model.proofs.Refinement.{carry}
use Rattle.model.proofs.BytesBalance.{bytes-refine}

-- a held row is that of a standing bill
bill-of-row : (R : Rules) (l : Ledger) (s : Sheet) → Related R l s → (x : Row) → Memᴰ x l.rows → Memᴰ x.bill s.bills × (x.amount ≡ part_of_due R s.contracts x.bill)
bill-of-row R l s r x m = let e : x ≡ standing_row R s.contracts t.0 = equal-path x _ t.2 in (rw e t.1, rw e)
  where
    t : (b : Bill) × Memᴰ b s.bills × (equal x (standing_row R s.contracts b) ≡ true)
    t = placed (λ b. equal x (standing_row R s.contracts b)) s.bills (omega (arith, counted (equal x) x l.rows m (equal-refl x), r.same (λ y. cond (equal x y) 1 0)))

module _ (R : Rules) (ok : RulesLaws R) where
  pub every-history-holds : EveryHistoryHoldsItsFacts R (ledger_machine R)
  unfolding state_after answers_to sheet_after fresh
  every-history-holds t o h =
      let r = related R ok h (fresh t) (blank t) (start R ok t) in
      record {
        territory = r.territory;
        contracts = r.contracts;
        rows = λ p. r.same (λ x. cond (p x) 1 0);
        standing = bill-of-row R _ _ r;
        claims = r.claims;
        pence = pence-run R ok h (fresh t) (blank t) (start R ok t) ∙ +ℤ_idl _;
      }

  pub bytes-hold : (f : Format) → FormatLaws R f → EveryHistoryHoldsItsFacts R (bytes_machine R f)
  bytes-hold f w t o h =
      carry (bytes_machine R f) (ledger_machine R) (bytes-refine R ok f w) t o h (λ answered next facts. HoldsFacts R (sheet_after R t h) answered facts) (Call.Total with [])
      (every-history-holds t o h)
