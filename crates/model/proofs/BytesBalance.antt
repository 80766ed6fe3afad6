-- The ledger kept as bytes, or as anything else that a well-formed ledger can be packed to and unpacked from: the same histories balance. Assumes nothing.
use Rattle.std.specs.Prelude.{Result}
use mathlib.Core.Path.{◌≡◌, refl, sym, subst}
use mathlib.Core.Bool.{true}
use mathlib.Core.List.{List, [], ◌++◌}
use Prim.Native.Nat.{ℕ, zero, suc, ◌≤◌}
use Rattle.model.specs.declared.Answer.{Answer}
use Rattle.model.specs.declared.Call.{Call}
use Rattle.model.specs.Calls.{CallWithBook, ◌with◌}
use Rattle.model.specs.Rules.{Rules, refusal, unless_refused}
use Rattle.model.specs.Ledger.{Ledger, fresh, outcome_turned_down, outcome, step, view, accept}
use Rattle.model.specs.Sheet as Sheet
use Rattle.model.specs.History.{run, sheet_after, state_after, ledger_machine}
use Rattle.model.specs.Balance.{Balanced, EveryHistoryBalances, sheet_of, StoredBalanceGoesOn}
use Rattle.model.specs.Format.{Format, bytes_machine, FormatLaws}
use Rattle.model.proofs.Refinement.{Refines, good-run, good-after, carry, carry-from}
use Rattle.model.proofs.StaysWellFormed.{stays, fresh-formed}
use Rattle.model.proofs.Balance.{every-history-balances}
use Rattle.model.proofs.StoredBalance.{stored-balance-goes-on}
use Rattle.model.proofs.RulesLaws.{RulesLaws}

refused-step : (R : Rules) (l : Ledger) (c : CallWithBook) (n : ℕ) → refusal R (view l) c ≡ suc n → l ≡ step R l c
unfolding step outcome
refused-step R l c n e = subst (λ (k : ℕ). l ≡ (unless_refused k (accept R l c) (outcome_turned_down l k)).next) (sym e) refl

module _ (R : Rules) (ok : RulesLaws R) (f : Format) (w : FormatLaws R f) where
  -- the next bytes are sound, and read as the ledger's next state
  pub next-well-formed : (b : f.Bytes) (c : CallWithBook) → f.is_well_formed b ≡ true → f.is_well_formed ((bytes_machine R f).step b c) ≡ true
  next-well-formed b c s = rw s (go (refusal R (view (f.unpack b)) c))
    where
      go : (n : ℕ) → f.is_well_formed (unless_refused n (f.pack (step R (f.unpack b) c)) b) ≡ true
      go zero = w.packed (step R (f.unpack b) c) (stays R ok (f.unpack b) c (w.unpacked b s))
      go (suc n) = s

  pub next-unpacked : (b : f.Bytes) (c : CallWithBook) → f.is_well_formed b ≡ true → f.unpack ((bytes_machine R f).step b c) ≡ step R (f.unpack b) c
  next-unpacked b c s = rw s (go (refusal R (view (f.unpack b)) c) refl)
    where
      go : (n : ℕ) → refusal R (view (f.unpack b)) c ≡ n → f.unpack (unless_refused n (f.pack (step R (f.unpack b) c)) b) ≡ step R (f.unpack b) c
      go zero e = w.packed_back (step R (f.unpack b) c) (stays R ok (f.unpack b) c (w.unpacked b s))
      go (suc n) e = refused-step R (f.unpack b) c n e

  abbrev pub bytes-refine : Refines (bytes_machine R f) (ledger_machine R)
  bytes-refine = record {
    good = λ b. f.is_well_formed b ≡ true;
    read = f.unpack;
    start-good = λ t o. w.packed (fresh t) (fresh-formed R t o);
    start-read = λ t o. w.packed_back (fresh t) (fresh-formed R t o);
    keeps = next-well-formed;
    steps = next-unpacked;
    says = λ b c s. rw s;
    holds = λ b s. refl;
  }

  -- number 2 meets no call of a history
  pub bytes-well-formed : (t : ℕ) → t ≤ 1 → (h : List CallWithBook) → f.is_well_formed (state_after (bytes_machine R f) t h) ≡ true
  bytes-well-formed = good-after (bytes_machine R f) (ledger_machine R) bytes-refine

  -- and no later call of a stored ledger
  pub stored-well-formed : (b : f.Bytes) → f.is_well_formed b ≡ true → (h : List CallWithBook) → f.is_well_formed (run (bytes_machine R f).step b h) ≡ true
  stored-well-formed b s h = good-run (bytes_machine R f) (ledger_machine R) bytes-refine h b s

  pub bytes-balance : EveryHistoryBalances R (bytes_machine R f)
  bytes-balance t o h =
      carry (bytes_machine R f) (ledger_machine R) bytes-refine t o h (λ answered next facts. Balanced R (sheet_after R t h) answered next facts.rows) (Call.Total with [])
      (every-history-balances R ok t o h)

  -- a stored ledger that balances goes on balancing
  pub bytes-balance-goes-on : StoredBalanceGoesOn R (bytes_machine R f) (λ b. f.is_well_formed b ≡ true)
  bytes-balance-goes-on b s earlier stored h =
      carry-from (bytes_machine R f) (ledger_machine R) bytes-refine
      (λ answered next facts. Balanced R (run (Sheet.step R) (sheet_of (f.unpack b)) h) (earlier ++ answered) next facts.rows) (Call.Total with []) h b s
      (stored-balance-goes-on R ok (f.unpack b) (w.unpacked b s) earlier
      (subst (λ (next : Result Answer ℕ). Balanced R (sheet_of (f.unpack b)) earlier next (f.unpack b).rows) (bytes-refine.says b (Call.Total with []) s) stored) h)
