-- The ledger that calls leave with other rows is well formed where the rows are good, and balances with the answers to the bills of its rows. Assumes
-- nothing.
use Rattle.std.specs.Prelude.{Result, Ok}
use Rattle.std.proofs.lemmas.List.{append-nil}
use mathlib.Core.Path.{◌≡◌, sym, ◌∙◌, subst}
use mathlib.Core.List.{List, [], ◌∷◌, ◌++◌}
use Prim.Native.Nat.{ℕ, ◌≤◌}
use native.Mathlib.Omega.{arith}
use lib.IntN.{ℤ, pos}
use lib.ListN.{length}
use Rattle.limits.specs.Limits.{row_count}
use Rattle.basics.specs.Lists.{All}
use Rattle.basics.specs.Integers.{sumℤ}
use Rattle.model.specs.declared.Row.{Row}
use Rattle.model.specs.declared.Answer.{Answer}
use Rattle.model.specs.declared.Answer.TheVariants.{Billed, Claimed}
use Rattle.model.specs.Calls.{CallWithBook, customer_amount, claim_pence}
use Rattle.model.specs.PresentRules.{present_rules}
use Rattle.model.specs.Ledger.{Ledger, due}
use Rattle.model.specs.History.{state_after, ledger_machine, left_with_rows}
use Rattle.model.specs.WellFormed.{RowOk, Apart, WellFormed}
use Rattle.model.specs.Balance.{BalancedIn, sheet_of}
use Rattle.model.proofs.PresentRules.{present-rules-laws}
use Rattle.model.proofs.StaysWellFormed.{with_rows, history-formed}
use Rattle.model.proofs.Balance.{balanced}
use Rattle.model.proofs.StoredBalance.{stored}

pub formed-with : (t : ℕ) → t ≤ 1 → (calls : List CallWithBook) (rows : List Row) → length rows ≤ row_count
    → All (RowOk present_rules (state_after (ledger_machine present_rules) t calls).contracts) rows → Apart rows → WellFormed present_rules (left_with_rows present_rules t calls rows)
formed-with t o calls rows few good apart = with_rows present_rules present-rules-laws (history-formed present_rules present-rules-laws t o calls) few good apart

-- ---- answers to bills: no claim is the last of them

abbrev NoClaim : Result Answer ℕ → Type 0
NoClaim a = (pence : ℤ) (rest : ℕ) → a ≡ Ok (Claimed pence rest) → ⊥

pub of-bill : (r rate amount : ℕ) → NoClaim (Ok (Billed r rate amount))
of-bill r rate amount pence rest e = let z : ◌≡◌ {A = ℕ} 0 1 = cc in omega arith

no-claim : (answers before : List (Result Answer ℕ)) (pence : ℤ) (rest : ℕ) → All NoClaim answers → answers ≡ before ++ (Ok (Claimed pence rest) ∷ []) → ⊥
no-claim [] [] pence rest none e = let z : ◌≡◌ {A = ℕ} 0 1 = cc in omega arith
no-claim [] (b ∷ before) pence rest none e = let z : ◌≡◌ {A = ℕ} 0 1 = cc in omega arith
no-claim (a ∷ answers) [] pence rest none e = none.0 pence rest cc
no-claim (a ∷ answers) (b ∷ before) pence rest none e = no-claim answers before pence rest none.1 cc

pub balanced-with : (l : Ledger) (answers : List (Result Answer ℕ)) → WellFormed present_rules l → All NoClaim answers
    → sumℤ customer_amount answers ≡ pos (due l) → sumℤ claim_pence answers ≡ pos l.pence
    → BalancedIn present_rules (ledger_machine present_rules) l (sheet_of l) answers
balanced-with l answers w none dues pence =
    subst (λ given. BalancedIn present_rules (ledger_machine present_rules) l (sheet_of l) given) (append-nil answers)
    (balanced present_rules present-rules-laws l (sheet_of l) (stored present_rules present-rules-laws l w) [] answers dues pence
    (λ before p rest e. absurd (no-claim answers before p rest none (sym (append-nil answers) ∙ e))))
