-- What a call on a packed ledger answers and leaves, over any rules and layout: malformed, refused or accepted. Assumes nothing.
use Rattle.std.specs.Prelude.{Result, Ok, Err}
use mathlib.Core.Path.{◌≡◌, refl, sym, ap, subst}
use mathlib.Core.Bool.{Bool, true, false, cond}
use mathlib.Core.List.{List}
use Prim.Native.Nat.{ℕ, zero, suc, ◌≤◌}
use native.Mathlib.Omega.{arith}
use lib.ListN.{length}
use Rattle.refusals.specs.declared.Refusal.{Refusal}
use Rattle.refusals.specs.Numbers.{number_of}
use Rattle.model.specs.declared.Answer.{Answer}
use Rattle.model.specs.Calls.{CallWithBook}
use Rattle.model.specs.Rules.{Rules, refusal, unless_refused}
use Rattle.model.specs.Ledger.{Ledger, view, due, outcome_turned_down, accept, outcome, step, answer}
use Rattle.model.specs.WellFormed.{WellFormed}
use Rattle.layout.specs.Layout.{Layout, is_well_formed, ledger_of, bytes_of, machine_of}
use Rattle.layout.proofs.Lawful.{Lawful}
use Rattle.layout.proofs.RoundTrips.{format-laws, repacked}
use Rattle.layout.specs.declared.Totals.{Totals}
use Rattle.layout.specs.Check.{checked_of, malformed, well_formed, Searched}

-- what is answered and left
pub record Answers (R : Rules) (L : Layout) (b : List ℕ) (c : CallWithBook) (a : Result Answer ℕ) (after : List ℕ) : Type 0 where
  pub answered : (machine_of R L).answer b c ≡ a
  pub left : (machine_of R L).step b c ≡ after

-- what a check that found the ledger well formed says
pub record Sound (R : Rules) (L : Layout) (b : List ℕ) (rows sum : ℕ) : Type 0 where
  pub formed : is_well_formed R L b ≡ true
  pub count : rows ≡ length (ledger_of R L b).rows
  pub total : sum ≡ due (ledger_of R L b)
  pub packed : b ≡ bytes_of R L (ledger_of R L b)
  pub facts : WellFormed R (ledger_of R L b)

module _ {R : Rules} {L : Layout} (laws : Lawful R L) (b : List ℕ) where
  abbrev l : Ledger
  l = ledger_of R L b

  -- what each finding says
  abbrev Says : Result Totals Refusal → Type 0
  Says (Err r) = (is_well_formed R L b ≡ false) × (number_of r ≡ 2)
  Says (Ok t) = Sound R L b t.rows t.due

  check-says : {r : Result Totals Refusal} → r ≡ checked_of R L b → Says r
  unfolding checked_of
  check-says {r} e = subst Says (sym e) (go (is_well_formed R L b) refl)
    where
      go : (f : Bool) → is_well_formed R L b ≡ f → Says (cond f (well_formed (length l.rows) (due l)) malformed)
      go true w = record { formed = w; count = refl; total = refl; packed = sym (repacked laws b w); facts = (format-laws laws).unpacked b w }
      go false w = (w, refl)

  pub check-malformed : (r : Refusal) → Err r ≡ checked_of R L b → (is_well_formed R L b ≡ false) × (number_of r ≡ 2)
  check-malformed r e = check-says e

  pub check_sound : (t : Totals) → Ok t ≡ checked_of R L b → Sound R L b t.rows t.due
  check_sound t e = check-says e

  pub searched : {rows sum : ℕ} → Sound R L b rows sum → Searched R L b rows
  searched s = record { formed = s.formed; count = s.count }

  module _ (c : CallWithBook) where
    pub machine-malformed : is_well_formed R L b ≡ false → Answers R L b c (Err 2) b
    machine-malformed e = record { answered = rw e; left = rw e }

    abbrev packed : Ledger → List ℕ
    packed = bytes_of R L

    -- of a well-formed ledger, by the number of the refusal
    answers_by : is_well_formed R L b ≡ true → (n : ℕ) → refusal R (view l) c ≡ n
        → let o = unless_refused n (accept R l c) (outcome_turned_down l n) in Answers R L b c o.answers (unless_refused n (packed o.next) b)
    unfolding answer step outcome
    answers_by e n r = record {
      answered = rw e (ap (λ (k : ℕ). (unless_refused k (accept R l c) (outcome_turned_down l k)).answers) r);
      left = rw e (ap (λ (k : ℕ). unless_refused k (packed (unless_refused k (accept R l c) (outcome_turned_down l k)).next) b) r);
    }

    pub machine-refused : is_well_formed R L b ≡ true → (n : ℕ) → 1 ≤ n → refusal R (view l) c ≡ n → Answers R L b c (Err n) b
    machine-refused e zero h r = let z : ⊥ = omega arith in absurd z
    machine-refused e (suc n) h r = answers_by e (suc n) r

    pub machine-accepted : is_well_formed R L b ≡ true → refusal R (view l) c ≡ 0 → Answers R L b c (accept R l c).answers (packed (accept R l c).next)
    machine-accepted e r = answers_by e 0 r

module _ {R : Rules} {L : Layout} (laws : Lawful R L) (b : List ℕ) (c : CallWithBook) where
  pub malformed-refused : (r : Refusal) → Err r ≡ checked_of R L b → Answers R L b c (Err (number_of r)) b
  malformed-refused r e =
      let m = check-malformed laws b r e in
      subst (λ (n : ℕ). Answers R L b c (Err n) b) (sym m.1) (machine-malformed laws b c m.0)
