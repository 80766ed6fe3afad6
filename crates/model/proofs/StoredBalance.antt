-- A well-formed ledger that balances with the answers to its earlier calls goes on balancing, whatever calls follow. Assumes nothing.
use Rattle.std.specs.Prelude.{Result, Ok}
use mathlib.Core.Path.{◌≡◌, refl, sym, ap, ◌∙◌}
use mathlib.Core.Bool.{true, cond}
use mathlib.Core.List.{List, [], ◌∷◌, ◌++◌, append-nil}
use Prim.Native.Nat.{ℕ, zero, suc, ◌+◌, ◌*◌, ◌/◌, ◌≤◌, zero-le}
use native.Mathlib.Omega.{arith}
use lib.IntN.{ℤ, pos, negsuc, sub_ℕ, neg_ℤ, ◌+ℤ◌, ◌-ℤ◌, ◌*ℤ◌, +ℤ-neg_ℤ_cancel, pos-*ℤ-pos, pos-*ℤ-negsuc, pos-ne-negsuc}
use Rattle.limits.specs.Limits.{ticks_per_penny}
use Rattle.basics.specs.Lists.{All, count}
use Rattle.basics.specs.Integers.{sumℤ}
use Rattle.basics.proofs.Tests.{either}
use Rattle.basics.proofs.Lists.{all_map, all-over, total-all, total-map}
use Rattle.basics.proofs.Integers.{reset}
use Rattle.model.specs.declared.Row.{Row}
use Rattle.model.specs.declared.Answer.{Answer}
use Rattle.model.specs.declared.Answer.TheVariants.{Claimed, Totalled}
use Rattle.model.specs.Calls.{CallWithBook, named, claim_pence}
use Rattle.model.specs.Rules.{Rules, standing_row}
use Rattle.model.specs.Ledger.{Ledger, step, answer, due}
use Rattle.model.specs.Sheet as Sheet
use Rattle.model.specs.WellFormed.{RowOk, before, Apart, WellFormed}
use Rattle.model.specs.History.{run, replies, ledger_machine}
use Rattle.model.specs.Balance.{BalancedIn, sheet_of, StoredBalanceGoesOn}
use Rattle.model.proofs.Relation.{Related, dues}
use Rattle.model.proofs.KeepsRelation.{named-contract, named-first}
use Rattle.model.proofs.RowOrder.{Span}
use Rattle.model.proofs.RowBounds.{row-spans}
use Rattle.model.proofs.RulesLaws.{RulesLaws}
use Rattle.model.proofs.Balance.{balanced, last_claim, total-says}

-- of rows that are apart at most one has a contract and first day
module _ (c first : ℕ) where
  none_after : (x : Row) (xs : List Row) → named c first x.bill ≡ true → Span x → All (before x) xs → count (λ y. named c first y.bill) xs ≡ 0
  unfolding before
  none_after x [] e p a = refl
  none_after x (y ∷ ys) e p a =
      either (named c first y.bill)
      (λ f. let z : ⊥ = omega (arith, a.0, p.days, named-contract c first x.bill e, named-first c first x.bill e, named-contract c first y.bill f, named-first c first y.bill f) in absurd z)
      (λ f. rw f (omega (arith, none_after x ys e p a.1)))

  once-named : (xs : List Row) → All Span xs → Apart xs → count (λ x. named c first x.bill) xs ≤ 1
  once-named [] p a = zero-le
  once-named (x ∷ xs) p a =
      either (named c first x.bill)
      (λ e. rw e (omega (arith, none_after x xs e p.0 a.0)))
      (λ e. rw e (omega (arith, once-named xs p.1 a.1)))

module _ (R : Rules) (ok : RulesLaws R) (l : Ledger) (w : WellFormed R l) where
  -- a row is that of its bill
  standing : (x : Row) → RowOk R l.contracts x → x ≡ standing_row R l.contracts x.bill
  standing x o = λ i. record { bill = x.bill; amount = o.part i }

  -- the ledger and the sheet of its facts
  pub stored : Related R l (sheet_of l)
  unfolding sheet_of
  stored = record {
    territory = refl;
    contracts = refl;
    claims = refl;
    same = λ v. total-all v _ l.rows (all_map _ _ (λ x o. ap v (standing x o)) l.rows w.rows) ∙ sym (total-map _ (λ x. x.bill) l.rows);
    good = w.contracts;
    sane = all-over _ _ (λ x. x.bill) (λ x o. record { is_opened = o.is_opened; ranges = o.ranges }) l.rows w.rows;
    once = λ c first. rw (total-map (λ b. cond (named c first b) 1 0) (λ x. x.bill) l.rows) (once-named c first l.rows (row-spans ok l.contracts l.rows w.rows) w.apart);
  }

-- ---- what a balance says of the pence

-- a product with a penny's ticks that is a natural number
times-pos : (z : ℤ) (n : ℕ) → pos ticks_per_penny *ℤ z ≡ pos (ticks_per_penny * n) → z ≡ pos n
times-pos (pos m) n e = let f : pos (ticks_per_penny * m) ≡ pos (ticks_per_penny * n) = sym (pos-*ℤ-pos ticks_per_penny m) ∙ e in let g : ticks_per_penny * m ≡ ticks_per_penny * n = cc in ap pos (omega arith)
times-pos (negsuc m) n e = let z : ⊥ = omega (arith, negative (ticks_per_penny * suc m) (ticks_per_penny * n) (sym (pos-*ℤ-negsuc ticks_per_penny m) ∙ e)) in absurd z
  where
    negative : (k n : ℕ) → neg_ℤ (pos k) ≡ pos n → k ≡ 0
    negative zero n e = refl
    negative (suc k) n e = absurd (pos-ne-negsuc n k (sym e))

-- the last answer of two lists is the second's, where it has one
last-of-second : {A : Type 0} (xs : List A) (y : A) (ys zs : List A) (z : A) → xs ++ (y ∷ ys) ≡ zs ++ (z ∷ []) → (ws : List A) × (y ∷ ys ≡ ws ++ (z ∷ []))
last-of-second [] y ys zs z e = (zs, e)
last-of-second (x ∷ []) y ys [] z e = let n : ◌≡◌ {A = ℕ} 0 1 = cc in let f : ⊥ = omega arith in absurd f
last-of-second (x ∷ w ∷ xs) y ys [] z e = let n : ◌≡◌ {A = ℕ} 0 1 = cc in let f : ⊥ = omega arith in absurd f
last-of-second (x ∷ xs) y ys (w ∷ zs) z e = last-of-second xs y ys zs z (cc)

module _ (R : Rules) (ok : RulesLaws R) (l : Ledger) (w : WellFormed R l) (earlier : List (Result Answer ℕ)) (b : BalancedIn R (ledger_machine R) l (sheet_of l) earlier) where
  -- the unclaimed amount is due less a penny's ticks times the pence held
  unclaimed : b.unclaimed ≡ sub_ℕ (due l) (ticks_per_penny * l.pence)
  unclaimed = let e : Ok (Totalled (Sheet.due R (sheet_of l)) b.unclaimed) ≡ Ok (Totalled (due l) (sub_ℕ (due l) (ticks_per_penny * l.pence))) = sym b.total ∙ total-says R ok l in cc

  due-split : pos (due l) ≡ pos (ticks_per_penny * l.pence) +ℤ b.unclaimed
  due-split = reset (ticks_per_penny * l.pence) (due l) ∙ ap (λ (z : ℤ). pos (ticks_per_penny * l.pence) +ℤ z) (sym unclaimed)

  dues-agree : pos (Sheet.due R (sheet_of l)) ≡ pos (due l)
  dues-agree = ap pos (sym (dues R l (sheet_of l) (stored R ok l w)))

  earlier-pence : sumℤ claim_pence earlier ≡ pos l.pence
  earlier-pence =
      let p = pos ticks_per_penny *ℤ sumℤ claim_pence earlier in
      let e : p +ℤ b.unclaimed ≡ pos (ticks_per_penny * l.pence) +ℤ b.unclaimed = b.claims ∙ dues-agree ∙ due-split in
      times-pos _ l.pence (sym (+ℤ-neg_ℤ_cancel p b.unclaimed) ∙ ap (λ (z : ℤ). z -ℤ b.unclaimed) e ∙ +ℤ-neg_ℤ_cancel (pos (ticks_per_penny * l.pence)) b.unclaimed)

  -- after an accepted claim the pence are the floor
  earlier-floor : (before : List (Result Answer ℕ)) (p : ℤ) (rest : ℕ) → earlier ≡ before ++ (Ok (Claimed p rest) ∷ []) → l.pence ≡ due l / ticks_per_penny
  earlier-floor before p rest e =
      let u = b.claimed before p rest e in
      let f : pos (due l) ≡ pos (ticks_per_penny * l.pence + u.0) = due-split ∙ ap (λ (z : ℤ). pos (ticks_per_penny * l.pence) +ℤ z) u.1 in
      let g : due l ≡ ticks_per_penny * l.pence + u.0 = cc in
      omega (arith, u.2)

  floor-after : (h : List CallWithBook) (before : List (Result Answer ℕ)) (p : ℤ) (rest : ℕ) → earlier ++ replies (step R) (answer R) l h ≡ before ++ (Ok (Claimed p rest) ∷ []) → (run (step R) l h).pence ≡ due (run (step R) l h) / ticks_per_penny
  floor-after [] before p rest e = earlier-floor before p rest (sym (append-nil earlier) ∙ e)
  floor-after (c ∷ h) before p rest e = let t = last-of-second earlier _ _ before (Ok (Claimed p rest)) e in last_claim R ok (c ∷ h) l t.0 p rest t.1

pub stored-balance-goes-on : (R : Rules) → RulesLaws R → StoredBalanceGoesOn R (ledger_machine R) (WellFormed R)
stored-balance-goes-on R ok l w earlier b h =
    balanced R ok l (sheet_of l) (stored R ok l w) h earlier (b.customers ∙ dues-agree R ok l w earlier b) (earlier-pence R ok l w earlier b) (floor-after R ok l w earlier b h)
