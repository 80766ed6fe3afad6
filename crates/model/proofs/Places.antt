-- What the ledger does to its rows, by the place of the row that it is done to. Assumes nothing.
use mathlib.Core.Path.{◌≡◌, refl, sym, ap, ◌∙◌}
use mathlib.Core.Bool.{Bool, true}
use mathlib.Core.List.{List, [], ◌∷◌, ◌++◌}
use Prim.Native.Nat.{suc, ◌+◌, ◌≤◌, ◌<◌}
use native.Mathlib.Nat.{not-suc-le-zero, le_of_suc-le-suc, zero-add}
use native.Mathlib.Omega.{arith}
use lib.Dec.{ltb, leb-suc-suc}
use lib.ListN.{length, take, drop, get_or, set}
use Rattle.basics.specs.Lists.{count}
use Rattle.basics.proofs.Tests.{either, yes_lt}
use Rattle.amounts.specs.declared.Bill.{Bill}
use Rattle.model.specs.declared.Row.{Row}
use Rattle.model.specs.Ledger.{sorts_after, insert, amount_of, remove, replace}
use Rattle.model.specs.Places.{place_of}

pub place-le : (p : Bill → Bool) (xs : List Row) → place_of p xs ≤ length xs
place-le p [] = omega arith
place-le p (x ∷ xs) = either (p x.bill) (λ e. rw e (omega arith)) (λ e. rw e (omega (arith, place-le p xs)))

-- a new row comes in before the first that sorts after it
pub insert-at : (r : Row) (xs : List Row)
    → insert r xs ≡ take (place_of (λ b. sorts_after b r.bill) xs) xs ++ (r ∷ drop (place_of (λ b. sorts_after b r.bill) xs) xs)
insert-at r [] = refl
insert-at r (x ∷ xs) = either (sorts_after x.bill r.bill) (λ e. rw e) (λ e. rw e (ap (λ (l : List Row). x ∷ l) (insert-at r xs)))

module _ (p : Bill → Bool) where
  -- the row at the place passes
  pub passes-at-place : (d : Row) (xs : List Row) → place_of p xs < length xs → p (get_or xs (place_of p xs) d).bill ≡ true
  passes-at-place d [] h = absurd (not-suc-le-zero h)
  passes-at-place d (x ∷ xs) h = either (p x.bill) (λ e. rw e e) (λ e. let i : suc (place_of p xs) < suc (length xs) = rw e at h in rw e (passes-at-place d xs (le_of_suc-le-suc i)))

  -- the first row that passes goes
  pub remove-at : (xs : List Row) → remove p xs ≡ take (place_of p xs) xs ++ drop (suc (place_of p xs)) xs
  remove-at [] = refl
  remove-at (x ∷ xs) = either (p x.bill) (λ e. rw e) (λ e. rw e (ap (λ (l : List Row). x ∷ l) (remove-at xs)))

  -- another row comes in its stead; where none passes the rows stay
  pub replace-at : (r : Row) (xs : List Row) → replace p r xs ≡ set xs (place_of p xs) r
  replace-at r [] = refl
  replace-at r (x ∷ xs) = either (p x.bill) (λ e. rw e) (λ e. rw e (ap (λ (l : List Row). x ∷ l) (replace-at r xs)))

  -- its amount
  pub amount-at : (d : Row) (xs : List Row) → place_of p xs < length xs → amount_of p xs ≡ (get_or xs (place_of p xs) d).amount
  amount-at d [] h = absurd (not-suc-le-zero h)
  amount-at d (x ∷ xs) h = either (p x.bill) (λ e. rw e) (λ e. let i : suc (place_of p xs) < suc (length xs) = rw e at h in rw e (amount-at d xs (le_of_suc-le-suc i)))

  -- a row passes exactly where the place is that of a row
  pub count_at : (xs : List Row) → ltb 0 (count (λ x. p x.bill) xs) ≡ ltb (place_of p xs) (length xs)
  count_at [] = refl
  count_at (x ∷ xs) = either (p x.bill)
      (λ e. rw e (yes_lt 0 (1 + count (λ y. p y.bill) xs) (omega arith) ∙ sym (yes_lt 0 (suc (length xs)) (omega arith))))
      (λ e. rw e (ap (ltb 0) (zero-add (count (λ y. p y.bill) xs)) ∙ count_at xs ∙ sym (leb-suc-suc (suc (place_of p xs)) (length xs))))
