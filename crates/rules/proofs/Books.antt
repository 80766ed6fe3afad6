-- The test of a price book, from its length and its entries. Assumes nothing.
use mathlib.Core.Path.{◌≡◌, refl, sym, ap, ◌∙◌}
use mathlib.Core.Bool.{Bool, true, false, cond, ◌||◌}
use mathlib.Core.List.{List, [], ◌∷◌}
use Prim.Native.Nat.{ℕ, ◌+◌, ◌<◌, ◌≤◌, max}
use native.Mathlib.Nat.{zero-add}
use native.Mathlib.Numerals.{add-one}
use native.Mathlib.Omega.{arith}
use lib.Dec.{ltb}
use lib.ListN.{length, drop, get_or}
use lib.Seq.{drop-cons, drop-length}
use Rattle.limits.specs.Limits.{highest_price, book_length}
use Rattle.basics.specs.Lists.{count}
use Rattle.basics.proofs.Tests.{either, yes-eq, no_eq, yes_lt, lt_yes, lt_no}
use Rattle.model.specs.PresentRules.{bad_book}
use borrow.Author.Tests.{le-ltb}

-- at place i: what is highest so far is too high, or an entry from there on is, just where one of all is
pub record HighestTo (book : List ℕ) (i highest : ℕ) : Type 0 where
  pub place : i ≤ length book
  pub rest : ltb highest_price highest || ltb 0 (count (ltb highest_price) (drop i book)) ≡ ltb 0 (count (ltb highest_price) book)

or-joined : (p q r : Bool) → (p || q) || r ≡ p || (q || r)
or-joined true q r = refl
or-joined false q r = refl

or-none : (p : Bool) → p ≡ p || false
or-none true = refl
or-none false = refl

one_of_two : (m x y : ℕ) → ltb m (max x y) ≡ ltb m x || ltb m y
one_of_two m x y = either (ltb m x)
    (λ e. let h : m < x = lt_yes _ _ e in rw e (yes_lt m (max x y) (omega arith)))
    (λ e. either (ltb m y)
    (λ f. let h : m < y = lt_yes _ _ f in rw (e, f) (yes_lt m (max x y) (omega arith)))
    (λ f. let h : x ≤ m = lt_no _ _ e in let k : y ≤ m = lt_no _ _ f in rw (e, f) (le-ltb m (max x y) (omega arith))))

one-counted : (p : Bool) (n : ℕ) → p || ltb 0 n ≡ ltb 0 (cond p 1 0 + n)
one-counted true n = sym (yes_lt 0 (1 + n) (omega arith))
one-counted false n = ap (ltb 0) (sym (zero-add n))

module _ (book : List ℕ) where
  pub book-length : (length book ≡ book_length → ⊥) → true ≡ bad_book book
  unfolding bad_book
  book-length n = rw (no_eq (length book) book_length n)

  pub highest-none : HighestTo book 0 0
  highest-none = record { place = omega arith; rest = refl }

  pub highest-next : (i highest : ℕ) → HighestTo book i highest → i < length book → (next : ℕ) → next ≡ max highest (get_or book i 0) → HighestTo book (i + 1) next
  highest-next i highest t h next e =
      let here : drop i book ≡ get_or book i 0 ∷ drop (i + 1) book = drop-cons book i 0 h ∙ ap (λ (n : ℕ). get_or book i 0 ∷ drop n book) (sym (add-one i)) in
      record {
        place = omega arith;
        rest =
            ap (λ (p : Bool). p || ltb 0 (count (ltb highest_price) (drop (i + 1) book))) (ap (ltb highest_price) e ∙ one_of_two highest_price highest (get_or book i 0))
            ∙ or-joined (ltb highest_price highest) (ltb highest_price (get_or book i 0)) _
            ∙ ap (λ (p : Bool). ltb highest_price highest || p) (one-counted (ltb highest_price (get_or book i 0)) (count (ltb highest_price) (drop (i + 1) book)))
            ∙ ap (λ (entries : List ℕ). ltb highest_price highest || ltb 0 (count (ltb highest_price) entries)) (sym here) ∙ t.rest;
      }

  pub book-tested : length book ≡ book_length → (i highest : ℕ) → HighestTo book i highest → length book ≤ i → ltb highest_price highest ≡ bad_book book
  unfolding bad_book
  book-tested l i highest t h =
      let end : i ≡ length book = omega (arith, t.place) in
      let all : drop i book ≡ [] = ap (λ (n : ℕ). drop n book) end ∙ drop-length book in
      rw (yes-eq (length book) book_length l) (or-none (ltb highest_price highest) ∙ ap (λ (entries : List ℕ). ltb highest_price highest || ltb 0 (count (ltb highest_price) entries)) (sym all) ∙ t.rest)
