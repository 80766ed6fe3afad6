-- The ranges of what an accepted bill or rebill brings, and of the numbers that pass the paper's tests. Assumes nothing.
use mathlib.Core.Path.{◌≡◌, refl}
use mathlib.Core.Bool.{Bool, true, false, not, cond, ◌&&◌, ◌||◌}
use mathlib.Core.List.{List, [], ◌∷◌}
use Prim.Native.Nat.{ℕ, zero, suc, ◌<◌, ◌≤◌, zero-le}
use native.Mathlib.Omega.{arith}
use lib.Dec.{leb, ltb, eqb}
use lib.ListN.{get_or, length}
use Rattle.limits.specs.Limits.{last_day, first_scheme_day, first_qhs_day, highest_price, most_kwh_given, book_length}
use Rattle.basics.specs.Lists.{All, count}
use Rattle.basics.proofs.Tests.{not-no, lt_no, le_yes, eq_yes, and_left, and_right, or-no-left, or-no-right}
use Rattle.basics.proofs.Lists.{none-all}
use Rattle.rates.specs.declared.Kind.{Kind}
use Rattle.rates.specs.declared.Kind.TheVariants.{Fixed, Variable, Flexible, Index}
use Rattle.rates.specs.declared.Contract.{Contract}
use Rattle.rates.specs.TermsTaken.{kind_taken, terms_for}
use Rattle.model.specs.Book.{book_index, reference_of, reference}
use Rattle.model.specs.declared.Request.{Request}
use Rattle.model.specs.PresentRules.{bad_book, bad_kind, bad_days, bad_effective, bad_amendment_days, bad_amendment, bad_span, bad_amounts}

-- ---- numbers that pass

pub span_begins : (first last : ℕ) → bad_span first last ≡ false → 0 < first
unfolding bad_span
span_begins first last e = let h : first_scheme_day ≤ first = le_yes _ _ (and_left (leb first_scheme_day first) _ (not-no _ e)) in omega arith

pub span-days : (first last : ℕ) → bad_span first last ≡ false → (first ≤ last) × (last ≤ last_day)
unfolding bad_span
span-days first last e =
    let f = and_right (leb first_scheme_day first) _ (not-no _ e) in
    (le_yes first last (and_left (leb first last) _ f), le_yes last last_day (and_right (leb first last) _ f))

pub kind-low : (t fuel kind : ℕ) → bad_kind t fuel kind ≡ false → (fuel ≤ 1) × (kind ≤ 3)
unfolding bad_kind
kind-low t fuel kind e = (lt_no 1 fuel (or-no-left (ltb 1 fuel) _ e), lt_no 3 kind (or-no-left (ltb 3 kind) _ (or-no-right (ltb 1 fuel) _ e)))

pub days-low : (kind fix entry : ℕ) → bad_days kind fix entry ≡ false → (fix ≤ last_day) × (entry ≤ last_day)
unfolding bad_days
days-low kind fix entry e = (lt_no last_day fix (or-no-left (ltb last_day fix) _ e), lt_no last_day entry (or-no-left (ltb last_day entry) _ (or-no-right (ltb last_day fix) _ e)))

pub effective-low : (class day : ℕ) → bad_effective class day ≡ false → day ≤ last_day
unfolding bad_effective
effective-low class day e = go (eqb class 0) e
  where
    go : (c : Bool) → cond c (not (eqb day 0)) (ltb last_day day || cond (eqb class 2) (ltb day first_qhs_day) (ltb day first_scheme_day)) ≡ false → day ≤ last_day
    go true h = let z : day ≡ 0 = eq_yes day 0 (not-no _ h) in omega arith
    go false h = lt_no last_day day (or-no-left (ltb last_day day) _ h)

pub amendment-low : (kind flag end fix entry : ℕ) → bad_amendment kind flag end fix entry ≡ false → (flag ≤ 1) × ((end ≤ last_day) × ((fix ≤ last_day) × (entry ≤ last_day)))
unfolding bad_amendment bad_amendment_days
amendment-low kind flag end fix entry e = go (eqb flag 0) refl e
  where
    go : (b : Bool) → eqb flag 0 ≡ b → cond b (not (eqb end 0 && (eqb fix 0 && eqb entry 0))) (ltb 1 flag || (not (eqb kind 0) || (not (leb first_scheme_day end && leb end last_day) || (ltb last_day fix || ltb last_day entry)))) ≡ false
        → (flag ≤ 1) × ((end ≤ last_day) × ((fix ≤ last_day) × (entry ≤ last_day)))
    go true z h =
        let zeros = not-no _ h in
        let days = and_right (eqb end 0) _ zeros in
        let none : flag ≡ 0 = eq_yes flag 0 z in
        let end-0 : end ≡ 0 = eq_yes end 0 (and_left (eqb end 0) _ zeros) in
        let fix-0 : fix ≡ 0 = eq_yes fix 0 (and_left (eqb fix 0) _ days) in
        let entry-0 : entry ≡ 0 = eq_yes entry 0 (and_right (eqb fix 0) _ days) in
        (omega arith, (omega arith, (omega arith, omega arith)))
    go false z h =
        let days = or-no-right (not (eqb kind 0)) _ (or-no-right (ltb 1 flag) _ h) in
        let ends = not-no _ (or-no-left _ _ days) in
        let pair = or-no-right (not (leb first_scheme_day end && leb end last_day)) _ days in
        (lt_no 1 flag (or-no-left (ltb 1 flag) _ h), (le_yes end last_day (and_right (leb first_scheme_day end) _ ends), (lt_no last_day fix (or-no-left (ltb last_day fix) _ pair), lt_no last_day entry (or-no-right (ltb last_day fix) _ pair))))

book-low : (book : List ℕ) (i : ℕ) → bad_book book ≡ false → get_or book i 0 ≤ highest_price
unfolding bad_book
book-low book i e =
    let h : count (ltb highest_price) book ≤ 0 = lt_no 0 (count (ltb highest_price) book) (or-no-right (not (eqb (length book) book_length)) _ e) in
    go book i (none-all (ltb highest_price) book (omega arith))
  where
    go : (xs : List ℕ) (i : ℕ) → All (λ x. ltb highest_price x ≡ false) xs → get_or xs i 0 ≤ highest_price
    go [] i a = zero-le
    go (x ∷ xs) zero a = lt_no highest_price x a.0
    go (x ∷ xs) (suc i) a = go xs i a.1

-- R is one of the two prices
reference-low : (kind : Kind) (wap published n : ℕ) → wap ≤ n → published ≤ n → reference_of kind wap published ≤ n
reference-low (Fixed fix entry) wap published n h k = k
reference-low Variable wap published n h k = k
reference-low Flexible wap published n h k = h
reference-low Index wap published n h k = k

module _ (k : Contract) (q : Request) (book : List ℕ) (whole : bad_book book ≡ false) (amounts : bad_amounts k q ≡ false) where
  pub kwh-low : q.kwh ≤ most_kwh_given
  unfolding bad_amounts
  kwh-low = lt_no most_kwh_given q.kwh (or-no-left _ _ amounts)

  pub supply-low : q.supply ≤ highest_price
  unfolding bad_amounts
  supply-low = lt_no highest_price q.supply (or-no-left _ _ (or-no-right (ltb most_kwh_given q.kwh) _ amounts))

  wap-low : q.wap ≤ highest_price
  unfolding bad_amounts
  wap-low = lt_no highest_price q.wap (or-no-left _ _ (or-no-right (ltb highest_price q.supply) _ (or-no-right (ltb most_kwh_given q.kwh) _ amounts)))

  pub price-low : reference (terms_for k q.first) q.first q.wap book ≤ highest_price
  unfolding reference terms_for
  price-low =
      let kind = kind_taken k.amendment k.kind q.first in
      reference-low kind q.wap _ highest_price wap-low (book-low book (book_index k.fuel kind q.first) whole)
