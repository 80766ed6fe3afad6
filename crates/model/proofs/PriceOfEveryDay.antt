-- R of an accepted bill or rebill is the price of each day of its span. Assumes nothing.
use Rattle.std.specs.Prelude.{Option, Some, None}
use mathlib.Core.Path.{◌≡◌, refl, sym, ap}
use mathlib.Core.Bool.{Bool, true, false, not, cond}
use mathlib.Core.List.{List}
use mathlib.Core.Logic.{◌↔◌}
use Prim.Native.Nat.{ℕ, ◌+◌, ◌*◌, ◌≤◌}
use native.Mathlib.Omega.{arith}
use lib.Dec.{leb, eqb}
use lib.ListN.{get_or}
use Rattle.basics.proofs.Tests.{not-no, eq_yes, yes-eq}
use Rattle.calendar.specs.Days.{scheme_month}
use Rattle.calendar.proofs.SchemeMonths.{month-between}
use Rattle.rates.specs.declared.Fuel.{Fuel}
use Rattle.rates.specs.declared.Kind.{Kind}
use Rattle.rates.specs.declared.Kind.TheVariants.{Fixed, Variable, Flexible, Index}
use Rattle.rates.specs.declared.Amendment.{Amendment}
use Rattle.rates.specs.TermsTaken.{kind_taken, terms_for, crosses_end}
use Rattle.rates.proofs.TermsTaken.{one-kind}
use Rattle.model.specs.OpenContracts.{contract_at}
use Rattle.model.specs.Codes.{fuel_code}
use Rattle.model.specs.Book.{month_count, first_variable_entry, first_index_entry, book_index, reference_of, reference}
use Rattle.model.specs.declared.Call.{Call}
use Rattle.model.specs.declared.Request.{Request}
use Rattle.model.specs.Calls.{View, requested_bill, ◌with◌}
use Rattle.model.specs.PresentRules.{bad_span, bad_months, tests}
use Rattle.model.specs.PriceOfEveryDay.{PriceOn, PriceOfEveryDay}
use Rattle.model.proofs.AcceptedBill.{span-days}
use Rattle.model.proofs.PresentRules.{passed}

module _ (first last : ℕ) (spans : bad_span first last ≡ false) where
  -- one month at both ends is the month of each day
  one-month : not (eqb (scheme_month first) (scheme_month last)) ≡ false → (day : ℕ) → first ≤ day → day ≤ last → scheme_month day ≡ scheme_month first
  one-month e day h i = month-between first day last h i (omega (arith, span-days first last spans)) (eq_yes _ _ (not-no _ e))

  -- so the entries of monthly prices, from their first on, are one just where the span touches no two months
  monthly : (entry : ℕ) → (not (eqb (scheme_month first) (scheme_month last)) ≡ false) ↔ ((day : ℕ) → first ≤ day → day ≤ last → entry + scheme_month day ≡ entry + scheme_month first)
  monthly entry = (
    λ e day h i. omega (arith, one-month e day h i),
    λ f. let e : scheme_month first ≡ scheme_month last = omega (arith, f last (span-days first last spans).0 (omega arith)) in rw (yes-eq _ _ e),
  )

  one_entry : (fuel : Fuel) (kind : Kind) → (bad_months kind first last ≡ false) ↔ ((day : ℕ) → first ≤ day → day ≤ last → book_index fuel kind day ≡ book_index fuel kind first)
  unfolding bad_months
  one_entry fuel (Fixed fix entry) = (λ e day h i. refl, λ f. refl)
  one_entry fuel Variable = monthly (first_variable_entry + fuel_code fuel * month_count)
  one_entry fuel Flexible = (λ e day h i. refl, λ f. refl)
  one_entry fuel Index = monthly first_index_entry

-- the kind that a bill takes isn't monthly where its contract's isn't
taken-months : (amendment : Option Amendment) (kind : Kind) (day first last : ℕ) → bad_months kind first last ≡ false → bad_months (kind_taken amendment kind day) first last ≡ false
unfolding bad_months
taken-months None kind day first last e = e
taken-months (Some amendment) kind day first last e = go (leb day amendment.original_end_day)
  where
    go : (b : Bool) → bad_months (cond b kind (Fixed amendment.price_fix_day amendment.entry_day)) first last ≡ false
    go true = e
    go false = refl

-- R is read from the first day's entry by the first day's terms, which are those of each day
priced-by-day : (v : View) (q : Request) (book : List ℕ) → bad_span q.first q.last ≡ false → bad_months (contract_at v.contracts q.contract).kind q.first q.last ≡ false
    → crosses_end (contract_at v.contracts q.contract).amendment q.first q.last ≡ false → (day : ℕ) → q.first ≤ day → day ≤ q.last → PriceOn v q book day
unfolding requested_bill reference terms_for
priced-by-day v q book spans months inside day h i =
    let k = contract_at v.contracts q.contract in
    let kind = kind_taken k.amendment k.kind q.first in
    let one = taken-months k.amendment k.kind q.first q.first q.last months in
    rw (one-kind k.amendment k.kind q.first q.last day inside h i)
    (ap (λ (n : ℕ). reference_of kind q.wap (get_or book n 0)) (sym ((one_entry q.first q.last spans k.fuel kind).0 one day h i)))

pub price_of_every_day : PriceOfEveryDay
unfolding tests
price_of_every_day = record {
  one_entry = λ fuel kind first last spans. one_entry first last spans fuel kind;
  bills = λ v q book e. let p = passed v (Call.Bill q with book) e in priced-by-day v q book (p 7) (p 15) (p 17);
  rebills = λ v q book e. let p = passed v (Call.Rebill q with book) e in priced-by-day v q book (p 7) (p 15) (p 17);
}
