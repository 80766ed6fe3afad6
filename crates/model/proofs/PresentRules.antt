-- The rules in force keep the laws that the proofs use. Assumes nothing.
use Rattle.std.specs.Prelude.{None}
use mathlib.Core.Path.{◌≡◌, refl, ap, ◌∙◌}
use mathlib.Core.Bool.{true, false, not, ◌&&◌}
use mathlib.Core.List.{List, [], ◌∷◌}
use Prim.Native.Nat.{ℕ, ◌≤◌}
use native.Mathlib.Omega.{arith}
use lib.Dec.{T, ltb, leb}
use Rattle.limits.specs.Limits.{highest_price, most_kwh_stored, contract_count, row_count, most_claims}
use borrow.Author.Tests.{le-ltb}
use Rattle.basics.proofs.Tests.{not-no, no-not, not_yes, lt_no, lt_yes, le-no, le_yes, yes_le, or-no-left, or-no-right, and-false, all-every}
use Rattle.rates.specs.declared.Contract.{Contract}
use Rattle.rates.specs.TermsTaken.{terms_for, crosses_end}
use Rattle.rates.proofs.TermsTaken.{on-or-before}
use Rattle.amounts.specs.declared.Bill.{Bill}
use Rattle.amounts.specs.Amounts.{Rateable, amount, by_terms}
use Rattle.amounts.proofs.AmountBounds.{amount-capped, amount-low}
use Rattle.model.specs.Codes.{kind_code, is_fixed, amendment_with, opening, certify, amend}
use Rattle.model.specs.ContractNumbers.{numbers_of_contract, contract_of_numbers, fuel_in, kind_in, price_fix_day_in, entry_day_in, class_in, effective_day_in, amendment_flag_in, original_end_day_in, amended_price_fix_day_in, amended_entry_day_in}
use Rattle.model.specs.OpenContracts.{contract_at, is_open}
use Rattle.model.specs.declared.Call.{Call}
use Rattle.model.specs.declared.Request.{Request}
use Rattle.model.specs.Calls.{CallWithBook, View, named, sharing, ends_after, requested_bill, ◌with◌}
use Rattle.model.specs.Book.{reference}
use Rattle.model.specs.Rules.{refusal}
use Rattle.model.specs.PresentRules.{bad_book, bad_number, not_amendable, bad_kind, bad_class, bad_days, bad_effective, bad_amendment_days, bad_amendment, bad_span, bad_amounts, bad_shares, no_price, tests, contract_tests, contract_ranges, contract_ok, bill_tests, bill_ok, present_rules}
use Rattle.model.proofs.Refusals.{fits_at, numbered, clear}
use Rattle.model.proofs.Codes.{fuel-code, kind-code, kind-days, class-code, class-day, amendment-numbers, fixed-code, not-amended}
use Rattle.model.proofs.AcceptedBill.{span_begins, span-days, kind-low, kwh-low, supply-low, price-low}
use Rattle.model.proofs.RulesLaws.{Taken, Opened, Certified, Amended, RulesLaws}

-- an accepted call's test of that number did not fit
pub passed : (v : View) (c : CallWithBook) → refusal present_rules v c ≡ 0 → (n : ℕ) → fits_at (tests v c) n ≡ false
unfolding refusal tests
passed v c e n = clear (tests v c) (all v c) e n
  where
    all : (v : View) (c : CallWithBook) → T (numbered (tests v c))
    all v (Call.Open c fuel kind fix entry with book) = tt
    all v (Call.Bill q with book) = tt
    all v (Call.Rebill q with book) = tt
    all v (Call.Cert c class effective with book) = tt
    all v (Call.Cancel c first with book) = tt
    all v (Call.Claim with book) = tt
    all v (Call.Report c with book) = tt
    all v (Call.Total with book) = tt
    all v (Call.Amend c end fix entry with book) = tt

-- ---- the ranges

-- those of an open contract, by its numbers
pub record ContractRanges (t : ℕ) (v : List ℕ) : Type 0 where
  pub kind : bad_kind t (fuel_in v) (kind_in v) ≡ false
  pub days : bad_days (kind_in v) (price_fix_day_in v) (entry_day_in v) ≡ false
  pub class : bad_class (class_in v) ≡ false
  pub effective : bad_effective (class_in v) (effective_day_in v) ≡ false
  pub amendment : bad_amendment (kind_in v) (amendment_flag_in v) (original_end_day_in v) (amended_price_fix_day_in v) (amended_entry_day_in v) ≡ false

pub contract-ranges : (t : ℕ) (v : List ℕ) → contract_ranges t v ≡ true → ContractRanges t v
unfolding contract_ranges
contract-ranges t v e =
    let a = all-every (contract_tests t v) e in
    record { kind = not_yes _ (search); days = not_yes _ (search); class = not_yes _ (search); effective = not_yes _ (search); amendment = not_yes _ (search) }

in-ranges : (t : ℕ) (v : List ℕ) → ContractRanges t v → contract_ranges t v ≡ true
unfolding contract_ranges
in-ranges t v r = rw (r.kind, r.days, r.class, r.effective, r.amendment)

-- numbers in the ranges are those of the contract made of them
pub contract-numbers : (t : ℕ) (v : List ℕ) → contract_ranges t v ≡ true
    → numbers_of_contract (contract_of_numbers v)
    ≡ fuel_in v
    ∷ kind_in v
    ∷ price_fix_day_in v
    ∷ entry_day_in v
    ∷ class_in v
    ∷ effective_day_in v
    ∷ amendment_flag_in v
    ∷ original_end_day_in v
    ∷ amended_price_fix_day_in v
    ∷ amended_entry_day_in v
    ∷ []
contract-numbers t v e =
    let r = contract-ranges t v e in
    let low = kind-low t (fuel_in v) (kind_in v) r.kind in
    let days = kind-days (kind_in v) (price_fix_day_in v) (entry_day_in v) r.days in
    let class : class_in v ≤ 2 = lt_no 2 _ r.class in
    let a = amendment-numbers _ _ _ _ _ r.amendment in
    rw (
      fuel-code _ low.0,
      kind-code _ (price_fix_day_in v) (entry_day_in v) low.1,
      days.0,
      days.1,
      class-code _ (effective_day_in v) class,
      class-day _ _ class r.effective,
      a.flags,
      a.ends,
      a.fixes,
      a.enters,
    )

-- those of a held row, by its bill
pub record BillRanges (k : Contract) (b : Bill) : Type 0 where
  pub span : bad_span b.first b.last ≡ false
  pub rateable : Rateable b
  pub reference : b.reference ≤ highest_price
  pub priced : no_price k.kind b.reference ≡ false
  pub inside : crosses_end k.amendment b.first b.last ≡ false

pub bill-ranges : (k : Contract) (b : Bill) → bill_ok k b ≡ true → BillRanges k b
unfolding bill_ok
bill-ranges k b e =
    let a = all-every (bill_tests k b) e in
    let span : bad_span b.first b.last ≡ false = not_yes _ (search) in
    record {
      span = span;
      rateable = record { days = (span-days b.first b.last span).0; kwh = le_yes _ _ (search); shares = lt_no _ _ (not_yes _ (search)); supply = le_yes _ _ (search) };
      reference = le_yes _ _ (search);
      priced = not_yes _ (search);
      inside = not_yes _ (search);
    }

pub in-bill-ranges : (k : Contract) (b : Bill) → BillRanges k b → bill_ok k b ≡ true
unfolding bill_ok
in-bill-ranges k b r = rw (
  no-not _ r.span,
  yes_le b.kwh most_kwh_stored r.rateable.kwh,
  no-not _ (le-ltb b.kwh _ r.rateable.shares),
  yes_le b.supply highest_price r.rateable.supply,
  yes_le b.reference highest_price r.reference,
  no-not _ r.priced,
  no-not _ r.inside,
)

-- an opened contract keeps the ranges, and so does one with another certificate, and one that is amended
opening-ok : (t fuel kind fix entry : ℕ) → bad_kind t fuel kind ≡ false → bad_days kind fix entry ≡ false → contract_ok t (opening fuel kind fix entry) ≡ true
unfolding contract_ok opening bad_effective bad_amendment
opening-ok t fuel kind fix entry e f =
    let v = fuel ∷ kind ∷ fix ∷ entry ∷ 0 ∷ 0 ∷ 0 ∷ 0 ∷ 0 ∷ 0 ∷ [] in
    let r = in-ranges t v (record { kind = e; days = f; class = refl; effective = refl; amendment = refl }) in
    ap (contract_ranges t) (contract-numbers t v r) ∙ r

certified-ok : (t : ℕ) (k : Contract) (class effective : ℕ) → bad_class class ≡ false → bad_effective class effective ≡ false → contract_ok t k ≡ true → contract_ok t (certify k class effective) ≡ true
unfolding contract_ok certify
certified-ok t k class effective e f h =
    let r = contract-ranges t (numbers_of_contract k) h in
    let low : class ≤ 2 = lt_no 2 class e in
    rw (class-code class effective low, class-day class effective low f) (in-ranges t _ (record { kind = r.kind; days = r.days; class = e; effective = f; amendment = r.amendment }))

amended-ok : (t : ℕ) (k : Contract) (end fix entry : ℕ) → is_fixed k.kind ≡ true → bad_amendment_days end fix entry ≡ false → contract_ok t k ≡ true → contract_ok t (amend k end fix entry) ≡ true
unfolding contract_ok amend bad_amendment
amended-ok t k end fix entry fixed e h =
    let r = contract-ranges t (numbers_of_contract k) h in
    in-ranges t _ (record { kind = r.kind; days = r.days; class = r.class; effective = r.effective; amendment = good })
  where
    good : bad_amendment (kind_code k.kind) 1 end fix entry ≡ false
    good = rw (fixed-code k.kind fixed, e)

-- of a contract that isn't amended a bill that ends by the original end keeps its ranges and its terms under the amendment
module _ (k : Contract) (end fix entry : ℕ) (b : Bill) (by_end : b.last ≤ end) where
  amended-bill : bill_ok k b ≡ true → bill_ok (amend k end fix entry) b ≡ true
  unfolding amend
  amended-bill e =
      let r = bill-ranges k b e in
      in-bill-ranges (amend k end fix entry) b (record {
        span = r.span;
        rateable = r.rateable;
        reference = r.reference;
        priced = r.priced;
        inside = and-false (leb b.first end) (ltb end b.last) (le-ltb end b.last by_end);
      })

  amended-amount : k.amendment ≡ None → bill_ok k b ≡ true → by_terms amount (amend k end fix entry) b ≡ by_terms amount k b
  unfolding terms_for amend
  amended-amount none e =
      let days = span-days b.first b.last (bill-ranges k b e).span in
      rw (on-or-before (amendment_with end fix entry) k.kind b.first (omega (arith, days)), none)

-- ---- the accepted calls

opens : (v : View) (c fuel kind fix entry : ℕ) (book : List ℕ) → refusal present_rules v (Call.Open c fuel kind fix entry with book) ≡ 0 → Opened present_rules v c (opening fuel kind fix entry)
unfolding tests
opens v c fuel kind fix entry book e =
    let p = passed v (Call.Open c fuel kind fix entry with book) e in
    record { number = le-no contract_count c (p 4); new = p 5; ranges = opening-ok v.territory fuel kind fix entry (p 6) (p 7) }

certs : (v : View) (c class effective : ℕ) (book : List ℕ) → refusal present_rules v (Call.Cert c class effective with book) ≡ 0 → Certified present_rules v c class effective
unfolding tests
certs v c class effective book e =
    let p = passed v (Call.Cert c class effective with book) e in
    record { number = le-no contract_count c (p 4); is_opened = not-no _ (p 5); ranges = λ k h. certified-ok v.territory k class effective (p 6) (p 7) h }

amends : (v : View) (c end fix entry : ℕ) (book : List ℕ) → refusal present_rules v (Call.Amend c end fix entry with book) ≡ 0 → Amended present_rules v c end fix entry
unfolding tests not_amendable
amends v c end fix entry book e =
    let p = passed v (Call.Amend c end fix entry with book) e in
    let k = contract_at v.contracts c in
    let fixed : is_fixed k.kind ≡ true = not-no _ (or-no-left _ _ (p 16)) in
    let none = not-amended k.amendment (or-no-right (not (is_fixed k.kind)) _ (p 16)) in
    let held : v.held (ends_after c end) ≤ 0 = lt_no 0 (v.held (ends_after c end)) (p 18) in
    record {
      number = le-no contract_count c (p 4);
      is_opened = not-no _ (p 5);
      ranges = λ h. amended-ok v.territory k end fix entry fixed (p 7) h;
      ended = omega arith;
      bill-ranges = λ b by_end h. amended-bill k end fix entry b by_end h;
      bill-amount = λ b by_end h. amended-amount k end fix entry b by_end none h;
    }

any-cert : (k : Contract) (class effective : ℕ) (b : Bill) → bill_ok k b ≡ true → bill_ok (certify k class effective) b ≡ true
unfolding bill_ok certify
any-cert k class effective b e = e

module _ (v : View) (q : Request) (book : List ℕ) where
  abbrev k : Contract
  k = contract_at v.contracts q.contract

  taken : bad_book book ≡ false → bad_number q.contract ≡ false → not (is_open v.contracts q.contract) ≡ false
      → bad_span q.first q.last ≡ false → crosses_end k.amendment q.first q.last ≡ false → bad_amounts k q ≡ false → bad_shares q.kwh q.etii q.qhs ≡ false
      → no_price k.kind (reference (terms_for k q.first) q.first q.wap book) ≡ false
      → Taken present_rules v q book
  unfolding requested_bill
  taken e3 e4 e5 e7 e17 e8 e14 e11 =
      record {
        number = le-no contract_count q.contract e4;
        is_opened = not-no _ e5;
        ranges = λ g. in-bill-ranges k _ (record {
          span = e7;
          rateable = record {
            days = (span-days q.first q.last e7).0;
            kwh = omega (arith, kwh-low k q book e3 e8);
            shares = lt_no q.kwh _ e14;
            supply = supply-low k q book e3 e8;
          };
          reference = price-low k q book e3 e8;
          priced = e11;
          inside = e17;
        });
      }

pub present-rules-laws : RulesLaws present_rules
unfolding tests refusal
present-rules-laws = record {
  opens = opens;
  bills = λ v q book e. let p = passed v (Call.Bill q with book) e in taken v q book (p 3) (p 4) (p 5) (p 7) (p 17) (p 8) (p 14) (p 11);
  bill-free = λ v q book e. let h = lt_no 0 (v.held (sharing q.contract q.first q.last)) (passed v (Call.Bill q with book) e 10) in omega arith;
  bill-room = λ v q book e. le-no row_count (v.held (λ x. true)) (passed v (Call.Bill q with book) e 12);
  rebills = λ v q book e. let p = passed v (Call.Rebill q with book) e in taken v q book (p 3) (p 4) (p 5) (p 7) (p 17) (p 8) (p 14) (p 11);
  rebill-found = λ v q book e. lt_yes 0 (v.held (named q.contract q.first)) (not-no _ (passed v (Call.Rebill q with book) e 9));
  rebill-free = λ v q book e.
      let h = lt_no 0 (v.held (λ b. sharing q.contract q.first q.last b && not (named q.contract q.first b))) (passed v (Call.Rebill q with book) e 10) in
      omega arith;
  certs = certs;
  claims = λ v book e. le-no most_claims v.claims (passed v (Call.Claim with book) e 13);
  amends = amends;
  totals = λ v book. refl;
  days = λ k b e. span-days b.first b.last (bill-ranges k b e).span;
  begins = λ k b e. span_begins b.first b.last (bill-ranges k b e).span;
  low = λ k b e. amount-low (terms_for k b.first) b (bill-ranges k b e).rateable;
  any-cert = any-cert;
  capped = λ k b e. amount-capped (terms_for k b.first) b;
}
