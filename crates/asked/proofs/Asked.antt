-- What the gate asks for, from outside the crates that state it: the value that gives all that is established, of the record that gathers
-- it; and clause by clause the round trips, the formula with its numbers, the terms that a bill takes, the laws of fields and of amounts, the order
-- of rows, ledgers stored earlier, the price of every day, the accepted calls, numbers 15, 8 and 2, the ranges of a row and the largest bill, what an
-- amend leaves, the facts held, every answer and demand 3, also from a stored ledger on, so that no such clause can leave its record. Tables of
-- examples aren't asked for by themselves.
use Rattle.std.specs.Prelude.{Some, None, Result, Ok, Err}
use mathlib.Core.Path.{◌≡◌, refl, ap, ◌∙◌}
use mathlib.Core.Bool.{Bool, true, false, not, cond, ◌&&◌, ◌||◌}
use lib.Dec.{leb, ltb, eqb}
use mathlib.Core.List.{List, [], ◌∷◌, ◌++◌, map, Memᴰ}
use mathlib.Core.Logic.{◌↔◌, ◌⊎◌}
use Prim.Native.Nat.{ℕ, suc, ◌+◌, ◌-◌, ◌*◌, ◌/◌, ◌^◌, ◌≤◌, ◌<◌}
use lib.IntN.{ℤ, pos, ◌+ℤ◌, ◌-ℤ◌, ◌*ℤ◌}
use lib.ListN.{length}
use Rattle.limits.specs.Limits.{row_count}
use Rattle.basics.specs.Tests.{every}
use Rattle.basics.specs.Lists.{total, count, All}
use Rattle.basics.specs.Integers.{minℤ, at_least_zero, sumℤ}
use Rattle.fields.specs.Field.{field_at, set_field, AreBytes}
use Rattle.amounts.specs.declared.Bill.{Bill}
use Rattle.rates.specs.declared.Amendment.{Amendment}
use Rattle.rates.specs.declared.Contract.{Contract}
use Rattle.rates.specs.declared.Terms.{Terms}
use Rattle.rates.specs.TermsTaken.{terms_for, crosses_end}
use Rattle.rates.specs.declared.Fuel.{Fuel}
use Rattle.rates.specs.declared.Fuel.TheVariants.{Electricity, Gas}
use Rattle.rates.specs.declared.Kind.{Kind}
use Rattle.rates.specs.declared.Kind.TheVariants.{Fixed, Variable, Flexible, Index}
use Rattle.rates.specs.declared.Class.{Class}
use Rattle.rates.specs.declared.Class.TheVariants.{Baseline, Etii, QhsOld, QhsNew}
use Rattle.rates.specs.declared.Certificate.{Certificate}
use Rattle.rates.specs.declared.Certificate.TheVariants as certificate
use Rattle.rates.specs.Rates as Rates
use Rattle.rates.specs.Rates.{least_term, part_of, class_rate, class_cap, entered_early, qhs_class, certified_class, class_of}
use Rattle.amounts.specs.Days.{in_first, between, sum_over, sum_by_day}
use Rattle.amounts.specs.Amounts as Amounts
use Rattle.amounts.specs.Amounts.{shares, share_at, bill_at, amount, cap, Rateable}
use Rattle.amounts.specs.Stretches.{Stretch, Cut, by_stretch, stretches_of}
use Rattle.amounts.specs.EarlierAmount.{earlier_amount}
use Rattle.model.specs.declared.Row.{Row}
use Rattle.model.specs.declared.Answer.{Answer}
use Rattle.model.specs.declared.Answer.TheVariants.{Claimed, Totalled}
use Rattle.model.specs.declared.Call.{Call}
use Rattle.model.specs.declared.Request.{Request}
use Rattle.model.specs.Codes.{is_fixed, is_flexible, is_amended, opening, certify, amend}
use Rattle.model.specs.OpenContracts.{Contracts, contract_at, contract_of, is_open}
use Rattle.model.specs.Book.{book_index, reference}
use Rattle.model.specs.Calls.{CallWithBook, View, named, sharing, ends_after, requested_bill, values_in, customer_amount, claim_pence, ◌with◌}
use Rattle.model.specs.PresentRules.{bad_book, bad_number, not_amendable, bad_kind, bad_class, bad_days, bad_effective, bad_span, bad_amendment_days, bad_months, bad_amounts, bad_shares, no_price, bill_ok}
use Rattle.model.specs.AcceptedCalls.{RightContractAndDays, RightNumbers}
use Rattle.model.specs.NumberFifteen.{TwoMonthsGiven}
use Rattle.model.specs.NumberEight.{WrongAmountsGiven}
use Rattle.model.specs.Ledger.{Ledger, comes_after}
use Rattle.model.specs.Rules.{refusal, part_of_due, standing_row}
use Rattle.model.specs.Sheet
use Rattle.model.specs.Sheet.{Sheet, view}
use Rattle.model.specs.WellFormed.{WellFormed, RowOk, Apart}
use Rattle.model.specs.StoredEarlier.{rules_with}
use Rattle.model.specs.History.{run, replies, sheet_after, state_after, answers_to}
use Rattle.model.specs.HoldsFacts.{HoldsFacts}
use Rattle.model.specs.SheetAnswers.{sheet_answer}
use Rattle.model.specs.Balance.{Balanced, sheet_of}
use Rattle.records.specs.Places.{places}
use Rattle.records.specs.Pairs.{every_pair, every_neighbour}
use Rattle.layout.specs.Layout.{row_slots, comes_before}
use Rattle.layout.specs.Present.{rules, layout, Formed, facts, bytes, machine}
use Rattle.layout.specs.RowsInOrder.{Ordered, AllOrdered}
use Rattle.established.specs.Established.{Established}
use Rattle.established.proofs.Established.{all-established}

pub asked : Established
asked = all-established

-- ---- demand 2: packing and unpacking, and the laws of fields

pub facts_back : (l : Ledger) → WellFormed rules l → facts (bytes l) ≡ l
facts_back = asked.round_trips.facts_back

pub bytes_back : (b : List ℕ) → Formed b → bytes (facts b) ≡ b
bytes_back = asked.round_trips.bytes_back

pub formed_exactly : (b : List ℕ) → Formed b ↔ ((l : Ledger) × WellFormed rules l × (bytes l ≡ b))
formed_exactly = asked.round_trips.formed_exactly

pub put_got : (b : List ℕ) (at w v : ℕ) → at + w ≤ 8 * length b → v < 2 ^ w → field_at (set_field b at w v) at w ≡ v
put_got = asked.field_laws.put_got

pub others_untouched : (b : List ℕ) (at w v at' w' : ℕ) → at + w ≤ 8 * length b → (at' + w' ≤ at) ⊎ (at + w ≤ at')
    → field_at (set_field b at w v) at' w' ≡ field_at b at' w'
others_untouched = asked.field_laws.others_untouched

pub got_put : (b : List ℕ) (at w : ℕ) → at + w ≤ 8 * length b → AreBytes b → set_field b at w (field_at b at w) ≡ b
got_put = asked.field_laws.got_put

-- ---- demand 2: the formula and its numbers; what open and cert make of theirs

module _ (R S : ℕ) where
  -- max(min(R − support price, maximum discount, S − minimum), 0), and of QHS max(min(R, S − minimum), 0)
  abbrev limited : (support maximum minimum : ℕ) → ℕ
  limited support maximum minimum = at_least_zero (minℤ (minℤ (pos R -ℤ pos support) (pos maximum)) (pos S -ℤ pos minimum))

  abbrev unlimited : (minimum : ℕ) → ℕ
  unlimited minimum = at_least_zero (minℤ (pos R) (pos S -ℤ pos minimum))

  pub electricity-rates : (class_rate Electricity Baseline R S ≡ 10 * limited 30200 1961 30200)
      × (class_rate Electricity Etii R S ≡ 3 * limited 30200 1961 30200 + 7 * limited 18500 8900 18500)
      × (class_rate Electricity QhsOld R S ≡ 10 * unlimited 34000)
      × (class_rate Electricity QhsNew R S ≡ 10 * unlimited 28240)
  unfolding class_rate part_of Rates.part least_term
  electricity-rates = (refl, refl, refl, refl)

  pub gas-rates : (class_rate Gas Baseline R S ≡ 10 * limited 10700 697 10700)
      × (class_rate Gas Etii R S ≡ 3 * limited 10700 697 10700 + 7 * limited 9900 4000 9900)
      × (class_rate Gas QhsOld R S ≡ 10 * unlimited 7830)
      × (class_rate Gas QhsNew R S ≡ 10 * unlimited 6500)
  unfolding class_rate part_of Rates.part least_term
  gas-rates = (refl, refl, refl, refl)

pub electricity-caps : (S : ℕ) → (class_cap Electricity Baseline S ≡ 19610) × (class_cap Electricity Etii S ≡ 68183)
    × (class_cap Electricity QhsOld S ≡ 10 * at_least_zero (pos S -ℤ pos 34000)) × (class_cap Electricity QhsNew S ≡ 10 * at_least_zero (pos S -ℤ pos 28240))
unfolding class_cap
electricity-caps S = (refl, refl, refl, refl)

pub gas-caps : (S : ℕ) → (class_cap Gas Baseline S ≡ 6970) × (class_cap Gas Etii S ≡ 30091)
    × (class_cap Gas QhsOld S ≡ 10 * at_least_zero (pos S -ℤ pos 7830)) × (class_cap Gas QhsNew S ≡ 10 * at_least_zero (pos S -ℤ pos 6500))
unfolding class_cap
gas-caps S = (refl, refl, refl, refl)

-- a day's class under each certificate
pub class-of-none : (kind : Kind) (day : ℕ) → certified_class certificate.None kind day ≡ Baseline
class-of-none kind day = refl

pub class-of-etii : (effective : ℕ) (kind : Kind) (day : ℕ) → certified_class (certificate.Etii effective) kind day ≡ cond (leb effective day) Etii Baseline
class-of-etii effective kind day = refl

pub class-of-qhs : (effective : ℕ) (kind : Kind) (day : ℕ) → certified_class (certificate.Qhs effective) kind day ≡ cond (leb effective day) (qhs_class kind day) Baseline
class-of-qhs effective kind day = refl

-- a fixed contract keeps both days, cert puts its class and day in place of the certificate, class 0 none, and amend adds the three days
pub opened-fixed : (fuel fix entry : ℕ) → opening fuel 0 fix entry ≡ record { fuel = cond (eqb fuel 0) Electricity Gas; kind = Fixed fix entry; certificate = certificate.None; amendment = None }
unfolding opening
opened-fixed fuel fix entry = refl

pub certified-as : (k : Contract) (effective : ℕ)
    → (certify k 0 effective ≡ record { fuel = k.fuel; kind = k.kind; certificate = certificate.None; amendment = k.amendment })
    × (certify k 1 effective ≡ record { fuel = k.fuel; kind = k.kind; certificate = certificate.Etii effective; amendment = k.amendment })
    × (certify k 2 effective ≡ record { fuel = k.fuel; kind = k.kind; certificate = certificate.Qhs effective; amendment = k.amendment })
unfolding certify
certified-as k effective = (refl, refl, refl)

pub amended-as : (k : Contract) (end fix entry : ℕ) → amend k end fix entry ≡ record { fuel = k.fuel; kind = k.kind; certificate = k.certificate; amendment = Some (record { original_end_day = end; price_fix_day = fix; entry_day = entry }) }
unfolding amend
amended-as k end fix entry = refl

-- the terms that a bill takes: on or before the original end the original pair of days, after it the amended one; one pair where a span doesn't cross
-- the end, which is just where it doesn't start on or before it and end after it
module _ (k : Contract) where
  abbrev with-kind : Kind → Terms
  with-kind kind = record { fuel = k.fuel; kind = kind; certificate = k.certificate }

  terms-with : (first : ℕ) → terms_for k first ≡ with-kind (terms_for k first).kind
  unfolding terms_for
  terms-with first = refl

  pub terms-unamended : k.amendment ≡ None → (first : ℕ) → terms_for k first ≡ with-kind k.kind
  terms-unamended e first = terms-with first ∙ ap with-kind (asked.terms_taken.unamended k first e)

  module _ (amendment : Amendment) (e : k.amendment ≡ Some amendment) (first : ℕ) where
    pub terms-original : first ≤ amendment.original_end_day → terms_for k first ≡ with-kind k.kind
    terms-original h = terms-with first ∙ ap with-kind (asked.terms_taken.original k amendment first e h)

    pub terms-amended : amendment.original_end_day < first → terms_for k first ≡ with-kind (Fixed amendment.price_fix_day amendment.entry_day)
    terms-amended h = terms-with first ∙ ap with-kind (asked.terms_taken.amended k amendment first e h)

  pub terms-of-every-day : (first last day : ℕ) → crosses_end k.amendment first last ≡ false → first ≤ day → day ≤ last → terms_for k day ≡ terms_for k first
  terms-of-every-day = asked.terms_taken.every_day k

pub none-crossed : (first last : ℕ) → crosses_end None first last ≡ false
none-crossed first last = refl

pub end-crossed : (amendment : Amendment) (first last : ℕ) → crosses_end (Some amendment) first last ≡ leb first amendment.original_end_day && ltb amendment.original_end_day last
end-crossed amendment first last = refl

-- 16, 7 and 18 of amend: not fixed, or amended already; an end that is no day of the scheme, or a day after the last; a row of the contract that ends later
pub amendable : (k : Contract) → not_amendable k ≡ not (is_fixed k.kind) || is_amended k.amendment
unfolding not_amendable
amendable k = refl

pub kinds-fixed : (fix entry : ℕ) → (is_fixed (Fixed fix entry) ≡ true) × (is_fixed Variable ≡ false) × (is_fixed Flexible ≡ false) × (is_fixed Index ≡ false)
kinds-fixed fix entry = (refl, refl, refl, refl)

pub kinds-flexible : (fix entry : ℕ) → (is_flexible (Fixed fix entry) ≡ false) × (is_flexible Variable ≡ false) × (is_flexible Flexible ≡ true) × (is_flexible Index ≡ false)
kinds-flexible fix entry = (refl, refl, refl, refl)

pub amended-already : (amendment : Amendment) → (is_amended None ≡ false) × (is_amended (Some amendment) ≡ true)
amended-already amendment = (refl, refl)

pub amendment-days : (end fix entry : ℕ) → bad_amendment_days end fix entry ≡ not (leb 486 end && leb end 851) || (ltb 851 fix || ltb 851 entry)
unfolding bad_amendment_days
amendment-days end fix entry = refl

pub ends-after : (c day : ℕ) (b : Bill) → ends_after c day b ≡ eqb b.contract c && ltb day b.last
unfolding ends_after
ends-after c day b = refl

-- ---- demand 2: amounts

-- of so many kWh over n days, "floor(k × j / n)" are in the first j: those from day a until day b
abbrev spread : (kwh n a b : ℕ) → ℕ
spread kwh n a b = kwh * b / n - kwh * a / n

-- no change inside a bill
abbrev Unchanged : Bill → (class : (day : ℕ) → Class) → Type 0
Unchanged b class = (day : ℕ) → b.first ≤ day → day ≤ b.last → class day ≡ class b.first

module _ (k : Terms) (b : Bill) where
  abbrev rate_of : Class → ℕ
  rate_of class = class_rate k.fuel class b.reference b.supply

  abbrev cap_of : Class → ℕ
  cap_of class = class_cap k.fuel class b.supply

  abbrev days : ℕ
  days = suc b.last - b.first

  -- so many kWh over the bill's days, each day's at a price of the class of a bill that starts on it
  abbrev each_day : (price : Class → ℕ) → (kwh : ℕ) → (class : (day : ℕ) → Class) → ℕ
  each_day price kwh class = sum_over days (λ j. spread kwh days j (suc j) * price (class (b.first + j)))

  abbrev rest : ℕ
  rest = b.kwh - (b.etii + b.qhs)

  -- without shares
  pub rate_without : b.etii ≡ 0 → b.qhs ≡ 0 → Amounts.rate k b ≡ rate_of (class_of k b.first)
  rate_without = asked.shares_rated.rate_without k b

  pub amount-without : b.etii ≡ 0 → b.qhs ≡ 0 → amount k b ≡ each_day rate_of b.kwh (class_of k)
  unfolding amount sum_by_day between in_first
  amount-without = asked.shares_rated.without_shares rate_of k b

  pub cap-without : b.etii ≡ 0 → b.qhs ≡ 0 → cap k b ≡ each_day cap_of b.kwh (class_of k)
  unfolding cap sum_by_day between in_first
  cap-without = asked.shares_rated.without_shares cap_of k b

  -- with a share that isn't 0
  pub amount-with : b.first ≤ b.last → 0 < b.etii + b.qhs → amount k b ≡ rest * rate_of Baseline + b.etii * rate_of Etii + each_day rate_of b.qhs (qhs_class k.kind)
  unfolding amount sum_by_day between in_first
  amount-with = asked.shares_rated.with_shares rate_of k b

  pub cap-with : b.first ≤ b.last → 0 < b.etii + b.qhs → cap k b ≡ rest * cap_of Baseline + b.etii * cap_of Etii + each_day cap_of b.qhs (qhs_class k.kind)
  unfolding cap sum_by_day between in_first
  cap-with = asked.shares_rated.with_shares cap_of k b

  pub rate_with : 0 < b.etii + b.qhs → Amounts.rate k b ≡ rate_of Baseline
  rate_with = asked.shares_rated.rate_with k b

  -- the shares are all of the kWh
  pub whole : b.etii + b.qhs ≤ b.kwh → total (λ s. s.kwh) (shares k b) ≡ b.kwh
  whole = asked.shares_rated.whole k b

  -- without a change inside
  pub amount-kept : b.first ≤ b.last → b.etii ≡ 0 → b.qhs ≡ 0 → Unchanged b (class_of k) → amount k b ≡ b.kwh * Amounts.rate k b
  amount-kept = asked.without_change_inside.kept k b

  pub cap_kept : b.first ≤ b.last → b.etii ≡ 0 → b.qhs ≡ 0 → Unchanged b (class_of k) → cap k b ≡ b.kwh * cap_of (class_of k b.first)
  cap_kept = asked.without_change_inside.cap_kept k b

  pub amount-kept-with : b.first ≤ b.last → 0 < b.etii + b.qhs → (0 < b.qhs → Unchanged b (qhs_class k.kind))
      → amount k b ≡ rest * rate_of Baseline + b.etii * rate_of Etii + b.qhs * rate_of (qhs_class k.kind b.first)
  unfolding amount
  amount-kept-with = asked.without_change_inside.shares_kept rate_of k b

  pub cap-kept-with : b.first ≤ b.last → 0 < b.etii + b.qhs → (0 < b.qhs → Unchanged b (qhs_class k.kind))
      → cap k b ≡ rest * cap_of Baseline + b.etii * cap_of Etii + b.qhs * cap_of (qhs_class k.kind b.first)
  unfolding cap
  cap-kept-with = asked.without_change_inside.shares_kept cap_of k b

  -- over the stretches of each share
  abbrev each_stretch : (price : Class → ℕ) → ℕ
  each_stretch price = total (λ s. by_stretch price s.kwh days 0 (stretches_of s.certificate k.kind b.first days)) (shares k b)

  pub amount-over-stretches : amount k b ≡ each_stretch rate_of
  unfolding amount
  amount-over-stretches = asked.stretches_rated.summed rate_of k b

  pub cap-over-stretches : cap k b ≡ each_stretch cap_of
  unfolding cap
  cap-over-stretches = asked.stretches_rated.summed cap_of k b

  pub stretches-whole : b.first ≤ b.last → b.etii + b.qhs ≤ b.kwh → each_stretch (λ class. 1) ≡ b.kwh
  stretches-whole = asked.stretches_rated.whole k b

  -- at most the cap, and below 2^50
  pub amount-capped : amount k b ≤ cap k b
  amount-capped = asked.amounts_bounded.capped k b

  pub amount-bits : Rateable b → amount k b < 2 ^ 50
  amount-bits = asked.amounts_bounded.fifty_bits k b

-- a stretch has the difference between its two ends, times so much of its class
pub first-stretch : (price : Class → ℕ) (kwh n a : ℕ) (s : Stretch) (ss : List Stretch)
    → by_stretch price kwh n a (s ∷ ss) ≡ spread kwh n a s.end * price s.class + by_stretch price kwh n s.end ss
unfolding between in_first
first-stretch price kwh n a s ss = refl

-- the stretches of a certificate: at most three, the days of each of one class; and where a class changes
module _ (c : Certificate) (kind : Kind) where
  pub cut : (first n : ℕ) → Cut n (λ j. certified_class c kind (first + j)) 0 (stretches_of c kind first n)
  cut = asked.stretches_rated.cut c kind

  pub at_most_three : (first n : ℕ) → length (stretches_of c kind first n) ≤ 3
  at_most_three = asked.stretches_rated.at_most_three c kind

-- a class changes on the effective day alone, and of QHS also on day 792, unless the contract is fixed and was entered before it
module _ (effective : ℕ) where
  pub etii-changes : (kind : Kind) (day : ℕ) → (suc day ≡ effective → ⊥) → certified_class (certificate.Etii effective) kind (suc day) ≡ certified_class (certificate.Etii effective) kind day
  etii-changes kind day other = asked.stretches_rated.changes (certificate.Etii effective) kind day (other, tt)

  pub qhs-changes : (kind : Kind) (day : ℕ) → (suc day ≡ effective → ⊥) → All (λ d. suc day ≡ d → ⊥) (cond (entered_early kind) [] (792 ∷ []))
      → certified_class (certificate.Qhs effective) kind (suc day) ≡ certified_class (certificate.Qhs effective) kind day
  qhs-changes kind day other new = asked.stretches_rated.changes (certificate.Qhs effective) kind day (other, new)

  pub etii-unchanged : (kind : Kind) (b : Bill) → (b.first < effective → b.last < effective) → Unchanged b (certified_class (certificate.Etii effective) kind)
  etii-unchanged kind b outside = asked.without_change_inside.no_day_inside (certificate.Etii effective) kind b (outside, tt)

  pub qhs-unchanged : (kind : Kind) (b : Bill) → (b.first < effective → b.last < effective) → All (λ d. b.first < d → b.last < d) (cond (entered_early kind) [] (792 ∷ []))
      → Unchanged b (certified_class (certificate.Qhs effective) kind)
  qhs-unchanged kind b outside new = asked.without_change_inside.no_day_inside (certificate.Qhs effective) kind b (outside, new)

pub entered-early : (fix entry : ℕ) → entered_early (Fixed fix entry) ≡ ltb entry 792
entered-early fix entry = refl

pub others-not-early : (entered_early Variable ≡ false) × (entered_early Flexible ≡ false) × (entered_early Index ≡ false)
others-not-early = (refl, refl, refl)

pub qhs-class : (kind : Kind) (day : ℕ) → qhs_class kind day ≡ cond (leb 792 day && not (entered_early kind)) QhsNew QhsOld
unfolding qhs_class
qhs-class kind day = refl

pub any_cut : (price : Class → ℕ) (kwh n : ℕ) (class : ℕ → Class) (ss : List Stretch) → Cut n class 0 ss
    → sum_by_day price kwh n class ≡ by_stretch price kwh n 0 ss
any_cut = asked.stretches_rated.any_cut

-- ---- the amount of each held row is that by day; ledgers that were well formed before

abbrev ByDay : Contracts → Row → Type 0
ByDay cs x = x.amount ≡ amount (terms_for (contract_of cs x.bill) x.bill.first) x.bill

pub held_first : (b : List ℕ) → Formed b → row_slots rules layout b ≡ places row_count (facts b).rows
held_first = asked.rows_in_order.held_first

pub rows_in_order : (b : List ℕ) → Formed b → AllOrdered (facts b).rows
rows_in_order = asked.rows_in_order.in_order

pub order-asked : (cs : Contracts) (xs : List Row) → All (RowOk rules cs) xs → Apart xs ↔ AllOrdered xs
order-asked = asked.rows_in_order.asked

pub order-tested : (cs : Contracts) (xs : List Row) → All (RowOk rules cs) xs → (every_pair comes_before xs ≡ true) ↔ AllOrdered xs
order-tested = asked.rows_in_order.tested

pub with_the_last_row : (cs : Contracts) (xs : List Row) → All (RowOk rules cs) xs
    → every_neighbour (λ x y. comes_after x.bill.contract x.bill.last y.bill) xs ≡ every_pair comes_before xs
with_the_last_row = asked.rows_in_order.with_the_last_row

pub ascending : (x y : Row) → Ordered x y → (x.bill.contract < y.bill.contract) ⊎ ((x.bill.contract ≡ y.bill.contract) × (x.bill.first < y.bill.first))
ascending x y o = o.ascending

pub no_shared_day : (x y : Row) → Ordered x y → x.bill.contract ≡ y.bill.contract
    → (day : ℕ) → x.bill.first ≤ day → day ≤ x.bill.last → y.bill.first ≤ day → day ≤ y.bill.last → ⊥
no_shared_day x y o = o.no_shared_day

pub any-two : (x : Row) (xs : List Row) → AllOrdered (x ∷ xs) → All (Ordered x) xs × AllOrdered xs
any-two x xs o = o

pub amounts-by-day : (b : List ℕ) → Formed b → All (ByDay (facts b).contracts) (facts b).rows
amounts-by-day = asked.amounts_kept.by_day

pub misrated-refused : (b : List ℕ) → (All (ByDay (facts b).contracts) (facts b).rows → ⊥) → (c : CallWithBook) → machine.answer b c ≡ Err 2
misrated-refused = asked.amounts_kept.refused

pub misrated-unchanged : (b : List ℕ) → (All (ByDay (facts b).contracts) (facts b).rows → ⊥) → (c : CallWithBook) → machine.step b c ≡ b
misrated-unchanged = asked.amounts_kept.unchanged

pub earlier-taken : (l : Ledger) → WellFormed (rules_with earlier_amount) l → All (ByDay l.contracts) l.rows → Formed (bytes l)
earlier-taken = asked.amounts_kept.taken

pub stored_earlier : (l : Ledger) → WellFormed (rules_with earlier_amount) l → WellFormed rules l ↔ All (ByDay l.contracts) l.rows
stored_earlier = asked.stored_earlier.exactly

pub earlier-amount : (k : Terms) (b : Bill)
    → earlier_amount k b ≡ total (λ s. s.kwh * rate_of k b (certified_class s.certificate k.kind b.first)) (shares k b)
unfolding earlier_amount
earlier-amount k b = refl

pub as_before : (k : Terms) (b : Bill) → b.first ≤ b.last → All (λ s. 0 < s.kwh → Unchanged b (certified_class s.certificate k.kind)) (shares k b)
    → amount k b ≡ earlier_amount k b
as_before = asked.without_change_inside.as_before

-- ---- the price of every day, and rows across months

module _ (fuel : Fuel) (first last : ℕ) (spans : bad_span first last ≡ false) where
  abbrev OneEntry : Kind → Type 0
  OneEntry kind = (day : ℕ) → first ≤ day → day ≤ last → book_index fuel kind day ≡ book_index fuel kind first

  -- number 15 and the entries of the book, of each kind
  pub one_entry : (kind : Kind) → (bad_months kind first last ≡ false) ↔ OneEntry kind
  one_entry kind = asked.price_of_every_day.one_entry fuel kind first last spans

module _ (v : View) (q : Request) (book : List ℕ) (day : ℕ) (from : q.first ≤ day) (to : day ≤ q.last) where
  abbrev price_on : ℕ → ℕ
  price_on d = reference (terms_for (contract_at v.contracts q.contract) d) d q.wap book

  pub bill-priced : refusal rules v (Call.Bill q with book) ≡ 0 → price_on q.first ≡ price_on day
  unfolding requested_bill
  bill-priced e = asked.price_of_every_day.bills v q book e day from to

  pub rebill-priced : refusal rules v (Call.Rebill q with book) ≡ 0 → price_on q.first ≡ price_on day
  unfolding requested_bill
  rebill-priced e = asked.price_of_every_day.rebills v q book e day from to

pub any_last_day : (k : Contract) (b : Bill) → bill_ok k b ≡ true → (last : ℕ) → b.first ≤ last → last ≤ 851 → crosses_end k.amendment b.first last ≡ false
    → bill_ok k (record { contract = b.contract; first = b.first; last = last; kwh = b.kwh; etii = b.etii; qhs = b.qhs; reference = b.reference; supply = b.supply }) ≡ true
any_last_day = asked.ranges_kept.any_last_day

-- ---- the calls that are accepted, and those that numbers 15 and 8 turn down

module _ (v : View) (book : List ℕ) where
  pub claim-taken : v.claims < 1000 → refusal rules v (Call.Claim with book) ≡ 0
  claim-taken = asked.accepted_where_none_fits.claims v book

  pub total-taken : refusal rules v (Call.Total with book) ≡ 0
  total-taken = asked.accepted_where_none_fits.totals v book

  module _ (c : ℕ) (number : bad_number c ≡ false) where
    pub open-taken : (fuel kind fix entry : ℕ) → is_open v.contracts c ≡ false → bad_kind v.territory fuel kind ≡ false → bad_days kind fix entry ≡ false
        → refusal rules v (Call.Open c fuel kind fix entry with book) ≡ 0
    open-taken fuel kind fix entry = asked.accepted_where_none_fits.opens v c fuel kind fix entry book number

    module _ (opened : is_open v.contracts c ≡ true) where
      pub cert-taken : (class effective : ℕ) → bad_class class ≡ false → bad_effective class effective ≡ false → refusal rules v (Call.Cert c class effective with book) ≡ 0
      cert-taken class effective = asked.accepted_where_none_fits.certificates v c class effective book number opened

      pub cancel-taken : (first : ℕ) → 0 < v.held (named c first) → refusal rules v (Call.Cancel c first with book) ≡ 0
      cancel-taken first = asked.accepted_where_none_fits.cancellations v c first book number opened

      pub report-taken : refusal rules v (Call.Report c with book) ≡ 0
      report-taken = asked.accepted_where_none_fits.reports v c book number opened

      pub amend-taken : (end fix entry : ℕ) → not_amendable (contract_at v.contracts c) ≡ false → bad_amendment_days end fix entry ≡ false → v.held (ends_after c end) ≡ 0
          → refusal rules v (Call.Amend c end fix entry with book) ≡ 0
      amend-taken end fix entry = asked.accepted_where_none_fits.amendments v c end fix entry book number opened

  module _ (q : Request) where
    abbrev named-contract : Contract
    named-contract = contract_at v.contracts q.contract

    -- 3, 4, 5 and 7 don't fit; then neither do 15, 17, 8, 14 and 11
    abbrev UpToDays : Type 0
    UpToDays = (bad_book book ≡ false) × (bad_number q.contract ≡ false) × (is_open v.contracts q.contract ≡ true) × (bad_span q.first q.last ≡ false)

    abbrev UpToPrice : Type 0
    UpToPrice =
        (bad_months named-contract.kind q.first q.last ≡ false) × (crosses_end named-contract.amendment q.first q.last ≡ false)
        × (bad_amounts named-contract q ≡ false) × (bad_shares q.kwh q.etii q.qhs ≡ false)
        × (no_price named-contract.kind (reference (terms_for named-contract q.first) q.first q.wap book) ≡ false)

    dated : UpToDays → RightContractAndDays v q book
    dated t = record { prices = t.0; number = t.1; opened = t.2; days = t.3 }

    right : UpToDays → UpToPrice → RightNumbers v q book
    right t u = record { span = record { right = dated t; months = u.0; inside = u.1 }; amounts = u.2; shares = u.3; priced = u.4 }

    pub bill-taken : UpToDays → UpToPrice → v.held (sharing q.contract q.first q.last) ≡ 0 → v.held (λ x. true) < 1024 → refusal rules v (Call.Bill q with book) ≡ 0
    bill-taken t u = asked.accepted_where_none_fits.bills v q book (right t u)

    pub rebill-taken : UpToDays → UpToPrice → 0 < v.held (named q.contract q.first)
        → v.held (λ x. sharing q.contract q.first q.last x && not (named q.contract q.first x)) ≡ 0 → refusal rules v (Call.Rebill q with book) ≡ 0
    rebill-taken t u = asked.accepted_where_none_fits.rebills v q book (right t u)

    -- number 15: 3, 4, 5 and 7 don't fit, and the span touches two months
    abbrev AtNumber15 : Type 0
    AtNumber15 = UpToDays × (bad_months named-contract.kind q.first q.last ≡ true)

    fields : TwoMonthsGiven v q book → AtNumber15
    fields t = ((t.right.prices, t.right.number, t.right.opened, t.right.days), t.months)

    pub bill-by-15 : (refusal rules v (Call.Bill q with book) ≡ 15) ↔ AtNumber15
    bill-by-15 = let law = asked.number_fifteen v (Call.Bill q with book) in (λ e. fields (law.0 e), λ t. law.1 (record { right = dated t.0; months = t.1 }))

    pub rebill-by-15 : (refusal rules v (Call.Rebill q with book) ≡ 15) ↔ AtNumber15
    rebill-by-15 = let law = asked.number_fifteen v (Call.Rebill q with book) in (λ e. fields (law.0 e), λ t. law.1 (record { right = dated t.0; months = t.1 }))

    -- number 8: 3, 4, 5, 7, 15 and 17 don't fit, and kWh, S or WAP is out of range
    abbrev AtNumber8 : Type 0
    AtNumber8 = UpToDays × (bad_months named-contract.kind q.first q.last ≡ false) × (crosses_end named-contract.amendment q.first q.last ≡ false) × (bad_amounts named-contract q ≡ true)

    amounts-given : AtNumber8 → WrongAmountsGiven v q book
    amounts-given t = record { span = record { right = dated t.0; months = t.1; inside = t.2 }; amounts = t.3 }

    given-amounts : WrongAmountsGiven v q book → AtNumber8
    given-amounts g = ((g.span.right.prices, g.span.right.number, g.span.right.opened, g.span.right.days), g.span.months, g.span.inside, g.amounts)

    pub bill-by-8 : (refusal rules v (Call.Bill q with book) ≡ 8) ↔ AtNumber8
    bill-by-8 = let law = asked.number_eight v (Call.Bill q with book) in (λ e. given-amounts (law.0 e), λ t. law.1 (amounts-given t))

    pub rebill-by-8 : (refusal rules v (Call.Rebill q with book) ≡ 8) ↔ AtNumber8
    rebill-by-8 = let law = asked.number_eight v (Call.Rebill q with book) in (λ e. given-amounts (law.0 e), λ t. law.1 (amounts-given t))

    -- the most kWh
    pub bill-kwh : refusal rules v (Call.Bill q with book) ≡ 0 → q.kwh ≤ 40000000
    bill-kwh = asked.largest_bill.bills v q book

    pub rebill-kwh : refusal rules v (Call.Rebill q with book) ≡ 0 → q.kwh ≤ 40000000
    rebill-kwh = asked.largest_bill.rebills v q book

  pub no-cert-by-15 : (c class effective : ℕ) → refusal rules v (Call.Cert c class effective with book) ≡ 15 → ⊥
  no-cert-by-15 c class effective = (asked.number_fifteen v (Call.Cert c class effective with book)).0

  pub no-cancel-by-15 : (c first : ℕ) → refusal rules v (Call.Cancel c first with book) ≡ 15 → ⊥
  no-cancel-by-15 c first = (asked.number_fifteen v (Call.Cancel c first with book)).0

  pub no-cert-by-8 : (c class effective : ℕ) → refusal rules v (Call.Cert c class effective with book) ≡ 8 → ⊥
  no-cert-by-8 c class effective = (asked.number_eight v (Call.Cert c class effective with book)).0

  pub no-cancel-by-8 : (c first : ℕ) → refusal rules v (Call.Cancel c first with book) ≡ 8 → ⊥
  no-cancel-by-8 c first = (asked.number_eight v (Call.Cancel c first with book)).0

  pub no-claim-by-8 : refusal rules v (Call.Claim with book) ≡ 8 → ⊥
  no-claim-by-8 = (asked.number_eight v (Call.Claim with book)).0

  pub no-report-by-8 : (c : ℕ) → refusal rules v (Call.Report c with book) ≡ 8 → ⊥
  no-report-by-8 c = (asked.number_eight v (Call.Report c with book)).0

  pub no-amend-by-8 : (c end fix entry : ℕ) → refusal rules v (Call.Amend c end fix entry with book) ≡ 8 → ⊥
  no-amend-by-8 c end fix entry = (asked.number_eight v (Call.Amend c end fix entry with book)).0

-- 8: kWh above 40,000,000, S or WAP above 999,999, or a WAP that isn't 0 where the contract isn't flexible
pub wrong-amounts : (k : Contract) (q : Request)
    → bad_amounts k q ≡ ltb 40000000 q.kwh || (ltb 999999 q.supply || (ltb 999999 q.wap || (not (is_flexible k.kind) && not (eqb q.wap 0))))
unfolding bad_amounts
wrong-amounts k q = refl

pub larger-wrong : (k : Contract) (q : Request) → 40000000 < q.kwh → bad_amounts k q ≡ true
larger-wrong = asked.largest_bill.larger

-- 9 and 10: a bill of the contract with that first day, and one that shares a day with the span
pub named-as : (c first : ℕ) (b : Bill) → named c first b ≡ eqb b.contract c && eqb b.first first
unfolding named
named-as c first b = refl

pub sharing-as : (c first last : ℕ) (b : Bill) → sharing c first last b ≡ eqb b.contract c && (leb b.first last && leb first b.last)
unfolding sharing
sharing-as c first last b = refl

-- ---- the ranges of a held row; rows of more kWh than a bill may give

pub row-ranges : (k : Contract) (b : Bill)
    → bill_ok k b
    ≡ every (not (bad_span b.first b.last)
    ∷ leb b.kwh 100000000
    ∷ not (ltb b.kwh (b.etii + b.qhs))
    ∷ leb b.supply 999999
    ∷ leb b.reference 999999
    ∷ not (no_price k.kind b.reference)
    ∷ not (crosses_end k.amendment b.first b.last)
    ∷ [])
unfolding bill_ok
row-ranges k b = refl

pub row-kwh : (k : Contract) (b : Bill) → bill_ok k b ≡ true → b.kwh ≤ 100000000
row-kwh = asked.ranges_kept.most_kwh

pub any_kwh : (k : Contract) (b : Bill) → bill_ok k b ≡ true → (kwh etii qhs : ℕ) → etii + qhs ≤ kwh → kwh ≤ 100000000
    → bill_ok k (record { contract = b.contract; first = b.first; last = b.last; kwh = kwh; etii = etii; qhs = qhs; reference = b.reference; supply = b.supply }) ≡ true
any_kwh = asked.ranges_kept.any_kwh

pub larger-rows-stored : (b : List ℕ) → Formed b → (h : List CallWithBook)
    → All (λ x. 40000000 < x.bill.kwh → Memᴰ x.bill (map (λ y. y.bill) (facts b).rows)) (facts (run machine.step b h)).rows
larger-rows-stored = asked.larger_rows_were_stored.stored

pub no-larger-row : (territory : ℕ) → territory ≤ 1 → (h : List CallWithBook) → All (λ x. x.bill.kwh ≤ 40000000) (facts (state_after machine territory h)).rows
no-larger-row = asked.larger_rows_were_stored.none

-- ---- number 2

pub number-two-refused : (b : List ℕ) → (Formed b → ⊥) → (c : CallWithBook) → machine.answer b c ≡ Err 2
number-two-refused = asked.number_two_first.refused

pub number-two-unchanged : (b : List ℕ) → (Formed b → ⊥) → (c : CallWithBook) → machine.step b c ≡ b
number-two-unchanged = asked.number_two_first.unchanged

pub number-two-in-no-history : (territory : ℕ) → territory ≤ 1 → (h : List CallWithBook) → Formed (state_after machine territory h)
number-two-in-no-history = asked.number_two_meets_no_call

pub number-two-in-no-stored-ledger : (b : List ℕ) → Formed b → (h : List CallWithBook) → Formed (run machine.step b h)
number-two-in-no-stored-ledger = asked.stored_ledgers_answer.well_formed

-- ---- an amend answers no numbers, alters no row, and changes no bill's part of due

pub amend-answers : (b : List ℕ) (c end fix entry : ℕ) (book : List ℕ) → values_in (machine.answer b (Call.Amend c end fix entry with book)) ≡ []
amend-answers = asked.amend_alters_no_row.answers

pub amend-rows : (b : List ℕ) → Formed b → (c end fix entry : ℕ) (book : List ℕ) → (facts (machine.step b (Call.Amend c end fix entry with book))).rows ≡ (facts b).rows
amend-rows = asked.amend_alters_no_row.rows

module _ (territory : ℕ) (either : territory ≤ 1) (h : List CallWithBook) (c end fix entry : ℕ) (book : List ℕ) where
  abbrev before-amend : Sheet
  before-amend = sheet_after rules territory h

  abbrev after-amend : Sheet
  after-amend = Sheet.step rules before-amend (Call.Amend c end fix entry with book)

  pub amend-bills : after-amend.bills ≡ before-amend.bills
  amend-bills = (asked.amend_alters_no_row.parts territory either h c end fix entry book).bills

  pub amend-parts : All (λ b. part_of_due rules after-amend.contracts b ≡ part_of_due rules before-amend.contracts b) before-amend.bills
  amend-parts = (asked.amend_alters_no_row.parts territory either h c end fix entry book).parts

  pub amend-due : Sheet.due rules after-amend ≡ Sheet.due rules before-amend
  amend-due = (asked.amend_alters_no_row.parts territory either h c end fix entry book).dues

-- ---- of every history from a fresh ledger of either territory

module _ (territory : ℕ) (either : territory ≤ 1) (h : List CallWithBook) where
  abbrev sheet : Sheet
  sheet = sheet_after rules territory h

  abbrev answers : List (Result Answer ℕ)
  answers = answers_to machine territory h

  abbrev left : Ledger
  left = machine.facts (state_after machine territory h)

  -- the terms that a bill takes; the bill's part of due, and the most that it can be: over its shares and days, the day's kWh times the rate, and the cap, of
  -- the day's class
  abbrev of : Bill → Terms
  of b = terms_for (contract_of sheet.contracts b) b.first

  abbrev part : Bill → ℕ
  part b = total (λ s. each_day (of b) b (rate_of (of b) b) s.kwh (certified_class s.certificate (of b).kind)) (shares (of b) b)

  abbrev highest : Bill → ℕ
  highest b = total (λ s. each_day (of b) b (cap_of (of b) b) s.kwh (certified_class s.certificate (of b).kind)) (shares (of b) b)

  -- demand 2: the ledger holds exactly the sheet's facts

  pub facts-held : HoldsFacts rules sheet answers left
  facts-held = asked.packed_histories_hold_their_facts territory either h

  pub territory-held : left.territory ≡ sheet.territory
  territory-held = facts-held.territory

  pub contracts-held : left.contracts ≡ sheet.contracts
  contracts-held = facts-held.contracts

  pub rows-held : (p : Row → Bool) → count p left.rows ≡ count (λ b. p (standing_row rules sheet.contracts b)) sheet.bills
  rows-held = facts-held.rows

  pub standing-held : (x : Row) → Memᴰ x left.rows → Memᴰ x.bill sheet.bills × (x.amount ≡ part x.bill)
  unfolding part_of_due amount bill_at share_at sum_by_day between in_first
  standing-held = facts-held.standing

  pub claims-held : left.claims ≡ sheet.claims
  claims-held = facts-held.claims

  pub pence-held : pos left.pence ≡ sumℤ claim_pence answers
  pence-held = facts-held.pence

  -- every answer is the sheet's

  pub answer-next : (c : CallWithBook) → machine.answer (state_after machine territory h) c ≡ sheet_answer rules sheet (sumℤ claim_pence answers) c
  answer-next = asked.packed_answers_from_the_sheet territory either h

  -- demand 3

  pub due : Sheet.due rules sheet ≡ total part sheet.bills
  unfolding Sheet.due part_of_due amount bill_at share_at sum_by_day between in_first
  due = refl

  pub balanced : Balanced rules sheet answers (machine.answer (state_after machine territory h) (Call.Total with [])) left.rows
  balanced = asked.demand_three.balances territory either h

  abbrev unclaimed : ℤ
  unclaimed = balanced.unclaimed

  pub customers : sumℤ customer_amount answers ≡ pos (Sheet.due rules sheet)
  customers = balanced.customers

  pub total-next : machine.answer (state_after machine territory h) (Call.Total with []) ≡ Ok (Totalled (Sheet.due rules sheet) unclaimed)
  total-next = balanced.total

  pub claims : pos 10000 *ℤ sumℤ claim_pence answers +ℤ unclaimed ≡ pos (Sheet.due rules sheet)
  claims = balanced.claims

  pub claimed-last : (before : List (Result Answer ℕ)) (pence : ℤ) (rest : ℕ) → answers ≡ before ++ (Ok (Claimed pence rest) ∷ []) → (u : ℕ) × (unclaimed ≡ pos u) × (u < 10000)
  claimed-last = balanced.claimed

  pub held : (b : Bill) → Memᴰ b sheet.bills → Memᴰ {A = Row} (record { bill = b; amount = part b }) left.rows
  unfolding part_of_due amount bill_at share_at sum_by_day between in_first
  held = balanced.rows

  pub within_cap : (b : Bill) → Memᴰ b sheet.bills → part b ≤ highest b
  unfolding part_of_due amount cap bill_at share_at sum_by_day between in_first
  within_cap = balanced.capped

  -- a claim called next that the sheet doesn't turn down leaves 0 to 9,999
  pub claim-next : refusal rules (view sheet) (Call.Claim with []) ≡ 0 →
      let claimed = h ++ ((Call.Claim with []) ∷ []) in
      (u : ℕ) × (machine.answer (state_after machine territory claimed) (Call.Total with []) ≡ Ok (Totalled (Sheet.due rules (sheet_after rules territory claimed)) (pos u))) × (u < 10000)
  claim-next = asked.demand_three.last_claim territory either h

-- ---- of any well-formed ledger: where it balances with the answers to its earlier calls, it does so after every list of calls; each answer is the
-- sheet's

module _ (b : List ℕ) (formed : Formed b) (earlier : List (Result Answer ℕ)) (h : List CallWithBook) where
  abbrev stored : Sheet
  stored = record { territory = (facts b).territory; contracts = (facts b).contracts; bills = map (λ x. x.bill) (facts b).rows; claims = (facts b).claims }

  abbrev later : List ℕ
  later = run machine.step b h

  pub goes_on : Balanced rules stored earlier (machine.answer b (Call.Total with [])) (facts b).rows
      → Balanced rules (run (Sheet.step rules) stored h) (earlier ++ replies machine.step machine.answer b h) (machine.answer later (Call.Total with [])) (facts later).rows
  unfolding sheet_of
  goes_on balances = asked.stored_ledgers_balance b formed earlier balances h

  pub later-answer : (c : CallWithBook) → machine.answer later c
      ≡ sheet_answer rules (run (Sheet.step rules) stored h) (pos (facts b).pence +ℤ sumℤ claim_pence (replies machine.step machine.answer b h)) c
  unfolding sheet_of
  later-answer = asked.stored_ledgers_answer.from_the_sheet b formed h
