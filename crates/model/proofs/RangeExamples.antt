-- The rows and contracts on either side of the ranges, by computation; a row with other kWh and shares, and with another last day. Assumes nothing.
use mathlib.Core.Path.{◌≡◌, refl}
use mathlib.Core.Bool.{true, false}
use Prim.Native.Nat.{ℕ, ◌+◌, ◌≤◌}
use lib.Dec.{leb}
use Rattle.limits.specs.Limits.{last_day, first_scheme_day, most_kwh_stored}
use Rattle.basics.proofs.Tests.{not-no, and_left, yes_le}
use Rattle.rates.specs.declared.Contract.{Contract}
use Rattle.rates.specs.TermsTaken.{crosses_end}
use Rattle.amounts.specs.declared.Bill.{Bill}
use Rattle.model.specs.PresentRules.{bad_kind, bad_days, bad_effective, bad_amendment_days, bad_amendment, bad_span, no_price, contract_ranges, bill_ok}
use Rattle.model.specs.RangeExamples.{held_bills, keeps_ranges, contracts_in_range, amendments_out_of_range, contracts_out_of_range, ending_on, with_kwh, RangesKept}
use Rattle.model.proofs.PresentRules.{bill-ranges, in-bill-ranges}

any_last_day : (k : Contract) (b : Bill) → bill_ok k b ≡ true → (last : ℕ) → b.first ≤ last → last ≤ last_day → crosses_end k.amendment b.first last ≡ false → bill_ok k (ending_on last b) ≡ true
unfolding bad_span
any_last_day k b e last h i inside =
    let r = bill-ranges k b e in
    let begins = and_left (leb first_scheme_day b.first) _ (not-no _ r.span) in
    in-bill-ranges k (ending_on last b) (record {
      span = rw (begins, yes_le b.first last h, yes_le last last_day i);
      rateable = record { days = h; kwh = r.rateable.kwh; shares = r.rateable.shares; supply = r.rateable.supply };
      reference = r.reference;
      priced = r.priced;
      inside = inside;
    })

any_kwh : (k : Contract) (b : Bill) → bill_ok k b ≡ true → (kwh etii qhs : ℕ) → etii + qhs ≤ kwh → kwh ≤ most_kwh_stored → bill_ok k (with_kwh kwh etii qhs b) ≡ true
any_kwh k b e kwh etii qhs shares low =
    let r = bill-ranges k b e in
    in-bill-ranges k (with_kwh kwh etii qhs b) (record {
      span = r.span;
      rateable = record { days = r.rateable.days; kwh = low; shares = shares; supply = r.rateable.supply };
      reference = r.reference;
      priced = r.priced;
      inside = r.inside;
    })

pub ranges_kept : RangesKept
unfolding held_bills keeps_ranges contracts_in_range amendments_out_of_range contracts_out_of_range bill_ok contract_ranges bad_kind bad_days bad_effective bad_amendment_days bad_amendment bad_span no_price
ranges_kept = record {
  bills = refl;
  most_kwh = λ k b e. (bill-ranges k b e).rateable.kwh;
  any_kwh = any_kwh;
  any_last_day = any_last_day;
  in_range = refl;
  out_of_range = refl;
  index_in_northern_ireland = refl;
  amended_index = refl;
  gas_index = refl;
}
