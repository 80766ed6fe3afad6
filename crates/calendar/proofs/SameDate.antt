-- The test whether two dates are the same passes exactly where they are equal.
use Rattle.std.proofs.Common.{◌≡◌, false, arith}
use Rattle.std.specs.Bool.{Decides}
use Rattle.std.proofs.lemmas.Bool.{not-true}
use Rattle.std.proofs.lemmas.Bool.Decides.{Decides-not, nat_tests}
use Rattle.calendar.specs.declared.CalendarDate.{CalendarDate}
use Rattle.calendar.specs.Calendar.{same_date}

pub same_decides : (a b : CalendarDate) → Decides (same_date a b) (a ≡ b)
same_decides a b = (λ same. grind (arith, nat_tests), λ equal. grind (arith, nat_tests))

pub other-differs : (a b : CalendarDate) → (a ≡ b → ⊥) → same_date a b ≡ false
other-differs a b other = not-true _ ((Decides-not _ (same_decides a b)).1 other)
