-- The terms that a bill takes, by its first day; those of a span that doesn't cross the original end are one on all its days. Assumes nothing.
use mathlib.Core.Path.{◌≡◌, refl}
use mathlib.Core.Bool.{false}
use Prim.Native.Nat.{ℕ, ◌≤◌, ◌<◌}
use native.Mathlib.Omega.{arith}
use lib.Dec.{leb, ltb}
use borrow.Author.Tests.{le-leb, lt-leb}
use Rattle.std.specs.Prelude.{Option, Some, None}
use Rattle.basics.proofs.Tests.{either, le-no, lt_no, and_no}
use Rattle.rates.specs.declared.Kind.{Kind}
use Rattle.rates.specs.declared.Kind.TheVariants.{Fixed}
use Rattle.rates.specs.declared.Amendment.{Amendment}
use Rattle.rates.specs.TermsTaken.{kind_taken, terms_for, crosses_end, TermsTaken}

module _ (amendment : Amendment) (kind : Kind) (first : ℕ) where
  pub on-or-before : first ≤ amendment.original_end_day → kind_taken (Some amendment) kind first ≡ kind
  on-or-before h = rw (le-leb first amendment.original_end_day h)

  after-end : amendment.original_end_day < first → kind_taken (Some amendment) kind first ≡ Fixed amendment.price_fix_day amendment.entry_day
  after-end h = rw (lt-leb first amendment.original_end_day h)

pub one-kind : (amendment : Option Amendment) (kind : Kind) (first last day : ℕ) → crosses_end amendment first last ≡ false → first ≤ day → day ≤ last
    → kind_taken amendment kind day ≡ kind_taken amendment kind first
one-kind None kind first last day inside from to = refl
one-kind (Some a) kind first last day inside from to =
    let end = a.original_end_day in
    either (leb first end)
    (λ e.
    let within : last ≤ end = lt_no end last (and_no (leb first end) (ltb end last) inside e) in
    rw (e, on-or-before a kind day (omega arith)))
    (λ e.
    let later : end < first = le-no first end e in
    rw (e, after-end a kind day (omega arith)))

pub terms_taken : TermsTaken
unfolding terms_for
terms_taken = record {
  unamended = λ contract first e. rw e;
  original = λ contract amendment first e h. rw (e, on-or-before amendment contract.kind first h);
  amended = λ contract amendment first e h. rw (e, after-end amendment contract.kind first h);
  every_day = λ contract first last day inside from to. rw (one-kind contract.amendment contract.kind first last day inside from to);
}
