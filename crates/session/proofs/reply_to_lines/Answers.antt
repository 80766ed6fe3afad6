-- `reply_to_lines` prints all lines: for each, what is written and what is to be printed of the rest make the whole; and for a last one
-- without its line feed, the refusal.
use Rattle.std.proofs.Common.{[], ◌∷◌, Some, None, rules, tests}
use Rattle.std.proofs.lemmas.Bool.Decides.{Decides-eqb}
use Rattle.std.proofs.lemmas.Slice.Eq.{strip_suffix_is}
use Rattle.session.proofs.Lines.{first_line, nothing-reached, all-reached, cut-reached, line-reached}
use Rattle.session.proofs.reply_to_lines.Goals as goal

pub loop-line-init : goal.loop-line-init
loop-line-init c = rw (c.into_iter-line-iterator.ensures.into_iter_gives, c.split_inclusive-line-items.ensures.rest) (nothing-reached _ _ _)

pub returns-in_default : goal.returns-in_default
returns-in_default c =
    let f = first_line _ _ _ _ _ _ c.in-Some.ensures.steps (λ x b q k. search (rules, tests)) in
    cut-reached c.loop-line.invariant f (strip_suffix_is Decides-eqb _ (10 ∷ []) None c.in_default.ensures.cases) c.write_unreadable.ensures

pub loop-line-preserved : goal.loop-line-preserved
loop-line-preserved c =
    let f = first_line _ _ _ _ _ _ c.in-Some.ensures.steps (λ x b q k. search (rules, tests)) in
    let e = strip_suffix_is Decides-eqb _ (10 ∷ []) (Some c.in-Some-strip_suffix.line) c.in-Some-strip_suffix.ensures.cases in
    line-reached c.loop-line.invariant f _ e c.reply_to_line-written.ensures.wrote_within c.reply_to_line-written.ensures.book_after
    c.reply_to_line-written.auto.ledger c.reply_to_line-written.auto.out

pub returns : goal.returns
returns c = all-reached c.loop-line.invariant c.in-None.ensures.steps.0
