-- `read_command` meets its contract: the words are the name and the numbers, in a line that is text, and no other line can be read.
use Rattle.std.proofs.Common.{◌≡◌, ◌∷◌, ◌++◌, [], rules, sym, ◌∙◌}
use Rattle.std.proofs.lemmas.List.{length_push}
use Rattle.text.proofs.ReadableLines.{not-text, too-long}
use Rattle.text.proofs.Words.{named, none-gathered, unread, more-gathered, too_many_numbers, ended}
use Rattle.text.proofs.reading.read_command.Goals as goal

pub returns-then-line-gt-LONGEST_READABLE : goal.returns-then-line-gt-LONGEST_READABLE
returns-then-line-gt-LONGEST_READABLE c = too-long c.args.line.now (search rules)

pub returns-in_default : goal.returns-in_default
returns-in_default c = not-text c.args.line.now (search rules)

pub loop-word-init : goal.loop-word-init
loop-word-init c = record {
  named = named _ _ _ c.args.line.now (c.split-words.ensures.text ∙ c.in-Ok.ensures.cases.0) c.split-words.ensures.has_more c.split-words.ensures.pattern _ _ c.in-Some.is c.next.ensures.steps c.into_iter-word-iterator.ensures.into_iter_gives;
  gathered = rw c.new-numbers.ensures (none-gathered _);
}

pub returns-in_default-read_number : goal.returns-in_default-read_number
returns-in_default-read_number c =
    let i = c.loop-word.invariant in
    unread i.named _ _ c.loop-word.yielded_by i.gathered _ _ _ c.in-Some-word.is c.next-in-loop-word.ensures.steps (search rules)

pub loop-word-preserved : goal.loop-word-preserved
loop-word-preserved c =
    let i = c.loop-word.invariant in
    let pushed : c.try_push.new.self.items ≡ c.loop-word.numbers.items ++ c.in-Some-read_number.value ∷ [] = search rules in
    record {
      named = i.named;
      gathered = rw (length_push c.loop-word.yielded c.in-Some-word.word, pushed) (more-gathered i.named _ _ c.loop-word.yielded_by i.gathered _ _ _ c.in-Some-word.is c.next-in-loop-word.ensures.steps _ (search rules));
    }

pub returns-then-is_err : goal.returns-then-is_err
returns-then-is_err c =
    let i = c.loop-word.invariant in
    too_many_numbers i.named _ _ c.loop-word.yielded_by i.gathered _ _ _ c.in-Some-word.is c.next-in-loop-word.ensures.steps c.in-Some-read_number.value (search rules) (search rules)

pub returns : goal.returns
returns c =
    let i = c.loop-word.invariant in
    rw c.as_slice.ensures.value at c.command_by.ensures
    ∙ sym (ended i.named _ _ c.loop-word.yielded_by i.gathered _ _ c.in-None.is c.next-in-loop-word.ensures.steps)
