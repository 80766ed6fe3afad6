-- `line_text` meets its contract: `ok` and the numbers, or `refused` and the number, and the line feed, each in its room.
use Rattle.std.proofs.Common.{ℕ, List, [], ◌∷◌, ◌++◌, ap, ◌∙◌, arith, rules}
use Rattle.text.specs.Bytes.{ascii}
use Rattle.text.proofs.LineTexts.{one-more-number, AreWords, ok-words, refused-words}
use Rattle.text.proofs.writing.line_text.Goals as goal
use Rattle.text.proofs.writing.line_text.Goals.{then-reply-eq0+else-loop-number-test, else-reply-eq0}

pub loop-number-preserved : goal.loop-number-preserved
loop-number-preserved c =
    let i = c.loop-number.invariant in
    record {
      text = one-more-number _ _ (search rules) (search rules) (ascii "ok") i.text c.push_str-in-loop-number.ensures.bytes c.format.ensures.text c.push_str-in-loop-number-2.ensures.bytes;
      room = omega (arith, i.room, c.push_str-in-loop-number.ensures.len, c.push_str-in-loop-number-2.ensures.len, c.format.ensures.fits);
    }

pub returns : goal.returns
returns c =
    let words : AreWords c.args.reply c.if-reply-eq0.line.bytes =
    elim c.if-reply-eq0.branch [
      | then-reply-eq0+else-loop-number-test w ↦ rw w.line-is (let i = w.loop-number.invariant in ok-words _ _ w.if-reply-eq0.true _ w.loop-number-test.false (search rules) i.text i.room)
      | else-reply-eq0 w ↦ rw w.line-is (refused-words _ _ w.if-reply-eq0.false (search rules) (search rules))
    ]
    in
    record {
      text = c.push_str-2.ensures.bytes ∙ ap (λ (t : List ℕ). t ++ 10 ∷ []) words.text;
      within = omega (arith, c.push_str-2.ensures.len, words.room);
    }
