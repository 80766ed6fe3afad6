-- `write_line` meets its contract: the line is copied to its place.
use Rattle.std.proofs.Common.{length, ap, ◌∙◌, arith, rules}
use Rattle.text.proofs.Writes.{copied-within}
use Rattle.text.proofs.writing.write_line.Goals as goal

pub returns : goal.returns
returns c =
    let line = c.line_text-line.ensures in
    let size = c.len.ensures.value ∙ ap length line.text in
    let copy = c.copy_from_slice.ensures.after ∙ c.as_bytes.ensures.value ∙ c.deref.ensures.0 ∙ line.text in
    copied-within _ _ _ size copy (search rules) (omega (arith, line.within))
