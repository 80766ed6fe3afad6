-- `write_unreadable` writes the refusal by number 1, in 10 bytes.
use mathlib.Core.Path.{◌≡◌, refl, ap, ◌∙◌}
use native.Mathlib.Omega.{arith}
use Rattle.model.specs.Calls.{reply_without_numbers}
use Rattle.text.specs.Lines.{line_text}
use Rattle.text.proofs.LineRoom.{refused-room}
use Rattle.text.proofs.Writes.{wrote-same}
use Rattle.session.proofs.write_unreadable.Goals as goal

pub write_line-requires : goal.write_line-requires
write_line-requires c = rw (c.reply_without_numbers.ensures ∙ ap reply_without_numbers c.from.ensures) (omega arith, omega (arith, refused-room 0 1 (omega arith) (omega arith)))

pub returns : goal.returns
returns c =
    let said : c.reply_without_numbers.result ≡ reply_without_numbers 1 = c.reply_without_numbers.ensures ∙ ap reply_without_numbers c.from.ensures in
    record {
      wrote = wrote-same c.write_line.ensures.wrote refl (ap line_text said);
      within = let h = rw said at c.write_line.ensures.within in omega (arith, h, refused-room 0 1 (omega arith) (omega arith));
    }
