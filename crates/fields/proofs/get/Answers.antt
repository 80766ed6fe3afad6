-- `get` meets its contract: a shorter slice is a window of its own, and else `get_window` has the field.
use mathlib.Core.Path.{◌∙◌}
use native.Mathlib.Omega.{arith}
use Rattle.fields.proofs.Windows.{part_lt, got-whole}
use Rattle.fields.proofs.get.Goals as goal

pub of_word-requires : goal.of_word-requires
of_word-requires g c = part_lt _ _ _ _ c.extract.ensures c.requires.1.0

pub returns-then-n-lt8 : goal.returns-then-n-lt8
returns-then-n-lt8 g c = c.of_word.ensures ∙ got-whole _ _ _ _ _ _ c.load.ensures c.extract.ensures (omega arith)
