-- `get_window` meets its contract: the field is extracted from the number that the eight bytes write.
use mathlib.Core.Path.{◌∙◌}
use Prim.Native.Nat.{◌+◌, ◌-◌}
use native.Mathlib.Omega.{arith}
use Rattle.fields.proofs.Windows.{part_lt, got-window}
use Rattle.fields.proofs.get_window.Goals as goal

pub of_word-requires : goal.of_word-requires
of_word-requires g c = part_lt _ _ _ _ c.extract.ensures c.requires.1.0

pub returns : goal.returns
returns g c =
    let first = c.args.first in
    c.of_word.ensures
    ∙ got-window _ _ _ first (first + 8 - first) _ _ _ c.load_eight-word.ensures c.extract.ensures (omega arith) (omega arith) (omega arith)
