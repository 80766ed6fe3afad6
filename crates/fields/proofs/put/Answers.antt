-- `put` meets its contract: a shorter slice is a window of its own, and else `put_window` puts the field.
use native.Mathlib.Omega.{arith}
use Rattle.fields.proofs.Windows.{put-whole}
use Rattle.fields.proofs.put.Goals as goal

pub returns-then-n-lt8 : goal.returns-then-n-lt8
returns-then-n-lt8 c = put-whole _ _ _ _ _ _ _ _ c.load.ensures c.insert-x.ensures c.store.ensures (omega arith) c.requires.1.1.1
