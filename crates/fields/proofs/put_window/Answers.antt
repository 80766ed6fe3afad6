-- `put_window` meets its contract: v is inserted in the number that the eight bytes write, and the bytes of that are stored.
use native.Mathlib.Omega.{arith}
use Rattle.fields.proofs.Windows.{put-window}
use Rattle.fields.proofs.put_window.Goals as goal

pub returns : goal.returns
returns c =
    put-window _ _ _ _ _ _ _ _ _ _ c.load_eight.ensures c.insert-x.ensures c.store_eight.ensures
    (omega arith) (omega arith) (omega arith) c.requires.1.1.1.1.1 (λ k. (c.type_inv.s k).fits)
