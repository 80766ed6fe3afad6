-- `is_full` counts the held rows.
use mathlib.Core.Path.{sym, ap}
use Prim.Native.Nat.{ℕ}
use lib.Dec.{leb}
use Rattle.limits.specs.Limits.{row_count}
use Rattle.bill_refusals.proofs.Requests.{held_all}
use Rattle.bill_refusals.proofs.is_full.Goals as goal

pub returns : goal.returns
returns c = sym (ap (λ (n : ℕ). leb row_count n) (held_all _ _ c.args.held.searched))
