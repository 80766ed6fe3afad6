-- Widths of fields that are written at once, and values that can be written. Assumes nothing.
use Rattle.std.specs.Prelude.{◌≡◌, true, ◌&&◌, List, map, ℕ, ◌^◌, ◌≤◌, ◌<◌, leb, length}
use Rattle.basics.specs.Tests.{every}
use Rattle.fields.specs.Fields.{sum, Fit}
use Rattle.records.specs.Pack.{size, WholeBytes}

-- each width is 1 to 57 bits; together they are whole bytes, and as many bits as can be counted
pub record WidthsOk (ws : List ℕ) : Type 0 where
  pub each : every (map (λ w. leb 1 w && leb w 57) ws) ≡ true
  pub aligned : WholeBytes ws
  pub short : sum ws < 2 ^ 64

-- the values fit the widths, and the record of the values has room in the bytes s
pub record Writable (s ws vs : List ℕ) : Type 0 where
  pub widths : WidthsOk ws
  pub room : size ws ≤ length s
  pub values : Fit ws vs
