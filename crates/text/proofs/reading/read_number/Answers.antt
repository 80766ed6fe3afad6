-- `read_number` meets its contract: a sign or a leading zero is none of a number's, and of any other word the library reads the number.
use Rattle.std.proofs.Common.{rules}
use Rattle.text.proofs.WordNumbers.{sign-none, zero-none, read_as}
use Rattle.text.proofs.reading.read_number.Goals as goal
use Rattle.text.proofs.reading.read_number.Goals.{then-starts_with-via-then-starts_with, then-starts_with-via-else-starts_with+then-has_leading_zero}

pub returns-then-starts_with : goal.returns-then-starts_with
returns-then-starts_with c =
    elim c.then-starts_with.branch [
      | then-starts_with-via-then-starts_with w ↦ search (rules, sign-none)
      | then-starts_with-via-else-starts_with+then-has_leading_zero w ↦ search (rules, zero-none)
    ]

pub returns : goal.returns
returns c = search (rules, read_as)
