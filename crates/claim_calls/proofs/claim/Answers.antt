-- `claim` is turned down by the number of claims, or writes the header by the sum and the header that was there.
use Prim.Native.Nat.{◌<◌, ◌≤◌}
use native.Mathlib.Omega.{arith}
use lib.ListN.{length}
use Rattle.std.proofs.lemmas.Result.{err_from_is_err_and}
use Rattle.limits.specs.Limits.{most_claims}
use Rattle.layout.specs.Offsets.{first_contract}
use Rattle.signed.proofs.SignedDifferences.{signed-read}
use Rattle.claim_calls.proofs.CallAnswers.{claim-refused, header-fits, pence-due-low, pence-low, claim-answered}
use Rattle.claim_calls.proofs.claim.Goals as goal

pub returns-in_err-refuse_if : goal.returns-in_err-refuse_if
returns-in_err-refuse_if c =
    let p = err_from_is_err_and c.from_residual.result c.from_residual.ensures.1 in
    rw (p.1, p.2) (search (claim-refused, c.in_err-refuse_if.ensures))

pub write_header-requires : goal.write_header-requires
write_header-requires c =
    let low : c.claims-claims.result < most_claims = grind (arith, c.in_ok-refuse_if.ensures) in
    let there : first_contract ≤ length c.args.ledger.now = omega (arith, c.fits-ledger) in
    search (header-fits, low, there)

pub difference-requires : goal.difference-requires
difference-requires c = search (pence-due-low, pence-low)

pub returns : goal.returns
returns c = let change = signed-read _ _ (record { sfits = c.difference.type_inv }) c.difference.ensures in search (claim-answered, c.in_ok-refuse_if.ensures)
