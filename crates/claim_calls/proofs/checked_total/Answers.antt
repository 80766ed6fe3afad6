-- `checked_total` answers the sum, and by the header what is unclaimed.
use Rattle.signed.proofs.SignedDifferences.{signed-read}
use Rattle.claim_calls.proofs.CallAnswers.{claimed-fits, sum_low, claimed-low, total-answered}
use Rattle.claim_calls.proofs.checked_total.Goals as goal

pub overflow_mul-claimed : goal.overflow_mul-claimed
overflow_mul-claimed c = record { fits = search claimed-fits }

pub difference-requires : goal.difference-requires
difference-requires c = search (sum_low, claimed-low)

pub returns : goal.returns
returns c = let unclaimed = signed-read _ _ (record { sfits = c.difference.type_inv }) c.difference.ensures in search total-answered
