-- `put_amount` writes one field of the slot.
use Rattle.codec.proofs.AmountWritten.{amount-written}
use Rattle.codec.proofs.rows.put_amount.Goals as goal

pub returns : goal.returns
returns c = search amount-written
