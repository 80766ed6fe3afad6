-- `claims` is the header's second number.
use Rattle.fields.specs.Fields.{fields}
use Rattle.records.specs.Pack.{unpack}
use Rattle.layout.specs.Layout.{claims_in}
use Rattle.codec.proofs.header.claims.Goals as goal

pub returns : goal.returns
unfolding claims_in unpack fields
returns c = c.get.ensures
