-- `pence` is the header's third number.
use Rattle.fields.specs.Fields.{fields}
use Rattle.records.specs.Pack.{unpack}
use Rattle.layout.specs.Layout.{pence_in}
use Rattle.codec.proofs.header.pence.Goals as goal

pub returns : goal.returns
unfolding pence_in unpack fields
returns c = c.get.ensures
