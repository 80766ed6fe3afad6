-- `territory` is the header's first number.
use Rattle.fields.specs.Fields.{fields}
use Rattle.records.specs.Pack.{unpack}
use Rattle.layout.specs.Layout.{territory_in}
use Rattle.codec.proofs.header.territory.Goals as goal

pub returns : goal.returns
unfolding territory_in unpack fields
returns c = c.get.ensures
