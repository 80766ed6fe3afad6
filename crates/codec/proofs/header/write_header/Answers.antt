-- `write_header` writes the header's three numbers.
use Rattle.records.specs.Pack.{size}
use Rattle.codec.proofs.WholeSlots.{header-widths}
use borrow.Author.Rules.{rules}
use Rattle.codec.proofs.header.write_header.Goals as goal

pub put_all-requires : goal.put_all-requires
unfolding size
put_all-requires c = record { widths = header-widths; room = search rules; values = search rules }

pub returns : goal.returns
unfolding size
returns c = search rules
