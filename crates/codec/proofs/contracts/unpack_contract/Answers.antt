-- `unpack_contract` makes the contract of the slot's numbers.
use mathlib.Core.Path.{ap, ◌∙◌}
use Rattle.model.specs.ContractNumbers.{contract_of_numbers}
use Rattle.records.specs.OneSlot.{record_in}
use Rattle.codec.proofs.contracts.unpack_contract.Goals as goal

pub returns : goal.returns
unfolding record_in
returns c = c.from.ensures ∙ ap contract_of_numbers c.numbers_in.ensures
