-- `named_row` gives the place of the row, or refusal 9 where there is none.
use mathlib.Core.Path.{ap, ◌∙◌}
use Rattle.refusals.specs.Numbers.{refusal_in}
use Rattle.bill_refusals.proofs.Requests.{named-refusal}
use Rattle.bill_refusals.proofs.named_row.Goals as goal

pub returns-clause-refused : goal.returns-clause-refused
returns-clause-refused c =
    ap refusal_in c.ok_or.ensures.value ∙ named-refusal _ _ c.args.held.searched _ _ c.place_named.result c.place_named.ensures.place c.place_named.ensures.inside
