-- `fresh` writes the header of a fresh ledger over zeros.
use mathlib.Core.Path.{sym, ap, ◌∙◌}
use mathlib.Core.List.{[], ◌∷◌}
use Prim.Native.Nat.{ℕ}
use lib.ListN.{replicate}
use Rattle.records.specs.Pack.{pack}
use Rattle.records.specs.Edits.{replace_at}
use Rattle.layout.specs.Present.{layout}
use Rattle.edits.proofs.PackedChanges.{fresh_ledger}
use Rattle.edits.proofs.fresh.Goals as goal

pub returns : goal.returns
returns c =
    let t = c.args.territory in
    c.write_header.ensures
    ∙ ap (replace_at 0 (pack layout.header (t ∷ 0 ∷ 0 ∷ []))) (c.clear.ensures ∙ ap (λ (n : ℕ). replicate n 0) c.told-b)
    ∙ sym (fresh_ledger t)
