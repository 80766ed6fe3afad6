-- What a write took follows what was written before it.
use Rattle.std.proofs.Common.{◌≡◌, ℕ, ◌-◌, ◌≤◌, List, ◌++◌, rules, arith, length, take, drop, subst}
use Rattle.std.proofs.KnownBytes.{Appends-trans}
use Rattle.std.proofs.lemmas.Grind.{common_steps}
use Rattle.std.specs.declared.option.Option.{Option}
use Rattle.std.specs.Io.KnownBytes.{Appends}
use lib.Seq.{take-add}
use Rattle.ebds.proofs.write_output.Goals as goal

-- what two writes appended, where the second took n bytes of the rest
Appends-rest : (first second third : Option (List ℕ)) (n : ℕ) (bytes rest : List ℕ) → n ≤ length rest → rest ≡ drop (length bytes - length rest) bytes
    → Appends first second (take (length bytes - length rest) bytes) → Appends second third (take n rest)
    → Appends first third (take (length bytes - length (take (length rest - n) (drop n rest))) bytes)
Appends-rest first second third n bytes rest fits left start more =
    let written = length bytes - length rest in
    let still_left = length (take (length rest - n) (drop n rest)) in
    let joined : take written bytes ++ take n rest ≡ take (length bytes - still_left) bytes = grind (arith, common_steps, take-add written n bytes) in
    subst (Appends first third) joined (Appends-trans _ _ _ _ _ start more)

pub loop-rest-preserved : goal.loop-rest-preserved
loop-rest-preserved g c = record { left = grind (arith, common_steps); start = search (rules, Appends-rest) }
