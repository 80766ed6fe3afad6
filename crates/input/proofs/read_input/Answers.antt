-- What a read puts after the start of the buffer follows what the reader gave before.
use Rattle.std.proofs.Common.{◌≡◌, ℕ, ◌+◌, ◌≤◌, List, ◌++◌, rules, arith, length, take, subst}
use Rattle.std.proofs.KnownBytes.{Consumes-trans}
use Rattle.std.proofs.lemmas.Grind.{common_steps}
use Rattle.std.specs.declared.option.Option.{Option}
use Rattle.std.specs.Io.KnownBytes.{Consumes}
use borrow.Rule.Slice.PartMut.{put_mid}
use lib.Seq.{take-add}
use Rattle.input.proofs.read_input.Goals as goal

-- what two reads gave, where the second put its bytes over the part from a on
Consumes-put_mid : (first second third : Option (List ℕ)) (a k n : ℕ) (xs ys : List ℕ) → a ≤ length xs → n ≤ length ys
    → Consumes first second (take a xs) → Consumes second third (take n ys) → Consumes first third (take (a + n) (put_mid a k xs ys))
Consumes-put_mid first second third a k n xs ys within fits before more =
    let joined : take a xs ++ take n ys ≡ take (a + n) (put_mid a k xs ys) = grind (arith, common_steps, take-add) in
    subst (Consumes first third) joined (Consumes-trans _ _ _ _ _ before more)

pub loop-length-preserved : goal.loop-length-preserved
loop-length-preserved g c = search (rules, Consumes-put_mid)
