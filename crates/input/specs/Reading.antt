-- What reading an input owes: the count of its bytes is within the buffer, and they are the input's, in their order. Assumes nothing.
use Rattle.std.specs.Prelude.{ℕ, ◌≤◌, ◌<◌, List, length, take, Result, Ok, Err}
use Rattle.std.specs.Io.KnownBytes.{Consumes, IsAtEnd}
use Rattle.std.specs.declared.option.Option.{Option}

-- what was read is within a buffer of this length; where a read failed nothing is said
abbrev pub ReadWithin : {E : Type 0} → ℕ → Result ℕ E → Type 0
ReadWithin room (Ok count) = count ≤ room
ReadWithin room (Err e) = Unit {0}

-- of a reader whose bytes are known, before and after: it gave what stands at the start of the buffer, and all that it had where the
-- buffer isn't full; where a read failed, it gave what some start of the buffer holds
abbrev pub ReadInOrder : {E : Type 0} → (before after : Option (List ℕ)) → (buffer : List ℕ) → Result ℕ E → Type 0
ReadInOrder before after buffer (Ok count) = Consumes before after (take count buffer) × (count < length buffer → IsAtEnd after)
ReadInOrder before after buffer (Err e) = (count : ℕ) × Consumes before after (take count buffer)
