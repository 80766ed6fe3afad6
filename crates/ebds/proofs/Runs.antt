-- What is read of an input has the transcript of the whole, and so `run` prints what it owes. Assumes nothing.
use Rattle.std.proofs.Common.{◌≡◌, ℕ, ◌<◌, ◌⊎◌, inl, inr, List, [], ◌++◌, length, take, None, Some, IfSome, Result, Ok, Err, OnOk, OnErr, MatchResult, refl, sym, ap, ◌∙◌, subst, arith, append-nil, length-append, take_all}
use Rattle.std.proofs.lemmas.Bool.{lt-ltb, cases_lt}
use Rattle.std.specs.declared.option.Option.{Option}
use Rattle.std.specs.declared.io.Error.{Error}
use Rattle.std.specs.Io.KnownBytes.{Appends}
use Rattle.std.specs.Result.{IsErrAnd}
use Rattle.input.specs.Reading.{ReadInOrder}
use Rattle.session.specs.Replies.{initial}
use Rattle.session.specs.Transcript.{most_input, input_commands, transcript, printed, exchanges}
use Rattle.ebds.specs.Run.{AppendsStart, PrintsTranscript}
use Rattle.ebds.specs.declared.Failure.{Failure}
use Rattle.ebds.specs.declared.Failure.TheVariants.{Writing}

-- inputs that are both longer than the program reads
longer_inputs : (a b : List ℕ) → most_input < length a → most_input < length b → input_commands a ≡ input_commands b
unfolding input_commands
longer_inputs a b h k = rw (lt-ltb _ _ h) (rw (lt-ltb _ _ k) refl)

-- the transcript of an input is that of its start, where the start is longer than the program reads or nothing is left
transcript-front : (bytes left : List ℕ) → (most_input < length bytes) ⊎ (left ≡ []) → transcript (bytes ++ left) ≡ transcript bytes
unfolding transcript
transcript-front bytes left (inl h) = ap (λ cs. printed (exchanges initial cs)) (longer_inputs (bytes ++ left) bytes (omega (arith, length-append bytes left)) h)
transcript-front bytes left (inr e) = ap transcript (ap (λ l. bytes ++ l) e ∙ append-nil bytes)

-- a buffer that has room for a longer input is full, or nothing is left
full_or_end : (left buffer : List ℕ) (count : ℕ) → most_input < length buffer → (count < length buffer → left ≡ []) → (most_input < length (take count buffer)) ⊎ (left ≡ [])
full_or_end left buffer count more end = elim (cases_lt count (length buffer)) [
  | inl h ↦ inr (end h)
  | inr k ↦ inl (subst (λ l. most_input < length l) (sym (take_all count buffer k)) more)
]

-- what holds of the transcript of what was read holds of the input's
transcript_read : (before after : Option (List ℕ)) (buffer : List ℕ) (count : ℕ) (P : List ℕ → Type 0) → most_input < length buffer
    → ReadInOrder {E = Error} before after buffer (Ok count) → P (transcript (take count buffer)) → IfSome before (λ bytes. P (transcript bytes))
transcript_read None after buffer count P more order h = tt
transcript_read (Some bytes) None buffer count P more order h = absurd order.0
transcript_read (Some bytes) (Some left) buffer count P more order h =
    subst P (sym (ap transcript order.0 ∙ transcript-front (take count buffer) left (full_or_end left buffer count more order.1))) h

-- what `run` owes, where it wrote all of the transcript of what it read, or a start of it
pub PrintsTranscript-read : {A : Type 0} (before after old new : Option (List ℕ)) (buffer : List ℕ) (count : ℕ) (written : Result A Error) (result : Result A Failure)
    → most_input < length buffer → ReadInOrder {E = Error} before after buffer (Ok count)
    → OnOk written (Appends old new (transcript (take count buffer))) → OnErr written (AppendsStart old new (transcript (take count buffer)))
    → MatchResult written (λ x. result ≡ Ok x) (λ e. IsErrAnd result (λ f. f ≡ Writing e)) → PrintsTranscript before old new result
PrintsTranscript-read before after old new buffer count (Ok x) result room order all start cases =
    rw cases (transcript_read before after buffer count (Appends old new) room order all)
PrintsTranscript-read before after old new buffer count (Err e) (Ok x) room order all start cases = absurd cases
PrintsTranscript-read before after old new buffer count (Err e) (Err f) room order all start cases =
    rw cases (transcript_read before after buffer count (AppendsStart old new) room order start)
