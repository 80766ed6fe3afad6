-- What the program owes of its input and output, where their bytes are known. Assumes nothing.
use Rattle.std.specs.Prelude.{List, ℕ, take, IfSome, Result, Ok, Err}
use Rattle.std.specs.Io.KnownBytes.{Appends, Keeps}
use Rattle.std.specs.declared.option.Option.{Option}
use Rattle.session.specs.Transcript.{transcript}
use Rattle.ebds.specs.declared.Failure.{Failure}
use Rattle.ebds.specs.declared.Failure.TheVariants.{Reading, Writing}

-- a start of the text is written, and nothing else
abbrev pub AppendsStart : (before after : Option (List ℕ)) → List ℕ → Type 0
AppendsStart before after text = (count : ℕ) × Appends before after (take count text)

-- all of the input's transcript is written; of an input that can't be read to its end nothing is; where a write fails, a start of the transcript
abbrev pub PrintsTranscript : {A : Type 0} → (input before after : Option (List ℕ)) → Result A Failure → Type 0
PrintsTranscript input before after (Ok x) = IfSome input (λ bytes. Appends before after (transcript bytes))
PrintsTranscript input before after (Err (Reading e)) = Keeps before after
PrintsTranscript input before after (Err (Writing e)) = IfSome input (λ bytes. AppendsStart before after (transcript bytes))
