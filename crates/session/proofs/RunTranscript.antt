-- The paper's run: its commands are read, its calls are answered as the model answers them, and the answers are printed. Assumes nothing.
use Rattle.std.specs.Prelude.{Result, Ok}
use mathlib.Core.Path.{◌≡◌, refl, ap, ◌∙◌}
use mathlib.Core.List.{List, [], ◌∷◌, ◌++◌, map}
use Prim.Native.Nat.{ℕ}
use native.Mathlib.Omega.{arith}
use Rattle.text.specs.declared.reading.Command.{Command}
use Rattle.model.specs.declared.Reply.{Reply}
use Rattle.text.specs.Pieces.{pieces, same_text}
use Rattle.text.specs.Numbers.{digits_by, digits, decimal_value, number_of, numbers_of}
use Rattle.text.specs.Commands.{form_named, command_of}
use Rattle.text.specs.Lines.{line_text}
use Rattle.model.specs.Calls.{reply_of, CallWithBook, ◌with◌}
use Rattle.model.specs.History.{answers_to, ledger_machine}
use Rattle.model.specs.Run.{zero_book, run_calls, run_answers}
use Rattle.model.proofs.Refinement.{same-answers}
use Rattle.model.proofs.Run.{the-run}
use Rattle.layout.specs.Present.{rules, machine}
use Rattle.layout.proofs.Present.{machine-refines}
use Rattle.session.specs.Replies.{initial}
use Rattle.session.specs.Transcript.{commands_of_pieces, commands_of, input_commands, exchanges, printed, transcript}
use Rattle.session.specs.RunTranscript.{run_input, run_output, TheRunIsPrinted}
use Rattle.session.specs.SessionBalance.{empty_log, log_command, log_of}
use Rattle.session.proofs.SessionBalance.{log-answers}

on_ledger : CallWithBook → Result Command ℕ
on_ledger (call with book) = Ok (Command.OnLedger call)

run_commands : List (Result Command ℕ)
run_commands = map on_ledger run_calls

run-read : input_commands run_input ≡ run_commands
unfolding run_input run_commands run_calls on_ledger input_commands commands_of commands_of_pieces command_of pieces same_text decimal_value number_of numbers_of form_named
run-read = refl

-- the text of lines
lines_text : List Reply → List ℕ
lines_text [] = []
lines_text (line ∷ lines) = line_text line ++ lines_text lines

-- all lines of the run are lines of its history
run-lines : printed (exchanges initial run_commands) ≡ lines_text (log_of run_commands).replies
unfolding run_commands run_calls on_ledger lines_text printed log_of log_command empty_log
run-lines = refl

run-answers : (log_of run_commands).replies ≡ map reply_of (answers_to machine 0 run_calls)
unfolding run_commands run_calls on_ledger zero_book log_of log_command empty_log
run-answers = log-answers run_commands

model-answers : answers_to machine 0 run_calls ≡ run_answers
model-answers =
    same-answers machine (ledger_machine rules) machine-refines 0 (omega arith) run_calls
    ∙ the-run

run-text : lines_text (map reply_of run_answers) ≡ run_output
unfolding run_answers run_output lines_text digits digits_by
run-text = refl

pub the_run_is_printed : TheRunIsPrinted
unfolding transcript
the_run_is_printed =
    ap (λ (cs : List (Result Command ℕ)). printed (exchanges initial cs)) run-read
    ∙ run-lines
    ∙ ap lines_text (run-answers ∙ ap (map reply_of) model-answers)
    ∙ run-text
