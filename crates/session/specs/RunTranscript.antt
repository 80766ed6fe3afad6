-- Document 01, "The program and one run", with both shares given as 0: the run's input, and what is printed of it. Assumes nothing.
use Rattle.std.specs.Prelude.{◌≡◌, List, ℕ}
use Rattle.text.specs.Bytes.{ascii}
use Rattle.session.specs.Transcript.{transcript}

unfoldable pub run_input : List ℕ
run_input = ascii "open 0 0 2 0 0\nbill 0 486 515 1000 67030 31980 0 0\nclaim\ncert 0 1 486\nclaim\nrebill 0 486 515 901 67030 31980 0 0\nclaim\ncancel 0 486\ntotal\nbill 64 486 515 1 1 1 0 0\n"

unfoldable pub run_output : List ℕ
run_output = ascii "ok\nok 31980 17800 17800000\nok 1780 0\nok 49840000 1\nok 4984 0\nok 31980 67640 -6696360\nok -670 3640\nok -60943640\nok 0 -60940000\nrefused 4\n"

abbrev pub TheRunIsPrinted : Type 0
TheRunIsPrinted = transcript run_input ≡ run_output
