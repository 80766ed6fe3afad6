-- The lines that are printed, how much room each takes at most, and what it is to write a text into a buffer. Assumes nothing.
use Rattle.std.specs.Prelude.{◌≡◌, cond, List, [], ◌∷◌, ◌++◌, ℕ, ◌+◌, ◌*◌, ◌≤◌, eqb, ℤ, length, take, drop}
use Rattle.std.specs.List.{flat_map}
use Rattle.model.specs.declared.Reply.{Reply}
use Rattle.model.specs.Calls.{answer_numbers}
use Rattle.text.specs.Bytes.{ascii, space, line_feed}
use Rattle.text.specs.Numbers.{digits, integer_text}

-- a space and a number
abbrev pub spaced_number : ℤ → List ℕ
spaced_number z = space ∷ integer_text z

-- numbers, a space before each
abbrev pub numbers_text : List ℤ → List ℕ
numbers_text = flat_map spaced_number

-- a line without its line feed: `ok` with the answer's numbers, or `refused` and the number, single spaces between
abbrev pub words_text : Reply → List ℕ
words_text t = cond (eqb t.refused 0) (ascii "ok" ++ numbers_text (take t.count t.numbers)) (ascii "refused " ++ digits t.refused)

-- the line
abbrev pub line_text : Reply → List ℕ
line_text t = words_text t ++ (line_feed ∷ [])

-- a space and a number of 64 bits take at most this many bytes
abbrev pub number_room : ℕ
number_room = 21

-- how many bytes a line takes at most without its line feed
abbrev pub words_room : Reply → ℕ
words_room t = cond (eqb t.refused 0) (2 + number_room * t.count) (8 + length (digits t.refused))

-- how many bytes the line takes at most
abbrev pub line_room : Reply → ℕ
line_room t = words_room t + 1

-- no line takes more: `ok`, the numbers and the line feed
abbrev pub longest_line : ℕ
longest_line = 2 + number_room * answer_numbers + 1

-- a buffer was `before` and is `after`: from `at` to `end` it holds the text, and the rest is as it was
pub record Wrote (before after : List ℕ) (at end : ℕ) (text : List ℕ) : Type 0 where
  pub reached : end ≡ at + length text
  pub front : take end after ≡ take at before ++ text
  pub rest : drop end after ≡ drop end before

-- the same, and the text takes no more than the room
pub record WroteWithin (room : ℕ) (before after : List ℕ) (at end : ℕ) (text : List ℕ) : Type 0 where
  pub wrote : Wrote before after at end text
  pub within : end ≤ at + room
