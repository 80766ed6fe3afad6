-- What a line that can be read holds: a name of the table and its numbers, so that it is ASCII, long enough and not too long. Assumes nothing.
use Rattle.std.proofs.Common.{◌≡◌, ℕ, ◌*◌, ◌<◌, ◌≤◌, Bool, true, false, eqb, List, [], ◌∷◌, ◌++◌, length, Option, Some, None, refl, sym, ap, ◌∙◌, ◌⊎◌, inl, inr, arith, eqb-true, append-nil, length-append}
use Rattle.std.specs.List.{join_with_byte}
use Rattle.std.specs.Str.{IsAscii, IsUtf8}
use Rattle.std.proofs.lemmas.Bool.{eqb-false}
use Rattle.std.proofs.lemmas.List.Splits.{join_with_byte-slice_split}
use Rattle.std.proofs.lemmas.Str.{IsAscii-append, IsUtf8-from_ascii}
use Rattle.std.proofs.lemmas.Str.Ascii.{IsAscii-nil, IsAscii-cons}
use Rattle.text.specs.Bytes.{space}
use Rattle.text.specs.Pieces.{pieces}
use Rattle.text.specs.Numbers.{number_of, numbers_of, followed_by}
use Rattle.text.specs.Commands.{Form, forms, form_named, no_command, command_with, command_by, command_of_words, command_of, shortest_line}
use Rattle.text.proofs.WordNumbers.{number-word, number-IsAscii}
use Rattle.text.proofs.Commands.{wrong-count, longest_readable, KnownForm, known-form}

-- a name of the table, and as many numbers as its form takes
record Readable (s : List ℕ) : Type 0 where
  name : List ℕ
  words : List (List ℕ)
  form : Form
  numbers : List ℕ
  split : pieces space s ≡ name ∷ words
  called : form_named forms name ≡ Some form
  read : numbers_of words ≡ Some numbers
  count : length numbers ≡ form.count

module _ (s : List ℕ) where
  by_numbers : (name : List ℕ) (words : List (List ℕ)) → pieces space s ≡ name ∷ words → (f : Form) → form_named forms name ≡ Some f
      → (x : Option (List ℕ)) → numbers_of words ≡ x → (command_by (Some f) x ≡ no_command) ⊎ Readable s
  by_numbers name words e f k None q = inl refl
  by_numbers name words e f k (Some ns) q = go (eqb (length ns) f.count) refl
    where
      go : (t : Bool) → eqb (length ns) f.count ≡ t → (command_with f.count f.make ns ≡ no_command) ⊎ Readable s
      go true c = inr (record { name = name; words = words; form = f; numbers = ns; split = e; called = k; read = q; count = eqb-true (length ns) f.count c })
      go false c = inl (wrong-count f.count f.make ns (eqb-false (length ns) f.count c))

  by_name : (name : List ℕ) (words : List (List ℕ)) → pieces space s ≡ name ∷ words → (x : Option Form) → form_named forms name ≡ x → (command_by x (numbers_of words) ≡ no_command) ⊎ Readable s
  by_name name words e None k = inl refl
  by_name name words e (Some f) k = by_numbers name words e f k (numbers_of words) refl

  by_words : (ws : List (List ℕ)) → pieces space s ≡ ws → (command_of_words ws ≡ no_command) ⊎ Readable s
  by_words [] e = inl refl
  by_words (name ∷ words) e = by_name name words e (form_named forms name) refl

  -- a line can't be read, or holds what it must
  readable : (command_of s ≡ no_command) ⊎ Readable s
  unfolding command_of
  readable = by_words (pieces space s) refl

-- ---- the line of its words
with_spaces : List (List ℕ) → List ℕ
with_spaces [] = []
with_spaces (w ∷ ws) = space ∷ (w ++ with_spaces ws)

joined : (w : List ℕ) (ws : List (List ℕ)) → join_with_byte space (w ∷ ws) ≡ w ++ with_spaces ws
unfolding with_spaces
joined w [] = sym (append-nil w)
joined w (v ∷ ws) = ap (λ (t : List ℕ). w ++ (space ∷ t)) (joined v ws)

line-words : (s w : List ℕ) (ws : List (List ℕ)) → pieces space s ≡ w ∷ ws → s ≡ w ++ with_spaces ws
unfolding pieces
line-words s w ws e = sym (join_with_byte-slice_split space s) ∙ ap (join_with_byte space) e ∙ joined w ws

-- numbers are ASCII, and each has a digit, and ten at most
record Numbers (ws : List (List ℕ)) (ns : List ℕ) : Type 0 where
  ascii : IsAscii (with_spaces ws)
  long : 2 * length ns ≤ length (with_spaces ws)
  short : length (with_spaces ws) ≤ 11 * length ns

numbers-step : (w : List ℕ) (ws : List (List ℕ)) (x : Option ℕ) → number_of w ≡ x → (y : Option (List ℕ)) → ((ms : List ℕ) → y ≡ Some ms → Numbers ws ms)
    → (ns : List ℕ) → followed_by x y ≡ Some ns → Numbers (w ∷ ws) ns
unfolding with_spaces
numbers-step w ws None q y ih ns e = cc
numbers-step w ws (Some n) q None ih ns e = cc
numbers-step w ws (Some n) q (Some ms) ih ns e =
    let k : n ∷ ms ≡ ns = cc in
    let d = number-word w n q in
    let more = ih ms refl in
    record {
      ascii = IsAscii-cons space (w ++ with_spaces ws) (omega arith) (IsAscii-append w (with_spaces ws) (number-IsAscii d) more.ascii);
      long = omega (arith, ap length k, d.some, more.long, length-append w (with_spaces ws));
      short = omega (arith, ap length k, d.few, more.short, length-append w (with_spaces ws));
    }

numbers-read : (ws : List (List ℕ)) (ns : List ℕ) → numbers_of ws ≡ Some ns → Numbers ws ns
unfolding numbers_of with_spaces
numbers-read [] ns e = let q : [] ≡ ns = cc in record { ascii = IsAscii-nil; long = omega (arith, ap length q); short = omega arith }
numbers-read (w ∷ ws) ns e = numbers-step w ws (number_of w) refl (numbers_of ws) (numbers-read ws) ns e

module _ {s : List ℕ} (r : Readable s) where
  known : KnownForm r.name r.form
  known = known-form r.name r.form r.called

  counted : Numbers r.words r.numbers
  counted = numbers-read r.words r.numbers r.read

  readable-long : shortest_line ≤ length s
  readable-long =
      rw (line-words s r.name r.words r.split)
      (omega (arith, known.long, counted.long, r.count, length-append r.name (with_spaces r.words)))

  readable-short : length s ≤ longest_readable
  readable-short =
      rw (line-words s r.name r.words r.split)
      (omega (arith, known.short, counted.short, r.count, length-append r.name (with_spaces r.words)))

  readable-IsAscii : IsAscii s
  readable-IsAscii = rw (line-words s r.name r.words r.split) (IsAscii-append r.name (with_spaces r.words) known.ascii counted.ascii)

-- a line that can be read is long enough, and is text
pub no-shorter-line : (s : List ℕ) → (command_of s ≡ no_command) ⊎ (shortest_line ≤ length s)
no-shorter-line s = elim (readable s) [ inl e ↦ inl e | inr r ↦ inr (readable-long r) ]

-- a longer line than any that can be read
pub too-long : (s : List ℕ) → longest_readable < length s → no_command ≡ command_of s
too-long s n = elim (readable s) [ inl e ↦ sym e | inr r ↦ absurd (omega (arith, readable-short r)) ]

pub not-text : (s : List ℕ) → ¬ (IsUtf8 s) → no_command ≡ command_of s
not-text s n = elim (readable s) [ inl e ↦ sym e | inr r ↦ absurd (n (IsUtf8-from_ascii s (readable-IsAscii r))) ]
