-- A text in pieces: a session in lines, a line in words. Assumes nothing.
use Rattle.std.specs.Prelude.{Bool, List, ℕ, ◌==◌}
use Rattle.std.specs.List.{slice_split}
use Rattle.std.specs.Str.{bytes_eq}

-- what stands between the separators: one piece more than there are separators
unfoldable pub pieces : ℕ → List ℕ → List (List ℕ)
pieces separator = slice_split (λ b. b == separator)

-- two texts are the same
unfoldable pub same_text : List ℕ → List ℕ → Bool
same_text = bytes_eq
