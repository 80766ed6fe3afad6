-- Adjacent packed fields, given by the list of their widths in bits. Assumes nothing.
use Rattle.std.specs.Prelude.{ℕ, ◌+◌, ◌^◌, ◌<◌, Bool, List, [], ◌∷◌, ◌++◌}
use Rattle.fields.specs.Field.{bits_of, field_at, set_field}

-- how many bits fields of the widths ws take
abbrev pub sum : List ℕ → ℕ
sum [] = 0
sum (w ∷ ws) = w + sum ws

-- what the fields of the widths ws hold in the bytes b, the first from bit `at` on
unfoldable pub fields : List ℕ → ℕ → List ℕ → List ℕ
fields b at [] = []
fields b at (w ∷ ws) = field_at b at w ∷ fields b (at + w) ws

-- the bytes b with the values vs in these fields
unfoldable pub set_fields : List ℕ → ℕ → List ℕ → List ℕ → List ℕ
set_fields b at [] vs = b
set_fields b at (w ∷ ws) [] = b
set_fields b at (w ∷ ws) (v ∷ vs) = set_fields (set_field b at w v) (at + w) ws vs

-- the row of the bits of the values vs, each in its width
unfoldable pub field_bits : List ℕ → List ℕ → List Bool
field_bits [] vs = []
field_bits (w ∷ ws) [] = []
field_bits (w ∷ ws) (v ∷ vs) = bits_of w v ++ field_bits ws vs

-- there is a value for each width, and it has no more bits than that
abbrev pub Fit : List ℕ → List ℕ → Type 0
Fit [] [] = Unit
Fit [] (v ∷ vs) = ⊥
Fit (w ∷ ws) [] = ⊥
Fit (w ∷ ws) (v ∷ vs) = (v < 2 ^ w) × Fit ws vs
