-- A record of whole bytes, given by the list of its fields' widths in bits. Assumes nothing.
use Rattle.std.specs.Prelude.{◌≡◌, List, [], ◌∷◌, ◌++◌, ℕ, zero, suc, ◌*◌, ◌/◌, take, drop}
use Rattle.fields.specs.Field.{bytes_of_bits}
use Rattle.fields.specs.Fields.{sum, fields, field_bits}

-- how many bytes the record takes
unfoldable pub size : List ℕ → ℕ
size ws = sum ws / 8

-- its fields end where a byte ends
abbrev pub WholeBytes : List ℕ → Type 0
WholeBytes ws = sum ws ≡ 8 * size ws

-- the record's bytes, by the values of its fields
unfoldable pub pack : List ℕ → List ℕ → List ℕ
pack ws vs = bytes_of_bits (size ws) (field_bits ws vs)

-- the values of the fields of the record that b begins with
unfoldable pub unpack : List ℕ → List ℕ → List ℕ
unpack ws b = fields b 0 ws

-- the first n parts of k bytes each
unfoldable pub cut : ℕ → ℕ → List ℕ → List (List ℕ)
cut k zero b = []
cut k (suc n) b = take k b ∷ cut k n (drop k b)

-- the bytes of parts, one after the other
unfoldable pub join : List (List ℕ) → List ℕ
join [] = []
join (p ∷ ps) = p ++ join ps
