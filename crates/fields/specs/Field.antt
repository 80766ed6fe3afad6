-- A packed field. Bytes are read as one row of bits, the most significant bit of each byte first.
-- The field of w bits from bit `at` on is a part of that row, wherever bytes end, and holds the number that the part writes.
-- Assumes nothing.
use Rattle.std.specs.Prelude.{ℕ, zero, suc, ◌+◌, ◌*◌, ◌/◌, ◌%◌, ◌^◌, ◌<◌, Bool, true, false, List, [], ◌∷◌, ◌++◌, length, take, drop, get_or, eqb}

-- the number that one bit writes
abbrev pub bit : Bool → ℕ
bit false = 0
bit true = 1

-- the number that a row of bits writes, the most significant bit first
unfoldable pub value : List Bool → ℕ
value [] = 0
value (d ∷ ds) = bit d * 2 ^ length ds + value ds

-- the row of the w low bits of n, the most significant bit first
unfoldable pub bits_of : ℕ → ℕ → List Bool
bits_of zero n = []
bits_of (suc w) n = eqb (n / 2 ^ w % 2) 1 ∷ bits_of w n

-- the row of the bits of bytes, eight of each
unfoldable pub bits : List ℕ → List Bool
bits [] = []
bits (x ∷ xs) = bits_of 8 x ++ bits xs

-- the n bytes that a row writes, each by eight bits
unfoldable pub bytes_of_bits : ℕ → List Bool → List ℕ
bytes_of_bits zero l = []
bytes_of_bits (suc n) l = value (take 8 l) ∷ bytes_of_bits n (drop 8 l)

-- what the field of w bits from bit `at` on holds in the bytes b
unfoldable pub field_at : List ℕ → ℕ → ℕ → ℕ
field_at b at w = value (take w (drop at (bits b)))

-- the bytes b with v in the field of w bits from bit `at` on, and every other bit as it was
unfoldable pub set_field : List ℕ → ℕ → ℕ → ℕ → List ℕ
set_field b at w v = bytes_of_bits (length b) (take at (bits b) ++ (bits_of w v ++ drop (at + w) (bits b)))

-- each number of the list is a byte
abbrev pub AreBytes : List ℕ → Type 0
AreBytes b = (i : ℕ) → get_or b i 0 < 256
