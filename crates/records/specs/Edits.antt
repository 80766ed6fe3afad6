-- What the functions of this crate leave of bytes: a record put in, taken out, written over, and a part of the bytes edited.
-- Assumes nothing.
use Rattle.std.specs.Prelude.{Bool, List, ◌++◌, ℕ, ◌+◌, ◌-◌, length, take, drop, replicate}
use Rattle.records.specs.Slots.{all_zero}

-- the bytes `new` go in at byte `at`; what stood from there on moves up by their length, and as many bytes at the end are lost
unfoldable pub insert_at : ℕ → List ℕ → List ℕ → List ℕ
insert_at at new b = take at b ++ (new ++ take (length b - length new - at) (drop at b))

-- n bytes from byte `at` on go; what stood after them moves down by n, and n zeros come at the end
unfoldable pub remove_at : ℕ → ℕ → List ℕ → List ℕ
remove_at at n b = take at b ++ (drop (at + n) b ++ replicate n 0)

-- the bytes `new` are written over those from byte `at` on
unfoldable pub replace_at : ℕ → List ℕ → List ℕ → List ℕ
replace_at at new b = take at b ++ (new ++ drop (at + length new) b)

-- n bytes from byte `at` on are zero
unfoldable pub zero_at : ℕ → ℕ → List ℕ → Bool
zero_at at n b = all_zero (take n (drop at b))

-- the bytes from `from` up to `to` are edited, and no other
unfoldable pub on_part : ℕ → ℕ → (List ℕ → List ℕ) → List ℕ → List ℕ
on_part from to f b = take from b ++ (f (take (to - from) (drop from b)) ++ drop to b)
