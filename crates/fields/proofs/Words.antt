-- What `src/word.rt` computes: bits inserted by shifts and masks, bytes as a word, and a word as bytes.
use mathlib.Core.Path.{◌≡◌, refl, sym, ap, ap₂, ◌∙◌, subst}
use mathlib.Core.Bool.{Bool}
use mathlib.Core.List.{List, [], ◌∷◌}
use Prim.Native.Nat.{ℕ, zero, suc, ◌+◌, ◌-◌, ◌*◌, ◌/◌, ◌%◌, ◌^◌, ◌≤◌, ◌<◌}
use native.Mathlib.Nat.{add-zero, add-mul, mod-lt, mod-eq_of_lt, pow-suc, suc-add, zero-add, div-one}
use native.Mathlib.Omega.{arith}
use lib.ListN.{length, take, drop, get_or, length-drop, drop_of_length-le}
use lib.Seq.{take_at, drop_at, drop-cons, take_all}
use lib.Pow.{pow_pos, pow-add, split, shr_lt, shl_exact, shr_mod, ones_lt, ones_split, high_ones}
use lib.Bits.{bit_and, bit_or, and_mask, and_block, and_high, or_block, or_shifted, or_zero_r}
use mir.Syntax.{w64}
use Rattle.std.specs.Int.{from_be_bytes, to_be_bytes, to_le_bytes, swap_bytes, byte_at, bytes_low_first, bytes_high_first}
use Rattle.std.specs.List.{fold}
use Rattle.std.proofs.lemmas.Nat.{one_shl, be_bytes_8}
use Rattle.fields.specs.Field.{value, bits_of, bits, bytes_of_bits, AreBytes}
use Rattle.fields.proofs.Bits.{value-append, value-bits_of, length-bits_of, bits_of-add}
use Rattle.fields.proofs.Laws.{length-bits, length-bytes}

-- ---- shifts and masks: w bits with `below` bits below them

-- `!(mask << below)`, with `above` bits above the w
clear-mask : (above w below : ℕ) → (2 ^ (above + w + below) - 1) - (2 ^ w - 1) * 2 ^ below ≡ (2 ^ above - 1) * 2 ^ w * 2 ^ below + (2 ^ below - 1)
clear-mask above w below =
    let e : 2 ^ (above + w + below) - 1 ≡ (2 ^ above - 1) * 2 ^ w * 2 ^ below + (2 ^ w - 1) * 2 ^ below + (2 ^ below - 1) =
    ones_split (above + w) below ∙ ap (λ (k : ℕ). k * 2 ^ below + (2 ^ below - 1)) (ones_split above w)
    ∙ ap (λ (k : ℕ). k + (2 ^ below - 1)) (add-mul ((2 ^ above - 1) * 2 ^ w) (2 ^ w - 1) (2 ^ below)) in
    omega (arith, e)

-- `x & !(mask << below)`
cleared : (x above w below : ℕ) → x < 2 ^ (above + w + below)
    → bit_and x ((2 ^ above - 1) * 2 ^ w * 2 ^ below + (2 ^ below - 1)) ≡ x / 2 ^ below / 2 ^ w * 2 ^ w * 2 ^ below + x % 2 ^ below
cleared x above w below h =
    ap (λ (k : ℕ). bit_and k ((2 ^ above - 1) * 2 ^ w * 2 ^ below + (2 ^ below - 1))) (sym (split x below))
    ∙ and_block below (x / 2 ^ below) ((2 ^ above - 1) * 2 ^ w) (x % 2 ^ below) (2 ^ below - 1) (mod-lt x (pow_pos below)) (ones_lt below)
    ∙ ap₂ (λ (a b : ℕ). a * 2 ^ below + b)
    (ap (bit_and (x / 2 ^ below)) (sym (high_ones above w)) ∙ and_high (x / 2 ^ below) above w
    ∙ ap (λ (k : ℕ). k * 2 ^ w) (shr_mod above w (shr_lt (above + w) below h)))
    (and_mask (x % 2 ^ below) below ∙ mod-eq_of_lt (mod-lt x (pow_pos below)))

-- `y | (v << below)`, where y has zeros for the w bits
filled : (high low w below v : ℕ) → low < 2 ^ below → v < 2 ^ w
    → bit_or (high * 2 ^ w * 2 ^ below + low) (v * 2 ^ below) ≡ (high * 2 ^ w + v) * 2 ^ below + low
filled high low w below v hl hv =
    ap (bit_or (high * 2 ^ w * 2 ^ below + low)) (sym (add-zero (v * 2 ^ below)))
    ∙ or_block below (high * 2 ^ w) v low 0 hl (pow_pos below)
    ∙ ap₂ (λ (a b : ℕ). a * 2 ^ below + b) (or_shifted high w v hv) (or_zero_r low)

-- `(x & !(mask << below)) | (v << below)`
pub insert-law : (x below w v : ℕ) → x < 2 ^ 64 → w < 64 → below + w ≤ 64 → v < 2 ^ w
    → bit_or (bit_and x ((2 ^ 64 - 1) - ((1 * 2 ^ w) % 2 ^ 64 - 1) * 2 ^ below % 2 ^ 64)) (v * 2 ^ below % 2 ^ 64)
    ≡ (x / 2 ^ below / 2 ^ w * 2 ^ w + v) * 2 ^ below + x % 2 ^ below
insert-law x below w v hx hw hb hv =
    let above : ℕ = 64 - (below + w) in
    let e : above + w + below ≡ 64 = omega arith in
    let mask : ((1 * 2 ^ w) % 2 ^ 64 - 1) * 2 ^ below % 2 ^ 64 ≡ (2 ^ w - 1) * 2 ^ below =
    ap (λ (k : ℕ). (k - 1) * 2 ^ below % 2 ^ 64) (one_shl w 64 hw) ∙ shl_exact w below 64 (ones_lt w) (omega arith) in
    let clear : (2 ^ 64 - 1) - ((1 * 2 ^ w) % 2 ^ 64 - 1) * 2 ^ below % 2 ^ 64 ≡ (2 ^ above - 1) * 2 ^ w * 2 ^ below + (2 ^ below - 1) =
    ap₂ (λ (k m : ℕ). (2 ^ k - 1) - m) (sym e) mask ∙ clear-mask above w below in
    ap₂ bit_or (ap (bit_and x) clear ∙ cleared x above w below (subst (λ (k : ℕ). x < 2 ^ k) (sym e) hx)) (shl_exact w below 64 hv (omega arith))
    ∙ filled (x / 2 ^ below / 2 ^ w) (x % 2 ^ below) w below v (mod-lt x (pow_pos below)) hv

-- ---- bytes as a word

value_cons : (x : ℕ) (xs : List ℕ) → x < 2 ^ 8 → value (bits (x ∷ xs)) ≡ x * 2 ^ (8 * length xs) + value (bits xs)
unfolding bits
value_cons x xs h =
    value-append (bits_of 8 x) (bits xs)
    ∙ ap₂ (λ (v k : ℕ). v * 2 ^ k + value (bits xs)) (value-bits_of 8 x ∙ mod-eq_of_lt h) (length-bits xs)

value_none : value (bits []) ≡ 0
unfolding value bits
value_none = refl

-- `(x << 8) | y` shifts y in below x
shifted_in : (x n y : ℕ) → x < 2 ^ n → n + 8 ≤ 64 → y < 2 ^ 8 → (bit_or (x * 2 ^ 8 % 2 ^ 64) y ≡ x * 2 ^ 8 + y) × (x * 2 ^ 8 + y < 2 ^ (8 + n))
shifted_in x n y hx hn hy =
    (ap (λ (k : ℕ). bit_or k y) (shl_exact n 8 64 hx hn) ∙ or_shifted x 8 y hy, rw (pow-add 2 8 n) (omega arith))

-- each byte of s shifted in below x
all_shifted_in : (s : List ℕ) (x n : ℕ) → AreBytes s → x < 2 ^ n → n + 8 * length s ≤ 64
    → fold (λ (k y : ℕ). bit_or (k * 2 ^ 8 % 2 ^ 64) y) x s ≡ x * 2 ^ (8 * length s) + value (bits s)
all_shifted_in [] x n hs hx hn = omega (arith, value_none)
all_shifted_in (y ∷ ys) x n hs hx hn =
    let next = shifted_in x n y hx (omega arith) (hs 0) in
    let e : 2 ^ (8 * suc (length ys)) ≡ 2 ^ 8 * 2 ^ (8 * length ys) = ap (λ (k : ℕ). 2 ^ k) (omega arith) ∙ pow-add 2 8 (8 * length ys) in
    let rest = all_shifted_in ys (x * 2 ^ 8 + y) (8 + n) (λ i. hs (suc i)) next.1 (omega arith) in
    rw (next.0, rest, e, value_cons y ys (hs 0)) (omega arith)

pub loaded : (s : List ℕ) (r : ℕ) → r ≡ fold (λ (k y : ℕ). bit_or (k * 2 ^ 8 % 2 ^ 64) y) 0 s → AreBytes s → length s ≤ 8 → r ≡ value (bits s)
loaded s r e hs h = e ∙ all_shifted_in s 0 0 hs (omega arith) (omega arith) ∙ omega arith

-- eight bytes
pub value_eight : (s : List ℕ) → AreBytes s → length s ≡ 8 → from_be_bytes w64 s ≡ value (bits s)
value_eight s hs h =
    omega (arith, step 0 (omega arith), step 1 (omega arith), step 2 (omega arith), step 3 (omega arith), step 4 (omega arith), step 5 (omega arith), step 6 (omega arith), step 7 (omega arith), last)
  where
    step : (j : ℕ) → j < 8 → value (bits (drop j s)) ≡ get_or s j 0 * 2 ^ (8 * (7 - j)) + value (bits (drop (suc j) s))
    step j k =
        let e : length (drop (suc j) s) ≡ 7 - j = omega (arith, length-drop (suc j) s) in
        ap (λ (l : List ℕ). value (bits l)) (drop-cons s j 0 (omega arith)) ∙ value_cons (get_or s j 0) (drop (suc j) s) (hs j)
        ∙ ap (λ (m : ℕ). get_or s j 0 * 2 ^ (8 * m) + value (bits (drop (suc j) s))) e

    last : value (bits (drop 8 s)) ≡ 0
    last = ap (λ (l : List ℕ). value (bits l)) (drop_of_length-le s {i = 8} (omega arith)) ∙ value_none

-- ---- a word as bytes

bytes-suc : (n x : ℕ) → bytes_of_bits (suc n) (bits_of (8 * suc n) x) ≡ (x / 2 ^ (8 * n) % 2 ^ 8) ∷ bytes_of_bits n (bits_of (8 * n) x)
unfolding bytes_of_bits
bytes-suc n x =
    let p : List Bool = bits_of 8 (x / 2 ^ (8 * n)) in
    let q : List Bool = bits_of (8 * n) x in
    let e : 8 * suc n ≡ 8 + 8 * n = omega arith in
    ap (λ (k : ℕ). bytes_of_bits (suc n) (bits_of k x)) e ∙ ap (bytes_of_bits (suc n)) (bits_of-add 8 (8 * n) x)
    ∙ ap₂ (λ (y : ℕ) (ys : List ℕ). y ∷ ys)
    (ap value (take_at p q 8 (length-bits_of 8 (x / 2 ^ (8 * n)))) ∙ value-bits_of 8 (x / 2 ^ (8 * n)))
    (ap (bytes_of_bits n) (drop_at p q 8 (length-bits_of 8 (x / 2 ^ (8 * n)))))

pow-bytes : (n : ℕ) → 256 ^ n ≡ 2 ^ (8 * n)
pow-bytes zero = refl
pow-bytes (suc n) =
    let e : 8 * suc n ≡ 8 + 8 * n = omega arith in
    pow-suc 256 n ∙ omega (arith, pow-bytes n, pow-add 2 8 (8 * n)) ∙ ap (λ (k : ℕ). 2 ^ k) (sym e)

byte_of : (n x : ℕ) → byte_at n x ≡ x / 2 ^ (8 * n) % 2 ^ 8
byte_of zero x = ap (λ (k : ℕ). k % 2 ^ 8) (sym (div-one x))
byte_of (suc n) x = ap (λ (k : ℕ). x / k % 2 ^ 8) (pow-bytes (suc n))

bytes_of : (n x : ℕ) → bytes_high_first n x ≡ bytes_of_bits n (bits_of (8 * n) x)
unfolding bytes_of_bits
bytes_of zero x = refl
bytes_of (suc n) x = ap₂ (λ (y : ℕ) (ys : List ℕ). y ∷ ys) (byte_of n x) (bytes_of n x) ∙ sym (bytes-suc n x)

-- the low n bytes come last
low_bytes : (k n x : ℕ) → drop k (bytes_high_first (k + n) x) ≡ bytes_high_first n x
low_bytes zero n x = ap (λ (m : ℕ). bytes_high_first m x) (zero-add n)
low_bytes (suc k) n x = ap (λ (m : ℕ). drop (suc k) (bytes_high_first m x)) (suc-add k n) ∙ low_bytes k n x

pub stored : (n x : ℕ) (l m : List ℕ) → n ≤ 8 → l ≡ to_be_bytes w64 x → m ≡ take (8 - (8 - n)) (drop (8 - n) l) → m ≡ bytes_of_bits n (bits_of (8 * n) x)
stored n x l m h e f =
    let all : 8 ≡ 8 - n + n = omega arith in
    let low : drop (8 - n) l ≡ bytes_of_bits n (bits_of (8 * n) x) =
    ap (drop (8 - n)) e ∙ ap (λ (k : ℕ). drop (8 - n) (bytes_high_first k x)) all ∙ low_bytes (8 - n) n x ∙ bytes_of n x in
    f ∙ ap (take (8 - (8 - n))) low ∙ take_all (8 - (8 - n)) _ (omega (arith, length-bytes n (bits_of (8 * n) x)))

-- eight bytes, by way of the other order
pub stored_eight : (n x y : ℕ) (l : List ℕ) → n ≡ 8 → y ≡ swap_bytes w64 x → l ≡ to_le_bytes w64 y → l ≡ bytes_of_bits n (bits_of (8 * n) x)
stored_eight n x y l h e f =
    let same : to_be_bytes w64 y ≡ to_le_bytes w64 x = be_bytes_8 (to_le_bytes w64 x) y refl (are 0 8) e in
    let turned : to_le_bytes w64 y ≡ to_be_bytes w64 x = cc in
    f ∙ turned ∙ bytes_of 8 x ∙ ap (λ (k : ℕ). bytes_of_bits k (bits_of (8 * k) x)) (sym h)
  where
    byte_lt : (i : ℕ) → byte_at i x < 256
    byte_lt zero = omega arith
    byte_lt (suc i) = omega arith

    are : (i k j : ℕ) → get_or (bytes_low_first i k x) j 0 < 256
    are i zero j = omega arith
    are i (suc k) zero = byte_lt i
    are i (suc k) (suc j) = are (suc i) k j
