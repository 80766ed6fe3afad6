-- One record packed and unpacked, for any widths that add up to whole bytes, and read or written within other bytes. Assumes nothing.
use mathlib.Core.Path.{◌≡◌, refl, sym, ap, ap₂, ◌∙◌}
use mathlib.Core.Bool.{Bool}
use mathlib.Core.List.{List, [], ◌∷◌, ◌++◌}
use Prim.Native.Nat.{ℕ, zero, suc, ◌+◌, ◌*◌, ◌≤◌, ◌<◌}
use native.Mathlib.Omega.{arith}
use native.Mathlib.Nat.{add-zero, add_assoc, not-suc-le-zero, le_of_suc-le-suc}
use lib.ListN.{length, take, drop, get_or, set, length-append, length-drop}
use lib.Seq.{length-take-le, take_at}
use Rattle.fields.specs.Field.{bits, bytes_of_bits, set_field, AreBytes}
use Rattle.fields.specs.Fields.{sum, fields, set_fields, field_bits, Fit}
use Rattle.fields.proofs.Laws.{length-bytes, are-bytes, bits-append, bits-bytes, bits-take, bits-drop, bits-inj, are-append, are-take, are-drop, are-set_field, length-set_field, field-within, set-get, get-set-after, fields_fit, fields-packed, packed-fields, length-field_bits, length-set_fields, are-set_fields, bits-set_fields}
use Rattle.records.specs.Pack.{size, WholeBytes, pack, unpack}
use Rattle.records.specs.Edits.{replace_at}

pub length-pack : (ws vs : List ℕ) → length (pack ws vs) ≡ size ws
unfolding pack
length-pack ws vs = length-bytes (size ws) (field_bits ws vs)

pub are-pack : (ws vs : List ℕ) → AreBytes (pack ws vs)
unfolding pack
are-pack ws vs = are-bytes (size ws) (field_bits ws vs)

pub fit-unpack : (ws b : List ℕ) → Fit ws (unpack ws b)
unfolding unpack
fit-unpack ws b = fields_fit b ws 0

-- packed and unpacked again
pub unpack-pack : (ws vs : List ℕ) → WholeBytes ws → Fit ws vs → unpack ws (pack ws vs) ≡ vs
unfolding unpack pack
unpack-pack ws vs e f = fields-packed (size ws) ws vs f e

-- unpacked and packed again
pub pack-unpack : (ws b : List ℕ) → WholeBytes ws → AreBytes b → length b ≡ size ws → pack ws (unpack ws b) ≡ b
unfolding unpack pack
pack-unpack ws b e h l =
    ap (λ (n : ℕ). bytes_of_bits n (field_bits ws (fields b 0 ws))) (sym l) ∙ packed-fields b ws h (omega arith)

-- ---- a record within other bytes

fields_within : (b : List ℕ) (f n r : ℕ) (ws : List ℕ) → f + n ≤ length b → r + sum ws ≤ 8 * n
    → fields (take n (drop f b)) r ws ≡ fields b (8 * f + r) ws
unfolding fields
fields_within b f n r [] h i = refl
fields_within b f n r (w ∷ ws) h i =
    let e : 8 * f + (r + w) ≡ 8 * f + r + w = omega arith in
    ap₂ (λ (x : ℕ) (l : List ℕ). x ∷ l) (field-within b f n h r w (omega arith))
    (fields_within b f n (r + w) ws h (omega arith) ∙ ap (λ (m : ℕ). fields b m ws) e)

-- the record that begins at byte f, by its fields in the whole
pub unpack-within : (b : List ℕ) (f : ℕ) (ws : List ℕ) → WholeBytes ws → f + size ws ≤ length b
    → unpack ws (take (size ws) (drop f b)) ≡ fields b (8 * f) ws
unfolding unpack
unpack-within b f ws e h =
    let z : 8 * f + 0 ≡ 8 * f = omega arith in
    fields_within b f (size ws) 0 ws h (omega arith) ∙ ap (λ (m : ℕ). fields b m ws) z

-- the record that b begins with
pub unpack-append : (p q ws : List ℕ) → WholeBytes ws → length p ≡ size ws → unpack ws (p ++ q) ≡ unpack ws p
unfolding unpack
unpack-append p q ws e l =
    sym (unpack-within (p ++ q) 0 ws e (omega (arith, length-append p q))) ∙ ap (unpack ws) (take_at p q (size ws) l)

-- setting the fields of the record at byte f writes its bytes there, and changes no other
pub set_fields-within : (b : List ℕ) (f : ℕ) (ws vs : List ℕ) → AreBytes b → WholeBytes ws → f + size ws ≤ length b → Fit ws vs
    → set_fields b (8 * f) ws vs ≡ replace_at f (pack ws vs) b
unfolding pack replace_at
set_fields-within b f ws vs hb e h g =
    let p : List ℕ = pack ws vs in
    let lp : length p ≡ size ws = length-pack ws vs in
    let D : List ℕ = drop (f + length p) b in
    let c : List ℕ = take f b ++ (p ++ D) in
    let lc : length (set_fields b (8 * f) ws vs) ≡ length c =
    length-set_fields b (8 * f) ws vs
    ∙ omega (arith, length-append (take f b) (p ++ D), length-append p D, length-take-le f b (omega arith), length-drop (f + length p) b) in
    let s : 8 * (f + length p) ≡ 8 * f + sum ws = omega arith in
    let bc : bits c ≡ take (8 * f) (bits b) ++ (field_bits ws vs ++ drop (8 * f + sum ws) (bits b)) =
    bits-append (take f b) (p ++ D)
    ∙ ap₂ (λ (x y : List Bool). x ++ y) (bits-take b f (omega arith))
    (bits-append p D
    ∙ ap₂ (λ (x y : List Bool). x ++ y) (bits-bytes (size ws) (field_bits ws vs) (length-field_bits ws vs g ∙ e))
    (bits-drop b (f + length p) (omega arith) ∙ ap (λ (m : ℕ). drop m (bits b)) s)) in
    bits-inj (set_fields b (8 * f) ws vs) c (are-set_fields b (8 * f) ws vs hb)
    (are-append (take f b) (p ++ D) (are-take f b hb) (are-append p D (are-pack ws vs) (are-drop (f + length p) b hb)))
    lc (bits-set_fields b (8 * f) ws vs (omega arith) g ∙ sym bc)

fields-after : (b : List ℕ) (at w v at' : ℕ) (ws : List ℕ) → at + w ≤ 8 * length b → at + w ≤ at'
    → fields (set_field b at w v) at' ws ≡ fields b at' ws
unfolding fields
fields-after b at w v at' [] h l = refl
fields-after b at w v at' (u ∷ ws) h l =
    ap₂ (λ (x : ℕ) (r : List ℕ). x ∷ r) (get-set-after b at w h v at' u l) (fields-after b at w v (at' + u) ws h (omega arith))

set_fields-same : (b : List ℕ) (at : ℕ) (ws : List ℕ) → AreBytes b → at + sum ws ≤ 8 * length b → set_fields b at ws (fields b at ws) ≡ b
unfolding fields set_fields
set_fields-same b at [] hb h = refl
set_fields-same b at (w ∷ ws) hb h =
    ap (λ (c : List ℕ). set_fields c (at + w) ws (fields b (at + w) ws)) (set-get b at w (omega arith) hb)
    ∙ set_fields-same b (at + w) ws hb (omega arith)

-- putting what the fields hold, with another value for field j, sets field j
set_fields-one : (b : List ℕ) (at : ℕ) (ws : List ℕ) (j v : ℕ) → AreBytes b → at + sum ws ≤ 8 * length b → j < length ws
    → set_fields b at ws (set (fields b at ws) j v) ≡ set_field b (at + sum (take j ws)) (get_or ws j 0) v
unfolding fields set_fields
set_fields-one b at [] j v hb h l = absurd (not-suc-le-zero l)
set_fields-one b at (w ∷ ws) zero v hb h l =
    let c : List ℕ = set_field b at w v in
    ap (set_fields c (at + w) ws) (sym (fields-after b at w v (at + w) ws (omega arith) (omega arith)))
    ∙ set_fields-same c (at + w) ws (are-set_field b at w v) (omega (arith, length-set_field b at w v))
    ∙ ap (λ (m : ℕ). set_field b m w v) (sym (add-zero at))
set_fields-one b at (w ∷ ws) (suc j) v hb h l =
    ap (λ (c : List ℕ). set_fields c (at + w) ws (set (fields b (at + w) ws) j v)) (set-get b at w (omega arith) hb)
    ∙ set_fields-one b (at + w) ws j v hb (omega arith) (le_of_suc-le-suc l)
    ∙ ap (λ (m : ℕ). set_field b m (get_or ws j 0) v) (add_assoc at w (sum (take j ws)))

-- setting field j of the record at byte f writes the record's bytes with v for that field
pub set_field-within : (b : List ℕ) (f : ℕ) (ws : List ℕ) (j v : ℕ) → AreBytes b → WholeBytes ws → f + size ws ≤ length b → j < length ws
    → Fit ws (set (fields b (8 * f) ws) j v)
    → set_field b (8 * f + sum (take j ws)) (get_or ws j 0) v ≡ replace_at f (pack ws (set (fields b (8 * f) ws) j v)) b
set_field-within b f ws j v hb e h l g =
    sym (set_fields-one b (8 * f) ws j v hb (omega (arith, e)) l) ∙ set_fields-within b f ws (set (fields b (8 * f) ws) j v) hb e h g
