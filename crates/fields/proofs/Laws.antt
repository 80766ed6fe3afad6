-- The laws of packed fields, each over every width and every bit offset: bytes and their bits, one field, and adjacent fields.
use mathlib.Core.Path.{◌≡◌, refl, sym, ap, ap₂, ◌∙◌, subst}
use mathlib.Core.Bool.{Bool}
use mathlib.Core.List.{List, [], ◌∷◌, ◌++◌, append_assoc, append-nil}
use mathlib.Core.Logic.{◌⊎◌, inl, inr}
use Prim.Native.Nat.{ℕ, zero, suc, ◌+◌, ◌-◌, ◌*◌, ◌/◌, ◌%◌, ◌^◌, ◌≤◌, ◌<◌}
use native.Mathlib.Nat.{add-zero, add_assoc, mod-eq_of_lt, suc-ne-zero}
use native.Mathlib.Omega.{arith}
use borrow.Rule.Slice.PartMut.{put_mid}
use lib.ListN.{length, take, drop, length-append, length-drop, take-append-drop}
use lib.Seq.{length-take-le, take_all, take_at, drop_at, take-add, take-take, drop-drop, get_or-drop}
use Rattle.fields.specs.Field.{value, bits_of, bits, bytes_of_bits, field_at, set_field, AreBytes}
use Rattle.fields.specs.Fields.{sum, fields, set_fields, field_bits, Fit}
use Rattle.fields.proofs.Bits.{value-take-lt, value-bits_of, bits_of-value, part_left, drop-right, part-of-part, drop-take-append, value-part, length-bits_of}

-- ---- bytes and their bits

pub length-bits : (b : List ℕ) → length (bits b) ≡ 8 * length b
unfolding bits
length-bits [] = refl
length-bits (x ∷ xs) = simp length-append (omega (arith, length-bits_of 8 x, length-bits xs))

pub bits-append : (xs ys : List ℕ) → bits (xs ++ ys) ≡ bits xs ++ bits ys
unfolding bits
bits-append [] ys = refl
bits-append (x ∷ xs) ys = ap (λ (l : List Bool). bits_of 8 x ++ l) (bits-append xs ys) ∙ sym (append_assoc (bits_of 8 x) (bits xs) (bits ys))

pub length-bytes : (n : ℕ) (l : List Bool) → length (bytes_of_bits n l) ≡ n
unfolding bytes_of_bits
length-bytes zero l = refl
length-bytes (suc n) l = ap suc (length-bytes n (drop 8 l))

pub are-bytes : (n : ℕ) (l : List Bool) → AreBytes (bytes_of_bits n l)
unfolding bytes_of_bits
are-bytes zero l i = omega arith
are-bytes (suc n) l zero = value-take-lt 8 l
are-bytes (suc n) l (suc i) = are-bytes n (drop 8 l) i

-- the bits of the bytes that a row writes are the row
pub bits-bytes : (n : ℕ) (l : List Bool) → length l ≡ 8 * n → bits (bytes_of_bits n l) ≡ l
unfolding bits bytes_of_bits
bits-bytes zero [] e = refl
bits-bytes zero (x ∷ l) e = absurd (suc-ne-zero (length l) e)
bits-bytes (suc n) l e =
    ap₂ (λ (x y : List Bool). x ++ y)
    (bits_of-value 8 (take 8 l) (length-take-le 8 l (omega arith)))
    (bits-bytes n (drop 8 l) (omega (arith, length-drop 8 l)))
    ∙ take-append-drop 8 l

-- the bytes that the bits of bytes write are the bytes
pub bytes_bits : (b : List ℕ) → AreBytes b → bytes_of_bits (length b) (bits b) ≡ b
unfolding bits bytes_of_bits
bytes_bits [] h = refl
bytes_bits (x ∷ xs) h =
    ap₂ (λ (y : ℕ) (ys : List ℕ). y ∷ ys)
    (ap value (take_at (bits_of 8 x) (bits xs) 8 (length-bits_of 8 x)) ∙ value-bits_of 8 x ∙ mod-eq_of_lt (h 0))
    (ap (bytes_of_bits (length xs)) (drop_at (bits_of 8 x) (bits xs) 8 (length-bits_of 8 x)) ∙ bytes_bits xs (λ i. h (suc i)))

-- bytes that have the same bits are the same
pub bits-inj : (b c : List ℕ) → AreBytes b → AreBytes c → length b ≡ length c → bits b ≡ bits c → b ≡ c
bits-inj b c hb hc e h = sym (bytes_bits b hb) ∙ ap₂ bytes_of_bits e h ∙ bytes_bits c hc

pub are-append : (xs ys : List ℕ) → AreBytes xs → AreBytes ys → AreBytes (xs ++ ys)
are-append [] ys hx hy i = hy i
are-append (x ∷ xs) ys hx hy zero = hx 0
are-append (x ∷ xs) ys hx hy (suc i) = are-append xs ys (λ k. hx (suc k)) hy i

pub are-take : (n : ℕ) (xs : List ℕ) → AreBytes xs → AreBytes (take n xs)
are-take zero xs h i = omega arith
are-take (suc n) [] h i = omega arith
are-take (suc n) (x ∷ xs) h zero = h 0
are-take (suc n) (x ∷ xs) h (suc i) = are-take n xs (λ k. h (suc k)) i

pub are-drop : (n : ℕ) (xs : List ℕ) → AreBytes xs → AreBytes (drop n xs)
are-drop n xs h i = subst (λ (k : ℕ). k < 256) (sym (get_or-drop n xs i 0)) (h (n + i))

-- the bits of the bytes before byte f, and of those from byte f on
module _ (b : List ℕ) (f : ℕ) (inside : f ≤ length b) where
  bits-split : bits b ≡ bits (take f b) ++ bits (drop f b)
  bits-split = ap bits (sym (take-append-drop f b)) ∙ bits-append (take f b) (drop f b)

  length-bits-take : length (bits (take f b)) ≡ 8 * f
  length-bits-take = length-bits (take f b) ∙ ap (λ (k : ℕ). 8 * k) (length-take-le f b inside)

  pub bits-take : bits (take f b) ≡ take (8 * f) (bits b)
  bits-take = sym (ap (take (8 * f)) bits-split ∙ take_at (bits (take f b)) (bits (drop f b)) (8 * f) length-bits-take)

  pub bits-drop : bits (drop f b) ≡ drop (8 * f) (bits b)
  bits-drop = sym (ap (drop (8 * f)) bits-split ∙ drop_at (bits (take f b)) (bits (drop f b)) (8 * f) length-bits-take)

-- ---- one field

-- a field is below 2 to the power of its width
pub field_lt : (b : List ℕ) (at w : ℕ) → field_at b at w < 2 ^ w
unfolding field_at
field_lt b at w = value-take-lt w (drop at (bits b))

-- putting a field leaves as many bytes, and bytes they are
pub length-set_field : (b : List ℕ) (at w v : ℕ) → length (set_field b at w v) ≡ length b
unfolding set_field
length-set_field b at w v = length-bytes (length b) _

pub are-set_field : (b : List ℕ) (at w v : ℕ) → AreBytes (set_field b at w v)
unfolding set_field
are-set_field b at w v = are-bytes (length b) _

module _ (b : List ℕ) (at w : ℕ) (inside : at + w ≤ 8 * length b) where
  length_before : length (take at (bits b)) ≡ at
  length_before = length-take-le at (bits b) (omega (arith, length-bits b))

  pub bits-set_field : (v : ℕ) → bits (set_field b at w v) ≡ take at (bits b) ++ (bits_of w v ++ drop (at + w) (bits b))
  unfolding set_field
  bits-set_field v =
      bits-bytes (length b) _ (simp (length-append, length-drop) (omega (arith, length-bits_of w v, length-bits b, length_before)))

  -- what was put is what is got
  pub get_set : (v : ℕ) → v < 2 ^ w → field_at (set_field b at w v) at w ≡ v
  unfolding field_at
  get_set v h =
      ap (λ (l : List Bool). value (take w (drop at l))) (bits-set_field v)
      ∙ ap (λ (l : List Bool). value (take w l)) (drop_at (take at (bits b)) (bits_of w v ++ drop (at + w) (bits b)) at length_before)
      ∙ ap value (take_at (bits_of w v) (drop (at + w) (bits b)) w (length-bits_of w v))
      ∙ value-bits_of w v ∙ mod-eq_of_lt h

  pub get-set-before : (v at' w' : ℕ) → at' + w' ≤ at → field_at (set_field b at w v) at' w' ≡ field_at b at' w'
  unfolding field_at
  get-set-before v at' w' h =
      ap (λ (l : List Bool). value (take w' (drop at' l))) (bits-set_field v)
      ∙ ap value (part_left (take at (bits b)) (bits_of w v ++ drop (at + w) (bits b)) at' w' (omega (arith, length_before))
      ∙ sym (part_left (take at (bits b)) (drop at (bits b)) at' w' (omega (arith, length_before)))
      ∙ ap (λ (l : List Bool). take w' (drop at' l)) (take-append-drop at (bits b)))

  pub get-set-after : (v at' w' : ℕ) → at + w ≤ at' → field_at (set_field b at w v) at' w' ≡ field_at b at' w'
  unfolding field_at
  get-set-after v at' w' h =
      let e : at + w + (at' - (at + w)) ≡ at' = omega arith in
      ap (λ (l : List Bool). value (take w' (drop at' l)))
      (bits-set_field v ∙ sym (append_assoc (take at (bits b)) (bits_of w v) (drop (at + w) (bits b))))
      ∙ ap (λ (l : List Bool). value (take w' l))
      (drop-right (take at (bits b) ++ bits_of w v) (drop (at + w) (bits b)) at' (at' - (at + w))
      (omega (arith, length-append (take at (bits b)) (bits_of w v), length-bits_of w v, length_before))
      ∙ drop-drop (at' - (at + w)) (at + w) (bits b) ∙ ap (λ (k : ℕ). drop k (bits b)) e)

  -- a field that shares no bit with the one that was put is untouched
  pub get_set_other : (v at' w' : ℕ) → (at' + w' ≤ at) ⊎ (at + w ≤ at') → field_at (set_field b at w v) at' w' ≡ field_at b at' w'
  get_set_other v at' w' (inl h) = get-set-before v at' w' h
  get_set_other v at' w' (inr h) = get-set-after v at' w' h

  -- putting back what was got changes no byte
  pub set-get : AreBytes b → set_field b at w (field_at b at w) ≡ b
  unfolding field_at set_field
  set-get hb =
      ap (bytes_of_bits (length b))
      (ap₂ (λ (l r : List Bool). take at (bits b) ++ (l ++ r))
      (bits_of-value w (take w (drop at (bits b))) (length-take-le w (drop at (bits b)) (omega (arith, length-drop at (bits b), length-bits b))))
      (sym (drop-drop w at (bits b)))
      ∙ ap (λ (l : List Bool). take at (bits b) ++ l) (take-append-drop w (drop at (bits b)))
      ∙ take-append-drop at (bits b))
      ∙ bytes_bits b hb

-- ---- a field within some of the bytes: n bytes from byte f on, and w bits of them from bit r on

module _ (b : List ℕ) (f n : ℕ) (inside : f + n ≤ length b) where
  length-window : length (take n (drop f b)) ≡ n
  length-window = length-take-le n (drop f b) (omega (arith, length-drop f b))

  bits-window : bits (take n (drop f b)) ≡ take (8 * n) (drop (8 * f) (bits b))
  bits-window = bits-take (drop f b) n (omega (arith, length-drop f b)) ∙ ap (take (8 * n)) (bits-drop b f (omega arith))

  -- a field of these bytes is a field of all
  pub field-within : (r w : ℕ) → r + w ≤ 8 * n → field_at (take n (drop f b)) r w ≡ field_at b (8 * f + r) w
  unfolding field_at
  field-within r w h =
      ap (λ (l : List Bool). value (take w (drop r l))) bits-window
      ∙ ap value (part-of-part (bits b) (8 * f) (8 * n) r w (omega (arith, length-bits b)) h)

  -- the field by the number that the bytes write, where `below` of their bits come after it
  pub field-window : (r w below : ℕ) → 8 * n ≡ r + (w + below) → field_at b (8 * f + r) w ≡ value (bits (take n (drop f b))) / 2 ^ below % 2 ^ w
  unfolding field_at
  field-window r w below e =
      sym (field-within r w (omega arith))
      ∙ value-part (bits (take n (drop f b))) r w below (omega (arith, length-bits (take n (drop f b)), length-window))

  -- putting a field in these bytes alone puts it in all
  pub set_field-within : (r w v : ℕ) → r + w ≤ 8 * n → AreBytes (put_mid f n b (set_field (take n (drop f b)) r w v))
      → put_mid f n b (set_field (take n (drop f b)) r w v) ≡ set_field b (8 * f + r) w v
  set_field-within r w v h hc =
      let B : List Bool = bits b in
      let D : List Bool = drop (8 * f) B in
      let W : List Bool = bits (take n (drop f b)) in
      let E : List ℕ = drop n (drop f b) in
      let p : List ℕ = set_field (take n (drop f b)) r w v in
      let lp : length p ≡ n = length-set_field (take n (drop f b)) r w v ∙ length-window in
      let long : n ≤ length (drop f b) = omega (arith, length-drop f b) in
      let le : length (take f b ++ (p ++ E)) ≡ length (set_field b (8 * f + r) w v) =
      simp (length-append, length-drop) (omega (arith, length-take-le f b (omega arith), length-set_field b (8 * f + r) w v)) in
      let first : take (8 * f) B ++ take r W ≡ take (8 * f + r) B =
      ap (λ (l : List Bool). take (8 * f) B ++ l) (ap (take r) bits-window ∙ take-take r (8 * n) D (omega arith)) ∙ sym (take-add (8 * f) r B) in
      let same : 8 * f + (r + w) ≡ 8 * f + r + w = omega arith in
      let last : drop (r + w) W ++ bits E ≡ drop (8 * f + r + w) B =
      ap₂ (λ (x y : List Bool). drop (r + w) x ++ y) bits-window (bits-drop (drop f b) n long ∙ ap (drop (8 * n)) (bits-drop b f (omega arith)))
      ∙ drop-take-append D (r + w) (8 * n) h (omega (arith, length-drop (8 * f) B, length-bits b))
      ∙ drop-drop (r + w) (8 * f) B ∙ ap (λ (k : ℕ). drop k B) same in
      bits-inj (take f b ++ (p ++ E)) (set_field b (8 * f + r) w v) hc (are-set_field b (8 * f + r) w v) le
      (bits-append (take f b) (p ++ E)
      ∙ ap₂ (λ (x y : List Bool). x ++ y) (bits-take b f (omega arith))
      (bits-append p E ∙ ap (λ (l : List Bool). l ++ bits E) (bits-set_field (take n (drop f b)) r w (omega (arith, length-window)) v))
      ∙ regroup (take (8 * f) B) (take r W) (bits_of w v) (drop (r + w) W) (bits E)
      ∙ ap₂ (λ (x y : List Bool). x ++ (bits_of w v ++ y)) first last
      ∙ sym (bits-set_field b (8 * f + r) w (omega arith) v))
    where
      regroup : (a p m q c : List Bool) → a ++ ((p ++ (m ++ q)) ++ c) ≡ (a ++ p) ++ (m ++ (q ++ c))
      regroup a p m q c = simp append_assoc

-- ---- adjacent fields

-- each of the fields is below 2 to the power of its width
pub fields_fit : (b : List ℕ) (ws : List ℕ) (at : ℕ) → Fit ws (fields b at ws)
unfolding fields
fields_fit b [] at = tt
fields_fit b (w ∷ ws) at = (field_lt b at w, fields_fit b ws _)

-- putting fields leaves as many bytes, and bytes they are
pub length-set_fields : (b : List ℕ) (at : ℕ) (ws vs : List ℕ) → length (set_fields b at ws vs) ≡ length b
unfolding set_fields
length-set_fields b at [] vs = refl
length-set_fields b at (w ∷ ws) [] = refl
length-set_fields b at (w ∷ ws) (v ∷ vs) = length-set_fields (set_field b at w v) (at + w) ws vs ∙ length-set_field b at w v

pub are-set_fields : (b : List ℕ) (at : ℕ) (ws vs : List ℕ) → AreBytes b → AreBytes (set_fields b at ws vs)
unfolding set_fields
are-set_fields b at [] vs h = h
are-set_fields b at (w ∷ ws) [] h = h
are-set_fields b at (w ∷ ws) (v ∷ vs) h = are-set_fields (set_field b at w v) (at + w) ws vs (are-set_field b at w v)

pub length-field_bits : (ws vs : List ℕ) → Fit ws vs → length (field_bits ws vs) ≡ sum ws
unfolding field_bits
length-field_bits [] [] f = refl
length-field_bits [] (v ∷ vs) f = absurd f
length-field_bits (w ∷ ws) [] f = absurd f
length-field_bits (w ∷ ws) (v ∷ vs) f = simp length-append (omega (arith, length-bits_of w v, length-field_bits ws vs f.1))

-- putting values in adjacent fields replaces one part of the row of bits
pub bits-set_fields : (b : List ℕ) (at : ℕ) (ws vs : List ℕ) → at + sum ws ≤ 8 * length b → Fit ws vs
    → bits (set_fields b at ws vs) ≡ take at (bits b) ++ (field_bits ws vs ++ drop (at + sum ws) (bits b))
unfolding set_fields field_bits
bits-set_fields b at [] [] h f = sym (ap (λ (k : ℕ). take at (bits b) ++ drop k (bits b)) (add-zero at) ∙ take-append-drop at (bits b))
bits-set_fields b at [] (v ∷ vs) h f = absurd f
bits-set_fields b at (w ∷ ws) [] h f = absurd f
bits-set_fields b at (w ∷ ws) (v ∷ vs) h f =
    let c : List ℕ = set_field b at w v in
    let B : List Bool = bits b in
    let P : List Bool = take at B ++ bits_of w v in
    let D : List Bool = drop (at + w) B in
    let lp : length P ≡ at + w = simp length-append (omega (arith, length-bits_of w v, length-take-le at B (omega (arith, length-bits b)))) in
    let bc : bits c ≡ P ++ D = bits-set_field b at w (omega arith) v ∙ sym (append_assoc (take at B) (bits_of w v) D) in
    let first : take (at + w) (bits c) ≡ P = ap (take (at + w)) bc ∙ take_at P D (at + w) lp in
    let last : drop (at + w + sum ws) (bits c) ≡ drop (at + (w + sum ws)) B =
    sym (drop-drop (sum ws) (at + w) (bits c)) ∙ ap (drop (sum ws)) (ap (drop (at + w)) bc ∙ drop_at P D (at + w) lp)
    ∙ drop-drop (sum ws) (at + w) B ∙ ap (λ (k : ℕ). drop k B) (add_assoc at w (sum ws)) in
    bits-set_fields c (at + w) ws vs (omega (arith, length-set_field b at w v)) f.1
    ∙ ap₂ (λ (x y : List Bool). x ++ (field_bits ws vs ++ y)) first last
    ∙ regroup (take at B) (bits_of w v) (field_bits ws vs) (drop (at + (w + sum ws)) B)
  where
    regroup : (p x r d : List Bool) → (p ++ x) ++ (r ++ d) ≡ p ++ ((x ++ r) ++ d)
    regroup p x r d = simp append_assoc

-- where the row goes on with the bits of values, the fields hold the values
fields-of-bits : (b : List ℕ) (at : ℕ) (ws vs : List ℕ) (rest : List Bool) → Fit ws vs → drop at (bits b) ≡ field_bits ws vs ++ rest → fields b at ws ≡ vs
unfolding fields field_at field_bits
fields-of-bits b at [] [] rest f e = refl
fields-of-bits b at [] (v ∷ vs) rest f e = absurd f
fields-of-bits b at (w ∷ ws) [] rest f e = absurd f
fields-of-bits b at (w ∷ ws) (v ∷ vs) rest f e =
    let l : List Bool = field_bits ws vs ++ rest in
    let g : drop at (bits b) ≡ bits_of w v ++ l = e ∙ append_assoc (bits_of w v) (field_bits ws vs) rest in
    ap₂ (λ (x : ℕ) (xs : List ℕ). x ∷ xs)
    (ap (λ (m : List Bool). value (take w m)) g ∙ ap value (take_at (bits_of w v) l w (length-bits_of w v)) ∙ value-bits_of w v ∙ mod-eq_of_lt f.0)
    (fields-of-bits b (at + w) ws vs rest f.1 (sym (drop-drop w at (bits b)) ∙ ap (drop w) g ∙ drop_at (bits_of w v) l w (length-bits_of w v)))

-- ---- packing values into bytes, and unpacking them

-- packed and unpacked again: the values
pub fields-packed : (n : ℕ) (ws vs : List ℕ) → Fit ws vs → sum ws ≡ 8 * n → fields (bytes_of_bits n (field_bits ws vs)) 0 ws ≡ vs
fields-packed n ws vs f e =
    fields-of-bits (bytes_of_bits n (field_bits ws vs)) 0 ws vs [] f
    (bits-bytes n (field_bits ws vs) (length-field_bits ws vs f ∙ e) ∙ sym (append-nil (field_bits ws vs)))

-- the bits of what adjacent fields hold are their part of the row
field_bits-fields : (b : List ℕ) (at : ℕ) (ws : List ℕ) → at + sum ws ≤ 8 * length b → field_bits ws (fields b at ws) ≡ take (sum ws) (drop at (bits b))
unfolding fields field_at field_bits
field_bits-fields b at [] h = refl
field_bits-fields b at (w ∷ ws) h =
    let D : List Bool = drop at (bits b) in
    ap₂ (λ (x y : List Bool). x ++ y)
    (bits_of-value w (take w D) (length-take-le w D (omega (arith, length-drop at (bits b), length-bits b))))
    (field_bits-fields b (at + w) ws (omega arith) ∙ ap (take (sum ws)) (sym (drop-drop w at (bits b))))
    ∙ sym (take-add w (sum ws) D)

-- unpacked and packed again: the bytes
pub packed-fields : (b ws : List ℕ) → AreBytes b → sum ws ≡ 8 * length b → bytes_of_bits (length b) (field_bits ws (fields b 0 ws)) ≡ b
packed-fields b ws hb e =
    ap (bytes_of_bits (length b)) (field_bits-fields b 0 ws (omega arith) ∙ take_all (sum ws) (bits b) (omega (arith, length-bits b)))
    ∙ bytes_bits b hb
