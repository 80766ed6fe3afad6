-- The fields written one after the other: those of the widths passed hold their values. Assumes nothing.
use mathlib.Core.Path.{◌≡◌, refl, sym, ap, ap₂, ◌∙◌}
use mathlib.Core.Bool.{true, ◌&&◌}
use mathlib.Core.List.{List, [], ◌∷◌, map}
use Prim.Native.Nat.{ℕ, zero, suc, ◌+◌, ◌*◌, ◌^◌, ◌≤◌, ◌<◌}
use native.Mathlib.Nat.{not-suc-le-zero, le_of_suc-le-suc, add-zero, add_assoc, zero-add}
use native.Mathlib.Numerals.{add-one}
use native.Mathlib.Omega.{arith}
use lib.Dec.{leb}
use lib.ListN.{length, take, get_or}
use lib.Seq.{take_all}
use Rattle.basics.specs.Tests.{every}
use Rattle.basics.proofs.Tests.{and_left, and_right, le_yes}
use Rattle.fields.specs.Field.{set_field, AreBytes}
use Rattle.fields.specs.Fields.{sum, set_fields, Fit}
use Rattle.fields.proofs.Laws.{length-set_fields}
use Rattle.records.specs.Pack.{pack}
use Rattle.records.specs.Edits.{replace_at}
use Rattle.records.proofs.Pack.{set_fields-within}
use Rattle.records.proofs.Slots.{fit_length}
use Rattle.records.specs.Widths.{Writable}

-- the widths so far, and one more, are within all of them
sum_more : (ws : List ℕ) (j : ℕ) → j < length ws → sum (take j ws) + get_or ws j 0 ≤ sum ws
sum_more [] j h = absurd (not-suc-le-zero h)
sum_more (w ∷ ws) zero h = omega arith
sum_more (w ∷ ws) (suc j) h = omega (arith, sum_more ws j (le_of_suc-le-suc h))

sum-suc : (ws : List ℕ) (j : ℕ) → j < length ws → sum (take (suc j) ws) ≡ sum (take j ws) + get_or ws j 0
sum-suc [] j h = absurd (not-suc-le-zero h)
sum-suc (w ∷ ws) zero h = omega arith
sum-suc (w ∷ ws) (suc j) h = omega (arith, sum-suc ws j (le_of_suc-le-suc h))

sum-next : (ws : List ℕ) (j : ℕ) → j < length ws → sum (take (j + 1) ws) ≡ sum (take j ws) + get_or ws j 0
sum-next ws j h = ap (λ (k : ℕ). sum (take k ws)) (add-one j) ∙ sum-suc ws j h

set_fields-suc : (b : List ℕ) (at : ℕ) (ws vs : List ℕ) (j : ℕ) → j < length ws → Fit ws vs
    → set_fields b at (take (suc j) ws) vs ≡ set_field (set_fields b at (take j ws) vs) (at + sum (take j ws)) (get_or ws j 0) (get_or vs j 0)
unfolding set_fields
set_fields-suc b at [] vs j h f = absurd (not-suc-le-zero h)
set_fields-suc b at (w ∷ ws) [] j h f = absurd f
set_fields-suc b at (w ∷ ws) (v ∷ vs) zero h f = ap (λ (k : ℕ). set_field b k w v) (sym (add-zero at))
set_fields-suc b at (w ∷ ws) (v ∷ vs) (suc j) h f =
    set_fields-suc (set_field b at w v) (at + w) ws vs j (le_of_suc-le-suc h) f.1
    ∙ ap (λ (k : ℕ). set_field (set_fields (set_field b at w v) (at + w) (take j ws) vs) k (get_or ws j 0) (get_or vs j 0)) (add_assoc at w (sum (take j ws)))

set_fields-next : (b ws vs : List ℕ) (j : ℕ) → j < length ws → Fit ws vs
    → set_fields b 0 (take (j + 1) ws) vs ≡ set_field (set_fields b 0 (take j ws) vs) (sum (take j ws)) (get_or ws j 0) (get_or vs j 0)
set_fields-next b ws vs j h f =
    ap (λ (k : ℕ). set_fields b 0 (take k ws) vs) (add-one j) ∙ set_fields-suc b 0 ws vs j h f
    ∙ ap (λ (k : ℕ). set_field (set_fields b 0 (take j ws) vs) k (get_or ws j 0) (get_or vs j 0)) (zero-add (sum (take j ws)))

fit_at : (ws vs : List ℕ) (j : ℕ) → Fit ws vs → j < length ws → get_or vs j 0 < 2 ^ get_or ws j 0
fit_at [] vs j f h = absurd (not-suc-le-zero h)
fit_at (w ∷ ws) [] j f h = absurd f
fit_at (w ∷ ws) (v ∷ vs) zero f h = f.0
fit_at (w ∷ ws) (v ∷ vs) (suc j) f h = fit_at ws vs j f.1 (le_of_suc-le-suc h)

width-at : (ws : List ℕ) (j : ℕ) → every (map (λ w. leb 1 w && leb w 57) ws) ≡ true → j < length ws → (0 < get_or ws j 0) × (get_or ws j 0 ≤ 57)
width-at [] j e h = absurd (not-suc-le-zero h)
width-at (w ∷ ws) zero e h =
    let p = and_left (leb 1 w && leb w 57) _ e in
    (le_yes 1 w (and_left (leb 1 w) _ p), le_yes w 57 (and_right (leb 1 w) _ p))
width-at (w ∷ ws) (suc j) e h = width-at ws j (and_right (leb 1 w && leb w 57) _ e) (le_of_suc-le-suc h)

-- ---- the bytes s, that were s₀, once the values of j widths are written, up to bit `at`

pub record Written (s₀ ws vs s : List ℕ) (at j : ℕ) : Type 0 where
  pub bytes : AreBytes s₀
  pub place : j ≤ length ws
  pub reached : at ≡ sum (take j ws)
  pub long : length s ≡ length s₀
  pub set : s ≡ set_fields s₀ 0 (take j ws) vs

pub written_none : (s₀ ws vs : List ℕ) → AreBytes s₀ → Written s₀ ws vs s₀ 0 0
unfolding set_fields
written_none s₀ ws vs b = record { bytes = b; place = omega arith; reached = refl; long = refl; set = refl }

module _ {s₀ ws vs : List ℕ} (k : Writable s₀ ws vs) where
  -- there are as many values
  pub counted : length vs ≡ length ws
  counted = fit_length ws vs k.values

  module _ {s : List ℕ} {at j : ℕ} (p : Written s₀ ws vs s at j) where
    -- the next width and its value
    module _ {w v : ℕ} (h : j < length ws) (width : w ≡ get_or ws j 0) (value : v ≡ get_or vs j 0) where
      -- it can be written and lies in the bytes, and its value fits
      pub next_put : (0 < w) × ((w ≤ 57) × ((at + w ≤ 8 * length s) × (v < 2 ^ w)))
      next_put =
          let wide = width-at ws j k.widths.each h in
          rw (width, value) (wide.0, (wide.1, (omega (arith, sum_more ws j h, k.widths.aligned), fit_at ws vs j k.values h)))

      pub next-counts : at + w < 2 ^ 64
      next-counts = omega (arith, sum_more ws j h, k.widths.short)

      written_more : (t : List ℕ) → t ≡ set_field s at w v → Written s₀ ws vs t (at + w) (j + 1)
      written_more t e =
          let f : t ≡ set_fields s₀ 0 (take (j + 1) ws) vs =
          e ∙ ap₂ (λ (m n : ℕ). set_field s at m n) width value
          ∙ ap₂ (λ (l : List ℕ) (n : ℕ). set_field l n (get_or ws j 0) (get_or vs j 0)) p.set p.reached ∙ sym (set_fields-next s₀ ws vs j h k.values) in
          record {
            bytes = p.bytes;
            place = omega arith;
            reached = ap₂ (λ (m n : ℕ). m + n) p.reached width ∙ sym (sum-next ws j h);
            long = ap length f ∙ length-set_fields s₀ 0 (take (j + 1) ws) vs;
            set = f;
          }

      pub written_next : (t : List ℕ) (i : ℕ) → t ≡ set_field s at w v → i ≡ j + 1 → Written s₀ ws vs t (at + w) i
      written_next t i e next = rw next (written_more t e)

    -- all of them
    pub written_all : length ws ≤ j → s ≡ replace_at 0 (pack ws vs) s₀
    written_all h =
        p.set ∙ ap (λ (l : List ℕ). set_fields s₀ 0 l vs) (take_all j ws h)
        ∙ set_fields-within s₀ 0 ws vs p.bytes k.widths.aligned (omega (arith, k.room)) k.values
