-- The forms of the table, by their names and counts. Assumes nothing.
use Rattle.std.proofs.Common.{◌≡◌, ℕ, zero, suc, ◌+◌, ◌*◌, ◌≤◌, Bool, true, false, cond, ◌&&◌, leb, List, [], ◌∷◌, length, Some, refl, ap, subst, ltb-true, leb-true}
use Rattle.std.specs.Char.{is_ascii}
use Rattle.std.specs.List.{list_all}
use Rattle.std.specs.Str.{IsAscii}
use Rattle.std.proofs.lemmas.List.Sums.{AllPass-from_list_all}
use Rattle.std.proofs.lemmas.Slice.Eq.{bytes_eq-Decides}
use Rattle.std.proofs.lemmas.Str.Ascii.{IsAscii-from_all}
use Rattle.text.specs.Pieces.{same_text}
use Rattle.text.specs.Commands.{Takes, Form, forms, form_named, no_command, command_with, most_numbers, shortest_line}

-- another count of numbers makes no command
pub wrong-count : (k : ℕ) (make : Takes k) (ns : List ℕ) → (length ns ≡ k → ⊥) → command_with k make ns ≡ no_command
wrong-count zero make [] h = absurd (h refl)
wrong-count zero make (n ∷ ns) h = refl
wrong-count (suc k) make [] h = refl
wrong-count (suc k) make (n ∷ ns) h = wrong-count k (make n) ns (λ e. h (ap suc e))

-- ---- what the forms of the table have in common

-- no line that can be read is longer: the longest name, and as many numbers of ten digits, each after a space
abbrev pub longest_readable : ℕ
longest_readable = 6 + most_numbers * 11

both : (a b : Bool) → (a && b) ≡ true → (a ≡ true) × (b ≡ true)
both true b h = (refl, h)
both false b h = cc

-- the name is ASCII, no call takes more numbers, the name with two bytes for each number is long enough, and with eleven for each it isn't too long
common : Form → Bool
common f = list_all is_ascii f.name && (leb f.count most_numbers && (leb shortest_line (length f.name + 2 * f.count) && leb (length f.name + 11 * f.count) longest_readable))

all-common : list_all common forms ≡ true
unfolding common
all-common = refl

named-common : (fs : List Form) (word : List ℕ) (f : Form) → list_all common fs ≡ true → form_named fs word ≡ Some f → (common f ≡ true) × (same_text word f.name ≡ true)
unfolding form_named
named-common [] word f h e = cc
named-common (g ∷ fs) word f h e = let a = both (common g) (list_all common fs) h in go (same_text word g.name) refl a.0 (named-common fs word f a.1) e
  where
    go : (t : Bool) → same_text word g.name ≡ t → common g ≡ true → (form_named fs word ≡ Some f → (common f ≡ true) × (same_text word f.name ≡ true)) → cond t (Some g) (form_named fs word) ≡ Some f
        → (common f ≡ true) × (same_text word f.name ≡ true)
    go true s k ih e = let q : g ≡ f = cc in subst (λ (x : Form). (common x ≡ true) × (same_text word x.name ≡ true)) q (k, s)
    go false s k ih e = ih e

-- what a word that names a form gives
pub record KnownForm (word : List ℕ) (f : Form) : Type 0 where
  pub ascii : IsAscii word
  pub few : f.count ≤ most_numbers
  pub long : shortest_line ≤ length word + 2 * f.count
  pub short : length word + 11 * f.count ≤ longest_readable

pub known-form : (word : List ℕ) (f : Form) → form_named forms word ≡ Some f → KnownForm word f
unfolding common same_text
known-form word f e =
    let k = named-common forms word f all-common e in
    let name : word ≡ f.name = (bytes_eq-Decides word f.name).0 k.1 in
    let a = both (list_all is_ascii f.name) (leb f.count most_numbers && (leb shortest_line (length f.name + 2 * f.count) && leb (length f.name + 11 * f.count) longest_readable)) k.0 in
    let b = both (leb f.count most_numbers) (leb shortest_line (length f.name + 2 * f.count) && leb (length f.name + 11 * f.count) longest_readable) a.1 in
    let s = both (leb shortest_line (length f.name + 2 * f.count)) (leb (length f.name + 11 * f.count) longest_readable) b.1 in
    let ascii : IsAscii f.name = IsAscii-from_all f.name (λ i d l. ltb-true _ 128 (AllPass-from_list_all is_ascii f.name a.0 i d l)) in
    record {
      ascii = rw name ascii;
      few = leb-true f.count most_numbers b.0;
      long = rw name (leb-true shortest_line (length f.name + 2 * f.count) s.0);
      short = rw name (leb-true (length f.name + 11 * f.count) longest_readable s.1);
    }
