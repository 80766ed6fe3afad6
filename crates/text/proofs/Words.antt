-- The words of a line, one after the other: the name, and then the numbers. Assumes nothing.
use Rattle.std.proofs.Common.{◌≡◌, ℕ, ◌+◌, ◌<◌, ◌≤◌, true, List, [], ◌∷◌, ◌++◌, length, get_or, drop, Option, Some, None, Bor, lit<, refl, sym, ap, ◌∙◌, arith, append_assoc, append-nil, length-append}
use Rattle.std.specs.Str.Iter.{split_steps, split_text, split_has_more, split_pattern}
use Rattle.std.specs.Str.Pattern.{FindsChar}
use Rattle.std.specs.declared.str.Split.{Split}
use Rattle.std.proofs.lemmas.Iterator.{YieldsList}
use Rattle.std.specs.Iterator.{Yields}
use Rattle.std.proofs.lemmas.Iterator.Consumers.{YieldsList-turn, YieldsList-end}
use Rattle.std.proofs.lemmas.Iterator.Splits.{YieldsList-from_str_split}
use Rattle.std.proofs.lemmas.List.{drop_more, drop_all, length_push}
use Rattle.text.specs.Bytes.{space}
use Rattle.text.specs.Pieces.{pieces}
use Rattle.text.specs.Numbers.{number_of, numbers_of, followed_by}
use Rattle.text.specs.Commands.{Form, forms, form_named, no_command, command_by, command_of_words, command_of, most_numbers}
use Rattle.text.proofs.Commands.{wrong-count, known-form}

-- ---- the words that the library gives of a line: the name, and the others, which are still to come from the state t
abbrev pub word_steps : Split ℕ → Option (Bor (List ℕ)) → Split ℕ → Type 0
word_steps = split_steps FindsChar (λ a b. b ≡ a)

abbrev pub GivesWords : Split ℕ → List (List ℕ) → Type 0
GivesWords = YieldsList word_steps (λ x. x.now)

pub record Named (line name : List ℕ) (t : Split ℕ) : Type 0 where
  pub split : pieces space line ≡ name ∷ drop 1 (pieces space line)
  pub others : GivesWords t (drop 1 (pieces space line))

first-given : (s t : Split ℕ) (x : Bor (List ℕ)) (all : List (List ℕ)) → GivesWords s all → word_steps s (Some x) t → (all ≡ x.now ∷ drop 1 all) × GivesWords t (drop 1 all)
first-given s t x [] y h = absurd (y.runs x t h)
first-given s t x (b ∷ all) y h = let k = y.runs.1 x t h in (ap (λ (c : List ℕ). c ∷ all) (sym k.0), record { runs = k.1 })

pub named : (s t u : Split ℕ) (line : List ℕ) → split_text s ≡ line → split_has_more s ≡ true → split_pattern s ≡ space
    → (r : Option (Bor (List ℕ))) (x : Bor (List ℕ)) → r ≡ Some x → word_steps s r t → u ≡ t → Named line x.now u
unfolding pieces
named s t u line e m p r x q h k =
    let g = first-given s t x (pieces space line) (YieldsList-from_str_split space line (lit< tt) e m p) (rw q at h) in
    rw k (record { split = g.0; others = g.1 })

-- ---- numbers before numbers
abbrev after : List ℕ → Option (List ℕ) → Option (List ℕ)
after l None = None
after l (Some ns) = Some (l ++ ns)

after-number : (l : List ℕ) (n : ℕ) (x : Option (List ℕ)) → after l (followed_by (Some n) x) ≡ after (l ++ n ∷ []) x
after-number l n None = refl
after-number l n (Some ns) = ap Some (sym (append_assoc l (n ∷ []) ns))

-- the first k of the words are the numbers ns
pub record Gathered (words : List (List ℕ)) (k : ℕ) (ns : List ℕ) : Type 0 where
  pub count : length ns ≡ k
  pub rest : numbers_of words ≡ after ns (numbers_of (drop k words))

pub none-gathered : (words : List (List ℕ)) → Gathered words 0 []
none-gathered words = record { count = refl; rest = go (numbers_of words) }
  where
    go : (x : Option (List ℕ)) → x ≡ after [] x
    go None = refl
    go (Some ns) = refl

module _ {words : List (List ℕ)} {k : ℕ} {ns : List ℕ} (so : Gathered words k ns) where
  -- all words are read
  all-gathered : length words ≤ k → numbers_of words ≡ Some ns
  unfolding numbers_of
  all-gathered h = so.rest ∙ rw (drop_all k words h) (ap Some (append-nil ns))

  -- the next word
  module _ (w : List ℕ) (h : k < length words) (e : w ≡ get_or words k w) where
    next-word : numbers_of words ≡ after ns (followed_by (number_of w) (numbers_of (drop (k + 1) words)))
    unfolding numbers_of
    next-word = so.rest ∙ rw (drop_more words k w h, ← e)

    no-number : number_of w ≡ None → numbers_of words ≡ None
    no-number q = next-word ∙ rw q

    one-gathered : (n : ℕ) → number_of w ≡ Some n → Gathered words (k + 1) (ns ++ n ∷ [])
    one-gathered n q = record {
      count = length_push ns n ∙ ap (λ (m : ℕ). m + 1) so.count;
      rest = next-word ∙ rw q (after-number ns n (numbers_of (drop (k + 1) words)));
    }

    -- no call takes more numbers
    too_many : most_numbers ≤ k → (n : ℕ) → number_of w ≡ Some n → (name : List ℕ) → command_by (form_named forms name) (numbers_of words) ≡ no_command
    too_many m n q name = rw (one-gathered n q).rest (by_name (form_named forms name) refl (numbers_of (drop (k + 1) words)))
      where
        l : List ℕ
        l = ns ++ n ∷ []

        by_name : (x : Option Form) → form_named forms name ≡ x → (y : Option (List ℕ)) → command_by x (after l y) ≡ no_command
        by_name None e y = refl
        by_name (Some f) e None = refl
        by_name (Some f) e (Some ms) =
            wrong-count f.count f.make (l ++ ms) (λ c. omega (arith, c, length-append l ms, length_push ns n, so.count, (known-form name f e).few))

-- ---- the command of a line, by its words
module _ {line name : List ℕ} {t : Split ℕ} (n : Named line name t) where
  by_name : command_of line ≡ command_by (form_named forms name) (numbers_of (drop 1 (pieces space line)))
  unfolding command_of
  by_name = ap command_of_words n.split

  module _ (xs : List (Bor (List ℕ))) (u : Split ℕ) (passed : Yields word_steps t xs u) {ns : List ℕ} (so : Gathered (drop 1 (pieces space line)) (length xs) ns) where
    -- the words end
    pub ended : (v : Split ℕ) (r : Option (Bor (List ℕ))) → r ≡ None → word_steps u r v → command_of line ≡ command_by (form_named forms name) (Some ns)
    ended v r e h = by_name ∙ rw (all-gathered so (let k = (YieldsList-end n.others xs u passed r v e h).1 in omega arith))

    -- the words go on
    module _ (v : Split ℕ) (r : Option (Bor (List ℕ))) (x : Bor (List ℕ)) (e : r ≡ Some x) (h : word_steps u r v) where
      turn : (length xs < length (drop 1 (pieces space line))) × (x.now ≡ get_or (drop 1 (pieces space line)) (length xs) x.now)
      turn = YieldsList-turn n.others xs u passed r v x e h

      pub unread : None ≡ number_of x.now → no_command ≡ command_of line
      unread q = sym (by_name ∙ rw (no-number so x.now turn.0 turn.1 (sym q)) (none_known (form_named forms name)))
        where
          none_known : (f : Option Form) → command_by f None ≡ no_command
          none_known None = refl
          none_known (Some f) = refl

      pub more-gathered : (m : ℕ) → Some m ≡ number_of x.now → Gathered (drop 1 (pieces space line)) (length xs + 1) (ns ++ m ∷ [])
      more-gathered m q = one-gathered so x.now turn.0 turn.1 m (sym q)

      pub too_many_numbers : (m : ℕ) → Some m ≡ number_of x.now → length ns ≡ most_numbers → no_command ≡ command_of line
      too_many_numbers m q l = sym (by_name ∙ too_many so x.now turn.0 turn.1 (omega (arith, so.count)) m (sym q) name)
