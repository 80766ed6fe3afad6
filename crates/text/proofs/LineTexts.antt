-- The line of a reply, part by part, and its room. Assumes nothing.
use Rattle.std.proofs.Common.{◌≡◌, ℕ, ◌+◌, ◌*◌, ◌^◌, ◌<◌, ◌≤◌, List, [], ◌∷◌, ◌++◌, length, take, get_or, ℤ, pos, to_z, of_z, w64, sym, ap, ◌∙◌, arith, append_assoc, length-append, eq-eqb, ne_eqb}
use mir.Val.{SFits}
use Rattle.std.specs.Fmt.{decimal, signed_decimal}
use Rattle.std.proofs.lemmas.Int.{to_z-of_z}
use Rattle.std.proofs.lemmas.List.{take_more, take_all, flat_map_more}
use Rattle.model.specs.declared.Reply.{Reply}
use Rattle.text.specs.Bytes.{ascii, space}
use Rattle.text.specs.Lines.{spaced_number, numbers_text, number_room, words_text, words_room}
use Rattle.text.proofs.Digits.{digits-decimal, integer_text-signed_decimal}

-- a number more: one that is passed on is read back from its bits
module _ (zs : List ℤ) (k : ℕ) (h : k < length zs) (f : SFits w64 (get_or zs k (pos 0))) where
  number-text : space ∷ signed_decimal (to_z w64 (of_z w64 (get_or zs k (pos 0)))) ≡ spaced_number (get_or zs k (pos 0))
  number-text = ap (λ (z : ℤ). space ∷ signed_decimal z) (to_z-of_z w64 _ f) ∙ ap (λ (t : List ℕ). space ∷ t) (sym (integer_text-signed_decimal _ f))

  pub one-more-number : (start : List ℕ) {a b c t : List ℕ} → a ≡ start ++ numbers_text (take k zs) → b ≡ a ++ space ∷ [] → t ≡ signed_decimal (to_z w64 (of_z w64 (get_or zs k (pos 0)))) → c ≡ b ++ t
      → c ≡ start ++ numbers_text (take (k + 1) zs)
  one-more-number start {a} e q r p =
      p ∙ rw (q, r, append_assoc) (rw (number-text, e, take_more zs k (pos 0) h) (flat_map_more spaced_number start (take k zs) (get_or zs k (pos 0))))

-- the words of a line, in their room: `ok` and the numbers, or `refused` and the number
pub record AreWords (t : Reply) (words : List ℕ) : Type 0 where
  pub text : words ≡ words_text t
  pub room : length words ≤ words_room t

module _ (t : Reply) (words : List ℕ) where
  pub ok-words : t.refused ≡ 0 → (k : ℕ) → length (take t.count t.numbers) ≤ k → k ≤ t.count → words ≡ ascii "ok" ++ numbers_text (take k (take t.count t.numbers)) → length words ≤ 2 + number_room * k
      → AreWords t words
  ok-words e k h l q r = record {
    text = q ∙ rw (eq-eqb t.refused 0 e, take_all k (take t.count t.numbers) h);
    room = rw (eq-eqb t.refused 0 e) (omega arith);
  }

  pub refused-words : (t.refused ≡ 0 → ⊥) → t.refused < 2 ^ 64 → words ≡ ascii "refused " ++ decimal t.refused → AreWords t words
  refused-words n h q =
      let d = digits-decimal t.refused h in
      record {
        text = q ∙ rw (ne_eqb t.refused 0 n) (ap (λ (x : List ℕ). ascii "refused " ++ x) (sym d));
        room = rw (ne_eqb t.refused 0 n) (omega (arith, ap length q, ap length d, length-append (ascii "refused ") (decimal t.refused)));
      }
