-- The loop over the lines of an input: what is written, and what is to be printed of the rest, make the whole. Assumes nothing.
use Rattle.std.proofs.Common.{◌≡◌, ◌≢◌, ℕ, ◌+◌, ◌*◌, ◌≤◌, ◌<◌, min, Bool, false, eqb, ⊎_elim, List, [], ◌∷◌, ◌++◌, length, take, Bor, refl, sym, ap, ◌∙◌, arith, append_assoc, append-nil, length-append, lt-ltb, le-ltb, ne_eqb, eqb-true}
use denote.Param.Members.{Mut}
use Rattle.std.specs.Fn.{ComputesKey, CalledAt}
use Rattle.std.specs.List.{All, IsFirstMatchOrLen, slice_split}
use Rattle.std.proofs.Math.Seq.{take-append_seam}
use Rattle.std.proofs.lemmas.Bool.{cases_lt}
use Rattle.std.proofs.lemmas.Fn.{always_returns_same}
use Rattle.std.proofs.lemmas.Grind.{common_steps}
use Rattle.std.proofs.lemmas.List.{nil_from_length, take_more}
use Rattle.std.proofs.lemmas.List.Splits.{slice_split_none, slice_split_at, length-slice_split}
use Rattle.model.specs.Calls.{reply_without_numbers}
use Rattle.text.specs.Bytes.{line_feed}
use Rattle.text.specs.Pieces.{pieces}
use Rattle.text.specs.Commands.{command_of, no_command}
use Rattle.text.specs.Lines.{line_text, Wrote, WroteWithin}
use Rattle.text.proofs.Writes.{wrote_none, wrote_then, wrote-same}
use Rattle.session.specs.Replies.{State, holding, initial, response_to, reply, next}
use Rattle.session.specs.Transcript.{commands_of_pieces, commands_of, exchanges, printed, most_input, input_commands, transcript, output_per_byte, most_output}

-- what is printed of a text, from a state on
abbrev pub printed_of : State → List ℕ → List ℕ
printed_of s text = printed (exchanges s (commands_of text))

-- ---- of no text, of a text that can't be read, and of a line before the rest
pub printed-none : (s : State) → printed_of s [] ≡ []
unfolding printed commands_of commands_of_pieces pieces
printed-none s = refl

pub printed-unreadable : (s : State) → printed (exchanges s (no_command ∷ [])) ≡ line_text (reply_without_numbers 1)
unfolding printed response_to
printed-unreadable s = append-nil (line_text (reply_without_numbers 1))

commands-more : (line : List ℕ) (others : List (List ℕ)) → 0 < length others → commands_of_pieces (line ∷ others) ≡ command_of line ∷ commands_of_pieces others
unfolding commands_of_pieces
commands-more line [] h = absurd (omega arith)
commands-more line (another ∷ lines) h = refl

-- ---- the first line of what is left, as the library cuts it off: `part`, with its line feed unless there is none
pub record FirstLine (left part after : List ℕ) : Type 0 where
  pub whole : left ≡ part ++ after
  pub some : 0 < length left
  pub at : ℕ
  pub long : length part ≡ min (at + 1) (length left)
  pub first : IsFirstMatchOrLen (λ b. eqb b line_feed) left at

pub first_line : {F : Type 0} (g : Mut F (Bor ℕ × Unit {0}) Bool) (f f' : F) (left part after : List ℕ)
    → (left ≡ part ++ after) × ((at : ℕ) × (length part ≡ min (at + 1) (length left)) × ((p : ℕ → Bool) → ComputesKey g p f → ComputesKey g p f' × IsFirstMatchOrLen p left at)) × (0 < length left)
    → ((x : ℕ) (b : Bool) (q : F) → CalledAt g f x b q → (q ≡ f) × (b ≡ eqb x line_feed)) → FirstLine left part after
first_line g f f' left part after cut tests =
    let is_line_feed = λ (b : ℕ). eqb b line_feed in
    let computes : ComputesKey g is_line_feed f = always_returns_same g (λ a r. r ≡ is_line_feed a.0.now) f (λ a r q k. let m = tests a.0.now r q (record { shown = a.0; shows = refl; called = k }) in (m.1, m.0)) in
    record { whole = cut.0; some = cut.2; at = cut.1.0; long = cut.1.1; first = (cut.1.2 is_line_feed computes).1 }

module _ {left part after : List ℕ} (f : FirstLine left part after) where
  printed-line : (s : State) (line : List ℕ) → part ≡ line ++ line_feed ∷ [] → printed_of s left ≡ line_text (reply s (command_of line)) ++ printed_of (next s (command_of line)) after
  unfolding printed commands_of pieces
  printed-line s line e =
      let w : left ≡ line ++ line_feed ∷ after = f.whole ∙ ap (λ (t : List ℕ). t ++ after) e ∙ append_assoc line (line_feed ∷ []) after in
      let front : All (λ b. eqb b line_feed ≡ false) line = λ k d l. let a = f.first.0 k d (omega arith) (omega (arith, f.long, ap length e, length-append line (line_feed ∷ []))) in grind (arith, common_steps) in
      rw (w, slice_split_at (λ b. eqb b line_feed) line line_feed after front refl, commands-more line (slice_split (λ b. eqb b line_feed) after) (omega (arith, length-slice_split (λ b. eqb b line_feed) after))) refl

  ends : (l : f.at < length left) → part ≡ take f.at left ++ line_feed ∷ []
  ends l =
      sym (take-append_seam part after) ∙ ap (take (length part)) (sym f.whole) ∙ ap (λ (n : ℕ). take n left) (omega (arith, f.long))
      ∙ take_more left f.at 0 l ∙ ap (λ (b : ℕ). take f.at left ++ b ∷ []) (eqb-true _ line_feed (f.first.1 l 0))

  printed-cut : (s : State) → ((line : List ℕ) → part ≢ line ++ line_feed ∷ []) → printed_of s left ≡ line_text (reply_without_numbers 1)
  unfolding commands_of commands_of_pieces pieces
  printed-cut s n =
      let at_end : length left ≤ f.at = ⊎_elim (λ (l : f.at < length left). absurd (n (take f.at left) (ends l))) (λ (l : length left ≤ f.at). l) (cases_lt f.at (length left)) in
      let none : All (λ b. eqb b line_feed ≡ false) left = λ k d l. f.first.0 k d (omega arith) (omega (arith, at_end)) in
      rw (slice_split_none (λ b. eqb b line_feed) left none, ne_eqb (length left) 0 (λ z. omega (arith, f.some))) (printed-unreadable s)

-- ---- the loop: with `left` to be read and `written` written
pub record Reached (input : List ℕ) (s₀ : State) (out₀ : List ℕ) (s : State) (out left : List ℕ) (written : ℕ) : Type 0 where
  pub room : written + output_per_byte * length left ≤ output_per_byte * length input
  pub ledger : length s.ledger ≡ length s₀.ledger
  pub long : length out ≡ length out₀
  pub done : List ℕ
  pub wrote : Wrote out₀ out 0 written done
  pub rest : done ++ printed_of s left ≡ printed_of s₀ input

pub nothing-reached : (input : List ℕ) (s : State) (out : List ℕ) → Reached input s out s out input 0
nothing-reached input s out = record { room = omega arith; ledger = refl; long = refl; done = []; wrote = wrote_none out 0; rest = refl }

module _ {input : List ℕ} {s₀ : State} {out₀ : List ℕ} {s : State} {out left : List ℕ} {written : ℕ} (r : Reached input s₀ out₀ s out left written) where
  -- all is read
  pub all-reached : length left ≡ 0 → WroteWithin (output_per_byte * length input) out₀ out 0 written (printed_of s₀ input)
  all-reached h = record {
    wrote = wrote-same r.wrote refl (sym (append-nil r.done) ∙ ap (λ (t : List ℕ). r.done ++ t) (sym (rw (nil_from_length left h) (printed-none s))) ∙ r.rest);
    within = omega (arith, r.room);
  }

  module _ {part after : List ℕ} (f : FirstLine left part after) where
    -- a last line without its line feed
    pub cut-reached : ((line : List ℕ) → part ≢ line ++ line_feed ∷ []) → {out' : List ℕ} {w : ℕ} → WroteWithin 10 out out' written w (line_text (reply_without_numbers 1))
        → WroteWithin (output_per_byte * length input) out₀ out' 0 w (printed_of s₀ input)
    cut-reached n v = record {
      wrote = wrote-same (wrote_then r.wrote v.wrote) refl (ap (λ (t : List ℕ). r.done ++ t) (sym (printed-cut f s n)) ∙ r.rest);
      within = omega (arith, r.room, f.some, v.within);
    }

    -- a line, without its line feed
    pub line-reached : (line : List ℕ) → part ≡ line ++ line_feed ∷ [] → {s' : State} {out' : List ℕ} {w : ℕ}
        → WroteWithin (output_per_byte * (length line + 1)) out out' written w (line_text (reply s (command_of line)))
        → s' ≡ next s (command_of line)
        → length s'.ledger ≡ length s.ledger → length out' ≡ length out
        → Reached input s₀ out₀ s' out' after w
    line-reached line e {s'} v q kl ko = record {
      room = omega (arith, r.room, v.within, ap length f.whole, ap length e, length-append part after, length-append line (line_feed ∷ []));
      ledger = kl ∙ r.ledger;
      long = ko ∙ r.long;
      done = r.done ++ line_text (reply s (command_of line));
      wrote = wrote_then r.wrote v.wrote;
      rest = rw (q, append_assoc) (ap (λ (t : List ℕ). r.done ++ t) (sym (printed-line f s line e)) ∙ r.rest);
    }

-- ---- the whole input: one that is too long, and any other, from a ledger that is the initial one
pub long-written : (input : List ℕ) → most_input < length input → {d e : List ℕ} {w : ℕ} → WroteWithin 10 d e 0 w (line_text (reply_without_numbers 1)) → WroteWithin most_output d e 0 w (transcript input)
unfolding transcript input_commands
long-written input h v = record {
  wrote = wrote-same v.wrote refl (sym (rw (lt-ltb most_input (length input) h) (printed-unreadable initial)));
  within = omega (arith, v.within);
}

pub whole-written : (input ledger : List ℕ) → length input ≤ most_input → ledger ≡ initial.ledger → {d e : List ℕ} {w : ℕ}
    → WroteWithin (output_per_byte * length input) d e 0 w (printed_of (holding ledger initial.book) input) → WroteWithin most_output d e 0 w (transcript input)
unfolding transcript input_commands
whole-written input ledger h q v = record {
  wrote = wrote-same v.wrote refl (ap (λ (l : List ℕ). printed_of (holding l initial.book) input) q ∙ sym (rw (le-ltb most_input (length input) h)));
  within = omega (arith, v.within);
}
