-- What open, cert and amend answer and leave, by the number that turns them down and by what is written. Assumes nothing.
use Rattle.std.specs.Prelude.{Ok, Err}
use mathlib.Core.Path.{◌≡◌, refl, sym, ap, ap₂, ◌∙◌}
use mathlib.Core.Bool.{Bool, true, false, cond}
use mathlib.Core.List.{List, [], map}
use Prim.Native.Nat.{ℕ, ◌+◌, ◌*◌, ◌^◌, ◌<◌, ◌≤◌}
use native.Mathlib.Omega.{arith}
use lib.Dec.{leb}
use lib.IntN.{ℤ, sub_ℕ}
use Rattle.limits.specs.Limits.{last_day, first_scheme_day, contract_count}
use Rattle.basics.specs.Lists.{total}
use Rattle.basics.proofs.Tests.{not-no, le_yes, and_right, or-no-left}
use Rattle.fields.specs.Fields.{Fit}
use Rattle.records.specs.Edits.{replace_at}
use Rattle.records.specs.OneSlot.{record_bytes}
use Rattle.refusals.specs.declared.Refusal.{Refusal}
use Rattle.refusals.specs.Numbers.{number_of}
use Rattle.rates.specs.declared.Amendment.{Amendment}
use Rattle.rates.specs.declared.Contract.{Contract}
use Rattle.model.specs.declared.Answer.TheVariants.{Done, Certified}
use Rattle.model.specs.declared.Call.{Call}
use Rattle.model.specs.Calls.{◌with◌}
use Rattle.model.specs.Codes.{opening, certify, amend}
use Rattle.model.specs.OpenContracts.{contract_at}
use Rattle.model.specs.Rules.{refusal}
use Rattle.model.specs.PresentRules.{bad_amendment_days, tests}
use Rattle.model.specs.Ledger.{view, due, ledger_with_rows, rerated, accept}
use Rattle.model.proofs.RulesLaws.{Opened, Certified as Taken, Amended}
use Rattle.layout.specs.Layout.{ledger_of}
use Rattle.layout.specs.PresentLayout.{contract_record}
use Rattle.layout.specs.Offsets.{first_contract, contract_length}
use Rattle.layout.specs.Present.{Formed, Searched, rules, facts, contracts}
use Rattle.layout.proofs.PresentLayout.{contract-fits}
use Rattle.layout.proofs.Present.{present, facts-kept, repacked}
use Rattle.edits.proofs.PackedChanges.{written-contract}
use Rattle.ledger.specs.Answered.{view_of, AnsweredWithAnyBook}
use Rattle.ledger.proofs.Refusals.{refused-answered, accepted-answered}
use Rattle.contract_calls.specs.declared.rerating.Rerated.{Rerated}
use Rattle.contract_calls.specs.Rerating.{Rerateable, RowsRerated}
use Rattle.contract_calls.proofs.RowsRerating.{new-sum-most, old-sum-most, sums-change}

-- ---- open

module _ (b : List ℕ) (contract fuel kind fix entry : ℕ) (f : Formed b) where
  pub not-opened : (r : Refusal) → number_of r ≡ refusal rules (view_of b) (Call.Open contract fuel kind fix entry with []) → AnsweredWithAnyBook b (Call.Open contract fuel kind fix entry) (Err r) b
  unfolding refusal tests
  not-opened r e book = refused-answered b _ r f e

  module _ (none : 0 ≡ refusal rules (view_of b) (Call.Open contract fuel kind fix entry with [])) where
    taken : Opened rules (view_of b) contract (opening fuel kind fix entry)
    taken = present.rules.opens (view_of b) contract fuel kind fix entry [] (sym none)

    pub opened-number : contract < contract_count
    opened-number = taken.number

    module _ (k : Contract) (made : k ≡ opening fuel kind fix entry) where
      pub opened-fits : Fit contract_record.widths (contract_record.values k)
      opened-fits = contract-fits (view_of b).territory k (rw made taken.ranges)

      pub opened : (after : List ℕ) → after ≡ replace_at (first_contract + contract * contract_length) (record_bytes contract_record k) b
          → AnsweredWithAnyBook b (Call.Open contract fuel kind fix entry) (Ok Done) after
      unfolding refusal tests accept
      opened after put book =
          accepted-answered b _ f none refl
          (written-contract (facts b) b after (sym (repacked b f)) contract k opened-number put ∙ rw made)

-- ---- cert

module _ (b : List ℕ) (rows contract class effective : ℕ) (s : Searched b rows) where
  pub not-certified : (r : Refusal) → number_of r ≡ refusal rules (view_of b) (Call.Cert contract class effective with []) → AnsweredWithAnyBook b (Call.Cert contract class effective) (Err r) b
  unfolding refusal tests
  not-certified r e book = refused-answered b _ r s.formed e

  module _ (none : 0 ≡ refusal rules (view_of b) (Call.Cert contract class effective with [])) where
    taken_cert : Taken rules (view_of b) contract class effective
    taken_cert = present.rules.certs (view_of b) contract class effective [] (sym none)

    pub certified-number : contract < contract_count
    certified-number = taken_cert.number

    -- the contract that was read, and that with the certificate
    module _ (old k : Contract) (read : old ≡ contract_at (contracts b) contract) (made : k ≡ certify old class effective) where
      is-certified : k ≡ certify (contract_at (facts b).contracts contract) class effective
      unfolding ledger_of
      is-certified = made ∙ ap (λ (c : Contract). certify c class effective) read

      pub certified-fits : Fit contract_record.widths (contract_record.values k)
      unfolding view
      certified-fits =
          let kept = facts-kept b s.formed in
          contract-fits (view_of b).territory k (rw is-certified (taken_cert.ranges _ (kept.contracts contract taken_cert.is_opened)))

      -- it has the contract's fuel, kind and amendment
      pub certified-terms : Rerateable b rows contract k
      unfolding certify
      certified-terms = record { searched = s; number = certified-number; fuel = rw (made, read); kind = rw (made, read); amendment = rw (made, read) }

      module _ (r : Rerated) (rated : List ℕ) (t : RowsRerated contract k b r rated) where
        -- the two sums are small enough for their difference
        pub new-sum-low : r.new < 2 ^ 62
        new-sum-low = omega (arith, t.new, new-sum-most contract k b s.formed)

        pub old-sum-low : r.old < 2 ^ 62
        old-sum-low = omega (arith, t.old, old-sum-most contract k b s.formed)

        pub certified : (after : List ℕ) (change : ℤ) → after ≡ replace_at (first_contract + contract * contract_length) (record_bytes contract_record k) rated
            → change ≡ sub_ℕ r.new r.old → AnsweredWithAnyBook b (Call.Cert contract class effective) (Ok (Certified change r.changed)) after
        unfolding refusal tests accept due
        certified after change put net book =
            let sums : change ≡ sub_ℕ (total (λ x. x.amount) (map (rerated rules contract k) (facts b).rows)) (total (λ x. x.amount) (facts b).rows) =
            net ∙ ap₂ sub_ℕ t.new t.old ∙ sums-change contract k b s.formed in
            accepted-answered b _ s.formed none
            (rw (sums, t.changed, is-certified))
            (written-contract (ledger_with_rows (facts b) (map (rerated rules contract k) (facts b).rows)) rated after t.left contract k certified-number put ∙ rw is-certified)

-- ---- amend

-- an original end that passes the test of its days is a day
pub end_low : (end fix entry : ℕ) (r : Bool) → r ≡ bad_amendment_days end fix entry → ◌≡◌ {A = ℕ} 0 (cond r 7 0) → end ≤ last_day
unfolding bad_amendment_days
end_low end fix entry true e f = let z : ⊥ = omega arith in absurd z
end_low end fix entry false e f = le_yes end last_day (and_right (leb first_scheme_day end) _ (not-no _ (or-no-left _ _ (sym e))))

module _ (b : List ℕ) (rows contract : ℕ) (a : Amendment) (s : Searched b rows) where
  pub not-amended : (r : Refusal) → number_of r ≡ refusal rules (view_of b) (Call.Amend contract a.original_end_day a.price_fix_day a.entry_day with [])
      → AnsweredWithAnyBook b (Call.Amend contract a.original_end_day a.price_fix_day a.entry_day) (Err r) b
  unfolding refusal tests
  not-amended r e book = refused-answered b _ r s.formed e

  module _ (none : 0 ≡ refusal rules (view_of b) (Call.Amend contract a.original_end_day a.price_fix_day a.entry_day with [])) where
    taken_amend : Amended rules (view_of b) contract a.original_end_day a.price_fix_day a.entry_day
    taken_amend = present.rules.amends (view_of b) contract a.original_end_day a.price_fix_day a.entry_day [] (sym none)

    pub amended-number : contract < contract_count
    amended-number = taken_amend.number

    -- the contract that was read, and that with the amendment
    module _ (old k : Contract) (read : old ≡ contract_at (contracts b) contract) (made : k ≡ amend old a.original_end_day a.price_fix_day a.entry_day) where
      is-amended : k ≡ amend (contract_at (facts b).contracts contract) a.original_end_day a.price_fix_day a.entry_day
      unfolding ledger_of
      is-amended = made ∙ ap (λ (c : Contract). amend c a.original_end_day a.price_fix_day a.entry_day) read

      pub amended-fits : Fit contract_record.widths (contract_record.values k)
      unfolding view
      amended-fits =
          let kept = facts-kept b s.formed in
          contract-fits (view_of b).territory k (rw is-amended (taken_amend.ranges (kept.contracts contract taken_amend.is_opened)))

      pub amended : (after : List ℕ) → after ≡ replace_at (first_contract + contract * contract_length) (record_bytes contract_record k) b
          → AnsweredWithAnyBook b (Call.Amend contract a.original_end_day a.price_fix_day a.entry_day) (Ok Done) after
      unfolding refusal tests accept
      amended after put book =
          accepted-answered b _ s.formed none refl
          (written-contract (facts b) b after (sym (repacked b s.formed)) contract k amended-number put ∙ rw is-amended)
