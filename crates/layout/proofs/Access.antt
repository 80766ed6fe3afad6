-- The contracts and the row slots of a packed ledger, read straight off its bytes. Assumes nothing.
use Rattle.std.specs.Prelude.{None, Some}
use mathlib.Core.Path.{◌≡◌, refl, sym, ap, ◌∙◌}
use mathlib.Core.Bool.{Bool, true, false, cond, false≢true}
use mathlib.Core.List.{List}
use Prim.Native.Nat.{ℕ, ◌+◌, ◌*◌, ◌≤◌, ◌<◌}
use native.Mathlib.Omega.{arith}
use lib.Dec.{eqb}
use lib.ListN.{length, get_or}
use Rattle.limits.specs.Limits.{row_count}
use Rattle.basics.proofs.Tests.{either}
use Rattle.records.specs.Pack.{size, WholeBytes}
use Rattle.records.specs.Slots.{whole, record_fields, slot_in, slot_ok}
use Rattle.records.specs.OneSlot.{slot_part, slot_at, is_taken, record_in}
use Rattle.records.specs.Numbered.{numbered}
use Rattle.records.proofs.OneSlot.{slot-holds, slots-pass, slots-fail}
use Rattle.rates.specs.declared.Contract.{Contract}
use Rattle.model.specs.OpenContracts.{contract_in, contract_at, is_there, is_open}
use Rattle.model.specs.Rules.{Rules}
use Rattle.layout.specs.Layout.{Layout, first_contract, first_row, ledger_length, contract_slots, contracts_in, contract_test}
use Rattle.layout.specs.Check.{contracts_ok}
use Rattle.layout.proofs.Lawful.{Lawful}

module _ {R : Rules} {L : Layout} (laws : Lawful R L) where
  pub contract-whole : WholeBytes (whole L.contract)
  contract-whole = (laws.layout.contract 0).aligned

  pub row-whole : WholeBytes (whole L.row)
  row-whole = (laws.layout.row (λ c. None)).aligned

module _ {R : Rules} {L : Layout} (laws : Lawful R L) (b : List ℕ) (long : length b ≡ ledger_length R L) where
  pub contracts-inside : first_contract R L + R.contract_limit * size (whole L.contract) ≤ length b
  unfolding ledger_length first_row
  contracts-inside = omega arith

  pub rows_inside : first_row R L + row_count * size (whole L.row) ≤ length b
  unfolding ledger_length
  rows_inside = omega arith

  -- the test of all contract slots, by each
  pub contracts-pass : ((c : ℕ) → c < R.contract_limit → slot_ok L.contract (contract_test R L b) (slot_at L.contract (first_contract R L) b c) ≡ true) → contracts_ok R L b ≡ true
  contracts-pass t = slots-pass L.contract (contract-whole laws) R.contract_limit (first_contract R L) b contracts-inside (slot_ok L.contract (contract_test R L b)) t

  pub contracts-fail : (c : ℕ) → c < R.contract_limit → slot_ok L.contract (contract_test R L b) (slot_at L.contract (first_contract R L) b c) ≡ false → contracts_ok R L b ≡ false
  contracts-fail c h t = slots-fail L.contract (contract-whole laws) R.contract_limit (first_contract R L) b contracts-inside (slot_ok L.contract (contract_test R L b)) c h t

  module _ (c : ℕ) (h : c < R.contract_limit) where
    -- what it holds
    contract-held : contracts_in R L b c ≡ slot_in L.contract (slot_at L.contract (first_contract R L) b c)
    unfolding contract_slots numbered
    contract-held = slot-holds L.contract (contract-whole laws) R.contract_limit (first_contract R L) b contracts-inside c h

    pub contract-open : is_taken L.contract (slot_part L.contract (first_contract R L) b c) ≡ is_open (contracts_in R L b) c
    unfolding is_taken is_open slot_in slot_at
    contract-open = sym (ap is_there contract-held ∙ either (eqb (get_or (slot_at L.contract (first_contract R L) b c) 0 0) 0) (λ z. rw z) (λ z. rw z))

    pub contract-read : is_open (contracts_in R L b) c ≡ true → record_in L.contract (slot_part L.contract (first_contract R L) b c) ≡ contract_at (contracts_in R L b) c
    unfolding is_open contract_at record_in slot_in slot_at
    contract-read e = sym (ap contract_in contract-held ∙ go (eqb (get_or (slot_at L.contract (first_contract R L) b c) 0 0) 0) (sym (ap is_there contract-held) ∙ e))
      where
        r : Contract
        r = L.contract.of (record_fields L.contract (slot_at L.contract (first_contract R L) b c))

        go : (z : Bool) → is_there (cond z None (Some r)) ≡ true → contract_in (cond z None (Some r)) ≡ r
        go true f = absurd (false≢true f)
        go false f = refl
