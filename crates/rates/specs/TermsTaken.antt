-- Document 02, paper 5, "Blend and extend": the terms that a bill takes of its contract. Assumes nothing.
use Rattle.std.specs.Prelude.{◌≡◌, Bool, false, cond, ◌&&◌, ℕ, ◌≤◌, ◌<◌, leb, ltb, Option, Some, None}
use Rattle.rates.specs.declared.Kind.{Kind}
use Rattle.rates.specs.declared.Kind.TheVariants.{Fixed}
use Rattle.rates.specs.declared.Amendment.{Amendment}
use Rattle.rates.specs.declared.Contract.{Contract}
use Rattle.rates.specs.declared.Terms.{Terms}

-- "Bills starting on or before the end take the original price-fix and entry days; later ones take the amended pair"
abbrev pub kind_taken : Option Amendment → Kind → (first : ℕ) → Kind
kind_taken None kind first = kind
kind_taken (Some amendment) kind first = cond (leb first amendment.original_end_day) kind (Fixed amendment.price_fix_day amendment.entry_day)

-- the terms of a contract's bill with that first day
unfoldable pub terms_for : Contract → (first : ℕ) → Terms
terms_for contract first = record { fuel = contract.fuel; kind = kind_taken contract.amendment contract.kind first; certificate = contract.certificate }

-- a span that crosses the original end: it "starts on or before the original end and ends after it"
abbrev pub crosses_end : Option Amendment → (first last : ℕ) → Bool
crosses_end None first last = false
crosses_end (Some amendment) first last = leb first amendment.original_end_day && ltb amendment.original_end_day last

-- which terms a bill takes
pub record TermsTaken : Type 0 where
  pub unamended : (contract : Contract) (first : ℕ) → contract.amendment ≡ None → (terms_for contract first).kind ≡ contract.kind
  pub original : (contract : Contract) (amendment : Amendment) (first : ℕ) → contract.amendment ≡ Some amendment → first ≤ amendment.original_end_day
      → (terms_for contract first).kind ≡ contract.kind
  pub amended : (contract : Contract) (amendment : Amendment) (first : ℕ) → contract.amendment ≡ Some amendment → amendment.original_end_day < first
      → (terms_for contract first).kind ≡ Fixed amendment.price_fix_day amendment.entry_day
  -- so the terms of a span that doesn't cross the end are those of a bill starting on any of its days
  pub every_day : (contract : Contract) (first last day : ℕ) → crosses_end contract.amendment first last ≡ false → first ≤ day → day ≤ last
      → terms_for contract day ≡ terms_for contract first
