-- A ledger kept in a format: what a call on its bytes answers and leaves, for any bytes. Assumes nothing.
use Rattle.std.specs.Prelude.{◌≡◌, Bool, true, cond, Err}
use Rattle.model.specs.Rules.{Rules, refusal, unless_refused}
use Rattle.model.specs.Ledger.{Ledger, fresh, view, step, answer}
use Rattle.model.specs.WellFormed.{WellFormed}
use Rattle.model.specs.History.{Machine}

-- which bytes are a well-formed ledger (number 2 turns the others down), which facts they hold, and the bytes that hold given facts
pub record Format : Type 1 where
  pub Bytes : Type 0
  pub is_well_formed : Bytes → Bool
  pub unpack : Bytes → Ledger
  pub pack : Ledger → Bytes

-- the machine on bytes; a refused call changes no byte
abbrev pub bytes_machine : Rules → Format → Machine
bytes_machine R f = record {
  State = f.Bytes;
  start = λ t. f.pack (fresh t);
  step = λ b c. cond (f.is_well_formed b) (unless_refused (refusal R (view (f.unpack b)) c) (f.pack (step R (f.unpack b) c)) b) b;
  answer = λ b c. cond (f.is_well_formed b) (answer R (f.unpack b) c) (Err 2);
  facts = f.unpack;
}

-- what a format owes
pub record FormatLaws (R : Rules) (f : Format) : Type 0 where
  pub unpacked : (b : f.Bytes) → f.is_well_formed b ≡ true → WellFormed R (f.unpack b)
  pub packed : (l : Ledger) → WellFormed R l → f.is_well_formed (f.pack l) ≡ true
  pub packed_back : (l : Ledger) → WellFormed R l → f.unpack (f.pack l) ≡ l
