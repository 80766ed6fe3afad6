-- What the reading of a row slot says, and each turn of the pass over the rows, from what is still to be found to what is found. The pass
-- holds the contract and the last day of the row before. Assumes nothing.
use Rattle.std.specs.Prelude.{Result, Ok, Err, Option, Some, None}
use mathlib.Core.Path.{◌≡◌, refl, sym, ap, ap₂, ◌∙◌, subst}
use mathlib.Core.Bool.{Bool, true, false, cond, ◌&&◌}
use mathlib.Core.List.{List, [], ◌∷◌, map}
use Prim.Native.Nat.{ℕ, suc, ◌+◌, ◌-◌, ◌*◌, ◌≤◌, ◌<◌}
use native.Mathlib.Omega.{arith}
use lib.Dec.{ltb, eqb}
use lib.ListN.{length, drop, get_or}
use lib.Seq.{drop-length}
use Rattle.limits.specs.Limits.{row_count}
use Rattle.basics.specs.Tests.{every}
use Rattle.basics.specs.Lists.{total}
use Rattle.basics.proofs.Tests.{either, eq_yes, yes_lt, lt_yes, and_left}
use Rattle.fields.specs.Field.{AreBytes}
use Rattle.records.specs.Pack.{size}
use Rattle.records.specs.Slots.{whole, all_zero, slot_in, slot_ok, slots, array_in}
use Rattle.records.specs.Places.{held}
use Rattle.records.specs.Edits.{zero_at}
use Rattle.records.proofs.Slots.{length-slots}
use Rattle.records.proofs.OneSlot.{slots_next, zero_rest}
use Rattle.records.proofs.Scan.{record_of, Following, bool_same, test, scan-exactly, found, found-end, found-free, found-trailing, found-bad, found-good}
use Rattle.amounts.proofs.AmountBounds.{highest_amount}
use Rattle.refusals.specs.declared.Refusal.{Refusal}
use Rattle.refusals.specs.declared.Refusal.TheVariants.{NotWellFormed}
use Rattle.model.specs.declared.Row.{Row}
use Rattle.model.specs.OpenContracts.{Contracts}
use Rattle.model.specs.Rules.{Rules}
use Rattle.model.specs.Ledger.{comes_after}
use Rattle.model.specs.WellFormed.{before}
use Rattle.model.proofs.RowOrder.{Span, contracts-ascend, begins-later}
use Rattle.model.proofs.ContractThenDay.{by_day, contract-or-day, carried}
use Rattle.model.proofs.RowBounds.{row-span, row-begins, amount-low}
use Rattle.layout.specs.Layout.{Layout, row_ok, comes_before, first_row, ledger_length, contracts_in, row_slots}
use Rattle.layout.specs.declared.Totals.{Totals}
use Rattle.layout.specs.Check.{row_slot_at, slot_read, rows_checked_of, malformed, well_formed}
use Rattle.layout.proofs.LayoutLaws.{row-facts}
use Rattle.layout.proofs.Order.{comes-before, before-comes}
use Rattle.layout.proofs.Lawful.{Lawful}
use Rattle.layout.proofs.Access.{row-whole, rows_inside}

-- what is held of a row, its contract and last day, and whether a row comes after them
abbrev holds : Row → ℕ × ℕ
holds x = (x.bill.contract, x.bill.last)

abbrev follows : ℕ × ℕ → Row → Bool
follows s x = comes_after s.0 s.1 x.bill

-- what the pass finds of the row slots vs, with `rows` rows before them, whose amounts add up to `due` and of which the last is held
abbrev passed : Rules → Layout → Contracts → (contract last rows due : ℕ) → List (List ℕ) → Result Totals Refusal
passed R L cs contract last = found L.row (row_ok R cs) holds follows (λ x. x.amount) malformed well_formed (contract, last)

-- the pass at row i: what is found from there on is what is to be found, and the amounts so far are those of i bills
pub record Passing (R : Rules) (L : Layout) (b : List ℕ) (i contract last due : ℕ) : Type 0 where
  pub place : i ≤ row_count
  pub low : due ≤ i * highest_amount
  rest : passed R L (contracts_in R L b) contract last i due (drop i (slots L.row row_count (drop (first_row R L) b))) ≡ rows_checked_of R L b

-- ---- a row comes after the contract and last day of another just where it comes after that row

module _ (x y : Row) (p : Span x) (q : Span y) where
  pub after-row : comes_after x.bill.contract x.bill.last y.bill ≡ true → before x y
  unfolding before
  after-row e = contract-or-day x.bill.contract y.bill.contract _ e (λ l. omega (arith, p.short)) (λ k l. let n : x.bill.last < y.bill.first = lt_yes _ _ l in omega arith)

  pub row-after : before x y → comes_after x.bill.contract x.bill.last y.bill ≡ true
  row-after h = carried x.bill.contract x.bill.contract y.bill.contract true _ (contracts-ascend x y q h) (λ e t. yes_lt _ _ (begins-later x y h e)) (by_day x.bill.contract x.bill.contract true refl refl)

  after_on : (c day : ℕ) → comes_after c day x.bill ≡ true → before x y → comes_after c day y.bill ≡ true
  after_on c day e h = carried c x.bill.contract y.bill.contract (ltb day x.bill.first) (ltb day y.bill.first) (contracts-ascend x y q h)
      (λ k l. yes_lt day y.bill.first (omega (arith, lt_yes day x.bill.first l, begins-later x y h k, p.days))) e

module _ {R : Rules} {L : Layout} (laws : Lawful R L) where
  -- rows that pass are in the order of what is held of them
  rows-following : (cs : Contracts) → Following (row_ok R cs) comes_before (0, 0) holds follows
  rows-following cs = record {
    first = λ x e.
        let begins : 0 < x.bill.first = row-begins laws.rules (row-facts R cs x e) in
        carried 0 0 x.bill.contract true (ltb 0 x.bill.first) (omega arith) (λ e y. yes_lt 0 x.bill.first begins) (by_day 0 0 true refl refl);
    next = λ x y e f.
        let p = span x e in
        let q = span y f in
        bool_same _ _ (λ a. before-comes x y p q (after-row x y p q a)) (λ b. row-after x y p q (comes-before x y p q b));
    onward = λ s x y e f a b. after_on x y (span x e) (span y f) s.0 s.1 a (comes-before x y (span x e) (span y f) b);
  }
    where
      span : (x : Row) → row_ok R cs x ≡ true → Span x
      span x e = row-span laws.rules (row-facts R cs x e)

  -- ---- one slot

  module _ (v : List ℕ) where
    pub read-free : eqb (get_or v 0 0) 0 ≡ true → Ok None ≡ slot_read R L v
    unfolding slot_read
    read-free e = rw e

    module _ (taken : eqb (get_or v 0 0) 0 ≡ false) where
      pub read-bad : all_zero (drop (suc (length L.row.widths)) v) ≡ false → Err NotWellFormed ≡ slot_read R L v
      unfolding slot_read
      read-bad e = rw (taken, e)

      pub read_held : all_zero (drop (suc (length L.row.widths)) v) ≡ true → (x : Row) → x ≡ record_of L.row v → Ok (Some x) ≡ slot_read R L v
      unfolding slot_read
      read_held e x m = rw (taken, e) (ap (λ (y : Row). Ok (Some y)) m)

    -- what each reading says
    pub record HeldSlot (x : Row) : Type 0 where
      pub taken : eqb (get_or v 0 0) 0 ≡ false
      pub padded : all_zero (drop (suc (length L.row.widths)) v) ≡ true
      pub holding : x ≡ record_of L.row v

    abbrev Says : Result (Option Row) Refusal → Type 0
    Says (Ok None) = get_or v 0 0 ≡ 0
    Says (Err r) = (r ≡ NotWellFormed) × (eqb (get_or v 0 0) 0 ≡ false) × (all_zero (drop (suc (length L.row.widths)) v) ≡ false)
    Says (Ok (Some x)) = HeldSlot x

    read-says : {r : Result (Option Row) Refusal} → r ≡ slot_read R L v → Says r
    unfolding slot_read
    read-says {r} e = subst Says (sym e) (go (eqb (get_or v 0 0) 0) refl (all_zero (drop (suc (length L.row.widths)) v)) refl)
      where
        go : (f : Bool) → eqb (get_or v 0 0) 0 ≡ f → (z : Bool) → all_zero (drop (suc (length L.row.widths)) v) ≡ z → Says (cond f (Ok None) (cond z (Ok (Some (record_of L.row v))) (Err NotWellFormed)))
        go true f z h = eq_yes (get_or v 0 0) 0 f
        go false f false h = (refl, f, h)
        go false f true h = record { taken = f; padded = h; holding = refl }

    pub row-of-slot : {x : Row} → Ok (Some x) ≡ slot_read R L v → x ≡ record_of L.row v
    row-of-slot f = let g = read-says f in g.holding

  -- ---- the pass

  module _ (b : List ℕ) where
    abbrev cs : Contracts
    cs = contracts_in R L b

    abbrev numbers : List (List ℕ)
    numbers = slots L.row row_count (drop (first_row R L) b)

    pub pass-begins : Passing R L b 0 0 0 0
    unfolding found rows_checked_of row_slots array_in
    pass-begins = record {
      place = omega arith;
      low = omega arith;
      rest =
          ap₂ (λ (p : Bool) (c : Result Totals Refusal). cond p c malformed) (scan-exactly L.row (row_ok R cs) holds follows comes_before (0, 0) (rows-following cs) numbers)
          (ap₂ well_formed (plus (length (held (map (slot_in L.row) numbers)))) (plus (total (λ x. x.amount) (held (map (slot_in L.row) numbers)))));
    }
      where
        plus : (n : ℕ) → 0 + n ≡ n
        plus n = omega arith

    module _ {i contract last due : ℕ} (p : Passing R L b i contract last due) where
      pub pass-ends : row_count ≤ i → well_formed row_count due ≡ rows_checked_of R L b
      pass-ends h =
          let e : i ≡ row_count = omega (arith, p.place) in
          let n : row_count ≡ length numbers = sym (length-slots L.row row_count (drop (first_row R L) b)) in
          let z : drop i numbers ≡ [] = ap (λ (k : ℕ). drop k numbers) (e ∙ n) ∙ drop-length numbers in
          ap (λ (k : ℕ). well_formed k due) (sym e)
          ∙ sym (found-end L.row (row_ok R cs) holds follows (λ x. x.amount) malformed well_formed (contract, last) i due)
          ∙ ap (passed R L cs contract last i due) (sym z) ∙ p.rest

      module _ (long : length b ≡ ledger_length R L) (h : i < row_count) where
        abbrev v : List ℕ
        v = row_slot_at R L b i

        abbrev vs : List (List ℕ)
        vs = drop (i + 1) numbers

        next-slots : drop i numbers ≡ v ∷ vs
        next-slots = slots_next L.row (row-whole laws) row_count (first_row R L) b (rows_inside laws b long) i h

        here : passed R L cs contract last i due (v ∷ vs) ≡ rows_checked_of R L b
        here = ap (passed R L cs contract last i due) (sym next-slots) ∙ p.rest

        not-good : eqb (get_or v 0 0) 0 ≡ false → test L.row (row_ok R cs) v && follows (contract, last) (record_of L.row v) ≡ false → malformed ≡ rows_checked_of R L b
        not-good taken e = sym (found-bad L.row (row_ok R cs) holds follows (λ x. x.amount) malformed well_formed (contract, last) i due v vs taken e) ∙ here

        -- one of the bits that must stay zero is not
        pub slot-refused : {r : Refusal} → Err r ≡ slot_read R L v → Err r ≡ rows_checked_of R L b
        unfolding slot_ok
        slot-refused f = let g = read-says v f in ap (λ (r : Refusal). Err r) g.0 ∙ not-good g.1 (rw g.2)

        -- the slot holds the row x
        module _ {x : Row} (f : Ok (Some x) ≡ slot_read R L v) where
          holding : HeldSlot v x
          holding = read-says v f

          passes : test L.row (row_ok R cs) v && follows (contract, last) (record_of L.row v) ≡ row_ok R cs x && comes_after contract last x.bill
          unfolding slot_ok
          passes = let g = holding in rw (g.taken, g.padded, g.holding)

          pub row-malformed : row_ok R cs x && comes_after contract last x.bill ≡ false → malformed ≡ rows_checked_of R L b
          row-malformed e = not-good holding.taken (passes ∙ e)

          -- a row that passes: its amount is that of a bill, and the pass goes on with it in hand
          module _ (e : row_ok R cs x && comes_after contract last x.bill ≡ true) where
            amount-most : x.amount ≤ highest_amount
            amount-most = amount-low laws.rules (row-facts R cs x (and_left (row_ok R cs x) _ e))

            pub row-adds : due + x.amount ≤ row_count * highest_amount
            row-adds = omega (arith, p.low, amount-most)

            pub row-passed : Passing R L b (i + 1) x.bill.contract x.bill.last (due + x.amount)
            row-passed = record {
              place = omega arith;
              low = omega (arith, p.low, amount-most);
              rest =
                  ap (λ (y : Row). passed R L cs y.bill.contract y.bill.last (i + 1) (due + y.amount) vs) holding.holding
                  ∙ sym (found-good L.row (row_ok R cs) holds follows (λ y. y.amount) malformed well_formed (contract, last) i due v vs holding.taken (passes ∙ e)) ∙ here;
            }

        -- a free slot: zeros follow to the end, or not
        module _ (bytes : AreBytes b) (f : Ok None ≡ slot_read R L v) where
          abbrev rest_zero : Bool
          rest_zero = zero_at (first_row R L + i * size (whole L.row)) (ledger_length R L - (first_row R L + i * size (whole L.row))) b

          zeros : rest_zero ≡ every (map all_zero (v ∷ vs))
          unfolding ledger_length
          zeros = zero_rest L.row (row-whole laws) row_count (first_row R L) b (rows_inside laws b long) i bytes h ∙ ap (λ (ws : List (List ℕ)). every (map all_zero ws)) next-slots

          rows_end : rest_zero ≡ true → well_formed i due ≡ rows_checked_of R L b
          rows_end z = sym (found-free L.row (row_ok R cs) holds follows (λ x. x.amount) malformed well_formed (contract, last) i due v vs (read-says v f) (sym zeros ∙ z)) ∙ here

          rows-trailing : rest_zero ≡ false → malformed ≡ rows_checked_of R L b
          rows-trailing z = sym (found-trailing L.row (row_ok R cs) holds follows (λ x. x.amount) malformed well_formed (contract, last) i due v vs (read-says v f) (sym zeros ∙ z)) ∙ here

          pub rows-rest : cond rest_zero (well_formed i due) malformed ≡ rows_checked_of R L b
          rows-rest = either rest_zero (λ z. rw z (rows_end z)) (λ z. rw z (rows-trailing z))
