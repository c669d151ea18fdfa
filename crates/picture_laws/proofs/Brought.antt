-- Which parcels a message brings, by the numbers that it tells.
use Rattle.std.proofs.Common.{◌≡◌, ◌≢◌, inl, inr, ℕ, ◌≤◌, ◌==◌, ◌||◌, Bool, true, false, List, [], ◌∷◌, nat_le, refl, sym, ◌∙◌, ap, subst, arith}
use Rattle.std.specs.List.{flat_map, list_any}
use Rattle.std.specs.Str.{bytes_eq}
use Rattle.std.proofs.lemmas.Bool.{true≢false, and_parts, and_from, eqb-true, eq-eqb, leb-true, le-leb}
use Rattle.stamp_register.specs.Keys.{KeyValue, stamp_of}
use Rattle.operations.specs.Operations.{Shifts, Operation, Count, IsIn}
use Rattle.operations.proofs.Members.{IsIn-append_left, IsIn-append_right}
use Rattle.message_format.specs.Messages.{EntryValue, operations_of, hits_in, execs_in, shifts_in, grants_in}
use Rattle.message_format.proofs.Members.{mapped_in, in_flat, flat_in}
use Rattle.message_format.proofs.OneMessage.{shift_of}
use Rattle.message_format.proofs.Told.{IsTold, told_of}
use Rattle.replica_state.specs.Folds.{number_at}
use Rattle.replica_state.proofs.Orders.{bytes_eq-refl}
use Rattle.replica_state.proofs.Sets.{number_at-is_in, number_held}
use Rattle.drill_picture.specs.Stories.{ParcelTold as Parcel}
use Rattle.drill_picture.specs.Budgets.{same_stamp}
use Rattle.drill_picture.specs.Rights.{cell_covers, entry_covers, is_brought}
use Rattle.picture_laws.specs.Laws.{budget_of_key}

-- ---- one of a list

record HasOne {A : Type 0} (t : A → Bool) (xs : List A) : Type 0 where
  pub one : A
  pub there : IsIn one xs
  pub passes : t one ≡ true

any_has : {A : Type 0} (t : A → Bool) (xs : List A) → list_any t xs ≡ true → HasOne t xs
any_has t [] h = absurd (true≢false (sym h))
any_has t (x ∷ xs) h = at (any_has t xs) (t x) refl h
  where
    at : (list_any t xs ≡ true → HasOne t xs) → (b : Bool) → t x ≡ b → (b || list_any t xs) ≡ true → HasOne t (x ∷ xs)
    at rest true e g = record { one = x; there = inl refl; passes = e }
    at rest false e g = let r = rest g in record { one = r.one; there = inr r.there; passes = r.passes }

has_any : {A : Type 0} (t : A → Bool) (xs : List A) (x : A) → IsIn x xs → t x ≡ true → list_any t xs ≡ true
has_any t [] x h e = absurd h
has_any t (y ∷ xs) x (inl s) e = ap (λ b. b || list_any t xs) (ap t (sym s) ∙ e)
has_any t (y ∷ xs) x (inr h) e = at (has_any t xs x h e) (t y)
  where
    at : list_any t xs ≡ true → (b : Bool) → (b || list_any t xs) ≡ true
    at rest true = refl
    at rest false = rest

pub alike : (a b : Bool) → (a ≡ true → b ≡ true) → (b ≡ true → a ≡ true) → a ≡ b
alike true b f g = sym (f refl)
alike false true f g = g refl
alike false false f g = refl

-- ---- an entry

-- the entries of a key's stamp are of the key and its name
abbrev pub AreOfKey : List ℕ → KeyValue → List EntryValue → Type 0
AreOfKey name key entries = (e : EntryValue) → IsIn e entries → e.key.clock ≡ key.clock → e.key.node ≡ key.node →
    (e.name ≡ name) × (e.key ≡ key)

module _ (name : List ℕ) (key : KeyValue) (term count : ℕ) (p : Parcel) where
  covered : (e : EntryValue) (cell : ℕ × ℕ × ℕ × ℕ) → IsIn cell e.shifts → e.name ≡ name → e.key ≡ key →
      cell_covers term p cell ≡ true →
      IsIn (Count (Shifts name key term p.from p.to) cell.3) (operations_of e) × (p.total ≤ cell.3)
  covered e cell there named keyed covers =
      let a = and_parts (cell.0 == term) _ covers in
      let b = and_parts (cell.1 == p.from) _ a.1 in
      let d = and_parts (cell.2 == p.to) _ b.1 in
      let terms = eqb-true cell.0 term a.0 in
      let froms = eqb-true cell.1 p.from b.0 in
      let tos = eqb-true cell.2 p.to d.0 in
      let op : IsIn (Count (Shifts e.name e.key cell.0 cell.1 cell.2) cell.3) (operations_of e) =
      inr (IsIn-append_right _ (hits_in e.name e.hits) _ (IsIn-append_right _ (execs_in e.name e.key e.execs) _
      (IsIn-append_left _ (shifts_in e.name e.key e.shifts) (grants_in e.name e.key e.grants)
      (mapped_in (λ (c : ℕ × ℕ × ℕ × ℕ). Count (Shifts e.name e.key c.0 c.1 c.2) c.3) e.shifts cell there)))) in
      let same : Count (Shifts e.name e.key cell.0 cell.1 cell.2) cell.3 ≡ Count (Shifts name key term p.from p.to) cell.3 =
      λ i. Count (Shifts (named i) (keyed i) (terms i) (froms i) (tos i)) cell.3 in
      (subst (λ o. IsIn o (operations_of e)) same op, leb-true p.total cell.3 d.1)

  module _ (entries : List EntryValue) (of_key : AreOfKey name key entries) where
    ops : List Operation
    ops = flat_map operations_of entries

    told_upto : ℕ
    told_upto = number_at (Shifts name key term p.from p.to) ops

    forth : (node : ℕ) → is_brought (budget_of_key name key term count) node entries p ≡ true → p.total ≤ told_upto
    unfolding is_brought ops told_upto
    forth node h =
        let parts = and_parts (p.to == node) _ h in
        let e = any_has (entry_covers (budget_of_key name key term count) p) entries parts.1 in
        let in_name = and_parts (bytes_eq e.one.name name) _ e.passes in
        let in_stamp = and_parts (same_stamp (stamp_of e.one.key) (stamp_of key)) _ in_name.1 in
        let cell = any_has (cell_covers term p) e.one.shifts in_stamp.1 in
        let clocks = and_parts (e.one.key.clock == key.clock) (e.one.key.node == key.node) in_stamp.0 in
        let same = of_key e.one e.there (eqb-true e.one.key.clock key.clock clocks.0)
        (eqb-true e.one.key.node key.node clocks.1) in
        let found = covered e.one cell.one cell.there same.0 same.1 cell.passes in
        let most = number_at-is_in (Shifts name key term p.from p.to) cell.one.3 (flat_map operations_of entries)
        (flat_in operations_of entries e.one _ e.there found.0) in
        let enough = found.1 in
        omega (arith, most, enough)

    back : (node : ℕ) → p.to ≡ node → p.to ≢ p.from → 1 ≤ p.total → p.total ≤ told_upto →
        is_brought (budget_of_key name key term count) node entries p ≡ true
    unfolding is_brought ops told_upto
    back node here apart some few =
        let held = number_held (Shifts name key term p.from p.to) (flat_map operations_of entries)
        (λ z. absurd (omega (arith, z, some, few))) in
        let in_entry = in_flat operations_of entries (Count (Shifts name key term p.from p.to) held.0) held.1 in
        let e = in_entry.0 in
        let cell : ℕ × ℕ × ℕ × ℕ = (term, p.from, p.to, held.0) in
        let of_shift = shift_of e name key cell apart in_entry.2 in
        let keyed = keyed_as e held.0 in_entry.2 in
        let upto = held.2 in
        let enough : p.total ≤ held.0 = omega (arith, few, upto) in
        let covers : cell_covers term p cell ≡ true = and_from (term == term) _ (eq-eqb term term refl)
        (and_from (p.from == p.from) _ (eq-eqb p.from p.from refl)
        (and_from (p.to == p.to) _ (eq-eqb p.to p.to refl) (le-leb p.total held.0 enough))) in
        let entry : entry_covers (budget_of_key name key term count) p e ≡ true =
        and_from (bytes_eq e.name name) _
        (ap (λ m. bytes_eq m name) (sym of_shift.0) ∙ bytes_eq-refl name)
        (and_from (same_stamp (stamp_of e.key) (stamp_of key)) _
        (and_from (e.key.clock == key.clock) _ (eq-eqb e.key.clock key.clock (ap (λ (k : KeyValue). k.clock) keyed))
        (eq-eqb e.key.node key.node (ap (λ (k : KeyValue). k.node) keyed)))
        (has_any (cell_covers term p) e.shifts cell of_shift.1 covers)) in
        and_from (p.to == node) _ (eq-eqb p.to node here)
        (has_any (entry_covers (budget_of_key name key term count) p) entries e in_entry.1 entry)
      where
        keyed_as : (e : EntryValue) (m : ℕ) → IsIn (Count (Shifts name key term p.from p.to) m) (operations_of e) → e.key ≡ key
        keyed_as e m h = by_kind (told_of e (Count (Shifts name key term p.from p.to) m) h)
          where
            by_kind : IsTold e (Count (Shifts name key term p.from p.to) m) → e.key ≡ key
            by_kind (inl s) = absurd (cc)
            by_kind (inr (inl (d, k, s))) = absurd (cc)
            by_kind (inr (inr (inl (d, k, s)))) = absurd (cc)
            by_kind (inr (inr (inr (inl (d, k, s))))) = let same : key ≡ e.key = cc in sym same
            by_kind (inr (inr (inr (inr (d, k, s))))) = let same : key ≡ e.key = cc in sym same

    -- a parcel to the node is brought where the message tells of its total
    pub brought_is : (node : ℕ) → p.to ≡ node → p.to ≢ p.from → 1 ≤ p.total →
        is_brought (budget_of_key name key term count) node entries p ≡ nat_le p.total
        (number_at (Shifts name key term p.from p.to) (flat_map operations_of entries))
    unfolding ops told_upto
    brought_is node here apart some = alike _ _
        (λ h. le-leb p.total _ (forth node h))
        (λ h. back node here apart some (leb-true p.total _ h))
