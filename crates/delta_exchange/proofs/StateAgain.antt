-- What tells exactly what a state holds comes to that state.
use Rattle.std.proofs.Common.{◌≡◌, ◌≢◌, ℕ, Bool, true, false, List, ◌⊎◌, inl, inr, Option, Some, None, refl, sym, ap, subst, ◌∙◌, arith}
use Rattle.std.proofs.lemmas.Bool.{true≢false}
use Rattle.stamp_register.specs.Keys.{KeyValue, key_le, same_key}
use Rattle.operations.specs.Operations.{Cell, Operation, Set, Count, Hits, Execs, Shifts, IsIn}
use Rattle.replica_state.specs.Folds.{fold, key_in, key_of, number_at, at_key}
use Rattle.replica_state.specs.Knowledge.{HoldsLater, HoldsKey, KnowsAll}
use Rattle.replica_state.specs.Deltas.{IsAllTold}
use Rattle.replica_state.proofs.KnownSets.{own_name, same_fold}
use Rattle.replica_state.proofs.Orders.{same_key-true, same_key-refl, key_le-refl}
use Rattle.replica_state.proofs.Sets.{number_at-is_in, number_held, KeyUpto, key_of-is_in, key_of-found}
use Rattle.message_format.specs.Messages.{MessageValue, operations_in}
use Rattle.delta_exchange.specs.Wholes.{AreLawful}

-- a number that a set has is known by it
has_later : (ops : List Operation) (cell : Cell) (number : ℕ) → number ≡ number_at cell ops → number ≢ 0 →
    HoldsLater ops cell number
has_later ops cell number e some =
    let r = number_held cell ops (λ z. some (e ∙ z)) in
    let upto = r.2 in
    record { later = r.0; at_least = omega (arith, e, upto); held = r.1 }

has_cell : (ops : List Operation) (key : KeyValue) (f : KeyValue → ℕ) (o : Option KeyValue) (number : ℕ) →
    o ≡ Some key → number ≡ at_key o f → number ≡ f key
has_cell ops key f o number e is = is ∙ ap (λ k. at_key k f) e

module _ (ops told : List Operation) (all : IsAllTold (fold ops) told) where
  key_told : (name : List ℕ) (key : KeyValue) → key_of name ops ≡ Some key → IsIn (Set name key) told
  unfolding fold
  key_told name key e = (all (Set name key)).1 e

  known : KnowsAll ops told
  unfolding fold
  known (Set name key) h =
      let d = (all (Set name key)).0 h in
      let found = key_of-found name key ops d in
      record { key = key; op = found.op; held = found.held; carries = found.carries; passes = key_le-refl key }
  known (Count (Hits name node) number) h =
      let d = (all (Count (Hits name node) number)).0 h in
      has_later ops (Hits name node) number (sym d.0) d.1
  known (Count (Execs name key term node) number) h =
      let d = (all (Count (Execs name key term node) number)).0 h in
      let is = has_cell ops key (λ k. number_at (Execs name k term node) ops) (key_of name ops) number d.0.0
      (sym d.0.1) in
      inl (has_later ops (Execs name key term node) number is d.1)
  known (Count (Shifts name key term from to) number) h =
      let d = (all (Count (Shifts name key term from to) number)).0 h in
      let is = has_cell ops key (λ k. number_at (Shifts name k term from to) ops) (key_of name ops) number d.0.0
      (sym d.0.1) in
      inl (has_later ops (Shifts name key term from to) number is d.1)

  -- the key that holds over one that is carried
  over : (name : List ℕ) (key : KeyValue) (op : Operation) → IsIn op ops → key_in name op ≡ Some key →
      (top : KeyValue) × (key_of name ops ≡ Some top) × (key_le key top ≡ true)
  over name key op h e = at (key_of name ops) refl (subst (λ k. KeyUpto k (key_of name ops)) e
      (key_of-is_in name op ops h))
    where
      at : (o : Option KeyValue) → key_of name ops ≡ o → KeyUpto (Some key) o →
          (top : KeyValue) × (o ≡ Some top) × (key_le key top ≡ true)
      at None s upto = absurd upto
      at (Some top) s upto = (top, refl, upto)

  under_key : (name : List ℕ) (key : KeyValue) (cell : Cell) (number : ℕ) → key_in name (Count cell number) ≡ Some key →
      IsIn (Count cell number) ops
      → (key_of name ops ≡ Some key → IsIn (Count cell (number_at cell ops)) told) →
      HoldsLater told cell number ⊎ HoldsKey told name (λ other. (key_le key other ≡ true) × (key ≢ other))
  under_key name key cell number carries h same =
      let top = over name key (Count cell number) h carries in
      by_key top.0 top.1 top.2 (same_key key top.0) refl
    where
      by_key : (top : KeyValue) → key_of name ops ≡ Some top → key_le key top ≡ true → (b : Bool) →
          same_key key top ≡ b → HoldsLater told cell number ⊎ HoldsKey told name
          (λ other. (key_le key other ≡ true) × (key ≢ other))
      by_key top e upto true s =
          let is : key ≡ top = same_key-true key top s in
          inl (record {
            later = number_at cell ops;
            at_least = number_at-is_in cell number ops h;
            held =
                same (e ∙ ap Some (sym is));
          })
      by_key top e upto false s =
          let apart : key ≢ top = λ is. true≢false (sym (same_key-refl key) ∙ ap (same_key key) is ∙ s) in
          inr (record {
            key = top;
            op = Set name top;
            held = key_told name top e;
            carries = own_name name top;
            passes =
                (upto, apart);
          })

  knows : (nodes : ℕ) → AreLawful nodes ops → KnowsAll told ops
  unfolding fold
  knows nodes lawful (Set name key) h =
      let top = over name key (Set name key) h (own_name name key) in
      record {
        key = top.0;
        op = Set name top.0;
        held = key_told name top.0 top.1;
        carries = own_name name top.0;
        passes = top.2;
      }
  knows nodes lawful (Count (Hits name node) number) h =
      let some = (lawful.each (Count (Hits name node) number) h).2 in
      let upto = number_at-is_in (Hits name node) number ops h in
      let not : number_at (Hits name node) ops ≢ 0 = λ z. absurd (omega (arith, z, some, upto)) in
      record {
        later = number_at (Hits name node) ops;
        at_least = upto;
        held =
            (all (Count (Hits name node) (number_at (Hits name node) ops))).1 (refl, not);
      }
  knows nodes lawful (Count (Execs name key term node) number) h =
      let cell = Execs name key term node in
      let some = (lawful.each (Count cell number) h).4 in
      let upto = number_at-is_in cell number ops h in
      let not : number_at cell ops ≢ 0 = λ z. absurd (omega (arith, z, some, upto)) in
      under_key name key cell number (own_name name key) h (λ e.
      let now : number_at cell ops ≡ at_key (key_of name ops) (λ k. number_at (Execs name k term node) ops) =
      sym (ap (λ o. at_key o (λ k. number_at (Execs name k term node) ops)) e) in
      (all (Count cell (number_at cell ops))).1 ((e, sym now), not))
  knows nodes lawful (Count (Shifts name key term from to) number) h =
      let cell = Shifts name key term from to in
      let some = (lawful.each (Count cell number) h).5 in
      let upto = number_at-is_in cell number ops h in
      let not : number_at cell ops ≢ 0 = λ z. absurd (omega (arith, z, some, upto)) in
      under_key name key cell number (own_name name key) h (λ e.
      let now : number_at cell ops ≡ at_key (key_of name ops) (λ k. number_at (Shifts name k term from to) ops) =
      sym (ap (λ o. at_key o (λ k. number_at (Shifts name k term from to) ops)) e) in
      (all (Count cell (number_at cell ops))).1 ((e, sym now), not))

pub state_again : (nodes : ℕ) (ops : List Operation) (m : MessageValue) → AreLawful nodes ops →
    IsAllTold (fold ops) (operations_in m) → fold (operations_in m) ≡ fold ops
state_again nodes ops m lawful all = same_fold (operations_in m) ops (knows ops (operations_in m) all nodes lawful)
    (known ops (operations_in m) all)
