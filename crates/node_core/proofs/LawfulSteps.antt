-- What a node adds by its own calls can be told, and whether it changes the state.
use Rattle.std.proofs.Common.{◌≡◌, ℕ, ◌+◌, ◌<◌, ◌≤◌, ◌^◌, Bool, true, false, cond, not, ◌||◌, nat_lt, nat_le, List, [], ◌∷◌, ◌++◌, length, inl, inr, ⊎_elim, Option, Some, None, refl, sym, ◌∙◌, ap, subst, arith}
use Rattle.std.proofs.lemmas.Bool.{true≢false, lt-ltb}
use Rattle.std.proofs.lemmas.Bool.Decides.{nat_tests}
use Rattle.std.proofs.lemmas.Int.{ints}
use Rattle.std.proofs.lemmas.List.Folds.{list_any-append}
use Rattle.std.proofs.lemmas.Slice.Eq.{bytes_eq-Decides}
use Rattle.std.specs.Option.{IsSome, option_map_or}
use Rattle.std.specs.Prelude.{IsTrue, is_some, pos, ◌≤ℤ◌, option_map}
use Rattle.std.specs.Str.{bytes_eq}
use Rattle.actions.specs.Names.{is_name}
use Rattle.counters.specs.Budgets.{Budget, rights}
use Rattle.stamp_register.specs.Keys.{KeyValue, key_le}
use Rattle.operations.specs.Operations.{Cell, Operation, Set, Count, Hits, Execs, Shifts, IsIn, count_of}
use Rattle.replica_state.specs.States.{State, budget, budget_under, rights_of}
use Rattle.replica_state.specs.Folds.{fold, key_in, key_of, clock_of}
use Rattle.replica_state.specs.Knowledge.{is_upto, knows, knows_count, changes}
use Rattle.replica_state.proofs.Orders.{same_key-refl}
use Rattle.replica_state.proofs.Sets.{key_of-found}
use Rattle.operations.proofs.Members.{IsIn-append_right, IsIn-append_cases}
use Rattle.replica_state.proofs.FoldSteps.{is_later, all_later, later_some}
use Rattle.message_format.specs.Spelling.{IsBody, IsKey}
use Rattle.delta_exchange.specs.Wholes.{IsLawful, AreLawful}
use Rattle.delta_exchange.proofs.LawfulLemmas.{keyed_with_more}
use Rattle.node_steps.specs.Outcomes.{execs_done, ops_done}
use Rattle.node_steps.specs.Passes.{next_hit, next_exec}
use Rattle.node_steps.specs.Settings.{new_key, operations_issued}
use Rattle.node_core.specs.Steps.{shift_under}

abbrev Settings : Type 0
Settings = List (List ℕ × Option (List ℕ))

-- ---- what was set

-- a setting issues keys and no counts
no_count : (i clock : ℕ) (ss : Settings) (c : Cell) (number : ℕ) →
    IsIn (Count c number) (operations_issued i clock ss) → ⊥
no_count i clock [] c number m = m
no_count i clock (s ∷ ss) c number (inl e) = cc
no_count i clock (s ∷ ss) c number (inr m) = no_count i (clock + 1) ss c number m

each_set : (nodes i clock : ℕ) (ss : Settings) → i < nodes → clock + length ss < 2 ^ 64 →
    ((s : List ℕ × Option (List ℕ)) → IsIn s ss → IsTrue (is_name s.0) × IsBody s.1) → (op : Operation) →
    IsIn op (operations_issued i clock ss) → IsLawful nodes op
each_set nodes i clock [] node low h op m = absurd m
each_set nodes i clock (s ∷ ss) node low h op (inl e) =
    let here = h s (inl refl) in
    let key : IsKey nodes (new_key i clock s.1) = record { clock = omega (arith, low); node = node; body = here.1 } in
    subst (IsLawful nodes) (sym e) (here.0, key)
each_set nodes i clock (s ∷ ss) node low h op (inr m) = each_set nodes i (clock + 1) ss node (omega (arith, low))
    (λ r k. h r (inr k)) op m

pub set_lawful : (nodes i clock : ℕ) (ss : List (List ℕ × Option (List ℕ))) → i < nodes → clock + length ss < 2 ^ 64 →
    ((s : List ℕ × Option (List ℕ)) → IsIn s ss → IsTrue (is_name s.0) × IsBody s.1) →
    AreLawful nodes (operations_issued i clock ss)
set_lawful nodes i clock ss node low h = record {
  each = each_set nodes i clock ss node low h;
  keyed = λ name j number m. absurd (no_count i clock ss (Hits name j) number m);
}

-- ---- what is known of a name that has a key

module _ (nodes : ℕ) (name : List ℕ) (key : KeyValue) where
  abbrev NameAndKey : Type 0
  NameAndKey = IsTrue (is_name name) × IsKey nodes key

  carried_by : (n : List ℕ) (a : KeyValue) → IsTrue (is_name n) × IsKey nodes a →
      cond (bytes_eq n name) (Some a) None ≡ Some key → NameAndKey
  carried_by n a h e = by_test (bytes_eq n name) refl e
    where
      by_test : (t : Bool) → bytes_eq n name ≡ t → cond t (Some a) None ≡ Some key → NameAndKey
      by_test true same c =
          let keys : a ≡ key = cc in (
            subst (λ (m : List ℕ). IsTrue (is_name m)) ((bytes_eq-Decides n name).0 same) h.0,
            subst (IsKey nodes) keys h.1,
          )
      by_test false same c = absurd (let impossible : ◌≡◌ {A = Option KeyValue} None (Some key) = c in cc)

  lawful_key : (op : Operation) → IsLawful nodes op → key_in name op ≡ Some key → NameAndKey
  lawful_key (Set n a) h e = carried_by n a h e
  lawful_key (Count (Hits n node) number) h e = absurd (let impossible :
      ◌≡◌ {A = Option KeyValue} None (Some key) = e in cc)
  lawful_key (Count (Execs n a term node) number) h e = carried_by n a (h.0, h.1) e
  lawful_key (Count (Shifts n a term from to) number) h e = carried_by n a (h.0, h.1) e

  -- a key that is held is lawful, and so is its name
  held_lawful : (known : List Operation) → AreLawful nodes known → (fold known).key name ≡ Some key → NameAndKey
  unfolding fold
  held_lawful known lawful e =
      let found = key_of-found name key known e in
      lawful_key found.op (lawful.each found.op found.held) found.carries

held_is_some : (known : List Operation) (name : List ℕ) (key : KeyValue) → (fold known).key name ≡ Some key →
    IsTrue (is_some (key_of name known))
unfolding fold
held_is_some known name key e = ap is_some e

-- operations more
lawful_more : (nodes : ℕ) (more known : List Operation) → AreLawful nodes known →
    ((op : Operation) → IsIn op more → IsLawful nodes op) →
    ((name : List ℕ) (node number : ℕ) → IsIn (Count (Hits name node) number) more →
    IsTrue (is_some (key_of name known))) → AreLawful nodes (more ++ known)
lawful_more nodes more known lawful each keyed = record {
  each = λ op m. ⊎_elim (each op) (lawful.each op) (IsIn-append_cases op more known m);
  keyed = λ name node number m. keyed_with_more name known (more ++ known) (λ op k. IsIn-append_right op more known k)
      (⊎_elim (keyed name node number) (lawful.keyed name node number)
      (IsIn-append_cases (Count (Hits name node) number) more known m));
}

-- ---- a pass

-- where there are rights of a term, the key counts it
counted : (v : State) (name : List ℕ) (k i : ℕ) (key : KeyValue) → v.key name ≡ Some key →
    pos 1 ≤ℤ rights_of v name k i → IsTrue (is_some (count_of key k))
counted v name k i key e h = by_count (count_of key k) (subst
    (λ o. pos 1 ≤ℤ option_map_or (λ (b : Budget). rights b i) (budget_under v name k o) (pos 0)) e h)
  where
    by_count : (found : Option ℕ) → pos 1 ≤ℤ option_map_or (λ (b : Budget). rights b i)
        (option_map (λ n. budget v name k key.node n) found) (pos 0) → IsTrue (is_some found)
    by_count None l = absurd (omega (arith, ints, l))
    by_count (Some n) l = refl

module _ (nodes i : ℕ) (known : List Operation) (name : List ℕ) (node : i < nodes) (lawful : AreLawful nodes known)
  where
    hit_lawful : (key : KeyValue) → (fold known).key name ≡ Some key → IsLawful nodes (next_hit i (fold known) name)
    hit_lawful key e = ((held_lawful nodes name key known lawful e).0, node, omega arith)

    exec_lawful : (key : KeyValue) (k : ℕ) → (fold known).key name ≡ Some key → k < 2 ^ 8 →
        pos 1 ≤ℤ rights_of (fold known) name k i → IsLawful nodes (next_exec i (fold known) name key k)
    exec_lawful key k e small one =
        let own = held_lawful nodes name key known lawful e in
        (own.0, own.1, (counted (fold known) name k i key e one, small), node, omega arith)

    done_lawful : (spent : Option ℕ) → ((k : ℕ) → spent ≡ Some k →
        (k < 2 ^ 8) × (pos 1 ≤ℤ rights_of (fold known) name k i)) → (held : Option KeyValue) →
        (fold known).key name ≡ held → IsSome held →
        AreLawful nodes ((execs_done i (fold known) name held spent ++ next_hit i (fold known) name ∷ []) ++ known)
    done_lawful spent right None e some = absurd (true≢false (sym some))
    done_lawful None right (Some key) e some = lawful_more nodes (next_hit i (fold known) name ∷ []) known lawful each
        keyed
      where
        each : (op : Operation) → IsIn op (next_hit i (fold known) name ∷ []) → IsLawful nodes op
        each op (inl s) = subst (IsLawful nodes) (sym s) (hit_lawful key e)
        each op (inr m) = absurd m

        keyed : (n : List ℕ) (j number : ℕ) → IsIn (Count (Hits n j) number) (next_hit i (fold known) name ∷ []) →
            IsTrue (is_some (key_of n known))
        keyed n j number (inl s) = let same : name ≡ n = cc in
            subst (λ (m : List ℕ). IsTrue (is_some (key_of m known))) same (held_is_some known name key e)
        keyed n j number (inr m) = absurd m
    done_lawful (Some k) right (Some key) e some = lawful_more nodes
        (next_exec i (fold known) name key k ∷ next_hit i (fold known) name ∷ []) known lawful each keyed
      where
        each : (op : Operation) → IsIn op (next_exec i (fold known) name key k ∷ next_hit i (fold known) name ∷ []) →
            IsLawful nodes op
        each op (inl s) = subst (IsLawful nodes) (sym s) (exec_lawful key k e (right k refl).0 (right k refl).1)
        each op (inr (inl s)) = subst (IsLawful nodes) (sym s) (hit_lawful key e)
        each op (inr (inr m)) = absurd m

        keyed : (n : List ℕ) (j number : ℕ) → IsIn (Count (Hits n j) number)
            (next_exec i (fold known) name key k ∷ next_hit i (fold known) name ∷ []) →
            IsTrue (is_some (key_of n known))
        keyed n j number (inl s) = absurd cc
        keyed n j number (inr (inl s)) = let same : name ≡ n = cc in
            subst (λ (m : List ℕ). IsTrue (is_some (key_of m known))) same (held_is_some known name key e)
        keyed n j number (inr (inr m)) = absurd m

pub pass_lawful : (nodes i : ℕ) (known : List Operation) (name : List ℕ) (is_set : Bool) (spent : Option ℕ) →
    i < nodes → AreLawful nodes known → (is_set ≡ true → IsSome ((fold known).key name)) →
    ((k : ℕ) → spent ≡ Some k → (k < 2 ^ 8) × (pos 1 ≤ℤ rights_of (fold known) name k i)) →
    AreLawful nodes (ops_done i (fold known) name is_set spent ++ known)
pass_lawful nodes i known name false spent node lawful key right = lawful
pass_lawful nodes i known name true spent node lawful key right =
    done_lawful nodes i known name node lawful spent right ((fold known).key name) refl (key refl)

-- ---- a shift, or a grant

pub shift_lawful : (nodes i : ℕ) (known : List Operation) (name : List ℕ) (term to amount : ℕ) →
    (i < nodes) × (to < nodes) × (0 < amount) × (term < 2 ^ 8) → AreLawful nodes known →
    {key : KeyValue} → (fold known).key name ≡ Some key → IsTrue (is_some (count_of key term)) →
    AreLawful nodes (shift_under i (fold known) name term to amount (Some key) ++ known)
shift_lawful nodes i known name term to amount (node, other, some, small) lawful {key} e counts =
    let own = held_lawful nodes name key known lawful e in
    let shift : IsLawful nodes (Count (Shifts name key term i to) ((fold known).shifts name term i to + amount)) =
    (own.0, own.1, (counts, small), node, other, omega (arith, some)) in
    lawful_more nodes (Count (Shifts name key term i to) ((fold known).shifts name term i to + amount) ∷ []) known
    lawful (each shift) keyed
  where
    each : IsLawful nodes (Count (Shifts name key term i to) ((fold known).shifts name term i to + amount)) →
        (op : Operation) → IsIn op (Count (Shifts name key term i to) ((fold known).shifts name term i to + amount) ∷
        []) → IsLawful nodes op
    each shift op (inl s) = subst (IsLawful nodes) (sym s) shift
    each shift op (inr m) = absurd m

    keyed : (n : List ℕ) (j number : ℕ) → IsIn (Count (Hits n j) number)
        (Count (Shifts name key term i to) ((fold known).shifts name term i to + amount) ∷ []) →
        IsTrue (is_some (key_of n known))
    keyed n j number (inl s) = absurd cc
    keyed n j number (inr m) = absurd m

-- ---- what changes the state

-- a key with a later clock than any that is held isn't known
fresh_key : (i clock : ℕ) (body : Option (List ℕ)) (held : Option KeyValue) → is_later (new_key i clock body) held →
    is_upto (Some (new_key i clock body)) held ≡ false
fresh_key i clock body None h = refl
fresh_key i clock body (Some a) h = let low : a.clock < clock + 1 = later_some (new_key i clock body) a h in
    grind (arith, nat_tests)

-- a key that a node issues is above each that it knows
pub unknown_key : (i clock : ℕ) (body : Option (List ℕ)) (known : List Operation) (name : List ℕ) →
    clock_of known ≤ clock → is_upto (Some (new_key i clock body)) ((fold known).key name) ≡ false
unfolding fold
unknown_key i clock body known name low = fresh_key i clock body (key_of name known)
    (all_later (new_key i clock body) name known (omega (arith, low)))

pub set_changes : (i clock : ℕ) (ss : List (List ℕ × Option (List ℕ))) (known : List Operation) →
    clock_of known ≤ clock → changes (fold known) (operations_issued i clock ss) ≡ nat_lt 0 (length ss)
set_changes i clock [] known low = refl
set_changes i clock (s ∷ ss) known low = ap (λ t. not t || changes (fold known) (operations_issued i (clock + 1) ss))
    (unknown_key i clock s.1 known s.0 low) ∙ sym (lt-ltb 0 (length (s ∷ ss)) (omega arith))

or_true : (b : Bool) → (b || true) ≡ true
or_true true = refl
or_true false = refl

next_above : (n : ℕ) → nat_le (n + 1) n ≡ false
next_above n = grind (arith, nat_tests)

pub pass_changes : (i : ℕ) (v : State) (name : List ℕ) (is_set : Bool) (spent : Option ℕ) →
    changes v (ops_done i v name is_set spent) ≡ is_set
pass_changes i v name false spent = refl
pass_changes i v name true spent =
    list_any-append (λ op. not (knows v op)) (execs_done i v name (v.key name) spent) (next_hit i v name ∷ [])
    ∙ ap (λ t. changes v (execs_done i v name (v.key name) spent) || (not t || false)) (next_above (v.hits name i))
    ∙ or_true (changes v (execs_done i v name (v.key name) spent))

more_above : (n amount : ℕ) → 0 < amount → nat_le (n + amount) n ≡ false
more_above n amount h = grind (arith, nat_tests)

pub shift_changes : (i : ℕ) (v : State) (name : List ℕ) (term to amount : ℕ) (key : KeyValue) → 0 < amount →
    v.key name ≡ Some key → changes v (shift_under i v name term to amount (Some key)) ≡ true
shift_changes i v name term to amount key some e =
    let here : ℕ = v.shifts name term i to in
    ap (λ o. not (knows_count key (here + amount) here o) || false) e
    ∙ ap (λ t. not (cond t (nat_le (here + amount) here) (key_le key key)) || false) (same_key-refl key)
    ∙ ap (λ t. not t || false) (more_above here amount some)
