-- What a message says of the node that it comes to, entry by entry.
use Rattle.std.proofs.Common.{◌≡◌, ℕ, ◌<◌, ◌≤◌, ◌⊎◌, inl, inr, Bool, true, false, cond, not, ◌==◌, ◌&&◌, ◌||◌, nat_lt, nat_le, List, [], ◌∷◌, ◌++◌, map, Option, Some, None, refl, sym, ◌∙◌, ap}
use Rattle.std.specs.List.{list_any, flat_map}
use Rattle.std.proofs.lemmas.Bool.{cases_lt, eqb-true, le-leb, lt-leb, le-ltb, lt-ltb}
use Rattle.std.proofs.lemmas.List.Folds.{list_any-append}
use Rattle.std.proofs.lemmas.List.Concat.{flat_map-cons}
use Rattle.std.specs.Ordering.{is_le, is_eq, is_gt}
use Rattle.std.specs.declared.cmp.Ordering.{Ordering}
use Rattle.std.specs.declared.cmp.Ordering.TheVariants.{Less, Equal, Greater}
use Rattle.stamp_register.specs.Keys.{KeyValue, same_key}
use Rattle.stamp_register.proofs.KeyLemmas.{same_key-true, true-same_key, same_key-cmp}
use Rattle.operations.specs.Operations.{Operation, Set, Count, Hits, Execs, Shifts}
use Rattle.replica_state.specs.States.{State, granted_in}
use Rattle.replica_state.specs.Knowledge.{knows_count}
use Rattle.replica_state.specs.Points.{Held, order_to_held}
use Rattle.replica_state.specs.Cells.{held_at}
use Rattle.message_format.specs.declared.message.NameEntry.{NameEntry}
use Rattle.message_format.specs.Messages.{EntryValue, entry_value, operations_of, hits_in, execs_in, shifts_in, grants_in}
use Rattle.node_steps.specs.Refusals.{is_ahead}
use Rattle.node_steps.specs.Received.{ahead_by, are_hits_ahead, are_execs_ahead, are_shifts_ahead, are_grants_ahead}

-- ---- tests of lists

any_map : {A B : Type 0} (p : B → Bool) (f : A → B) (xs : List A) → list_any p (map f xs) ≡ list_any (λ x. p (f x)) xs
any_map p f [] = refl
any_map p f (x ∷ xs) = ap (λ b. p (f x) || b) (any_map p f xs)

any_same : {A : Type 0} (p q : A → Bool) (xs : List A) → ((x : A) → p x ≡ q x) → list_any p xs ≡ list_any q xs
any_same p q [] h = refl
any_same p q (x ∷ xs) h = (λ i. (h x i) || (any_same p q xs h i))

-- one entry after the other
pub any_told : (test : Operation → Bool) (es : List NameEntry) →
    list_any test (flat_map operations_of (map entry_value es)) ≡ list_any
    (λ e. list_any test (operations_of (entry_value e))) es
any_told test [] = refl
any_told test (e ∷ es) =
    ap (list_any test) (flat_map-cons operations_of (entry_value e) (map entry_value es))
    ∙ list_any-append test (operations_of (entry_value e)) (flat_map operations_of (map entry_value es))
    ∙ ap (λ b. list_any test (operations_of (entry_value e)) || b) (any_told test es)

-- ---- a key and the one that is held

same_both : (x y : Bool) → (x ≡ true → y ≡ true) → (y ≡ true → x ≡ true) → x ≡ y
same_both true y f g = sym (f refl)
same_both false true f g = g refl
same_both false false f g = refl

same_turned : (a b : KeyValue) → same_key a b ≡ same_key b a
same_turned a b = same_both (same_key a b) (same_key b a) (λ h. true-same_key b a (sym (same_key-true a b h)))
    (λ h. true-same_key a b (sym (same_key-true b a h)))

over : (own number : ℕ) → not (nat_le number own) ≡ nat_lt own number
over own number = at (cases_lt own number)
  where
    at : (own < number) ⊎ (number ≤ own) → not (nat_le number own) ≡ nat_lt own number
    at (inl less) = ap not (lt-leb number own less) ∙ sym (lt-ltb own number less)
    at (inr upto) = ap not (le-leb number own upto) ∙ sym (le-ltb own number upto)

by_order : (o : Ordering) (s : Bool) (own number : ℕ) → s ≡ is_eq o →
    not (cond s (nat_le number own) (is_le o)) ≡ ahead_by o own number
by_order Less s own number h = ap (λ b. not (cond b (nat_le number own) true)) h
by_order Equal s own number h = ap (λ b. not (cond b (nat_le number own) true)) h ∙ over own number
by_order Greater s own number h = ap (λ b. not (cond b (nat_le number own) false)) h

pub count_ahead : (key : KeyValue) (own number : ℕ) (held : Option KeyValue) →
    not (knows_count key number own held) ≡ ahead_by (order_to_held key held) own number
count_ahead key own number None = refl
count_ahead key own number (Some other) = by_order (order_to_held key (Some other)) (same_key other key) own number
    (same_turned other key ∙ same_key-cmp key other)

key_ahead : (i : ℕ) (v : State) (name : List ℕ) (key : KeyValue) (held : Option KeyValue) → v.key name ≡ held →
    is_ahead i v (Set name key) ≡ (key.node == i && is_gt (order_to_held key held))
key_ahead i v name key None h = rw h refl
key_ahead i v name key (Some other) h = rw h (ap (λ b. key.node == i && b) (of (order_to_held key (Some other))))
  where
    of : (o : Ordering) → not (is_le o) ≡ is_gt o
    of Less = refl
    of Equal = refl
    of Greater = refl

-- a test of what node i wrote reads the numbers of node i alone
its_own : (i j : ℕ) (f : ℕ → Bool) → (j == i && f j) ≡ (j == i && f i)
its_own i j f = at (j == i) (eqb-true j i)
  where
    at : (t : Bool) → (t ≡ true → j ≡ i) → (t && f j) ≡ (t && f i)
    at true h = ap f (h refl)
    at false h = refl

-- ---- an entry

module _ (i : ℕ) (v : State) (e : EntryValue) where
  abbrev order : Ordering
  order = order_to_held e.key (v.key e.name)

  pub entry_ahead : list_any (is_ahead i v) (operations_of e) ≡
      ((e.key.node == i && is_gt order) || (are_hits_ahead i (held_at v e.name) e.hits ||
      (are_execs_ahead i (held_at v e.name) order e.execs ||
      (are_shifts_ahead i (held_at v e.name) order e.shifts || are_grants_ahead i (held_at v e.name) order e.grants))))
  entry_ahead = λ j. (key_ahead i v e.name e.key (v.key e.name) refl j) || (cells j)
    where
      hits : list_any (is_ahead i v) (hits_in e.name e.hits) ≡ are_hits_ahead i (held_at v e.name) e.hits
      hits = any_map (is_ahead i v) (λ c. Count (Hits e.name c.0) c.1) e.hits
          ∙ any_same _ (λ c. c.0 == i && nat_lt (v.hits e.name i) c.1) e.hits
          (λ c. its_own i c.0 (λ j. not (nat_le c.1 (v.hits e.name j))) ∙
          ap (λ b. c.0 == i && b) (over (v.hits e.name i) c.1))

      execs : list_any (is_ahead i v) (execs_in e.name e.key e.execs) ≡ are_execs_ahead i (held_at v e.name) order
          e.execs
      execs = any_map (is_ahead i v) (λ c. Count (Execs e.name e.key c.0 c.1) c.2) e.execs
          ∙ any_same _ (λ c. c.1 == i && ahead_by order (v.execs e.name c.0 i) c.2) e.execs
          (λ c. its_own i c.1 (λ j. not (knows_count e.key c.2 (v.execs e.name c.0 j) (v.key e.name))) ∙
          ap (λ b. c.1 == i && b) (count_ahead e.key (v.execs e.name c.0 i) c.2 (v.key e.name)))

      shifts : list_any (is_ahead i v) (shifts_in e.name e.key e.shifts) ≡ are_shifts_ahead i (held_at v e.name) order
          e.shifts
      shifts = any_map (is_ahead i v) (λ c. Count (Shifts e.name e.key c.0 c.1 c.2) c.3) e.shifts
          ∙ any_same _ (λ c. c.1 == i && ahead_by order (v.shifts e.name c.0 i c.2) c.3) e.shifts
          (λ c. its_own i c.1 (λ j. not (knows_count e.key c.3 (v.shifts e.name c.0 j c.2) (v.key e.name))) ∙
          ap (λ b. c.1 == i && b) (count_ahead e.key (v.shifts e.name c.0 i c.2) c.3 (v.key e.name)))

      grants : list_any (is_ahead i v) (grants_in e.name e.key e.grants) ≡ are_grants_ahead i (held_at v e.name) order
          e.grants
      grants = any_map (is_ahead i v) (λ c. Count (Shifts e.name e.key c.0 c.1 c.1) c.2) e.grants
          ∙ any_same _ (λ c. c.1 == i && ahead_by order (granted_in v e.name c.0 i) c.2) e.grants
          (λ c. its_own i c.1 (λ j. not (knows_count e.key c.2 (granted_in v e.name c.0 j) (v.key e.name))) ∙
          ap (λ b. c.1 == i && b) (count_ahead e.key (granted_in v e.name c.0 i) c.2 (v.key e.name)))

      -- the operations of one kind, and those that follow them
      then_any : (ops rest : List Operation) (a b : Bool) → list_any (is_ahead i v) ops ≡ a →
          list_any (is_ahead i v) rest ≡ b → list_any (is_ahead i v) (ops ++ rest) ≡ (a || b)
      then_any ops rest a b h k = list_any-append (is_ahead i v) ops rest ∙ (λ j. (h j) || (k j))

      cells : list_any (is_ahead i v) (hits_in e.name e.hits ++
          (execs_in e.name e.key e.execs ++ (shifts_in e.name e.key e.shifts ++ grants_in e.name e.key e.grants))) ≡
          (are_hits_ahead i (held_at v e.name) e.hits || (are_execs_ahead i (held_at v e.name) order e.execs ||
          (are_shifts_ahead i (held_at v e.name) order e.shifts || are_grants_ahead i (held_at v e.name) order
          e.grants)))
      cells =
          then_any (hits_in e.name e.hits) _ _ _ hits
          (then_any (execs_in e.name e.key e.execs) _ _ _ execs
          (then_any (shifts_in e.name e.key e.shifts) (grants_in e.name e.key e.grants) _ _ shifts grants))

  -- the same, test by test, of what is held of the name
  pub ahead_is : (h : Held) → h ≡ held_at v e.name → (o : Ordering) → o ≡ order_to_held e.key h.key →
      (keys hits execs shifts grants : Bool) → keys ≡ (e.key.node == i && is_gt o) → hits ≡ are_hits_ahead i h e.hits →
      execs ≡ are_execs_ahead i h o e.execs → shifts ≡ are_shifts_ahead i h o e.shifts →
      grants ≡ are_grants_ahead i h o e.grants →
      (keys || (hits || (execs || (shifts || grants)))) ≡ list_any (is_ahead i v) (operations_of e)
  ahead_is h is o at keys hits execs shifts grants k n x s g =
      (λ j. (k j) || ((n j) || ((x j) || ((s j) || (g j)))))
      ∙ (λ j. (e.key.node == i && is_gt (at j)) || (are_hits_ahead i h e.hits || (are_execs_ahead i h (at j) e.execs ||
      (are_shifts_ahead i h (at j) e.shifts || are_grants_ahead i h (at j) e.grants))))
      ∙ ap (λ (m : Held). (e.key.node == i && is_gt (order_to_held e.key m.key)) ||
      (are_hits_ahead i m e.hits || (are_execs_ahead i m (order_to_held e.key m.key) e.execs ||
      (are_shifts_ahead i m (order_to_held e.key m.key) e.shifts || are_grants_ahead i m (order_to_held e.key m.key)
      e.grants)))) is
      ∙ sym entry_ahead
