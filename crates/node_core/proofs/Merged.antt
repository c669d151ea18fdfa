-- What a node knows once it learnt what a message tells.
use Rattle.std.proofs.Common.{◌≡◌, ℕ, ◌+◌, ◌<◌, ◌≤◌, zero, suc, Bool, true, false, ◌||◌, List, [], ◌∷◌, ◌++◌, length, map, inl, inr, ◌⊎◌, Option, Some, None, refl, sym, ◌∙◌, ap, subst, arith}
use Rattle.std.proofs.lemmas.Bool.{cases_lt}
use Rattle.std.proofs.lemmas.List.{append-nil}
use Rattle.std.specs.List.{list_any, flat_map}
use Rattle.std.specs.declared.cmp.Ordering.{Ordering}
use Rattle.std.specs.declared.cmp.Ordering.TheVariants.{Less, Equal, Greater}
use Rattle.counters.specs.Sums.{node_numbers, sum_below}
use Rattle.stamp_register.specs.Keys.{KeyValue}
use Rattle.operations.specs.Operations.{Operation, Cell, Set, Count, Hits, Execs, Shifts, IsIn, count_at, name_in}
use Rattle.replica_state.specs.States.{State, granted_in, granted_of}
use Rattle.replica_state.specs.Folds.{fold, key_of, number_at, at_key}
use Rattle.replica_state.specs.Cells.{held_at}
use Rattle.replica_state.specs.Unions.{key_order, number_both, with_names, union_of}
use Rattle.replica_state.proofs.Sets.{number_at-least}
use Rattle.replica_state.proofs.SetJoins.{fold-unites}
use Rattle.replica_state.proofs.StateOrders.{stands_above, stands_equal, stands_below}
use Rattle.message_format.specs.declared.message.NameEntry.{NameEntry}
use Rattle.message_format.specs.Messages.{EntryValue, entry_value, operations_of, hits_in, execs_in, shifts_in, grants_in}
use Rattle.delta_exchange.specs.News.{Brings}
use Rattle.delta_exchange.specs.Wholes.{IsLawful, AreLawful}
use Rattle.node_steps.specs.Nodes.{setting_of, setting_in, terms_in}
use Rattle.node_steps.specs.Refusals.{any_below, exceeds_count, is_overspent, overspends}
use Rattle.node_steps.specs.Received.{terms_both, execs_both, granted_both, is_overspent_below}
use Rattle.node_steps.proofs.Ahead.{any_told}
use Rattle.node_core.proofs.SettingSteps.{names_united, turned}

-- ---- both states as one

pub merged : (ops known : List Operation) (v t : State) → v ≡ fold known → t ≡ fold ops →
    fold (ops ++ known) ≡ union_of v t
merged ops known v t e f = turned ops known ∙ sym (fold-unites known ops) ∙ (λ i. union_of ((sym e) i) ((sym f) i))

-- the same where enough is known of what was told
pub merged_enough : (told known : List Operation) (v t : State) → v ≡ fold known → Brings v t told →
    fold (told ++ known) ≡ union_of v t
merged_enough told known v t e brings = sym (brings.enough known e) ∙ merged brings.kept known v t e brings.knows

pub merged_names : (told known : List Operation) (v t : State) → v ≡ fold known → Brings v t told →
    length (with_names t.names v.names) ≡ length (fold (told ++ known)).names
merged_names told known v t e brings = ap (λ ns. length ns) (sym (names_united v t) ∙
    sym (ap (λ (s : State). s.names) (merged_enough told known v t e brings)))

-- ---- terms that are executed more often than they are counted

module _ (v t : State) (name : List ℕ) where
  abbrev order : Ordering
  order = key_order (t.key name) (v.key name)

  terms_by : (o : Ordering) → order ≡ o → terms_in (setting_of (union_of v t) name) ≡ terms_both o (held_at v name)
      (held_at t name)
  unfolding union_of
  terms_by Less e = ap (λ k. terms_in (setting_in k)) (stands_below (v.key name) (t.key name) e).1
  terms_by Equal e = ap (λ k. terms_in (setting_in k)) (stands_equal (v.key name) (t.key name) e).1
  terms_by Greater e = ap (λ k. terms_in (setting_in k)) (stands_above (v.key name) (t.key name) e).1

  execs_united : (term node : ℕ) → (union_of v t).execs name term node ≡ number_both order (v.execs name term node)
      (t.execs name term node)
  unfolding union_of
  execs_united term node = refl

  granted_united : (term node : ℕ) → granted_in (union_of v t) name term node ≡ number_both order
      (granted_in v name term node) (granted_in t name term node)
  unfolding union_of
  granted_united term node = refl

sum_same : (n : ℕ) (f g : ℕ → ℕ) → ((i : ℕ) → f i ≡ g i) → sum_below n f ≡ sum_below n g
sum_same zero f g h = refl
sum_same (suc n) f g h = λ i. h n i + sum_same n f g h i

-- numbers that are 0 from some place on add nothing
sum_upto : (n m : ℕ) (f : ℕ → ℕ) → ((i : ℕ) → n ≤ i → f i ≡ 0) → n ≤ m → sum_below m f ≡ sum_below n f
sum_upto n zero f h low = let none : zero ≡ n = omega (arith, low) in ap (λ k. sum_below k f) none
sum_upto n (suc m) f h low = by_place (cases_lt m n) (λ l. sum_upto n m f h l)
  where
    by_place : (m < n) ⊎ (n ≤ m) → (n ≤ m → sum_below m f ≡ sum_below n f) → sum_below (suc m) f ≡ sum_below n f
    by_place (inl l) rest = let all : suc m ≡ n = omega (arith, low, l) in ap (λ k. sum_below k f) all
    by_place (inr l) rest = let here = h m l in let same = rest l in omega (arith, here, same)

any_same : (n : ℕ) (f g : ℕ → Bool) → ((i : ℕ) → f i ≡ g i) → any_below n f ≡ any_below n g
any_same zero f g h = refl
any_same (suc n) f g h = λ i. h n i || any_same n f g h i

none_both : (o : Ordering) (a b : ℕ) → a ≡ 0 → b ≡ 0 → number_both o a b ≡ 0
none_both Less a b h k = h
none_both Equal a b h k = omega (arith, h, k)
none_both Greater a b h k = k

-- the sum over all node numbers of what nodes outside of a cluster have none of
sum_both : (nodes : ℕ) → nodes ≤ node_numbers → (o : Ordering) (f g both : ℕ → ℕ) →
    ((node : ℕ) → both node ≡ number_both o (f node) (g node)) →
    ((node : ℕ) → nodes ≤ node → f node ≡ 0) → ((node : ℕ) → nodes ≤ node → g node ≡ 0) →
    sum_below node_numbers both ≡ sum_below nodes (λ node. number_both o (f node) (g node))
sum_both nodes few o f g both same low other =
    sum_same node_numbers both (λ node. number_both o (f node) (g node)) same
    ∙ sum_upto nodes node_numbers (λ node. number_both o (f node) (g node))
    (λ node high. none_both o (f node) (g node) (low node high) (other node high)) few

-- no node outside of the cluster executed or granted anything
module _ (nodes : ℕ) (ops : List Operation) (lawful : (op : Operation) → IsIn op ops → IsLawful nodes op) (node : ℕ)
    (high : nodes ≤ node) where
  none_under : (cell : KeyValue → Cell) → ((key : KeyValue) (n : ℕ) → IsLawful nodes (Count (cell key) n) →
      node < nodes) → (held : Option KeyValue) → at_key held (λ key. number_at (cell key) ops) ≡ 0
  none_under cell inside None = refl
  none_under cell inside (Some key) =
      let none = number_at-least (cell key) 0 ops (λ n h. absurd
      (let low = inside key n (lawful (Count (cell key) n) h) in omega (arith, low, high))) in
      omega (arith, none)

  no_execs : (name : List ℕ) (term : ℕ) → (fold ops).execs name term node ≡ 0
  unfolding fold
  no_execs name term = none_under (λ key. Execs name key term node) (λ key n h. h.3) (key_of name ops)

  no_grants : (name : List ℕ) (term : ℕ) → granted_in (fold ops) name term node ≡ 0
  unfolding fold
  no_grants name term = none_under (λ key. Shifts name key term node node) (λ key n h. h.3) (key_of name ops)

module _ (nodes : ℕ) (few : nodes ≤ node_numbers) (ops known : List Operation) (v t : State) (is_v : v ≡ fold known)
    (brings : Brings v t ops) (lawful : AreLawful nodes known) (received : AreLawful nodes ops) where
  kept_lawful : (op : Operation) → IsIn op brings.kept → IsLawful nodes op
  kept_lawful op h = received.each op (brings.told_all op h)

  all_execs : (name : List ℕ) (term : ℕ) → sum_below node_numbers ((union_of v t).execs name term) ≡ execs_both nodes
      (key_order (t.key name) (v.key name)) (held_at v name) (held_at t name) term
  all_execs name term =
      sum_both nodes few (key_order (t.key name) (v.key name)) (v.execs name term) (t.execs name term)
      ((union_of v t).execs name term) (execs_united v t name term)
      (λ node high. ap (λ (s : State). s.execs name term node) is_v ∙
      no_execs nodes known lawful.each node high name term)
      (λ node high. ap (λ (s : State). s.execs name term node) brings.knows ∙
      no_execs nodes brings.kept kept_lawful node high name term)

  all_grants : (name : List ℕ) (term : ℕ) → granted_of (union_of v t) name term ≡ granted_both nodes
      (key_order (t.key name) (v.key name)) (held_at v name) (held_at t name) term
  all_grants name term =
      sum_both nodes few (key_order (t.key name) (v.key name)) (granted_in v name term) (granted_in t name term)
      (granted_in (union_of v t) name term) (granted_united v t name term)
      (λ node high. ap (λ (s : State). granted_in s name term node) is_v ∙
      no_grants nodes known lawful.each node high name term)
      (λ node high. ap (λ (s : State). granted_in s name term node) brings.knows ∙
      no_grants nodes brings.kept kept_lawful node high name term)

  name_overspent : (name : List ℕ) → is_overspent (union_of v t) name (terms_in (setting_of (union_of v t) name)) ≡
      is_overspent_below nodes v t name
  name_overspent name =
      ap (is_overspent (union_of v t) name) (terms_by v t name (key_order (t.key name) (v.key name)) refl)
      ∙ any_same (length (terms_both (key_order (t.key name) (v.key name)) (held_at v name) (held_at t name))) _ _
      (λ term i. exceeds_count (count_at (terms_both (key_order (t.key name) (v.key name)) (held_at v name)
      (held_at t name)) term) (all_grants name term i) (all_execs name term i))

  -- each operation of an entry is of its name
  abbrev here : List ℕ → Bool
  here name = is_overspent_below nodes v t name

  overspends_as : (op : Operation) → overspends (fold (ops ++ known)) op ≡ here (name_in op)
  overspends_as op = ap (λ (s : State). overspends s op) (merged_enough ops known v t is_v brings) ∙
      name_overspent (name_in op)

  all_here : {C : Type 0} (f : C → Operation) (name : List ℕ) → ((c : C) → name_in (f c) ≡ name) →
      (cs : List C) (rest : List Operation) →
      (here name || list_any (overspends (fold (ops ++ known))) rest) ≡ here name →
      (here name || list_any (overspends (fold (ops ++ known))) (map f cs ++ rest)) ≡ here name
  all_here f name h [] rest e = e
  all_here f name h (c ∷ cs) rest e =
      ap (λ b. here name || (b || list_any (overspends (fold (ops ++ known))) (map f cs ++ rest)))
      (overspends_as (f c) ∙ ap here (h c))
      ∙ twice (here name) _ ∙ all_here f name h cs rest e
    where
      twice : (a b : Bool) → (a || (a || b)) ≡ (a || b)
      twice true b = refl
      twice false b = refl

  entry_overspent : (e : EntryValue) → list_any (overspends (fold (ops ++ known))) (operations_of e) ≡ here e.name
  entry_overspent e =
      ap (λ b. b || list_any (overspends (fold (ops ++ known)))
      (hits_in e.name e.hits ++ (execs_in e.name e.key e.execs ++
      (shifts_in e.name e.key e.shifts ++ grants_in e.name e.key e.grants))))
      (overspends_as (Set e.name e.key))
      ∙ all_here (λ c. Count (Hits e.name c.0) c.1) e.name (λ c. refl) e.hits _
      (all_here (λ c. Count (Execs e.name e.key c.0 c.1) c.2) e.name (λ c. refl) e.execs _
      (all_here (λ c. Count (Shifts e.name e.key c.0 c.1 c.2) c.3) e.name (λ c. refl) e.shifts _
      (subst (λ os. (here e.name || list_any (overspends (fold (ops ++ known))) os) ≡ here e.name)
      (append-nil (grants_in e.name e.key e.grants))
      (all_here (λ c. Count (Shifts e.name e.key c.0 c.1 c.1) c.2) e.name (λ c. refl) e.grants []
      (or_none (here e.name))))))
    where
      or_none : (b : Bool) → (b || false) ≡ b
      or_none true = refl
      or_none false = refl

  any_as : (es : List NameEntry) → list_any (λ e. list_any (overspends (fold (ops ++ known)))
      (operations_of (entry_value e))) es ≡ list_any (λ e. here e.name) es
  any_as [] = refl
  any_as (e ∷ es) = λ i. entry_overspent (entry_value e) i || any_as es i

  pub overspends_told : (es : List NameEntry) → ops ≡ flat_map operations_of (map entry_value es) →
      list_any (λ e. is_overspent_below nodes v t e.name) es ≡ list_any (overspends (fold (ops ++ known))) ops
  overspends_told es is =
      sym (any_as es) ∙ sym (any_told (overspends (fold (ops ++ known))) es) ∙
      ap (list_any (overspends (fold (ops ++ known)))) (sym is)
