-- The names of a set: sorted, each once, and those that an operation of the set holds.
use Rattle.std.proofs.Common.{◌≡◌, ℕ, ◌<◌, ◌≤◌, nat_lt, max, Bool, true, false, cond, List, [], ◌∷◌, ◌⊎◌, inl, inr, refl, sym, ◌∙◌, ap, subst, arith, ⊎_elim, Some, None}
use Rattle.std.proofs.lemmas.Bool.{true≢false}
use Rattle.std.proofs.lemmas.Bool.Decides.{nat_tests}
use Rattle.std.proofs.lemmas.Cmp.{nat_list_cmp_total}
use Rattle.std.proofs.lemmas.Map.Text.{is_eq-slice_cmp}
use Rattle.std.specs.Str.{bytes_eq}
use Rattle.std.specs.Ordering.{nat_cmp, match_ordering, is_eq, ordering_reverse}
use Rattle.std.specs.Cmp.Lexicographic.{slice_cmp}
use Rattle.std.specs.declared.cmp.Ordering.{Ordering}
use Rattle.std.specs.declared.cmp.Ordering.TheVariants.{Less, Equal, Greater}
use Rattle.stamp_register.specs.Keys.{KeyValue}
use Rattle.operations.specs.Operations.{Hits, Execs, Shifts, Operation, Set, Count, IsIn, same_cell, name_in, name_in_cell}
use Rattle.operations.proofs.Order.{never_less}
use Rattle.replica_state.specs.States.{with_name}
use Rattle.replica_state.specs.Folds.{key_in, key_of, number_at, names_of, is_counted_cell, holds_name}
use Rattle.replica_state.specs.Knowledge.{HoldsKey, Knows, KnowsAll}
use Rattle.replica_state.proofs.Orders.{bytes_eq-true, same_cell-true}
use Rattle.replica_state.proofs.Sets.{key_of-found}

pub tied : (a b : List ℕ) → slice_cmp nat_cmp a b ≡ Equal → a ≡ b
tied a b e = bytes_eq-true a b (sym (is_eq-slice_cmp a b) ∙ ap is_eq e)

turned : (a b : List ℕ) → slice_cmp nat_cmp a b ≡ Greater → slice_cmp nat_cmp b a ≡ Less
turned a b e = nat_list_cmp_total.antisymm b a ∙ ap ordering_reverse e

never_both : (a b : List ℕ) → slice_cmp nat_cmp a b ≡ Less → slice_cmp nat_cmp b a ≡ Less → ⊥
never_both a b e f = never_less a (nat_list_cmp_total.trans a b a e f)

-- each name is below all that follow
abbrev pub IsAscending : List (List ℕ) → Type 0
IsAscending [] = Unit {0}
IsAscending (n ∷ ns) = ((m : List ℕ) → IsIn m ns → slice_cmp nat_cmp n m ≡ Less) × IsAscending ns

-- the members after a name was put into place
pub with_name-cases : (name q : List ℕ) (ns : List (List ℕ)) → IsIn q (with_name name ns) → (q ≡ name) ⊎ IsIn q ns
with_name-cases name q [] (inl e) = inl e
with_name-cases name q [] (inr h) = absurd h
with_name-cases name q (n ∷ ns) h = by_order (slice_cmp nat_cmp name n) (with_name-cases name q ns) h
  where
    by_order : (o : Ordering) → (IsIn q (with_name name ns) → (q ≡ name) ⊎ IsIn q ns) →
        IsIn q (match_ordering o (name ∷ n ∷ ns) (n ∷ ns) (n ∷ with_name name ns)) → (q ≡ name) ⊎ IsIn q (n ∷ ns)
    by_order Less rest (inl e) = inl e
    by_order Less rest (inr h) = inr h
    by_order Equal rest h = inr h
    by_order Greater rest (inl e) = inr (inl e)
    by_order Greater rest (inr h) = ⊎_elim (λ e. inl e) (λ m. inr (inr m)) (rest h)

pub with_name-new : (name : List ℕ) (ns : List (List ℕ)) → IsIn name (with_name name ns)
with_name-new name [] = inl refl
with_name-new name (n ∷ ns) = by_order (slice_cmp nat_cmp name n) refl (with_name-new name ns)
  where
    by_order : (o : Ordering) → slice_cmp nat_cmp name n ≡ o → IsIn name (with_name name ns) →
        IsIn name (match_ordering o (name ∷ n ∷ ns) (n ∷ ns) (n ∷ with_name name ns))
    by_order Less e rest = inl refl
    by_order Equal e rest = inl (tied name n e)
    by_order Greater e rest = inr rest

pub with_name-old : (name q : List ℕ) (ns : List (List ℕ)) → IsIn q ns → IsIn q (with_name name ns)
with_name-old name q [] h = absurd h
with_name-old name q (n ∷ ns) h = by_order (slice_cmp nat_cmp name n) (with_name-old name q ns) h
  where
    by_order : (o : Ordering) → (IsIn q ns → IsIn q (with_name name ns)) → IsIn q (n ∷ ns) →
        IsIn q (match_ordering o (name ∷ n ∷ ns) (n ∷ ns) (n ∷ with_name name ns))
    by_order Less rest h = inr h
    by_order Equal rest h = h
    by_order Greater rest (inl e) = inl e
    by_order Greater rest (inr h) = inr (rest h)

pub with_name-ascending : (name : List ℕ) (ns : List (List ℕ)) → IsAscending ns → IsAscending (with_name name ns)
with_name-ascending name [] h = (λ m k. absurd k, tt)
with_name-ascending name (n ∷ ns) h = by_order (slice_cmp nat_cmp name n) refl (with_name-ascending name ns h.1)
  where
    above : slice_cmp nat_cmp name n ≡ Less → (m : List ℕ) → IsIn m (n ∷ ns) → slice_cmp nat_cmp name m ≡ Less
    above e m (inl f) = ap (λ q. slice_cmp nat_cmp name q) f ∙ e
    above e m (inr k) = nat_list_cmp_total.trans name n m e (h.0 m k)

    by_order : (o : Ordering) → slice_cmp nat_cmp name n ≡ o → IsAscending (with_name name ns) →
        IsAscending (match_ordering o (name ∷ n ∷ ns) (n ∷ ns) (n ∷ with_name name ns))
    by_order Less e rest = (above e, h)
    by_order Equal e rest = h
    by_order Greater e rest = (
      λ m k. ⊎_elim (λ f. ap (λ q. slice_cmp nat_cmp n q) f ∙ turned name n e) (h.0 m)
          (with_name-cases name m ns k),
      rest,
    )

-- lists in order with the same members are the same
pub same_ascending : (xs ys : List (List ℕ)) → IsAscending xs → IsAscending ys →
    ((m : List ℕ) → IsIn m xs → IsIn m ys) → ((m : List ℕ) → IsIn m ys → IsIn m xs) → xs ≡ ys
same_ascending [] [] a b h k = refl
same_ascending [] (y ∷ ys) a b h k = absurd (k y (inl refl))
same_ascending (x ∷ xs) [] a b h k = absurd (h x (inl refl))
same_ascending (x ∷ xs) (y ∷ ys) a b h k = λ i. first i ∷ same_ascending xs ys a.1 b.1
    (λ m j. later ys x y m first (a.0 m j) (h m (inr j))) (λ m j. later xs y x m (sym first) (b.0 m j) (k m (inr j))) i
  where
    later : (zs : List (List ℕ)) (u v m : List ℕ) → u ≡ v → slice_cmp nat_cmp u m ≡ Less → IsIn m (v ∷ zs) → IsIn m zs
    later zs u v m s l (inl e) = absurd (never_less m (subst (λ w. slice_cmp nat_cmp w m ≡ Less) (s ∙ sym e) l))
    later zs u v m s l (inr j) = j

    heads : IsIn x (y ∷ ys) → IsIn y (x ∷ xs) → x ≡ y
    heads (inl e) g = e
    heads (inr j) (inl e) = sym e
    heads (inr j) (inr l) = absurd (never_both x y (a.0 y l) (b.0 x j))

    first : x ≡ y
    first = heads (h x (inl refl)) (k y (inl refl))

-- an operation of the set holds the name
pub record HoldsName (name : List ℕ) (ops : List Operation) : Type 0 where
  pub op : Operation
  pub held : IsIn op ops
  pub named : name_in op ≡ name
  pub counted : holds_name op ≡ true

pub names_of-ascending : (ops : List Operation) → IsAscending (names_of ops)
names_of-ascending [] = tt
names_of-ascending (o ∷ ops) = by_test (holds_name o) (names_of-ascending ops)
  where
    by_test : (b : Bool) → IsAscending (names_of ops) → IsAscending
        (cond b (with_name (name_in o) (names_of ops)) (names_of ops))
    by_test true h = with_name-ascending (name_in o) (names_of ops) h
    by_test false h = h

pub names_of-holds : (q : List ℕ) (ops : List Operation) → IsIn q (names_of ops) → HoldsName q ops
names_of-holds q [] h = absurd h
names_of-holds q (o ∷ ops) h = by_test (holds_name o) refl (names_of-holds q ops) h
  where
    rest : HoldsName q ops → HoldsName q (o ∷ ops)
    rest r = record { op = r.op; held = inr r.held; named = r.named; counted = r.counted }

    by_test : (b : Bool) → holds_name o ≡ b → (IsIn q (names_of ops) → HoldsName q ops) →
        IsIn q (cond b (with_name (name_in o) (names_of ops)) (names_of ops)) → HoldsName q (o ∷ ops)
    by_test true e f m = ⊎_elim (λ s. record { op = o; held = inl refl; named = sym s; counted = e }) (λ j. rest (f j))
        (with_name-cases (name_in o) q (names_of ops) m)
    by_test false e f m = rest (f m)

pub holds-names_of : (ops : List Operation) (op : Operation) → IsIn op ops → holds_name op ≡ true →
    IsIn (name_in op) (names_of ops)
holds-names_of [] op h t = absurd h
holds-names_of (o ∷ ops) op (inl e) t = by_test (holds_name o) (ap holds_name (sym e) ∙ t)
  where
    by_test : (b : Bool) → b ≡ true → IsIn (name_in op) (cond b (with_name (name_in o) (names_of ops)) (names_of ops))
    by_test true f = subst (λ n. IsIn n (with_name (name_in o) (names_of ops))) (ap name_in (sym e))
        (with_name-new (name_in o) (names_of ops))
    by_test false f = absurd (true≢false (sym f))
holds-names_of (o ∷ ops) op (inr h) t = by_test (holds_name o) (holds-names_of ops op h t)
  where
    by_test : (b : Bool) → IsIn (name_in op) (names_of ops) →
        IsIn (name_in op) (cond b (with_name (name_in o) (names_of ops)) (names_of ops))
    by_test true j = with_name-old (name_in o) (name_in op) (names_of ops) j
    by_test false j = j

pub names_same : (a b : List Operation) → ((q : List ℕ) → HoldsName q a → HoldsName q b) →
    ((q : List ℕ) → HoldsName q b → HoldsName q a) → names_of a ≡ names_of b
names_same a b h k = same_ascending (names_of a) (names_of b) (names_of-ascending a) (names_of-ascending b)
    (λ q m. named b q (h q (names_of-holds q a m)))
    (λ q m. named a q (k q (names_of-holds q b m)))
  where
    named : (ops : List Operation) (q : List ℕ) → HoldsName q ops → IsIn q (names_of ops)
    named ops q r = subst (λ n. IsIn n (names_of ops)) r.named (holds-names_of ops r.op r.held r.counted)

-- what carries a key of a name holds the name
carried : (name n : List ℕ) (a k : KeyValue) → cond (bytes_eq n name) (Some a) None ≡ Some k → n ≡ name
carried name n a k h = by_test (bytes_eq n name) (bytes_eq-true n name) h
  where
    by_test : (b : Bool) → (b ≡ true → n ≡ name) → cond b (Some a) None ≡ Some k → n ≡ name
    by_test true f e = f refl
    by_test false f e = cc

pub carries_name : (name : List ℕ) (key : KeyValue) (op : Operation) → key_in name op ≡ Some key →
    (name_in op ≡ name) × (holds_name op ≡ true)
carries_name name key (Set n a) h = (carried name n a key h, refl)
carries_name name key (Count (Hits n node) number) h = cc
carries_name name key (Count (Execs n a term node) number) h = (carried name n a key h, refl)
carries_name name key (Count (Shifts n a term from to) number) h = (carried name n a key h, refl)

pub key_named : (name : List ℕ) (ops : List Operation) → (key : KeyValue) × (key_of name ops ≡ Some key) →
    HoldsName name ops
key_named name ops (key, e) =
    let found = key_of-found name key ops e in
    let at = carries_name name key found.op found.carries in
    record { op = found.op; held = found.held; named = at.0; counted = at.1 }

hit_found : (name : List ℕ) (node : ℕ) (ops : List Operation) → 0 < number_at (Hits name node) ops → HoldsName name ops
hit_found name node [] h = absurd (omega arith)
hit_found name node (Set n key ∷ ops) h = later (Set n key) ops (hit_found name node ops (omega arith))
  where
    later : (o : Operation) (ops : List Operation) → HoldsName name ops → HoldsName name (o ∷ ops)
    later o ops r = record { op = r.op; held = inr r.held; named = r.named; counted = r.counted }
hit_found name node (Count c n ∷ ops) h = by_test (same_cell c (Hits name node)) refl (hit_found name node ops) h
  where
    by_number : c ≡ Hits name node → (0 < number_at (Hits name node) ops → HoldsName name ops) → (b : Bool) →
        nat_lt 0 n ≡ b → 0 < max n (number_at (Hits name node) ops) → HoldsName name (Count c n ∷ ops)
    by_number e rest true t h = record {
      op = Count c n;
      held = inl refl;
      named = ap name_in_cell e;
      counted =
          ap (λ d. is_counted_cell d n) e ∙ t;
    }
    by_number e rest false t h =
        let none : n ≤ 0 = grind (arith, nat_tests) in
        let r = rest (omega arith) in
        record { op = r.op; held = inr r.held; named = r.named; counted = r.counted }

    by_test : (b : Bool) → same_cell c (Hits name node) ≡ b →
        (0 < number_at (Hits name node) ops → HoldsName name ops) →
        0 < max (cond b n 0) (number_at (Hits name node) ops) → HoldsName name (Count c n ∷ ops)
    by_test true e rest h = by_number (same_cell-true c (Hits name node) e) rest (nat_lt 0 n) refl h
    by_test false e rest h =
        let r = rest (omega arith) in
        record { op = r.op; held = inr r.held; named = r.named; counted = r.counted }

pub hit_named : (name : List ℕ) (node number : ℕ) (ops : List Operation) → nat_lt 0 number ≡ true →
    number ≤ number_at (Hits name node) ops → HoldsName name ops
hit_named name node number ops some upto =
    let one : 0 < number = grind (arith, nat_tests) in
    hit_found name node ops (omega arith)

-- sets that know each other's operations hold the same names
key_holds : (name : List ℕ) (ops : List Operation) (test : KeyValue → Type 0) → HoldsKey ops name test →
    HoldsName name ops
key_holds name ops test h =
    let at = carries_name name h.key h.op h.carries in
    record { op = h.op; held = h.held; named = at.0; counted = at.1 }

known_name : (ops : List Operation) (op : Operation) → holds_name op ≡ true → Knows ops op → HoldsName (name_in op) ops
known_name ops (Set n key) t h = key_holds n ops _ h
known_name ops (Count (Hits n node) number) t h =
    let upto = h.at_least in
    record { op = Count (Hits n node) h.later; held = h.held; named = refl; counted = grind (arith, nat_tests) }
known_name ops (Count (Execs n key term node) number) t (inl h) =
    record { op = Count (Execs n key term node) h.later; held = h.held; named = refl; counted = refl }
known_name ops (Count (Execs n key term node) number) t (inr h) = key_holds n ops _ h
known_name ops (Count (Shifts n key term from to) number) t (inl h) =
    record { op = Count (Shifts n key term from to) h.later; held = h.held; named = refl; counted = refl }
known_name ops (Count (Shifts n key term from to) number) t (inr h) = key_holds n ops _ h

pub names_known : (a b : List Operation) → KnowsAll a b → KnowsAll b a → names_of a ≡ names_of b
names_known a b h k = names_same a b
    (λ q r. subst (λ n. HoldsName n b) r.named (known_name b r.op r.counted (k r.op r.held)))
    (λ q r. subst (λ n. HoldsName n a) r.named (known_name a r.op r.counted (h r.op r.held)))
