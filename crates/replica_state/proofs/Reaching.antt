-- What leaves a state one that well-formed operations come to.
use Rattle.std.proofs.Common.{◌≡◌, ℕ, ◌+◌, ◌<◌, ◌≤◌, max, zero, suc, Bool, true, false, cond, IsTrue, List, [], ◌∷◌, ◌++◌, Option, Some, None, Result, Ok, Err, OnOk, OnErr, refl, sym, ◌∙◌, ap, subst, arith}
use Rattle.std.proofs.Math.Logic.{∥∥₁_map, ∥∥₁_map₂}
use Rattle.std.proofs.lemmas.Bool.{true≢false}
use Rattle.std.proofs.lemmas.Int.{ints}
use Rattle.std.specs.Prelude.{IfSome, is_some, option_map, pos, ◌≤ℤ◌}
use Rattle.std.specs.Option.{IsSome, option_map_or}
use Rattle.std.specs.List.{AllByRecursion}
use Rattle.std.specs.Ordering.{nat_cmp, is_le}
use Rattle.std.specs.Cmp.Lexicographic.{slice_cmp}
use Rattle.std.specs.declared.cmp.Ordering.{Ordering}
use Rattle.std.specs.declared.cmp.Ordering.TheVariants.{Less, Equal, Greater}
use Rattle.counters.specs.Budgets.{Budget, rights}
use Rattle.stamp_register.specs.Keys.{KeyValue, key_rank}
use Rattle.operations.specs.declared.counted.Counted.TheVariants as kinds
use Rattle.operations.specs.Operations.{Hits, Execs, Shifts, Operation, Set, Count, IsIn, IsWellFormed, count_of}
use Rattle.replica_state.specs.States.{State, with_name, with_key, with_hits, with_execs, with_shifts, with_pass, budget_of, budget_under, rights_of}
use Rattle.replica_state.specs.Folds.{fold, key_of, number_at, at_key, names_of, Learns, IsUnion, clock_of}
use Rattle.replica_state.specs.Knowledge.{is_upto}
use Rattle.replica_state.specs.Points.{Held, order_to_held, held_after_learning, held_after_key, held_after_count, held_after_shift}
use Rattle.operations.specs.Counts.{same_counted}
use Rattle.replica_state.specs.Cells.{held_at, with_held}
use Rattle.replica_state.specs.Reached.{ComeTo, ComeToWith, ComeToBoth, IsReached}
use Rattle.replica_state.proofs.Added.{added_parts}
use Rattle.replica_state.proofs.FoldSteps.{fold_hits, fold_execs, fold_shifts, all_later, later_above}
use Rattle.replica_state.proofs.Learned.{held_greater}
use Rattle.replica_state.proofs.Names.{key_named, names_of-ascending, holds-names_of, HoldsName}
use Rattle.replica_state.proofs.NamesTogether.{name_there}
use Rattle.replica_state.proofs.Shown.{took, shift_seen, with_held-same}

-- a call that was refused left the state as it was
pub after_call : {A E : Type 0} (r : Result A E) (old new : State) → IsReached old → OnOk r (IsReached new) →
    OnErr r (new ≡ old) → IsReached new
after_call (Ok a) old new h reached same = reached
after_call (Err e) old new h reached same = subst IsReached (sym same) h

-- ---- operations more

all-append : (P : Operation → Type 0) (a b : List Operation) → AllByRecursion P a → AllByRecursion P b →
    AllByRecursion P (a ++ b)
all-append P [] b h k = k
all-append P (op ∷ a) b h k = (h.0, all-append P a b h.1 k)

come_with : (v w : State) (op : Operation) → IsWellFormed op → Learns v w op → ComeTo v → ComeToWith v w op
come_with v w op formed learns c = record {
  ops = c.ops;
  formed = (formed, c.formed);
  before = c.state;
  after =
      learns c.ops c.state;
}

come_both : (v w both : State) → IsUnion v w both → ComeTo v → ComeTo w → ComeToBoth v w both
come_both v w both unites c d = record {
  ops = c.ops;
  others = d.ops;
  formed = all-append IsWellFormed c.ops d.ops c.formed d.formed;
  first = c.state;
  second = d.state;
  together = unites c.ops d.ops c.state d.state;
}

pub learned_with : (v w : State) (op : Operation) → IsWellFormed op → Learns v w op → IsReached v →
    ∥ ComeToWith v w op ∥₁
learned_with v w op formed learns h = ∥∥₁_map h (come_with v w op formed learns)

pub united_both : (v w both : State) → IsUnion v w both → IsReached v → IsReached w → ∥ ComeToBoth v w both ∥₁
united_both v w both unites h k = ∥∥₁_map₂ h k (come_both v w both unites)

pub learned : (v w : State) (op : Operation) → IsWellFormed op → Learns v w op → IsReached v → IsReached w
learned v w op formed learns h = ∥∥₁_map h (λ c. record {
  ops = op ∷ c.ops;
  formed = (formed, c.formed);
  state =
      learns c.ops c.state;
})

pub united : (v w both : State) → IsUnion v w both → IsReached v → IsReached w → IsReached both
united v w both unites h k = ∥∥₁_map₂ h k (λ c d. record {
  ops = c.ops ++ d.ops;
  formed =
      all-append IsWellFormed c.ops d.ops c.formed d.formed;
  state = unites c.ops d.ops c.state d.state;
})

-- ---- a greater key

above_held : (key : KeyValue) (held : Option KeyValue) → is_upto (Some key) held ≡ false →
    order_to_held key held ≡ Greater
above_held key None h = refl
above_held key (Some a) h = by_order (slice_cmp nat_cmp (key_rank key) (key_rank a)) h
  where
    by_order : (o : Ordering) → is_le o ≡ false → o ≡ Greater
    by_order Less e = absurd (true≢false e)
    by_order Equal e = absurd (true≢false e)
    by_order Greater e = refl

key_learned : (key : KeyValue) (h : Held) → order_to_held key h.key ≡ Greater →
    held_after_key key h ≡ held_after_learning (Some key) None h
unfolding held_after_key
key_learned key h s = held_greater h (held_after_key key h) (Some key) None key refl s refl (λ d. refl)

pub keyed : (name : List ℕ) (key : KeyValue) (v : State) → is_upto (Some key) (v.key name) ≡ false → IsReached v →
    IsReached (with_key name key v)
keyed name key v above h = ∥∥₁_map h (λ c. record {
  ops = Set name key ∷ c.ops;
  formed = (tt, c.formed);
  state = sym (took name key v) ∙ ap (λ (g : Held). with_held name g v)
      (key_learned key (held_at v name) (above_held key (v.key name) above))
      ∙ added_parts v (Set name key) name (Some key) None refl refl refl tt c.ops c.state;
})

-- ---- counts of a point that has a key

kept : (name : List ℕ) (ops : List Operation) (key : KeyValue) → key_of name ops ≡ Some key →
    with_name name (names_of ops) ≡ names_of ops
kept name ops key e =
    let holds : HoldsName name ops = key_named name ops (key, e) in
    name_there name (names_of ops) (names_of-ascending ops) (subst (λ n. IsIn n (names_of ops)) holds.named
    (holds-names_of ops holds.op holds.held holds.counted))

-- the key of a name, if it has one
record HasKey (v : State) (name : List ℕ) : Type 0 where
  key : KeyValue
  here : v.key name ≡ Some key

has_key : (v : State) (name : List ℕ) → IsSome (v.key name) → HasKey v name
has_key v name some = by_key (v.key name) refl some
  where
    by_key : (o : Option KeyValue) → v.key name ≡ o → IsSome o → HasKey v name
    by_key None e h = absurd (true≢false (sym h))
    by_key (Some key) e h = record { key = key; here = e }

-- and it counts a term
record Counts (v : State) (name : List ℕ) (term : ℕ) : Type 0 where
  key : KeyValue
  here : v.key name ≡ Some key
  counted : IsTrue (is_some (count_of key term))

counts : (v : State) (name : List ℕ) (term : ℕ) → IsSome (budget_of v name term) → Counts v name term
counts v name term some = by_key (v.key name) refl some
  where
    by_count : {A B : Type 0} (f : A → B) (o : Option A) → IsSome (option_map f o) → IsTrue (is_some o)
    by_count f None h = h
    by_count f (Some n) h = refl

    by_key : (o : Option KeyValue) → v.key name ≡ o → IsSome (budget_under v name term o) → Counts v name term
    by_key None e h = absurd (true≢false (sym h))
    by_key (Some key) e h = record { key = key; here = e; counted = by_count _ (count_of key term) h }

-- the key of a state is that of the operations that come to it
carried : (v : State) (name : List ℕ) (key : KeyValue) (ops : List Operation) → v ≡ fold ops → v.key name ≡ Some key →
    key_of name ops ≡ Some key
unfolding fold
carried v name key ops e here = sym (ap (λ (s : State). s.key name) e) ∙ here

hit_comes : (name : List ℕ) (node : ℕ) (v : State) → HasKey v name → ComeTo v →
    ComeTo (with_hits name node (v.hits name node + 1) v)
unfolding fold
hit_comes name node v has c = record {
  ops = Count (Hits name node) (number_at (Hits name node) c.ops + 1) ∷ c.ops;
  formed = (omega arith, c.formed);
  state = ap (λ (s : State). with_hits name node (s.hits name node + 1) s) c.state
      ∙ sym (fold_hits name node c.ops (kept name c.ops has.key (carried v name has.key c.ops c.state has.here)));
}

exec_comes : (name : List ℕ) (term node : ℕ) (v : State) → Counts v name term → ComeTo v →
    ComeTo (with_execs name term node (v.execs name term node + 1) v)
unfolding fold
exec_comes name term node v has c =
    let here : key_of name c.ops ≡ Some has.key = carried v name has.key c.ops c.state has.here in
    record {
      ops = Count (Execs name has.key term node) ((fold c.ops).execs name term node + 1) ∷ c.ops;
      formed = ((omega arith, has.counted), c.formed);
      state = ap (λ (s : State). with_execs name term node (s.execs name term node + 1) s) c.state
          ∙ sym (fold_execs name has.key c.ops here term node ((fold c.ops).execs name term node)
          (ap (λ (o : Option KeyValue). at_key o (λ key. number_at (Execs name key term node) c.ops)) here)
          (kept name c.ops has.key here));
    }

pub passed : (name : List ℕ) (node : ℕ) (spent : Option ℕ) (v : State) → IsSome (v.key name) →
    IfSome spent (λ term. IsSome (budget_of v name term)) → IsReached v → IsReached (with_pass name node spent v)
unfolding with_hits
passed name node None v set counted h = ∥∥₁_map h (hit_comes name node v (has_key v name set))
passed name node (Some term) v set counted h =
    ∥∥₁_map h (λ c. exec_comes name term node (with_hits name node (v.hits name node + 1) v)
    (counts (with_hits name node (v.hits name node + 1) v) name term counted)
    (hit_comes name node v (has_key v name set) c))

-- ---- rights that are moved

-- a total of 0 where nothing was moved changes nothing
unmoved : (h : Held) (term from to : ℕ) → held_after_shift term from to 0 h ≡ h
unfolding held_after_count
unmoved h term from to = λ i. record {
  key = h.key;
  number =
      λ c. same (same_counted (kinds.Shifts term from to) c) (h.number c) i;
}
  where
    same : (t : Bool) (n : ℕ) → cond t (max 0 n) n ≡ n
    same true n = omega arith
    same false n = refl

module _ (name : List ℕ) (term from to : ℕ) (v : State) (has : Counts v name term) (c : ComeTo v) where
  here : key_of name c.ops ≡ Some has.key
  here = carried v name has.key c.ops c.state has.here

  still : v.shifts name term from to ≤ 0 → ComeTo (with_shifts name term from to 0 v)
  unfolding fold
  still low =
      let named : with_name name v.names ≡ v.names = subst (λ (s : State). with_name name s.names ≡ s.names)
      (sym c.state) (kept name c.ops has.key here) in
      record {
        ops = c.ops;
        formed = c.formed;
        state = sym (shift_seen name term from to 0 v low named) ∙
            ap (λ (g : Held). with_held name g v) (unmoved (held_at v name) term from to) ∙
            with_held-same name v named ∙ c.state;
      }

  shift_comes : (total : ℕ) → 1 ≤ total → v.shifts name term from to ≤ total →
      ComeTo (with_shifts name term from to total v)
  unfolding fold
  shift_comes total some low =
      let moved : v.shifts name term from to ≡ number_at (Shifts name has.key term from to) c.ops =
      ap (λ (s : State). s.shifts name term from to) c.state
      ∙ ap (λ (o : Option KeyValue). at_key o (λ key. number_at (Shifts name key term from to) c.ops)) here in
      record {
        ops = Count (Shifts name has.key term from to) total ∷ c.ops;
        formed = ((some, has.counted), c.formed);
        state = ap (λ (s : State). with_shifts name term from to total s) c.state
            ∙ sym (fold_shifts name has.key c.ops here term from to total (omega (arith, moved, low))
            (kept name c.ops has.key here));
      }

pub shifted : (name : List ℕ) (term from to total : ℕ) (v : State) → v.shifts name term from to ≤ total →
    IsSome (budget_of v name term) → IsReached v → IsReached (with_shifts name term from to total v)
shifted name term from to zero v low counted h = ∥∥₁_map h (λ c. still name term from to v (counts v name term counted)
    c low)
shifted name term from to (suc n) v low counted h = ∥∥₁_map h
    (λ c. shift_comes name term from to v (counts v name term counted) c (suc n) (omega arith) low)

-- ---- what callers know

-- a node has rights to a counted term alone
pub rights_are_counted : (v : State) (name : List ℕ) (term node amount : ℕ) → 0 < amount →
    pos amount ≤ℤ rights_of v name term node → IsSome (budget_of v name term)
rights_are_counted v name term node amount some enough = by_budget (budget_of v name term) enough
  where
    by_budget : (o : Option Budget) → pos amount ≤ℤ option_map_or (λ b. rights b node) o (pos 0) → IsSome o
    by_budget None h = absurd (omega (arith, ints, some, h))
    by_budget (Some b) h = refl

pub spent_is_counted : (v : State) (name : List ℕ) (node : ℕ) (spent : Option ℕ) →
    ((term : ℕ) → spent ≡ Some term → pos 1 ≤ℤ rights_of v name term node) →
    IfSome spent (λ term. IsSome (budget_of v name term))
spent_is_counted v name node None h = tt
spent_is_counted v name node (Some term) h = rights_are_counted v name term node 1 (omega arith) (h term refl)

-- a key of a later clock than all that operations carry is above the one that they come to
pub later_is_above : (key : KeyValue) (name : List ℕ) (v : State) (ops : List Operation) → v ≡ fold ops →
    clock_of ops < key.clock → is_upto (Some key) (v.key name) ≡ false
unfolding fold
later_is_above key name v ops e later = ap (λ (s : State). is_upto (Some key) (s.key name)) e ∙
    later_above key (key_of name ops) (all_later key name ops later)
