-- What a node holds after it moved rights to another node, or granted itself some.
use Rattle.std.proofs.Common.{◌≡◌, ◌≢◌, ℕ, ◌+◌, ◌<◌, ◌≤◌, Bool, true, false, cond, ◌&&◌, ◌==◌, List, [], ◌∷◌, ◌++◌, Option, Some, None, refl, sym, ◌∙◌, ap, subst, arith}
use Rattle.std.proofs.lemmas.Bool.{and_parts, eqb-true, eqb-false, ne_eqb}
use Rattle.std.proofs.lemmas.Int.{ints}
use Rattle.std.proofs.lemmas.Slice.Eq.{bytes_eq-Decides}
use Rattle.std.specs.Str.{bytes_eq}
use Rattle.std.specs.Prelude.{ℤ, pos, ◌≤ℤ◌, option_map}
use Rattle.std.specs.Option.{IsSome, option_map_or}
use Rattle.counters.specs.Sums.{node_numbers, sum_others}
use Rattle.counters.specs.Budgets.{Budget, rights}
use Rattle.counters.proofs.SumLemmas.{sum-same, sum_others-le, sum_others-add, sum_others-at_most, sum_others-same}
use Rattle.stamp_register.specs.Keys.{KeyValue}
use Rattle.operations.specs.Operations.{Operation, Count, Shifts, count_of}
use Rattle.replica_state.specs.States.{State, with_name, with_shifts, budget, budget_under, budget_of, rights_of}
use Rattle.replica_state.specs.Folds.{fold, clock_of, names_of, key_of, number_at, at_key}
use Rattle.replica_state.proofs.FoldSteps.{fold_shifts}
use Rattle.node_steps.specs.declared.config.Config.{Config}
use Rattle.node_calls.specs.Asks.{Asked, Shift, Grant}
use Rattle.node_steps.specs.Nodes.{Node, state_shown}
use Rattle.node_steps.specs.Outcomes.{IsHeld}
use Rattle.node_core.specs.Steps.{after, operations_added, clock_after, known_after, acked_after, shift_under}
use Rattle.node_core.specs.Holds.{Holds}
use Rattle.node_steps.proofs.OwnRights.{HasOwn}
use Rattle.node_steps.proofs.Rights.{counted_by_rights}
use Rattle.node_core.proofs.TraceLemmas.{held_clock}

-- ---- rights

-- of a cell that grew by an amount
grown : (a b d : Bool) (x y amount : ℕ) → (a ≡ true → b ≡ true → d ≡ true → x ≡ y + amount) →
    cond (a && (b && (true && d))) x y ≤ y + cond d (cond (a && b) amount 0) 0
grown true true true x y amount h = let same = h refl refl refl in omega (arith, same)
grown true true false x y amount h = omega arith
grown true false true x y amount h = omega arith
grown true false false x y amount h = omega arith
grown false b true x y amount h = omega arith
grown false b false x y amount h = omega arith

-- of one that can't be meant
kept : (a b c d : Bool) (x y : ℕ) → d ≡ false → cond (a && (b && (c && d))) x y ≡ y
kept true true true true x y h = cc
kept true true true false x y h = refl
kept true true false d x y h = refl
kept true false c d x y h = refl
kept false b c d x y h = refl

-- a shift takes its amount of the rights that are there
module _ (v : State) (name : List ℕ) (k i to amount : ℕ) (own : HasOwn v i) (apart : to ≢ i)
    (enough : pos amount ≤ℤ rights_of v name k i) (q : List ℕ) (t : ℕ) where
  abbrev then : State
  then = with_shifts name k i to (v.shifts name k i to + amount) v

  abbrev test : Bool
  test = bytes_eq name q && (k == t)

  same_cell : (j : ℕ) → bytes_eq name q ≡ true → (k == t) ≡ true → (to == j) ≡ true →
      v.shifts name k i to + amount ≡ v.shifts q t i j + amount
  same_cell j e f g = λ p. v.shifts ((bytes_eq-Decides name q).0 e p) (eqb-true k t f p) i (eqb-true to j g p) + amount

  itself : (j : ℕ) → (i == i) ≡ true
  itself j = eq_itself i
    where
      eq_itself : (m : ℕ) → (m == m) ≡ true
      eq_itself m = grind arith

  went : (j : ℕ) → then.shifts q t i j ≤ v.shifts q t i j + cond (to == j) (cond test amount 0) 0
  unfolding with_shifts
  went j = subst (λ (b : Bool). cond (bytes_eq name q && ((k == t) && (b && (to == j)))) (v.shifts name k i to + amount)
      (v.shifts q t i j) ≤ v.shifts q t i j + cond (to == j) (cond test amount 0) 0) (sym (itself j))
      (grown (bytes_eq name q) (k == t) (to == j) (v.shifts name k i to + amount) (v.shifts q t i j) amount
      (same_cell j))

  came : (j : ℕ) → then.shifts q t j i ≡ v.shifts q t j i
  unfolding with_shifts
  came j = kept (bytes_eq name q) (k == t) (i == j) (to == i) (v.shifts name k i to + amount) (v.shifts q t j i)
      (ne_eqb to i apart)

  others_went : sum_others node_numbers i (λ j. then.shifts q t i j) ≤ sum_others node_numbers i
      (λ j. v.shifts q t i j) + cond test amount 0
  others_went =
      let all = sum_others-le node_numbers i (λ j. then.shifts q t i j)
      (λ j. v.shifts q t i j + cond (to == j) (cond test amount 0) 0) went in
      let apart = sum_others-add node_numbers i (λ j. v.shifts q t i j) (λ j. cond (to == j) (cond test amount 0) 0) in
      let one = sum_others-at_most node_numbers i (λ j. cond (to == j) (cond test amount 0) 0) to (cond test amount 0)
      (λ j ne. ap (λ b. cond b (cond test amount 0) 0) (ne_eqb to j (λ e. ne (sym e)))) (most (to == to)) in
      omega (arith, all, apart, one)
    where
      most : (b : Bool) → cond b (cond test amount 0) 0 ≤ cond test amount 0
      most true = omega arith
      most false = omega arith

  left : (n : ℕ) (key : KeyValue) → pos 0 ≤ℤ rights (budget v q t key.node n) i →
      (test ≡ true → pos amount ≤ℤ rights (budget v q t key.node n) i) → pos 0 ≤ℤ rights (budget then q t key.node n) i
  unfolding with_shifts
  left n key p more = by_test test refl
    where
      same_given : sum_others node_numbers i (λ j. then.shifts q t j i) ≡ sum_others node_numbers i
          (λ j. v.shifts q t j i)
      same_given = sum_others-same node_numbers i (λ j. then.shifts q t j i) (λ j. v.shifts q t j i) came

      same_granted : then.shifts q t i i ≡ v.shifts q t i i
      same_granted = came i

      by_test : (b : Bool) → test ≡ b → pos 0 ≤ℤ rights (budget then q t key.node n) i
      by_test true e =
          let amounts : pos amount ≤ℤ rights (budget v q t key.node n) i = more e in
          let most : sum_others node_numbers i (λ j. then.shifts q t i j) ≤ sum_others node_numbers i
          (λ j. v.shifts q t i j) + amount = subst (λ b. sum_others node_numbers i (λ j. then.shifts q t i j) ≤
          sum_others node_numbers i (λ j. v.shifts q t i j) + cond b amount 0) e others_went in
          omega (arith, ints, amounts, most, same_given, same_granted)
      by_test false e =
          let most : sum_others node_numbers i (λ j. then.shifts q t i j) ≤ sum_others node_numbers i
          (λ j. v.shifts q t i j) + 0 = subst (λ b. sum_others node_numbers i (λ j. then.shifts q t i j) ≤
          sum_others node_numbers i (λ j. v.shifts q t i j) + cond b amount 0) e others_went in
          omega (arith, ints, p, most, same_given, same_granted)

  abbrev old : Option KeyValue → ℤ
  old held = option_map_or (λ (b : Budget). rights b i) (budget_under v q t held) (pos 0)

  more : test ≡ true → pos amount ≤ℤ old (v.key q)
  more h =
      let p = and_parts (bytes_eq name q) (k == t) h in
      subst (λ (r : List ℕ). pos amount ≤ℤ rights_of v r t i) ((bytes_eq-Decides name q).0 p.0)
      (subst (λ u. pos amount ≤ℤ rights_of v name u i) (eqb-true k t p.1) enough)

  by_held : (held : Option KeyValue) → pos 0 ≤ℤ old held → (test ≡ true → pos amount ≤ℤ old held) →
      pos 0 ≤ℤ option_map_or (λ (b : Budget). rights b i) (budget_under then q t held) (pos 0)
  by_held None p r = p
  by_held (Some key) p r = by_count (count_of key t) p r
    where
      by_count : (found : Option ℕ) → pos 0 ≤ℤ option_map_or (λ (b : Budget). rights b i)
          (option_map (λ n. budget v q t key.node n) found) (pos 0) →
          (test ≡ true → pos amount ≤ℤ option_map_or (λ (b : Budget). rights b i)
          (option_map (λ n. budget v q t key.node n) found) (pos 0)) →
          pos 0 ≤ℤ option_map_or (λ (b : Budget). rights b i) (option_map (λ n. budget then q t key.node n) found)
          (pos 0)
      by_count None p r = p
      by_count (Some n) p r = left n key p r

  own_shift_at : pos 0 ≤ℤ rights_of then q t i
  unfolding with_shifts
  own_shift_at = by_held (v.key q) (own q t) more

own_shift : (v : State) (name : List ℕ) (k i to amount : ℕ) → HasOwn v i → to ≢ i → pos amount ≤ℤ rights_of v name k i →
    HasOwn (with_shifts name k i to (v.shifts name k i to + amount) v) i
own_shift v name k i to amount own apart enough q t = own_shift_at v name k i to amount own apart enough q t

others_same : (n i : ℕ) (f g : ℕ → ℕ) → ((j : ℕ) → j ≢ i → f j ≡ g j) → sum_others n i f ≡ sum_others n i g
others_same n i f g h = sum-same n _ _ (λ j low. at j (j == i) refl)
  where
    at : (j : ℕ) (b : Bool) → (j == i) ≡ b → cond b 0 (f j) ≡ cond b 0 (g j)
    at j true e = refl
    at j false e = h j (eqb-false j i e)

raised : (b : Bool) (x y : ℕ) → (b ≡ true → y ≤ x) → y ≤ cond b x y
raised true x y h = h refl
raised false x y h = omega arith

unraised : (a b c : Bool) (x y : ℕ) → c ≡ false → cond (a && (b && c)) x y ≡ y
unraised true true true x y h = cc
unraised true true false x y h = refl
unraised true false c x y h = refl
unraised false b c x y h = refl

none_last : (a b : Bool) → b ≡ false → (a && b) ≡ false
none_last true b h = h
none_last false b h = refl

-- a grant adds to the rights that are there
module _ (v : State) (name : List ℕ) (k i amount : ℕ) (own : HasOwn v i) (q : List ℕ) (t : ℕ) where
  abbrev granted_then : State
  granted_then = with_shifts name k i i (v.shifts name k i i + amount) v

  granted_more : v.shifts q t i i ≤ granted_then.shifts q t i i
  unfolding with_shifts
  granted_more = raised _ (v.shifts name k i i + amount) (v.shifts q t i i) more_here
    where
      more_here : (bytes_eq name q && ((k == t) && ((i == i) && (i == i)))) ≡ true →
          v.shifts q t i i ≤ v.shifts name k i i + amount
      more_here h =
          let p = and_parts (bytes_eq name q) _ h in
          let r = and_parts (k == t) _ p.1 in
          let same : v.shifts name k i i ≡ v.shifts q t i i =
          λ s. v.shifts ((bytes_eq-Decides name q).0 p.0 s) (eqb-true k t r.0 s) i i in
          omega (arith, same)

  none_came : sum_others node_numbers i (λ j. granted_then.shifts q t j i) ≡ sum_others node_numbers i
      (λ j. v.shifts q t j i)
  unfolding with_shifts
  none_came = others_same node_numbers i _ _ (λ j ne. unraised (bytes_eq name q) (k == t) _
      (v.shifts name k i i + amount) (v.shifts q t j i) (ap (λ b. b && (i == i)) (ne_eqb i j (λ e. ne (sym e)))))

  none_went : sum_others node_numbers i (λ j. granted_then.shifts q t i j) ≡ sum_others node_numbers i
      (λ j. v.shifts q t i j)
  unfolding with_shifts
  none_went = others_same node_numbers i _ _ (λ j ne. unraised (bytes_eq name q) (k == t) _
      (v.shifts name k i i + amount) (v.shifts q t i j) (none_last (i == i) (i == j) (ne_eqb i j (λ e. ne (sym e)))))

  granted_left : (n : ℕ) (key : KeyValue) → pos 0 ≤ℤ rights (budget v q t key.node n) i →
      pos 0 ≤ℤ rights (budget granted_then q t key.node n) i
  unfolding with_shifts
  granted_left n key p = omega (arith, ints, p, granted_more, none_came, none_went)

  granted_held : (held : Option KeyValue) → pos 0 ≤ℤ option_map_or (λ (b : Budget). rights b i)
      (budget_under v q t held) (pos 0) → pos 0 ≤ℤ option_map_or (λ (b : Budget). rights b i)
      (budget_under granted_then q t held) (pos 0)
  granted_held None p = p
  granted_held (Some key) p = by_count (count_of key t) p
    where
      by_count : (found : Option ℕ) → pos 0 ≤ℤ option_map_or (λ (b : Budget). rights b i)
          (option_map (λ n. budget v q t key.node n) found) (pos 0) →
          pos 0 ≤ℤ option_map_or (λ (b : Budget). rights b i)
          (option_map (λ n. budget granted_then q t key.node n) found) (pos 0)
      by_count None p = p
      by_count (Some n) p = granted_left n key p

  own_grant_at : pos 0 ≤ℤ rights_of granted_then q t i
  unfolding with_shifts
  own_grant_at = granted_held (v.key q) (own q t)

own_grant : (v : State) (name : List ℕ) (k i amount : ℕ) → HasOwn v i →
    HasOwn (with_shifts name k i i (v.shifts name k i i + amount) v) i
own_grant v name k i amount own q t = own_grant_at v name k i amount own q t

-- ---- the asks

-- by this ask node i moves so many rights more of a term to a node, or grants itself so many more where
-- both are one
pub record MovesAs (i : ℕ) (ask : Asked) (name : List ℕ) (term to amount : ℕ) : Type 0 where
  pub adds : (n : Node) → operations_added i n ask [] ≡ shift_under i (state_shown n) name term to amount
      ((state_shown n).key name)
  pub clock : (n : Node) → clock_after n ask ≡ n.marks.clock
  pub known : (n : Node) → known_after n ask ≡ n.marks.known
  pub acked : (n : Node) → acked_after n ask ≡ n.marks.acked

pub shift_moves : (i : ℕ) (name : List ℕ) (term to amount : ℕ) →
    MovesAs i (Shift name term to amount) name term to amount
shift_moves i name term to amount = record { adds = λ n. refl; clock = λ n. refl; known = λ n. refl; acked = λ n. refl }

pub grant_moves : (i : ℕ) (name : List ℕ) (term amount : ℕ) → MovesAs i (Grant name term amount) name term i amount
grant_moves i name term amount = record { adds = λ n. refl; clock = λ n. refl; known = λ n. refl; acked = λ n. refl }

-- it may: the term is counted, there is that node, and none of its own rights becomes negative
pub record MayMove (config : Config) (v : State) (name : List ℕ) (term to amount : ℕ) : Type 0 where
  pub counted : IsSome (budget_of v name term)
  pub there : to < config.nodes
  pub some : 0 < amount
  pub own : HasOwn v config.node → HasOwn (with_shifts name term config.node to
      (v.shifts name term config.node to + amount) v) config.node

pub may_shift : (config : Config) (v : State) (name : List ℕ) (term to amount : ℕ) →
    (to ≢ config.node) × (pos amount ≤ℤ rights_of v name term config.node) → (to < config.nodes) × (0 < amount) →
    MayMove config v name term to amount
may_shift config v name term to amount enough there = record {
  counted = counted_by_rights v name term config.node amount there.1 enough.1;
  there = there.0;
  some = there.1;
  own = λ own. own_shift v name term config.node to amount own enough.0 enough.1;
}

pub may_grant : (config : Config) (v : State) (name : List ℕ) (term amount : ℕ) → IsSome (budget_of v name term) →
    config.node < config.nodes → 0 < amount → MayMove config v name term config.node amount
may_grant config v name term amount counted there some = record {
  counted = counted;
  there = there;
  some = some;
  own = λ own. own_grant v name term config.node amount own;
}

-- ---- the node

shift_leaves_hits : (name : List ℕ) (k i to total : ℕ) (v : State) (q : List ℕ) (j : ℕ) →
    (with_shifts name k i to total v).hits q j ≡ v.hits q j
unfolding with_shifts
shift_leaves_hits name k i to total v q j = refl

shift_leaves_execs : (name : List ℕ) (k i to total : ℕ) (v : State) (q : List ℕ) (t j : ℕ) →
    (with_shifts name k i to total v).execs q t j ≡ v.execs q t j
unfolding with_shifts
shift_leaves_execs name k i to total v q t j = refl

-- the state of a set with one shift more
fold_shifted : (name : List ℕ) (key : KeyValue) (ops : List Operation) (k i to amount : ℕ) →
    key_of name ops ≡ Some key → with_name name (names_of ops) ≡ names_of ops →
    fold (Count (Shifts name key k i to) ((fold ops).shifts name k i to + amount) ∷ ops) ≡ with_shifts name k i to
    ((fold ops).shifts name k i to + amount) (fold ops)
unfolding fold
fold_shifted name key ops k i to amount here names =
    let at : (fold ops).shifts name k i to ≡ number_at (Shifts name key k i to) ops =
    ap (λ (o : Option KeyValue). at_key o (λ a. number_at (Shifts name a k i to) ops)) here in
    fold_shifts name key ops here k i to ((fold ops).shifts name k i to + amount) (omega (arith, at)) names

shown_key : (ops : List Operation) (name : List ℕ) (key : KeyValue) → (fold ops).key name ≡ Some key →
    key_of name ops ≡ Some key
unfolding fold
shown_key ops name key h = h

shown_names : (ops : List Operation) (name : List ℕ) → IsHeld (fold ops) name →
    with_name name (names_of ops) ≡ names_of ops
unfolding fold
shown_names ops name h = h

module _ (config : Config) {clock : ℕ} {state next : State} {len : ℕ} (n : Node) (ask : Asked) {name : List ℕ}
    {term to amount : ℕ} {key : KeyValue} (moves : MovesAs config.node ask name term to amount) where
  -- after rights were moved or granted
  pub holds_moved : Holds config clock state len n → len < config.trace_cap → state.key name ≡ Some key →
      IsHeld state name → MayMove config state name term to amount →
      next ≡ with_shifts name term config.node to (state.shifts name term config.node to + amount) state →
      Holds config clock next (len + 1) (after config.node n ask [])
  unfolding after
  holds_moved h room set names may e =
      let same : fold n.ops ≡ state = h.state_is in
      let here : (fold n.ops).key name ≡ Some key = ap (λ (v : State). v.key name) same ∙ set in
      let op : Operation = Count (Shifts name key term config.node to)
      ((fold n.ops).shifts name term config.node to + amount) in
      let adds : operations_added config.node n ask [] ≡ op ∷ [] = moves.adds n ∙
      ap (shift_under config.node (fold n.ops) name term to amount) here in
      let low : key.clock ≤ clock_of n.ops = held_clock name n.ops key (shown_key n.ops name key here) in
      let was : clock_of n.ops ≤ clock = h.carried in
      let carried : clock_of (operations_added config.node n ask [] ++ n.ops) ≤ clock =
      subst (λ os. clock_of (os ++ n.ops) ≤ clock) (sym adds) (omega (arith, low, was)) in
      record {
        own = h.own;
        few = h.few;
        small = h.small;
        capped = omega arith;
        clock_is = moves.clock n ∙ h.clock_is;
        state_is = ap (λ os. fold (os ++ n.ops)) adds ∙ fold_shifted name key n.ops term config.node to amount
            (shown_key n.ops name key here) (shown_names n.ops name
            (subst (λ (v : State). IsHeld v name) (sym same) names))
            ∙ ap (λ (v : State). with_shifts name term config.node to (v.shifts name term config.node to + amount) v)
            same ∙ sym e;
        carried = carried;
        hits_few = λ q. let x = ap (λ (v : State). v.hits q config.node) e in
            let y = shift_leaves_hits name term config.node to (state.shifts name term config.node to + amount) state q
            config.node in let z = h.hits_few q in omega (arith, x, y, z);
        execs_few = λ q t. let x = ap (λ (v : State). v.execs q t config.node) e in
            let y = shift_leaves_execs name term config.node to (state.shifts name term config.node to + amount) state q
            t config.node in let z = h.execs_few q t in omega (arith, x, y, z);
        own_rights = subst (λ (v : State). HasOwn v config.node) (sym e) (may.own h.own_rights);
      }
