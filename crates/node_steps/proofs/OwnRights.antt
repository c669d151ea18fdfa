-- A node's own rights are never negative.
use Rattle.std.proofs.Common.{◌≡◌, ℕ, ◌+◌, ◌&&◌, ◌==◌, Bool, true, false, cond, List, [], Option, Some, None, refl, subst, arith}
use Rattle.std.proofs.lemmas.Bool.{and_parts, eqb-true}
use Rattle.std.proofs.lemmas.Int.{ints}
use Rattle.std.proofs.lemmas.Slice.Eq.{bytes_eq-Decides}
use Rattle.std.specs.Str.{bytes_eq}
use Rattle.std.specs.Prelude.{ℤ, pos, ◌≤ℤ◌, ◌-ℤ◌, option_map}
use Rattle.std.specs.Option.{option_map_or}
use Rattle.counters.specs.Sums.{node_numbers, sum_others}
use Rattle.counters.specs.Budgets.{Budget, rights, given_to, gone_from}
use Rattle.counters.proofs.SumLemmas.{sum_others-zero}
use Rattle.stamp_register.specs.Keys.{KeyValue}
use Rattle.operations.specs.Operations.{count_of}
use Rattle.replica_state.specs.States.{State, with_key, with_hits, with_execs, budget, budget_under, rights_of}
use Rattle.replica_state.specs.Folds.{fold}
use Rattle.node_steps.specs.Outcomes.{state_done}

-- node i has at least its own rights
abbrev pub HasOwn : State → ℕ → Type 0
HasOwn v i = (name : List ℕ) (term : ℕ) → pos 0 ≤ℤ rights_of v name term i

pub own_start : (i : ℕ) → HasOwn (fold []) i
unfolding fold
own_start i name term = omega (arith, ints)

-- of a key that was just set nothing has gone
module _ (v : State) (name : List ℕ) (key : KeyValue) (i : ℕ) (own : HasOwn v i) (q : List ℕ) (t : ℕ) where
  held_then : Bool → Option KeyValue
  held_then b = cond b (Some key) (v.key q)

  abbrev budget_then : Bool → ℕ → ℕ → Budget
  budget_then b setter count = record {
    setter = setter;
    count = count;
    shifted =
        λ from to. cond b 0 (v.shifts q t from to);
    spent = λ node. cond b 0 (v.execs q t node);
  }

  abbrev under_then : Bool → Option KeyValue → Option Budget
  under_then b None = None
  under_then b (Some other) = option_map (λ count. budget_then b other.node count) (count_of other t)

  fresh : (count : ℕ) → pos 0 ≤ℤ rights (budget_then true key.node count) i
  fresh count =
      let none : gone_from (budget_then true key.node count) i ≡ 0 =
      (let went : sum_others node_numbers i (λ j. 0) ≡ 0 = sum_others-zero node_numbers i (λ j. 0) (λ j. refl) in
      omega (arith, went)) in
      omega (arith, ints, none)

  by_count : (found : Option ℕ) → pos 0 ≤ℤ option_map_or (λ (b : Budget). rights b i)
      (option_map (λ count. budget_then true key.node count) found) (pos 0)
  by_count None = omega (arith, ints)
  by_count (Some count) = fresh count

  by_test : (b : Bool) → pos 0 ≤ℤ option_map_or (λ (x : Budget). rights x i)
      (under_then b (cond b (Some key) (v.key q))) (pos 0)
  by_test true = by_count (count_of key t)
  by_test false = own q t

  own_key_at : pos 0 ≤ℤ rights_of (with_key name key v) q t i
  unfolding with_key
  own_key_at = by_test (bytes_eq name q)

pub own_key : (v : State) (name : List ℕ) (key : KeyValue) (i : ℕ) → HasOwn v i → HasOwn (with_key name key v) i
own_key v name key i own q t = own_key_at v name key i own q t

-- an execution takes one right of those that are there
module _ (v : State) (name : List ℕ) (k i : ℕ) (own : HasOwn v i) (one : pos 1 ≤ℤ rights_of v name k i) (q : List ℕ)
    (t : ℕ) where
  abbrev then : State
  then = with_execs name k i (v.execs name k i + 1) v

  abbrev old : Option KeyValue → ℤ
  old held = option_map_or (λ (b : Budget). rights b i) (budget_under v q t held) (pos 0)

  at_test : (n : ℕ) (key : KeyValue) (b : Bool) → (b ≡ true → v.execs name k i ≡ v.execs q t i) →
      pos 0 ≤ℤ rights (budget v q t key.node n) i → (b ≡ true → pos 1 ≤ℤ rights (budget v q t key.node n) i) →
      pos 0 ≤ℤ (pos (given_to (budget v q t key.node n) i) -ℤ pos
      (sum_others node_numbers i (λ j. v.shifts q t i j) + cond b (v.execs name k i + 1) (v.execs q t i)))
  at_test n key true same p r = let cells = same refl in let more = r refl in omega (arith, ints, cells, more)
  at_test n key false same p r = p

  same_cell : (bytes_eq name q && (k == t && i == i)) ≡ true → (name ≡ q) × (k ≡ t)
  same_cell h =
      let p = and_parts (bytes_eq name q) _ h in
      let r = and_parts (k == t) _ p.1 in
      ((bytes_eq-Decides name q).0 p.0, eqb-true k t r.0)

  cells : (bytes_eq name q && (k == t && i == i)) ≡ true → v.execs name k i ≡ v.execs q t i
  cells h = let both = same_cell h in λ p. v.execs (both.0 p) (both.1 p) i

  more : (bytes_eq name q && (k == t && i == i)) ≡ true → pos 1 ≤ℤ old (v.key q)
  more h = let both = same_cell h in subst (λ (r : List ℕ). pos 1 ≤ℤ rights_of v r t i) both.0
      (subst (λ u. pos 1 ≤ℤ rights_of v name u i) both.1 one)

  by_held : (held : Option KeyValue) → pos 0 ≤ℤ old held → ((bytes_eq name q && (k == t && i == i)) ≡ true →
      pos 1 ≤ℤ old held) → pos 0 ≤ℤ option_map_or (λ (b : Budget). rights b i) (budget_under then q t held) (pos 0)
  unfolding with_execs
  by_held None p r = p
  by_held (Some key) p r = by_count (count_of key t) p r
    where
      by_count : (found : Option ℕ) → pos 0 ≤ℤ option_map_or (λ (b : Budget). rights b i)
          (option_map (λ n. budget v q t key.node n) found) (pos 0) →
          ((bytes_eq name q && (k == t && i == i)) ≡ true → pos 1 ≤ℤ option_map_or (λ (b : Budget). rights b i)
          (option_map (λ n. budget v q t key.node n) found) (pos 0)) →
          pos 0 ≤ℤ option_map_or (λ (b : Budget). rights b i) (option_map (λ n. budget then q t key.node n) found)
          (pos 0)
      by_count None p r = p
      by_count (Some n) p r = at_test n key (bytes_eq name q && (k == t && i == i)) cells p r

  own_spend_at : pos 0 ≤ℤ rights_of then q t i
  unfolding with_execs
  own_spend_at = by_held (v.key q) (own q t) more

own_hits : (v : State) (name : List ℕ) (i number : ℕ) → HasOwn v i → HasOwn (with_hits name i number v) i
unfolding with_hits
own_hits v name i number own q t = own q t

hits_leave : (v : State) (name : List ℕ) (i number k : ℕ) → pos 1 ≤ℤ rights_of v name k i →
    pos 1 ≤ℤ rights_of (with_hits name i number v) name k i
unfolding with_hits
hits_leave v name i number k h = h

pub own_done : (v : State) (name : List ℕ) (i : ℕ) (is_set : Bool) (spent : Option ℕ) →
    ((k : ℕ) → spent ≡ Some k → pos 1 ≤ℤ rights_of v name k i) → HasOwn v i →
    HasOwn (state_done i v name is_set spent) i
own_done v name i false spent one own = own
own_done v name i true None one own = own_hits v name i (v.hits name i + 1) own
own_done v name i true (Some k) one own = λ q t. own_spend_at (with_hits name i (v.hits name i + 1) v) name k i
    (own_hits v name i (v.hits name i + 1) own) (hits_leave v name i (v.hits name i + 1) k (one k refl)) q t
