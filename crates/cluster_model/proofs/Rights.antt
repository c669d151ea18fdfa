-- A node's own rights are never negative in its own set, and what it holds is what it was given less what went.
use Rattle.std.proofs.Common.{◌≡◌, ℕ, ◌+◌, ◌-◌, ◌≤◌, ◌==◌, ◌&&◌, Bool, true, false, cond, List, [], ◌∷◌, ◌⊎◌, refl, sym, ◌∙◌, ap, subst, arith, ⊎_elim, Option, Some, None}
use Rattle.std.proofs.lemmas.Bool.{true≢false, eqb-true, and_parts, and_from, leb-true}
use Rattle.std.proofs.lemmas.Int.{ints}
use Rattle.std.specs.Prelude.{pos, ◌-ℤ◌}
use Rattle.std.specs.Str.{bytes_eq}
use Rattle.counters.specs.Sums.{node_numbers, sum_others}
use Rattle.counters.specs.Budgets.{Budget, granted_by, given_to, gone_from}
use Rattle.counters.proofs.SumLemmas.{sum_others-le, sum_others-add, sum_others-same, sum_others-at_most, sum_others-zero}
use Rattle.stamp_register.specs.Keys.{KeyValue, stamp_of, same_key}
use Rattle.operations.specs.Operations.{Execs, Shifts, Operation, Count, IsIn, count_of}
use Rattle.replica_state.specs.States.{State, budget}
use Rattle.replica_state.specs.Folds.{fold, key_in, key_of, number_at, at_key}
use Rattle.replica_state.proofs.Orders.{bytes_eq-true, same_key-refl, same_key-true}
use Rattle.replica_state.proofs.Sets.{number_at-mono, KeyUpto, KeyUpto-antisym, KeyUpto-same, key_of-is_in, key_of-least, key_of-mono}
use Rattle.operations.proofs.Members.{IsIn-append_cases}
use Rattle.node_calls.specs.Asks.{Asked}
use Rattle.node_calls.specs.Told.{Passed}
use Rattle.node_calls.specs.Asks as asks
use Rattle.node_steps.specs.Nodes.{Node, state_shown}
use Rattle.node_steps.specs.Passes.{has_rights_of}
use Rattle.node_core.specs.Steps.{after}
use Rattle.cluster_model.specs.Worlds.{Cluster, World, Event, accepted, node_after, world}
use Rattle.cluster_model.specs.Schedules.{IsSchedule}
use Rattle.cluster_model.specs.Histories.{state_of, ops_issued, keys_by, is_act_of, executions, is_key, is_under, amount_moved, moved, amount_granted, granted, state_under, rights_under, held, shifts_under, seen}
use Rattle.cluster_model.proofs.Steps.{keeps, known, IsAgreed, agreed}
use Rattle.cluster_model.proofs.Passes.{Outcome, NotSet, Nothing, Triggered, IsOutcome, passed_as, outcome_of, shifted_is}
use Rattle.cluster_model.proofs.Moved.{sum_others-but}
use Rattle.cluster_model.proofs.Stamps.{own_carries, OneStamp, one_before}
use Rattle.cluster_model.proofs.OwnCells.{and_false, no_more, not_same, acted, shift_step, exec_step, executed_more, OneHere, same_call, delivered_own, own_shifts, own_grants, one_here, own_execs}

-- the cells of the key in a set, whether or not the set is under it
abbrev pub cells : List ℕ → KeyValue → ℕ → ℕ → List Operation → Budget
cells name key term count ops =
    record {
      setter = key.node;
      count = count;
      shifted = λ from to. number_at (Shifts name key term from to) ops;
      spent = λ node. number_at (Execs name key term node) ops;
    }

pub under_cells : (name : List ℕ) (key : KeyValue) (term count : ℕ) (ops : List Operation) →
    (fold ops).key name ≡ Some key → budget (fold ops) name term key.node count ≡ cells name key term count ops
unfolding fold
under_cells name key term count ops e = λ i.
    record {
      setter = key.node;
      count = count;
      shifted = λ from to. at_key (e i) (λ key. number_at (Shifts name key term from to) ops);
      spent = λ node. at_key (e i) (λ key. number_at (Execs name key term node) ops);
    }

rights_mean : (i : ℕ) (ops : List Operation) (name : List ℕ) (key : KeyValue) (term count amount : ℕ) →
    (fold ops).key name ≡ Some key → has_rights_of i (fold ops) name key term amount (Some count) ≡ true →
    gone_from (cells name key term count ops) i + amount ≤ given_to (cells name key term count ops) i
rights_mean i ops name key term count amount e h =
    subst (λ (b : Budget). gone_from b i + amount ≤ given_to b i) (under_cells name key term count ops e)
    (leb-true _ _ h)

-- ---- what a step takes was there

abbrev taken_by : ℕ → Node → Option Asked → List ℕ → List ℕ → KeyValue → ℕ → ℕ
taken_by i n a words name key term = sum_others node_numbers i (amount_moved n a name key term) + acted (stamp_of key)
    term i n a words

nothing_taken : (i : ℕ) (b : Budget) (f : ℕ → ℕ) (t : ℕ) → ((j : ℕ) → f j ≡ 0) → t ≡ 0 → gone_from b i ≤ given_to b i →
    gone_from b i + (sum_others node_numbers i f + t) ≤ given_to b i
nothing_taken i b f t h e l =
    let none = sum_others-zero node_numbers i f h in
    omega (arith, none, e, l)

pass_taken : (i : ℕ) (ops : List Operation) (name other : List ℕ) (key : KeyValue) (term count : ℕ) →
    count_of key term ≡ Some count → OneHere (fold ops) name key →
    gone_from (cells name key term count ops) i ≤ given_to (cells name key term count ops) i →
    (o : Outcome) → IsOutcome i (fold ops) other o → gone_from (cells name key term count ops) i +
    (sum_others node_numbers i (λ j. 0) + cond (is_act_of (stamp_of key) term (passed_as o)) 1 0) ≤ given_to
    (cells name key term count ops) i
pass_taken i ops name other key term count counted one l NotSet is =
    nothing_taken i (cells name key term count ops) (λ j. 0) 0 (λ j. refl) refl l
pass_taken i ops name other key term count counted one l (Nothing k) is =
    nothing_taken i (cells name key term count ops) (λ j. 0) 0 (λ j. refl) refl l
pass_taken i ops name other key term count counted one l (Triggered k t c task) is =
    at (k.clock == key.clock && (k.node == key.node && (t == term))) refl
  where
    at : (b : Bool) → (k.clock == key.clock && (k.node == key.node && (t == term))) ≡ b →
        gone_from (cells name key term count ops) i + (sum_others node_numbers i (λ j. 0) + cond b 1 0) ≤ given_to
        (cells name key term count ops) i
    at false f = nothing_taken i (cells name key term count ops) (λ j. 0) 0 (λ j. refl) refl l
    at true f =
        let same = same_call i (fold ops) other name k key t term c one is f in
        let under : (fold ops).key name ≡ Some key = subst (λ m. (fold ops).key m ≡ Some key) same.names
        (is.under ∙ ap Some same.keys) in
        let counts : c ≡ Some count = sym is.counted ∙ ap (λ (l : KeyValue). count_of l t) same.keys ∙
        ap (λ u. count_of key u) same.terms ∙ counted in
        let may : has_rights_of i (fold ops) other k t 1 (Some count) ≡ true = is.may count counts in
        let may_here : has_rights_of i (fold ops) other k t 1 (Some count) ≡ has_rights_of i (fold ops) name key term 1
        (Some count) = λ r. has_rights_of i (fold ops) (same.names r) (same.keys r) (same.terms r) 1 (Some count) in
        let enough = rights_mean i ops name key term count 1 under (sym may_here ∙ may) in
        let none = sum_others-zero node_numbers i (λ j. 0) (λ j. refl) in
        omega (arith, enough, none)

shift_taken : (i : ℕ) (ops : List Operation) (name other : List ℕ) (key : KeyValue) (term count t to amount : ℕ) →
    count_of key term ≡ Some count → gone_from (cells name key term count ops) i ≤ given_to
    (cells name key term count ops) i →
    ((k : KeyValue) → (fold ops).key other ≡ Some k → has_rights_of i (fold ops) other k t amount (count_of k t) ≡
    true) → (k : Option KeyValue) → (fold ops).key other ≡ k →
    gone_from (cells name key term count ops) i + sum_others node_numbers i
    (λ j. cond (bytes_eq other name && (t == term && (to == j && is_key key k))) amount 0) ≤ given_to
    (cells name key term count ops) i
shift_taken i ops name other key term count t to amount counted l may None e =
    let none = sum_others-zero node_numbers i (λ j. cond (bytes_eq other name && (t == term && (to == j && false)))
    amount 0) (λ j. zero_at (bytes_eq other name && (t == term && (to == j && false)))
    (and_false (bytes_eq other name) (t == term) (to == j))) in
    omega (arith, none, l)
  where
    zero_at : (b : Bool) → b ≡ false → cond b amount 0 ≡ 0
    zero_at true h = absurd (true≢false h)
    zero_at false h = refl
shift_taken i ops name other key term count t to amount counted l may (Some k) e =
    at (bytes_eq other name && (t == term && same_key k key)) refl
  where
    amounts : ℕ → ℕ
    amounts j = cond (bytes_eq other name && (t == term && (to == j && same_key k key))) amount 0

    zero_at : (b : Bool) → (b ≡ true → ⊥) → cond b amount 0 ≡ 0
    zero_at true h = absurd (h refl)
    zero_at false h = refl

    at_most : (b : Bool) → cond b amount 0 ≤ amount
    at_most true = omega arith
    at_most false = omega arith

    at : (b : Bool) → (bytes_eq other name && (t == term && same_key k key)) ≡ b →
        gone_from (cells name key term count ops) i + sum_others node_numbers i amounts ≤ given_to
        (cells name key term count ops) i
    at false f =
        let none = sum_others-zero node_numbers i amounts (λ j. zero_at _ (λ h.
        let p = and_parts (bytes_eq other name) _ h in
        let q = and_parts (t == term) _ p.1 in
        let r = and_parts (to == j) _ q.1 in
        true≢false (sym (and_from _ _ p.0 (and_from _ _ q.0 r.1)) ∙ f))) in
        omega (arith, none, l)
    at true f =
        let p = and_parts (bytes_eq other name) _ f in
        let q = and_parts (t == term) _ p.1 in
        let names : other ≡ name = bytes_eq-true other name p.0 in
        let terms : t ≡ term = eqb-true t term q.0 in
        let keys : k ≡ key = same_key-true k key q.1 in
        let under : (fold ops).key name ≡ Some key = subst (λ m. (fold ops).key m ≡ Some key) names
        (e ∙ ap Some keys) in
        let counts : count_of k t ≡ Some count = ap (λ (l : KeyValue). count_of l t) keys ∙
        ap (λ u. count_of key u) terms ∙ counted in
        let may_here : has_rights_of i (fold ops) other k t amount (count_of k t) ≡ has_rights_of i (fold ops) name key
        term amount (Some count) = λ r. has_rights_of i (fold ops) (names r) (keys r) (terms r) amount (counts r) in
        let enough = rights_mean i ops name key term count amount under (sym may_here ∙ may k e) in
        let some = sum_others-at_most node_numbers i amounts to amount (λ j ne. zero_at _ (λ h.
        let p = and_parts (bytes_eq other name) _ h in
        let q = and_parts (t == term) _ p.1 in
        let r = and_parts (to == j) _ q.1 in
        ne (sym (eqb-true to j r.0)))) (at_most _) in
        omega (arith, enough, some)

step_taken : (c : Cluster) (w : World) (e : Event) (i : ℕ) (a : Option Asked) → IsAgreed c w e i a →
    (name : List ℕ) (key : KeyValue) (term count : ℕ) → count_of key term ≡ Some count →
    OneHere (state_shown (w.node i)) name key →
    gone_from (cells name key term count (w.node i).ops) i ≤ given_to (cells name key term count (w.node i).ops) i →
    gone_from (cells name key term count (w.node i).ops) i + taken_by i (w.node i) a e.words name key term ≤ given_to
    (cells name key term count (w.node i).ops) i
step_taken c w e i None g name key term count counted one l =
    nothing_taken i (cells name key term count (w.node i).ops) (λ j. 0) 0 (λ j. refl) refl l
step_taken c w e i (Some (asks.Pass other)) g name key term count counted one l =
    let o = outcome_of i (state_shown (w.node i)) other e.words in
    subst (λ (p : Passed). gone_from (cells name key term count (w.node i).ops) i +
    (sum_others node_numbers i (λ j. 0) + cond (is_act_of (stamp_of key) term p) 1 0) ≤ given_to
    (cells name key term count (w.node i).ops) i) (sym o.reply)
    (pass_taken i (w.node i).ops name other key term count counted one l o.outcome o.is)
step_taken c w e i (Some (asks.Shift other t to amount)) g name key term count counted one l =
    let enough = shift_taken i (w.node i).ops name other key term count t to amount counted l
    (shifted_is _ _ (w.node i) other t to amount e.words g).may ((state_shown (w.node i)).key other) refl in
    omega (arith, enough)
step_taken c w e i (Some ask) g name key term count counted one l =
    nothing_taken i (cells name key term count (w.node i).ops) (λ j. 0) 0 (λ j. refl) refl l

-- ---- own rights are never negative

pub solvent : (c : Cluster) (es : List Event) → IsSchedule c es → (name : List ℕ) (key : KeyValue) (term count : ℕ) →
    count_of key term ≡ Some count → OneStamp c es name key → (i : ℕ) →
    gone_from (cells name key term count ((world c es).node i).ops) i ≤ given_to
    (cells name key term count ((world c es).node i).ops) i
solvent c [] s name key term count counted one i =
    let none = sum_others-zero node_numbers i (λ j. 0) (λ j. refl) in
    omega (arith, none)
solvent c (e ∷ es) s name key term count counted one i =
    let n = (world c es).node i in
    let a = accepted c (world c es) e i in
    let one_then = one_before c e es name key one in
    let here = one_here c es name key i s.1 one_then in
    let before = solvent c es s.1 name key term count counted one_then i in
    let enough = step_taken c (world c es) e i a (agreed c (world c es) e i) name key term count counted here before in
    let spent = exec_step i n a e.words name key term count counted here
    (delivered_own c (world c es) e i (Execs name key term i) (known c es s.1) s.0 refl) in
    let out = sum_others-but node_numbers i
    (λ j. number_at (Shifts name key term i j) (node_after i n a e.words).ops)
    (λ j. amount_moved n a name key term j + number_at (Shifts name key term i j) n.ops)
    (λ j ne. shift_step i n a e.words name key term j ne (delivered_own c (world c es) e i (Shifts name key term i j)
    (known c es s.1) s.0 refl)) in
    let split = sum_others-add node_numbers i (amount_moved n a name key term)
    (λ j. number_at (Shifts name key term i j) n.ops) in
    let more = sum_others-le node_numbers i (λ j. number_at (Shifts name key term j i) n.ops)
    (λ j. number_at (Shifts name key term j i) (node_after i n a e.words).ops)
    (λ j. number_at-mono (Shifts name key term j i) n.ops (node_after i n a e.words).ops
    (λ m. keeps i n a e.words (Count (Shifts name key term j i) m))) in
    let grants = number_at-mono (Shifts name key term i i) n.ops (node_after i n a e.words).ops
    (λ m. keeps i n a e.words (Count (Shifts name key term i i) m)) in
    omega (arith, enough, spent, out, split, more, grants)

-- ---- a step that is not under the key takes nothing of it, and adds nothing

pub is_key-of : (key : KeyValue) (o : Option KeyValue) → is_key key o ≡ true → o ≡ Some key
is_key-of key None h = absurd (true≢false (sym h))
is_key-of key (Some k) h = ap Some (same_key-true k key h)

pub is_key-some : (key : KeyValue) (o : Option KeyValue) → o ≡ Some key → is_key key o ≡ true
is_key-some key o e = ap (is_key key) e ∙ same_key-refl key

-- where no key is issued or delivered, each key is as it was
kept_key : (i : ℕ) (n : Node) (a : Option Asked) (words name : List ℕ) →
    ((op : Operation) → IsIn op (keys_by i n a) → ⊥) → ((op : Operation) → IsIn op (node_after i n a words).ops →
    IsIn op (ops_issued i n a words) ⊎ IsIn op n.ops) →
    (state_shown (node_after i n a words)).key name ≡ (state_shown n).key name
unfolding fold
kept_key i n a words name no_keys from = KeyUpto-antisym _ _
    (key_of-least name (key_of name n.ops) (node_after i n a words).ops (λ op h. ⊎_elim
    (λ k. new op k (key_in name op) refl)
    (λ k. key_of-is_in name op n.ops k)
    (from op h)))
    (key_of-mono name n.ops (node_after i n a words).ops (keeps i n a words))
  where
    new : (op : Operation) → IsIn op (ops_issued i n a words) → (o : Option KeyValue) → key_in name op ≡ o →
        KeyUpto o (key_of name n.ops)
    new op k None e = tt
    new op k (Some key) e = KeyUpto-same _ _ (sym (⊎_elim (λ m. absurd (no_keys _ m)) (λ m. m)
        (own_carries i n a words name key op k e)))

pub record TakesNothing (i : ℕ) (n : Node) (a : Option Asked) (words name : List ℕ) (key : KeyValue) (term : ℕ) :
    Type 0 where
  pub moves : (j : ℕ) → amount_moved n a name key term j ≡ 0
  pub grants : amount_granted n a name key term ≡ 0
  pub spends : acted (stamp_of key) term i n a words ≡ 0

pass_spends : (i : ℕ) (v : State) (name other : List ℕ) (key : KeyValue) (term : ℕ) → OneHere v name key →
    (v.key name ≡ Some key → ⊥) → (o : Outcome) → IsOutcome i v other o →
    ◌≡◌ {A = ℕ} (cond (is_act_of (stamp_of key) term (passed_as o)) 1 0) 0
pass_spends i v name other key term one not NotSet is = refl
pass_spends i v name other key term one not (Nothing k) is = refl
pass_spends i v name other key term one not (Triggered k t c task) is =
    at (k.clock == key.clock && (k.node == key.node && (t == term))) refl
  where
    at : (b : Bool) → (k.clock == key.clock && (k.node == key.node && (t == term))) ≡ b → ◌≡◌ {A = ℕ} (cond b 1 0) 0
    at false f = refl
    at true f =
        let same = same_call i v other name k key t term c one is f in
        absurd (not (subst (λ m. v.key m ≡ Some key) same.names (is.under ∙ ap Some same.keys)))

shift_moves : (v : State) (name other : List ℕ) (key : KeyValue) (term t to amount j : ℕ) →
    (v.key name ≡ Some key → ⊥) → (k : Option KeyValue) → v.key other ≡ k →
    ◌≡◌ {A = ℕ} (cond (bytes_eq other name && (t == term && (to == j && is_key key k))) amount 0) 0
shift_moves v name other key term t to amount j not k e = at
    (bytes_eq other name && (t == term && (to == j && is_key key k))) refl
  where
    at : (b : Bool) → (bytes_eq other name && (t == term && (to == j && is_key key k))) ≡ b →
        ◌≡◌ {A = ℕ} (cond b amount 0) 0
    at false f = refl
    at true f =
        let p = and_parts (bytes_eq other name) _ f in
        let q = and_parts (t == term) _ p.1 in
        let r = and_parts (to == j) _ q.1 in
        absurd (not (subst (λ m. v.key m ≡ Some key) (bytes_eq-true other name p.0) (e ∙ is_key-of key k r.1)))

nothing_granted : (v : State) (name other : List ℕ) (key : KeyValue) (term t amount : ℕ) → (v.key name ≡ Some key → ⊥) →
    (k : Option KeyValue) → v.key other ≡ k →
    ◌≡◌ {A = ℕ} (cond (bytes_eq other name && (t == term && is_key key k)) amount 0) 0
nothing_granted v name other key term t amount not k e = at (bytes_eq other name && (t == term && is_key key k)) refl
  where
    at : (b : Bool) → (bytes_eq other name && (t == term && is_key key k)) ≡ b → ◌≡◌ {A = ℕ} (cond b amount 0) 0
    at false f = refl
    at true f =
        let p = and_parts (bytes_eq other name) _ f in
        let q = and_parts (t == term) _ p.1 in
        absurd (not (subst (λ m. v.key m ≡ Some key) (bytes_eq-true other name p.0) (e ∙ is_key-of key k q.1)))

takes_nothing : (i : ℕ) (n : Node) (a : Option Asked) (words name : List ℕ) (key : KeyValue) (term : ℕ) →
    OneHere (state_shown n) name key → ((state_shown (node_after i n a words)).key name ≡ Some key → ⊥) →
    TakesNothing i n a words name key term
unfolding after
takes_nothing i n None words name key term one not = record { moves = λ j. refl; grants = refl; spends = refl }
takes_nothing i n (Some (asks.Pass other)) words name key term one not =
    let kept = kept_key i n (Some (asks.Pass other)) words name (λ op h. h) (λ op h. IsIn-append_cases op _ _ h) in
    let o = outcome_of i (state_shown n) other words in
    record {
      moves = λ j. refl;
      grants = refl;
      spends = ap (λ (p : Passed). cond (is_act_of (stamp_of key) term p) 1 0) o.reply ∙
          pass_spends i (state_shown n) name other key term one (λ u. not (kept ∙ u)) o.outcome o.is;
    }
takes_nothing i n (Some (asks.Shift other t to amount)) words name key term one not =
    let kept = kept_key i n (Some (asks.Shift other t to amount)) words name (λ op h. h)
    (λ op h. IsIn-append_cases op _ _ h) in
    record {
      moves = λ j. shift_moves (state_shown n) name other key term t to amount j (λ u. not (kept ∙ u))
          ((state_shown n).key other) refl;
      grants = refl;
      spends = refl;
    }
takes_nothing i n (Some (asks.Grant other t amount)) words name key term one not =
    let kept = kept_key i n (Some (asks.Grant other t amount)) words name (λ op h. h)
    (λ op h. IsIn-append_cases op _ _ h) in
    record {
      moves = λ j. refl;
      grants = nothing_granted (state_shown n) name other key term t amount (λ u. not (kept ∙ u))
          ((state_shown n).key other) refl;
      spends = refl;
    }
takes_nothing i n (Some ask) words name key term one not = record { moves = λ j. refl; grants = refl; spends = refl }

-- ---- what is held, node by node

pub record Balance (c : Cluster) (es : List Event) (name : List ℕ) (key : KeyValue) (term count i : ℕ) : Type 0 where
  pub rights : ℕ
  pub is : held c es name key term count i ≡ pos rights
  pub adds_up : rights + (sum_others node_numbers i (λ j. moved c es name key term i j) + executions c es (stamp_of key)
      term i)
      ≡ cond (i == key.node) count 0 + granted c es name key term i + sum_others node_numbers i
      (λ j. seen c es name key term j i)

pub int_less : (a b : ℕ) → b ≤ a → pos a -ℤ pos b ≡ pos (a - b)
int_less a b h = omega (arith, ints)

back : (a b : ℕ) → b ≤ a → a - b + b ≡ a
back a b h = omega arith

plain : (a : ℕ) → 0 + a ≡ a
plain a = omega arith

pub balance : (c : Cluster) (es : List Event) → IsSchedule c es → (name : List ℕ) (key : KeyValue) (term count : ℕ) →
    count_of key term ≡ Some count → OneStamp c es name key → (i : ℕ) → Balance c es name key term count i
balance c [] s name key term count counted one i =
    let none = sum_others-zero node_numbers i (λ j. 0) (λ j. refl) in
    let none_seen = sum_others-zero node_numbers i (λ j. cond (j == i) 0 0) (λ j. sym (plain _) ∙ no_more 0 (j == i)) in
    record { rights = cond (i == key.node) count 0; is = refl; adds_up = omega (arith, none, none_seen) }
balance c (e ∷ es) s name key term count counted one i = at (is_under c (e ∷ es) name key i) refl
    (balance c es s.1 name key term count counted (one_before c e es name key one) i)
  where
    ops : List Operation
    ops = ((world c (e ∷ es)).node i).ops

    v : State
    v = state_of c (e ∷ es) i

    last_state : Bool → Option State
    last_state t = cond t (Some v) (state_under c es name key i)

    at : (t : Bool) → is_under c (e ∷ es) name key i ≡ t → Balance c es name key term count i →
        Balance c (e ∷ es) name key term count i
    at true u before =
        let b : Budget = budget v name term key.node count in
        let under = under_cells name key term count ops (is_key-of key (v.key name) u) in
        let solv : gone_from b i ≤ given_to b i = subst (λ (d : Budget). gone_from d i ≤ given_to d i) (sym under)
        (solvent c (e ∷ es) s name key term count counted one i) in
        let gone_is : gone_from b i ≡ gone_from (cells name key term count ops) i =
        ap (λ (d : Budget). gone_from d i) under in
        let out : sum_others node_numbers i (λ j. number_at (Shifts name key term i j) ops) ≡ sum_others node_numbers i
        (λ j. moved c (e ∷ es) name key term i j) =
        sum_others-but node_numbers i _ _ (λ j ne. own_shifts c (e ∷ es) s name key term i j ne) in
        let grants : v.shifts name term i i ≡ granted c (e ∷ es) name key term i =
        ap (λ (d : Budget). granted_by d i) under ∙ own_grants c (e ∷ es) s name key term i in
        let spent : number_at (Execs name key term i) ops ≡ executions c (e ∷ es) (stamp_of key) term i =
        own_execs c (e ∷ es) s name key term count counted one i in
        let came : sum_others node_numbers i (λ j. seen c (e ∷ es) name key term j i) ≡ sum_others node_numbers i
        (λ j. v.shifts name term j i) =
        sum_others-but node_numbers i _ _ (λ j ne r. cond (not_same j i (λ e. ne (sym e)) r) 0
        (shifts_under (last_state (u r)) name term j i)) in
        let gone_now : gone_from b i ≡ sum_others node_numbers i (λ j. moved c (e ∷ es) name key term i j) + executions
        c (e ∷ es) (stamp_of key) term i = gone_is ∙ (λ r. out r + spent r) in
        let given_now : given_to b i ≡ cond (i == key.node) count 0 + granted c (e ∷ es) name key term i + sum_others
        node_numbers i (λ j. seen c (e ∷ es) name key term j i) =
        (λ r. cond (i == key.node) count 0 + grants r + sym came r) in
        record {
          rights = given_to b i - gone_from b i;
          is = ap (λ t. rights_under (last_state t) name key term count i) u ∙ int_less _ _ solv;
          adds_up = ap (λ x. given_to b i - gone_from b i + x) (sym gone_now) ∙ back _ _ solv ∙ given_now;
        }
    at false u before =
        let one_then = one_before c e es name key one in
        let none = takes_nothing i ((world c es).node i) (accepted c (world c es) e i) e.words name key term
        (one_here c es name key i s.1 one_then)
        (λ under. true≢false (sym (is_key-some key (v.key name) under) ∙ u)) in
        let more = executed_more (stamp_of key) term i ((world c es).node i) ((world c es).trace i)
        (accepted c (world c es) e i) e.words in
        let out : sum_others node_numbers i (λ j. moved c (e ∷ es) name key term i j) ≡ sum_others node_numbers i
        (λ j. moved c es name key term i j) =
        sum_others-same node_numbers i _ _ (λ j. ap (λ x. x + moved c es name key term i j) (none.moves j) ∙ plain _) in
        let spent : executions c (e ∷ es) (stamp_of key) term i ≡ executions c es (stamp_of key) term i = more ∙
        ap (λ x. x + executions c es (stamp_of key) term i) none.spends ∙ plain _ in
        let grants : granted c (e ∷ es) name key term i ≡ granted c es name key term i =
        ap (λ x. x + granted c es name key term i) none.grants ∙ plain _ in
        let came : sum_others node_numbers i (λ j. seen c (e ∷ es) name key term j i) ≡ sum_others node_numbers i
        (λ j. seen c es name key term j i) =
        sum_others-same node_numbers i _ _ (λ j. ap (λ t. cond (j == i) 0 (shifts_under (last_state t) name term j i))
        u) in
        record {
          rights = before.rights;
          is = ap (λ t. rights_under (last_state t) name key term count i) u ∙ before.is;
          adds_up = (λ r. before.rights + (out r + spent r)) ∙ before.adds_up ∙
              (λ r. cond (i == key.node) count 0 + sym grants r + sym came r);
        }
