-- The cells that a node writes count what it did.
use Rattle.std.proofs.Common.{◌≡◌, ◌≢◌, ℕ, ◌+◌, ◌≤◌, ◌==◌, ◌&&◌, max, Bool, true, false, cond, List, [], ◌∷◌, refl, sym, ◌∙◌, ap, subst, arith, Option, Some, None}
use Rattle.std.proofs.lemmas.Bool.{true≢false, eq-eqb, eqb-true, and_parts, and_from}
use Rattle.std.proofs.lemmas.List.Sums.{sum_by-cons, sum_by-append}
use Rattle.std.specs.Prelude.{count_by}
use Rattle.std.specs.Str.{bytes_eq}
use Rattle.stamp_register.specs.declared.key.Stamp.{Stamp}
use Rattle.stamp_register.specs.Keys.{KeyValue, stamp_of, same_key}
use Rattle.operations.specs.Operations.{Cell, Execs, Shifts, Operation, Count, IsIn, same_cell, count_of, writer_of}
use Rattle.replica_state.specs.States.{State}
use Rattle.replica_state.specs.Folds.{fold, key_of, number_at, at_key}
use Rattle.replica_state.proofs.Orders.{same_cell-refl, same_cell-true}
use Rattle.replica_state.proofs.Sets.{number_at-mono, number_at-append}
use Rattle.node_calls.specs.Asks.{Asked, Answered, Call}
use Rattle.node_calls.specs.Asks as asks
use Rattle.node_steps.specs.Nodes.{Node, state_shown, setting_of}
use Rattle.node_steps.specs.Passes.{ops_of_pass}
use Rattle.node_core.specs.Steps.{after, reply, shift_under}
use Rattle.node_steps.specs.Settings.{settings, operations_issued}
use Rattle.node_steps.specs.Refusals.{message_in}
use Rattle.cluster_model.specs.Worlds.{Cluster, World, Event, accepted, node_after, trace_after, world}
use Rattle.cluster_model.specs.Schedules.{Allows, IsSchedule}
use Rattle.cluster_model.specs.Histories.{state_of, ops_delivered, is_act_of, acts, executions, is_key, amount_moved, moved, amount_granted, granted}
use Rattle.cluster_model.proofs.Steps.{IsKnown, known, delivered_from}
use Rattle.cluster_model.proofs.Passes.{Outcome, NotSet, Nothing, Triggered, IsOutcome, IsTriggered, ops_of, passed_as, outcome_of}
use Rattle.cluster_model.proofs.Moved.{moved_to_self}
use Rattle.cluster_model.proofs.Stamps.{carried, under_issued, OneStamp, one_before}

-- ---- tests

pub same_tests : (a b : Bool) → (a ≡ true → b ≡ true) → (b ≡ true → a ≡ true) → a ≡ b
same_tests true b f g = sym (f refl)
same_tests false true f g = g refl
same_tests false false f g = refl

pub and_false : (a b c : Bool) → (a && (b && (c && false))) ≡ false
and_false true true true = refl
and_false true true false = refl
and_false true false c = refl
and_false false b c = refl

regroup : (a b c d e : Bool) → e ≡ true → (a && (b && (c && (e && d)))) ≡ (a && (c && (d && b)))
regroup true true true true e h = ap (λ e. e && true) h
regroup true true true false e h = ap (λ e. e && false) h
regroup true true false d e h = refl
regroup true false true true e h = refl
regroup true false true false e h = refl
regroup true false false d e h = refl
regroup false b c d e h = refl

-- whether a shift is of this cell
shift_test : (other name : List ℕ) (k key : KeyValue) (t term i to j : ℕ) →
    same_cell (Shifts other k t i to) (Shifts name key term i j) ≡
    (bytes_eq other name && (t == term && (to == j && same_key k key)))
unfolding same_cell
shift_test other name k key t term i to j = regroup (bytes_eq other name) (same_key k key) (t == term) (to == j)
    (i == i) (eq-eqb i i refl)

-- ---- one step

pub no_counts : (c : Cell) (i clock : ℕ) (all : List (List ℕ × Option (List ℕ))) →
    number_at c (operations_issued i clock all) ≡ 0
no_counts c i clock [] = refl
no_counts c i clock (setting ∷ rest) =
    let h = no_counts c i (clock + 1) rest in
    omega arith

no_shift : (v : State) (name other : List ℕ) (key : KeyValue) (term i j : ℕ) (o : Outcome) →
    number_at (Shifts name key term i j) (ops_of i v other o) ≡ 0
unfolding same_cell
no_shift v name other key term i j NotSet = refl
no_shift v name other key term i j (Nothing k) = refl
no_shift v name other key term i j (Triggered k t None task) = refl
no_shift v name other key term i j (Triggered k t (Some count) task) = refl

no_exec : (v : State) (name other : List ℕ) (key : KeyValue) (term i t to amount : ℕ) (k : Option KeyValue) →
    number_at (Execs name key term i) (shift_under i v other t to amount k) ≡ 0
unfolding same_cell
no_exec v name other key term i t to amount None = refl
no_exec v name other key term i t to amount (Some k) = refl

shift_of : (name other : List ℕ) (key : KeyValue) (term i j t to amount : ℕ) (ops : List Operation)
    (k : Option KeyValue) → (fold ops).key other ≡ k →
    max (number_at (Shifts name key term i j) (shift_under i (fold ops) other t to amount k))
    (number_at (Shifts name key term i j) ops)
    ≡ cond (bytes_eq other name && (t == term && (to == j && is_key key k))) amount 0 + number_at
    (Shifts name key term i j) ops
unfolding fold
shift_of name other key term i j t to amount ops None under =
    at (bytes_eq other name && (t == term && (to == j && false)))
    (and_false (bytes_eq other name) (t == term) (to == j))
  where
    at : (b : Bool) → b ≡ false → max 0 (number_at (Shifts name key term i j) ops) ≡ cond b amount 0 + number_at
        (Shifts name key term i j) ops
    at true e = absurd (true≢false e)
    at false e = omega arith
shift_of name other key term i j t to amount ops (Some k) under =
    at (same_cell (Shifts other k t i to) (Shifts name key term i j)) _ refl (shift_test other name k key t term i to j)
  where
    at : (s b : Bool) → same_cell (Shifts other k t i to) (Shifts name key term i j) ≡ s → s ≡ b →
        max (max (cond s (at_key (key_of other ops) (λ l. number_at (Shifts other l t i to) ops) + amount) 0) 0)
        (number_at (Shifts name key term i j) ops) ≡ cond b amount 0 + number_at (Shifts name key term i j) ops
    at true true e f =
        let here : at_key (key_of other ops) (λ l. number_at (Shifts other l t i to) ops) ≡ number_at
        (Shifts other k t i to) ops = ap (λ o. at_key o (λ l. number_at (Shifts other l t i to) ops)) under in
        let same : number_at (Shifts other k t i to) ops ≡ number_at (Shifts name key term i j) ops =
        ap (λ c. number_at c ops) (same_cell-true _ _ e) in
        omega arith
    at true false e f = absurd (true≢false f)
    at false true e f = absurd (true≢false (sym f))
    at false false e f = omega arith

pub no_more : (a : ℕ) (t : Bool) → a + cond t 0 0 ≡ a
no_more a true = omega arith
no_more a false = omega arith

-- what a node grants itself is its own
granted_more : (a b d t : Bool) (amount : ℕ) → ◌≡◌ {A = ℕ} (cond (a && (b && (t && d))) amount 0)
    (0 + cond t (cond (a && (b && d)) amount 0) 0)
granted_more true true true true amount = omega arith
granted_more true true false true amount = refl
granted_more true true d false amount = refl
granted_more true false d true amount = refl
granted_more true false d false amount = refl
granted_more false b d true amount = refl
granted_more false b d false amount = refl

-- the next shift from i to j in i's set, or the next grant, where both are one
cell_step : (i : ℕ) (n : Node) (a : Option Asked) (words name : List ℕ) (key : KeyValue) (term j : ℕ) →
    number_at (Shifts name key term i j) (ops_delivered a) ≤ number_at (Shifts name key term i j) n.ops →
    number_at (Shifts name key term i j) (node_after i n a words).ops ≡ amount_moved n a name key term j + cond (i == j)
    (amount_granted n a name key term) 0 + number_at (Shifts name key term i j) n.ops
unfolding after
cell_step i n None words name key term j h =
    let g = no_more 0 (i == j) in
    omega (arith, g)
cell_step i n (Some (asks.Set other text)) words name key term j h =
    let e = number_at-append (Shifts name key term i j) (operations_issued i n.marks.clock
    (settings (asks.Set other text))) n.ops in
    let z = no_counts (Shifts name key term i j) i n.marks.clock (settings (asks.Set other text)) in
    let g = no_more 0 (i == j) in
    omega (arith, e, z, g)
cell_step i n (Some (asks.Remove other)) words name key term j h =
    let e = number_at-append (Shifts name key term i j) (operations_issued i n.marks.clock
    (settings (asks.Remove other))) n.ops in
    let z = no_counts (Shifts name key term i j) i n.marks.clock (settings (asks.Remove other)) in
    let g = no_more 0 (i == j) in
    omega (arith, e, z, g)
cell_step i n (Some (asks.Load text)) words name key term j h =
    let e = number_at-append (Shifts name key term i j) (operations_issued i n.marks.clock (settings (asks.Load text)))
    n.ops in
    let z = no_counts (Shifts name key term i j) i n.marks.clock (settings (asks.Load text)) in
    let g = no_more 0 (i == j) in
    omega (arith, e, z, g)
cell_step i n (Some (asks.Pass other)) words name key term j h =
    let o = outcome_of i (state_shown n) other words in
    let e = number_at-append (Shifts name key term i j) (ops_of_pass i (state_shown n) other words
    (setting_of (state_shown n) other)) n.ops in
    let z : number_at (Shifts name key term i j) (ops_of_pass i (state_shown n) other words
    (setting_of (state_shown n) other)) ≡ 0 = ap (number_at (Shifts name key term i j)) o.ops ∙
    no_shift (state_shown n) name other key term i j o.outcome in
    let g = no_more 0 (i == j) in
    omega (arith, e, z, g)
cell_step i n (Some (asks.Shift other t to amount)) words name key term j h =
    number_at-append (Shifts name key term i j) (shift_under i (state_shown n) other t to amount
    ((state_shown n).key other)) n.ops
    ∙ shift_of name other key term i j t to amount n.ops ((state_shown n).key other) refl
    ∙ ap (λ x. x + number_at (Shifts name key term i j) n.ops) (sym (no_more _ (i == j)))
cell_step i n (Some (asks.Grant other t amount)) words name key term j h =
    number_at-append (Shifts name key term i j) (shift_under i (state_shown n) other t i amount
    ((state_shown n).key other)) n.ops
    ∙ shift_of name other key term i j t i amount n.ops ((state_shown n).key other) refl
    ∙ ap (λ x. x + number_at (Shifts name key term i j) n.ops)
    (granted_more (bytes_eq other name) (t == term) (is_key key ((state_shown n).key other)) (i == j) amount)
cell_step i n (Some (asks.Emit to versions chosen)) words name key term j h =
    let g = no_more 0 (i == j) in
    omega (arith, g)
cell_step i n (Some (asks.Deliver read)) words name key term j h =
    let e = number_at-append (Shifts name key term i j) (message_in read).ops n.ops in
    let g = no_more 0 (i == j) in
    omega (arith, e, h, g)

pub is_false : (t : Bool) → (t ≡ true → ⊥) → t ≡ false
is_false true h = absurd (h refl)
is_false false h = refl

-- of two numbers that are not the same
pub not_same : (i j : ℕ) → j ≢ i → (i == j) ≡ false
not_same i j ne = is_false (i == j) (λ h. ne (sym (eqb-true i j h)))

-- the next shift to another
pub shift_step : (i : ℕ) (n : Node) (a : Option Asked) (words name : List ℕ) (key : KeyValue) (term j : ℕ) → j ≢ i →
    number_at (Shifts name key term i j) (ops_delivered a) ≤ number_at (Shifts name key term i j) n.ops →
    number_at (Shifts name key term i j) (node_after i n a words).ops ≡ amount_moved n a name key term j + number_at
    (Shifts name key term i j) n.ops
shift_step i n a words name key term j ne h =
    let step = cell_step i n a words name key term j h in
    let none : cond (i == j) (amount_granted n a name key term) 0 ≡ 0 =
    ap (λ t. cond t (amount_granted n a name key term) 0) (not_same i j ne) in
    omega (arith, step, none)

-- the key of a name in the node's state that has the key's stamp is that key, and the name is its name
abbrev pub OneHere : State → List ℕ → KeyValue → Type 0
OneHere v name key = (other : List ℕ) (k : KeyValue) → v.key other ≡ Some k → k.clock ≡ key.clock → k.node ≡ key.node →
    (other ≡ name) × (k ≡ key)

pub record IsSameCall (other name : List ℕ) (k key : KeyValue) (t term : ℕ) : Type 0 where
  pub names : other ≡ name
  pub keys : k ≡ key
  pub terms : t ≡ term

-- an act of the stamp and the term is of this name and this key
pub same_call : (i : ℕ) (v : State) (other name : List ℕ) (k key : KeyValue) (t term : ℕ) (count : Option ℕ) →
    OneHere v name key →
    IsTriggered i v other k t count → (k.clock == key.clock && (k.node == key.node && (t == term))) ≡ true →
    IsSameCall other name k key t term
same_call i v other name k key t term count one is h =
    let a = and_parts (k.clock == key.clock) _ h in
    let b = and_parts (k.node == key.node) _ a.1 in
    let both = one other k is.under (eqb-true k.clock key.clock a.0) (eqb-true k.node key.node b.0) in
    record { names = both.0; keys = both.1; terms = eqb-true t term b.1 }

exec_of : (i : ℕ) (ops : List Operation) (name other : List ℕ) (key : KeyValue) (term count : ℕ) →
    count_of key term ≡ Some count → OneHere (fold ops) name key → (o : Outcome) → IsOutcome i (fold ops) other o →
    max (number_at (Execs name key term i) (ops_of i (fold ops) other o)) (number_at (Execs name key term i) ops) ≡ cond
    (is_act_of (stamp_of key) term (passed_as o)) 1 0 + number_at (Execs name key term i) ops
unfolding same_cell fold
exec_of i ops name other key term count counted one NotSet is = omega arith
exec_of i ops name other key term count counted one (Nothing k) is = omega arith
exec_of i ops name other key term count counted one (Triggered k t None task) is =
    at (k.clock == key.clock && (k.node == key.node && (t == term))) refl
  where
    at : (b : Bool) → (k.clock == key.clock && (k.node == key.node && (t == term))) ≡ b →
        max (max 0 0) (number_at (Execs name key term i) ops) ≡ cond b 1 0 + number_at (Execs name key term i) ops
    at true f =
        let same = same_call i (fold ops) other name k key t term None one is f in
        let none : count_of key term ≡ None = subst (λ (l : KeyValue). count_of l term ≡ None) same.keys
        (subst (λ u. count_of k u ≡ None) same.terms is.counted) in
        absurd (let impossible : ◌≡◌ {A = Option ℕ} None (Some count) = sym none ∙ counted in cc)
    at false f = omega arith
exec_of i ops name other key term count counted one (Triggered k t (Some c) task) is =
    at (same_cell (Execs other k t i) (Execs name key term i)) _ refl
    (same_tests _ (k.clock == key.clock && (k.node == key.node && (t == term))) forth back)
  where
    back : (k.clock == key.clock && (k.node == key.node && (t == term))) ≡ true →
        same_cell (Execs other k t i) (Execs name key term i) ≡ true
    back f =
        let same = same_call i (fold ops) other name k key t term (Some c) one is f in
        let cells : Execs other k t i ≡ Execs name key term i =
        λ r. Execs (same.names r) (same.keys r) (same.terms r) i in
        subst (λ d. same_cell (Execs other k t i) d ≡ true) cells (same_cell-refl (Execs other k t i))

    forth : same_cell (Execs other k t i) (Execs name key term i) ≡ true →
        (k.clock == key.clock && (k.node == key.node && (t == term))) ≡ true
    forth f =
        let cells = same_cell-true (Execs other k t i) (Execs name key term i) f in
        let keys : k ≡ key = cc in
        let terms : t ≡ term = cc in
        and_from _ _ (eq-eqb k.clock key.clock (ap (λ (l : KeyValue). l.clock) keys))
        (and_from _ _ (eq-eqb k.node key.node (ap (λ (l : KeyValue). l.node) keys)) (eq-eqb t term terms))

    at : (s b : Bool) → same_cell (Execs other k t i) (Execs name key term i) ≡ s → s ≡ b →
        max (max (cond s (at_key (key_of other ops) (λ l. number_at (Execs other l t i) ops) + 1) 0) (max 0 0))
        (number_at (Execs name key term i) ops) ≡ cond b 1 0 + number_at (Execs name key term i) ops
    at true true f g =
        let here : at_key (key_of other ops) (λ l. number_at (Execs other l t i) ops) ≡ number_at (Execs other k t i)
        ops = ap (λ o. at_key o (λ l. number_at (Execs other l t i) ops)) is.under in
        let same : number_at (Execs other k t i) ops ≡ number_at (Execs name key term i) ops =
        ap (λ d. number_at d ops) (same_cell-true _ _ f) in
        omega arith
    at true false f g = absurd (true≢false g)
    at false true f g = absurd (true≢false (sym g))
    at false false f g = omega arith

-- whether the reply acts on the term under the stamp
abbrev pub acted : Stamp → ℕ → ℕ → Node → Option Asked → List ℕ → ℕ
acted stamp term i n None words = 0
acted stamp term i n (Some ask) words = cond (acts stamp term (reply i n ask words)) 1 0

-- the next execution by i in i's set
pub exec_step : (i : ℕ) (n : Node) (a : Option Asked) (words name : List ℕ) (key : KeyValue) (term count : ℕ) →
    count_of key term ≡ Some count → OneHere (state_shown n) name key →
    number_at (Execs name key term i) (ops_delivered a) ≤ number_at (Execs name key term i) n.ops →
    number_at (Execs name key term i) (node_after i n a words).ops ≡ acted (stamp_of key) term i n a words + number_at
    (Execs name key term i) n.ops
unfolding after
exec_step i n None words name key term count counted one h = omega arith
exec_step i n (Some (asks.Set other text)) words name key term count counted one h =
    let e = number_at-append (Execs name key term i) (operations_issued i n.marks.clock
    (settings (asks.Set other text))) n.ops in
    let z = no_counts (Execs name key term i) i n.marks.clock (settings (asks.Set other text)) in
    omega (arith, e, z)
exec_step i n (Some (asks.Remove other)) words name key term count counted one h =
    let e = number_at-append (Execs name key term i) (operations_issued i n.marks.clock (settings (asks.Remove other)))
    n.ops in
    let z = no_counts (Execs name key term i) i n.marks.clock (settings (asks.Remove other)) in
    omega (arith, e, z)
exec_step i n (Some (asks.Load text)) words name key term count counted one h =
    let e = number_at-append (Execs name key term i) (operations_issued i n.marks.clock (settings (asks.Load text)))
    n.ops in
    let z = no_counts (Execs name key term i) i n.marks.clock (settings (asks.Load text)) in
    omega (arith, e, z)
exec_step i n (Some (asks.Pass other)) words name key term count counted one h =
    let o = outcome_of i (state_shown n) other words in
    number_at-append (Execs name key term i) (ops_of_pass i (state_shown n) other words
    (setting_of (state_shown n) other)) n.ops
    ∙ ap (λ os. max (number_at (Execs name key term i) os) (number_at (Execs name key term i) n.ops)) o.ops
    ∙ exec_of i n.ops name other key term count counted one o.outcome o.is
    ∙ ap (λ p. cond (is_act_of (stamp_of key) term p) 1 0 + number_at (Execs name key term i) n.ops) (sym o.reply)
exec_step i n (Some (asks.Shift other t to amount)) words name key term count counted one h =
    let e = number_at-append (Execs name key term i) (shift_under i (state_shown n) other t to amount
    ((state_shown n).key other)) n.ops in
    let z = no_exec (state_shown n) name other key term i t to amount ((state_shown n).key other) in
    omega (arith, e, z)
exec_step i n (Some (asks.Grant other t amount)) words name key term count counted one h =
    let e = number_at-append (Execs name key term i) (shift_under i (state_shown n) other t i amount
    ((state_shown n).key other)) n.ops in
    let z = no_exec (state_shown n) name other key term i t i amount ((state_shown n).key other) in
    omega (arith, e, z)
exec_step i n (Some (asks.Emit to versions chosen)) words name key term count counted one h = omega arith
exec_step i n (Some (asks.Deliver read)) words name key term count counted one h =
    let e = number_at-append (Execs name key term i) (message_in read).ops n.ops in
    omega (arith, e, h)

-- ---- over a schedule

-- the executions of a longer trace
pub executed_more : (stamp : Stamp) (term i : ℕ) (n : Node) (trace : List Call) (a : Option Asked) (words : List ℕ) →
    count_by (λ call. acts stamp term call.reply) (trace_after i n trace a words) ≡ acted stamp term i n a words +
    count_by (λ call. acts stamp term call.reply) trace
executed_more stamp term i n trace None words = omega arith
executed_more stamp term i n trace (Some ask) words =
    let entry : Call = record { ask = ask; words = words; reply = reply i n ask words } in
    let whole = sum_by-append (λ (call : Call). cond (acts stamp term call.reply) 1 0) trace (entry ∷ []) in
    let last = sum_by-cons (λ (call : Call). cond (acts stamp term call.reply) 1 0) entry [] in
    omega (arith, whole, last)

-- what is delivered to a node holds no more of the cells that it writes
pub delivered_own : (c : Cluster) (w : World) (e : Event) (i : ℕ) (cell : Cell) → IsKnown w →
    Allows w e.node (accepted c w e e.node) → writer_of (Count cell 0) ≡ i →
    number_at cell (ops_delivered (accepted c w e i)) ≤ number_at cell (w.node i).ops
delivered_own c w e i cell k allowed own = number_at-mono cell _ _
    (λ m h. subst (λ j. IsIn (Count cell m) (w.node j).ops) own
    (delivered_from c w e i (λ o. IsIn o (w.node (writer_of o)).ops) allowed k.sent (Count cell m) h))

split_more : (t : Bool) (a b : ℕ) → cond t (a + b) 0 ≡ cond t a 0 + cond t b 0
split_more true a b = refl
split_more false a b = refl

own_cells : (c : Cluster) (es : List Event) → IsSchedule c es → (name : List ℕ) (key : KeyValue) (term i j : ℕ) →
    number_at (Shifts name key term i j) ((world c es).node i).ops ≡ moved c es name key term i j + cond (i == j)
    (granted c es name key term i) 0
own_cells c [] s name key term i j = sym (no_more 0 (i == j))
own_cells c (e ∷ es) s name key term i j =
    let step = cell_step i ((world c es).node i) (accepted c (world c es) e i) e.words name key term j
    (delivered_own c (world c es) e i (Shifts name key term i j) (known c es s.1) s.0 refl) in
    let before = own_cells c es s.1 name key term i j in
    let more = split_more (i == j) (amount_granted ((world c es).node i) (accepted c (world c es) e i) name key term)
    (granted c es name key term i) in
    omega (arith, step, before, more)

pub own_shifts : (c : Cluster) (es : List Event) → IsSchedule c es → (name : List ℕ) (key : KeyValue) (term i j : ℕ) →
    j ≢ i →
    number_at (Shifts name key term i j) ((world c es).node i).ops ≡ moved c es name key term i j
own_shifts c es s name key term i j ne =
    let own = own_cells c es s name key term i j in
    let none : cond (i == j) (granted c es name key term i) 0 ≡ 0 =
    ap (λ t. cond t (granted c es name key term i) 0) (not_same i j ne) in
    omega (arith, own, none)

pub own_grants : (c : Cluster) (es : List Event) → IsSchedule c es → (name : List ℕ) (key : KeyValue) (term i : ℕ) →
    number_at (Shifts name key term i i) ((world c es).node i).ops ≡ granted c es name key term i
own_grants c es s name key term i =
    let own = own_cells c es s name key term i i in
    let here : cond (i == i) (granted c es name key term i) 0 ≡ granted c es name key term i =
    ap (λ t. cond t (granted c es name key term i) 0) (eq-eqb i i refl) in
    let none = moved_to_self c es name key term i in
    omega (arith, own, here, none)

pub one_here : (c : Cluster) (es : List Event) (name : List ℕ) (key : KeyValue) (i : ℕ) → IsSchedule c es →
    OneStamp c es name key → OneHere (state_of c es i) name key
one_here c es name key i s one other k u p q = one other k (under_issued c es (carried c es s) i other k u) p q

pub own_execs : (c : Cluster) (es : List Event) → IsSchedule c es → (name : List ℕ) (key : KeyValue) (term count : ℕ) →
    count_of key term ≡ Some count → OneStamp c es name key → (i : ℕ) →
    number_at (Execs name key term i) ((world c es).node i).ops ≡ executions c es (stamp_of key) term i
own_execs c [] s name key term count counted one i = refl
own_execs c (e ∷ es) s name key term count counted one i =
    let before_one = one_before c e es name key one in
    let step = exec_step i ((world c es).node i) (accepted c (world c es) e i) e.words name key term count counted
    (one_here c es name key i s.1 before_one) (delivered_own c (world c es) e i (Execs name key term i)
    (known c es s.1) s.0 refl) in
    let before = own_execs c es s.1 name key term count counted before_one i in
    let more = executed_more (stamp_of key) term i ((world c es).node i) ((world c es).trace i)
    (accepted c (world c es) e i) e.words in
    omega (arith, step, before, more)
