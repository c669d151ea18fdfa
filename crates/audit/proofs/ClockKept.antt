-- What a node knows is no later than its clock, and so the last point of a load has the greatest clock.
use Rattle.std.proofs.Common.{◌≡◌, ℕ, ◌+◌, ◌≤◌, max, cond, List, [], ◌∷◌, ◌++◌, length, Option, Some, None, refl, sym, ◌∙◌, ap, subst, arith}
use Rattle.std.proofs.lemmas.Slice.Eq.{bytes_eq-Decides}
use Rattle.stamp_register.specs.Keys.{KeyValue}
use Rattle.operations.specs.Operations.{Operation}
use Rattle.replica_state.specs.States.{State, with_key}
use Rattle.replica_state.specs.Folds.{fold, clock_of}
use Rattle.node_calls.specs.Asks.{Asked, Call}
use Rattle.node_calls.specs.Asks as asks
use Rattle.node_steps.specs.Nodes.{Node, start, state_shown}
use Rattle.node_steps.specs.Outcomes.{state_set}
use Rattle.node_core.specs.Steps.{after, operations_added, shift_under}
use Rattle.node_steps.specs.Settings.{settings, new_key}
use Rattle.node_steps.specs.Refusals.{message_in}
use Rattle.node_core.specs.Traces.{replay_from, replay}
use Rattle.node_steps.proofs.Overspent.{clock-append}
use Rattle.node_core.proofs.SettingSteps.{issued_clock, Issues, issues_load}
use Rattle.node_core.proofs.TraceLemmas.{held_clock}
use Rattle.cluster_model.proofs.Passes.{Outcome, NotSet, Nothing, Triggered, IsOutcome, ops_of, outcome_of}

held_below : (n : Node) (name : List ℕ) (key : KeyValue) → (state_shown n).key name ≡ Some key →
    key.clock ≤ clock_of n.ops
unfolding fold
held_below n name key h = held_clock name n.ops key h

added : (n : Node) (ops : List Operation) (clock : ℕ) → clock_of ops ≤ clock → clock_of n.ops ≤ clock →
    clock_of (ops ++ n.ops) ≤ clock
added n ops clock new old = let both = clock-append ops n.ops in omega (arith, both, new, old)

pass_clock : (i : ℕ) (n : Node) (name : List ℕ) (o : Outcome) → IsOutcome i (state_shown n) name o →
    clock_of (ops_of i (state_shown n) name o) ≤ clock_of n.ops
pass_clock i n name NotSet is = omega arith
pass_clock i n name (Nothing key) is = omega arith
pass_clock i n name (Triggered key term None task) is = omega arith
pass_clock i n name (Triggered key term (Some count) task) is = let held = held_below n name key is.under in
    omega (arith, held)

shift_clock : (i : ℕ) (n : Node) (name : List ℕ) (term to amount : ℕ) (o : Option KeyValue) →
    (state_shown n).key name ≡ o → clock_of (shift_under i (state_shown n) name term to amount o) ≤ clock_of n.ops
shift_clock i n name term to amount None h = omega arith
shift_clock i n name term to amount (Some key) h = let held = held_below n name key h in omega (arith, held)

set_clock : (i : ℕ) (n : Node) (a : Asked) (words : List ℕ) → Issues a → clock_of n.ops ≤ n.marks.clock →
    clock_of (after i n a words).ops ≤ (after i n a words).marks.clock
unfolding after
set_clock i n a words issues low =
    let most = issued_clock i n.marks.clock (settings a) n.ops low in
    subst (λ k. clock_of (operations_added i n a words ++ n.ops) ≤ k) (sym (issues.counts n))
    (subst (λ ops. clock_of (ops ++ n.ops) ≤ n.marks.clock + length (settings a)) (sym (issues.adds i n words)) most)

after_clock : (i : ℕ) (n : Node) (a : Asked) (words : List ℕ) → clock_of n.ops ≤ n.marks.clock →
    clock_of (after i n a words).ops ≤ (after i n a words).marks.clock
unfolding after
after_clock i n (asks.Set name text) words low = set_clock i n (asks.Set name text) words
    (record { adds = λ j m ws. refl; counts = λ m. refl }) low
after_clock i n (asks.Remove name) words low = set_clock i n (asks.Remove name) words
    (record { adds = λ j m ws. refl; counts = λ m. refl }) low
after_clock i n (asks.Load text) words low = set_clock i n (asks.Load text) words (issues_load text) low
after_clock i n (asks.Pass name) words low =
    let o = outcome_of i (state_shown n) name words in
    let few = subst (λ ops. clock_of ops ≤ clock_of n.ops) (sym o.ops) (pass_clock i n name o.outcome o.is) in
    added n (operations_added i n (asks.Pass name) words) n.marks.clock (omega (arith, few, low)) low
after_clock i n (asks.Shift name term to amount) words low =
    let few = shift_clock i n name term to amount ((state_shown n).key name) refl in
    added n (operations_added i n (asks.Shift name term to amount) words) n.marks.clock (omega (arith, few, low)) low
after_clock i n (asks.Grant name term amount) words low =
    let few = shift_clock i n name term i amount ((state_shown n).key name) refl in
    added n (operations_added i n (asks.Grant name term amount) words) n.marks.clock (omega (arith, few, low)) low
after_clock i n (asks.Emit to versions chosen) words low = low
after_clock i n (asks.Deliver read) words low =
    added n (message_in read).ops (max n.marks.clock (clock_of (message_in read).ops)) (omega arith)
    (omega (arith, low))

from_clock : (i : ℕ) (n : Node) (cs : List Call) → clock_of n.ops ≤ n.marks.clock →
    clock_of (replay_from i n cs).ops ≤ (replay_from i n cs).marks.clock
unfolding replay_from
from_clock i n [] low = low
from_clock i n (c ∷ cs) low = from_clock i (after i n c.ask c.words) cs (after_clock i n c.ask c.words low)

pub replay_clock : (i : ℕ) (cs : List Call) → clock_of (replay i cs).ops ≤ (replay i cs).marks.clock
replay_clock i cs = from_clock i start cs (omega arith)

-- ---- the last of some points that were set

abbrev Settings : Type 0
Settings = List (List ℕ × Option (List ℕ))

here : (name : List ℕ) (key : KeyValue) (v : State) → (with_key name key v).key name ≡ Some key
unfolding with_key
here name key v = ap (λ t. cond t (Some key) (v.key name)) ((bytes_eq-Decides name name).1 refl)

pub last_set : (i clock : ℕ) (ss : Settings) (s : List ℕ × Option (List ℕ)) (v : State) →
    (state_set i clock (ss ++ s ∷ []) v).key s.0 ≡ Some (new_key i (clock + length ss) s.1)
last_set i clock [] s v = here s.0 (new_key i clock s.1) v ∙
    ap (λ n. Some (new_key i n s.1)) (let same : clock ≡ clock + 0 = omega arith in same)
last_set i clock (r ∷ ss) s v =
    let moved : clock + 1 + length ss ≡ clock + length (r ∷ ss) = omega arith in
    last_set i (clock + 1) ss s (with_key r.0 (new_key i clock r.1) v) ∙ ap (λ n. Some (new_key i n s.1)) moved
