-- A node that knows a version of another is above the state that the other had at that version.
use Rattle.std.proofs.Common.{◌≡◌, ℕ, ◌+◌, ◌≤◌, ◌==◌, ◌⊎◌, max, nat_le, Bool, true, false, cond, List, [], ◌∷◌, ◌++◌, length, inl, inr, refl, sym, ◌∙◌, ap, subst, arith, ⊎_elim, Option, Some, None, Result}
use Rattle.std.proofs.lemmas.Bool.{eqb-true, and_parts, leb-true, ltb-false, cases_lt}
use Rattle.operations.specs.Operations.{Operation, IsIn}
use Rattle.replica_state.specs.States.{State}
use Rattle.replica_state.specs.Folds.{fold}
use Rattle.replica_state.specs.Knowledge.{changes}
use Rattle.replica_state.specs.StateOrder.{IsBelow, below-refl, below-trans}
use Rattle.replica_state.specs.Deltas.{IsDelta}
use Rattle.operations.proofs.Members.{IsIn-append_cases}
use Rattle.replica_state.proofs.KnownSets.{union_above_right}
use Rattle.message_format.specs.declared.fault.WireFault.{WireFault}
use Rattle.node_steps.specs.declared.config.Config.{Config}
use Rattle.node_calls.specs.Asks.{Asked, Message, Versions}
use Rattle.node_calls.specs.Asks as asks
use Rattle.node_steps.specs.Nodes.{Node, state_shown}
use Rattle.node_core.specs.Steps.{after, operations_added, message_to}
use Rattle.node_steps.specs.Refusals.{message_in, faults_of, refusal_at}
use Rattle.node_core.specs.Traces.{SendsDelta}
use Rattle.node_core.proofs.Pasts.{HasHistory, has_history, history_after, past_after}
use Rattle.cluster_model.specs.Worlds.{Cluster, World, Event, config_of, accepted, node_after, sent, happens, world}
use Rattle.cluster_model.specs.Schedules.{Allows, AllowsDelta, IsDeltaSchedule}
use Rattle.cluster_model.specs.Histories.{state_of}
use Rattle.cluster_model.proofs.Steps.{asked_is, delivered_was_sent}
use Rattle.cluster_model.proofs.Passes.{none_applies, not_true}
use Rattle.cluster_model.proofs.Replays.{node_is_replay, sends_delta}
use Rattle.cluster_model.proofs.Versions.{HasMarks, version_grows, known_upto, marked}
use Rattle.cluster_model.proofs.Closed.{deltas_are_schedules}
use Rattle.cluster_model.proofs.Differences.{below_antisym, delta_brings}

-- ---- the past of one node

node_history : (i : ℕ) (n : Node) (a : Option Asked) (words : List ℕ) → HasHistory n →
    HasHistory (node_after i n a words)
node_history i n None words has = has
node_history i n (Some ask) words has = history_after i n ask words has

pub past_kept : (i : ℕ) (n : Node) (a : Option Asked) (words : List ℕ) → HasHistory n → (v : ℕ) → v ≤ n.marks.version →
    (node_after i n a words).past v ≡ n.past v
past_kept i n None words has v l = refl
past_kept i n (Some ask) words has v l = past_after i n ask words has v l

version_next : (i : ℕ) (n : Node) (a : Option Asked) (words : List ℕ) →
    (node_after i n a words).marks.version ≤ n.marks.version + 1
unfolding after
version_next i n None words = omega arith
version_next i n (Some ask) words = at (changes (state_shown n) (operations_added i n ask words))
  where
    at : (t : Bool) → n.marks.version + cond t 1 0 ≤ n.marks.version + 1
    at true = omega arith
    at false = omega arith

-- a version that a node has is one that it had, with the state that it then had, or its present one
pub past_or_now : (i : ℕ) (n : Node) (a : Option Asked) (words : List ℕ) → HasHistory n → (v : ℕ) →
    v ≤ (node_after i n a words).marks.version →
    ((v ≤ n.marks.version) × ((node_after i n a words).past v ≡ n.past v)) ⊎
    ((node_after i n a words).past v ≡ fold (node_after i n a words).ops)
past_or_now i n a words has v l = ⊎_elim
    (λ k.
    let next = version_next i n a words in
    let now : v ≡ (node_after i n a words).marks.version = omega (arith, l, k, next) in
    inr (ap (node_after i n a words).past now ∙ (node_history i n a words has).last))
    (λ k. inl (k, past_kept i n a words has v k))
    (cases_lt n.marks.version v)

pub node_has_history : (c : Cluster) (es : List Event) (i : ℕ) → HasHistory ((world c es).node i)
node_has_history c es i = subst HasHistory (sym (node_is_replay c es i)) (has_history i ((world c es).trace i))

versions_grow : (c : Cluster) (later es : List Event) (i : ℕ) →
    ((world c es).node i).marks.version ≤ ((world c (later ++ es)).node i).marks.version
versions_grow c [] es i = omega arith
versions_grow c (e ∷ later) es i =
    let a = versions_grow c later es i in
    let b = version_grows i ((world c (later ++ es)).node i) (accepted c (world c (later ++ es)) e i) e.words in
    omega arith

-- the past at a version is the state at each moment at which the node had that version
pub past_was : (c : Cluster) (later es : List Event) (i : ℕ) →
    ((world c (later ++ es)).node i).past ((world c es).node i).marks.version ≡ state_of c es i
past_was c [] es i = (node_has_history c es i).last
past_was c (e ∷ later) es i =
    past_kept i ((world c (later ++ es)).node i) (accepted c (world c (later ++ es)) e i) e.words
    (node_has_history c (later ++ es) i) _ (versions_grow c later es i) ∙ past_was c later es i

-- ---- the world

-- a message carries what had changed at its sender from one version to another
pub record IsChange (sender : Node) (m : Message) : Type 0 where
  pub base : m.base ≤ sender.marks.version
  pub upto : m.upto ≤ sender.marks.version
  pub delta : IsDelta (sender.past m.base) (sender.past m.upto) m.ops

pub record IsSynced (w : World) : Type 0 where
  pub past : (i : ℕ) → HasHistory (w.node i)
  pub acked : (i j : ℕ) → (w.node i).marks.acked j ≤ (w.node i).marks.version
  pub sent : (m : Message) → IsIn m w.messages → IsChange (w.node m.from) m
  pub above : (i j : ℕ) → IsBelow ((w.node j).past ((w.node i).marks.known j)) (fold (w.node i).ops)

change_kept : (i : ℕ) (n : Node) (a : Option Asked) (words : List ℕ) (m : Message) → HasHistory n → IsChange n m →
    IsChange (node_after i n a words) m
change_kept i n a words m has h =
    let grows = version_grows i n a words in
    let base = h.base in
    let upto = h.upto in
    record {
      base = omega arith;
      upto = omega arith;
      delta = subst (λ (s : State). IsDelta s ((node_after i n a words).past m.upto) m.ops)
          (sym (past_kept i n a words has m.base h.base))
          (subst (λ (s : State). IsDelta (n.past m.base) s m.ops) (sym (past_kept i n a words has m.upto h.upto))
          h.delta);
    }

-- an accepted delivery acknowledges no version to come
ack_upto : (config : Config) (entries : ℕ) (n : Node) (read : Result Message WireFault) (words : List ℕ) →
    refusal_at config entries n (asks.Deliver read) words ≡ None → (message_in read).ack ≤ n.marks.version
ack_upto config entries n read words h =
    let all = none_applies (faults_of config entries n (asks.Deliver read) words) h in
    ltb-false n.marks.version (message_in read).ack (not_true _ _ all.1.1.1.1.1.1.0)

acked_after : (c : Cluster) (w : World) (e : Event) (i j : ℕ) → IsSynced w →
    (node_after i (w.node i) (accepted c w e i) e.words).marks.acked j ≤
    (node_after i (w.node i) (accepted c w e i) e.words).marks.version
unfolding after
acked_after c w e i j synced =
    let grows = version_grows i (w.node i) (accepted c w e i) e.words in
    let here = at (accepted c w e i) refl in
    omega arith
  where
    of : (m : Message) (t : Bool) → m.ack ≤ (w.node i).marks.version →
        cond t (max ((w.node i).marks.acked j) m.ack) ((w.node i).marks.acked j) ≤ (w.node i).marks.version
    of m true l =
        let before = synced.acked i j in
        omega arith
    of m false l = synced.acked i j

    at : (a : Option Asked) → accepted c w e i ≡ a → (node_after i (w.node i) a e.words).marks.acked j ≤
        (w.node i).marks.version
    at None p = synced.acked i j
    at (Some (asks.Deliver read)) p =
        of (message_in read) (j == (message_in read).from)
        (ack_upto (config_of c i) (length (w.trace i)) (w.node i) read e.words
        (asked_is c w e i (asks.Deliver read) p).agreed)
    at (Some ask) p = synced.acked i j

-- what is emitted is what has changed since the version that the receiver is known to have
change_told : (i to : ℕ) (n : Node) (versions : Versions) (chosen : List Operation) → HasHistory n →
    n.marks.acked to ≤ n.marks.version → SendsDelta n (asks.Emit to versions chosen) →
    IsChange n (message_to i to versions chosen)
change_told i to n versions chosen has l sends =
    let base : versions.base ≡ n.marks.acked to = ap (λ (v : Versions). v.base) sends.0 in
    let upto : versions.upto ≡ n.marks.version = ap (λ (v : Versions). v.upto) sends.0 in
    record {
      base = omega arith;
      upto = omega arith;
      delta = subst (λ (s : State). IsDelta (n.past versions.base) s chosen) (sym (ap n.past upto ∙ has.last)) sends.1;
    }

sent_change : (c : Cluster) (w : World) (e : Event) (i : ℕ) → IsSynced w →
    AllowsDelta w e.node (accepted c w e e.node) → (m : Message) → IsIn m (sent i (w.node i) (accepted c w e i)) →
    IsChange (w.node m.from) m
sent_change c w e i synced allowed m h = at (accepted c w e i) refl h
  where
    at : (a : Option Asked) → accepted c w e i ≡ a → IsIn m (sent i (w.node i) a) → IsChange (w.node m.from) m
    at None p q = absurd q
    at (Some (asks.Emit to versions chosen)) p (inl q) = subst (λ (l : Message). IsChange (w.node l.from) l) (sym q)
        (change_told i to (w.node i) versions chosen (synced.past i) (synced.acked i to)
        (sends_delta c w e i (asks.Emit to versions chosen) allowed p))
    at (Some (asks.Emit to versions chosen)) p (inr q) = absurd q
    at (Some ask) p q = absurd q

-- a delivery that raises what is known brings all up to it
pub brings : (sender : Node) (ops : List Operation) (m : Message) (known : ℕ) → HasHistory sender → IsChange sender m →
    IsBelow (sender.past known) (fold ops) → known ≤ sender.marks.version → m.base ≤ known →
    IsBelow (sender.past m.upto) (fold (m.ops ++ ops))
brings sender ops m known has change above l base =
    let made = has.folds m.upto in
    subst (λ (s : State). IsBelow s (fold (m.ops ++ ops))) (sym made.1)
    (delta_brings (sender.past m.base) made.0 m.ops ops (subst (λ (s : State). IsDelta (sender.past m.base) s m.ops)
    made.1 change.delta)
    (below-trans (sender.past m.base) (sender.past known) (fold ops) (has.grows m.base known base l) above))

above_after : (c : Cluster) (w : World) (e : Event) (i j : ℕ) → IsSynced w → HasMarks w →
    Allows w e.node (accepted c w e e.node) →
    IsBelow ((w.node j).past ((node_after i (w.node i) (accepted c w e i) e.words).marks.known j))
    (fold (node_after i (w.node i) (accepted c w e i) e.words).ops)
unfolding after
above_after c w e i j synced has allowed = at (accepted c w e i) refl
  where
    more : (ops : List Operation) → IsBelow ((w.node j).past ((w.node i).marks.known j)) (fold (ops ++ (w.node i).ops))
    more ops = below-trans ((w.node j).past ((w.node i).marks.known j)) (fold (w.node i).ops)
        (fold (ops ++ (w.node i).ops)) (synced.above i j) (union_above_right ops (w.node i).ops)

    of : (m : Message) (t : Bool) → (t ≡ true → (j ≡ m.from) × (m.base ≤ (w.node i).marks.known j)) →
        IsChange (w.node m.from) m → IsBelow ((w.node j).past (cond t m.upto ((w.node i).marks.known j)))
        (fold (m.ops ++ (w.node i).ops))
    of m true f change = brings (w.node j) (w.node i).ops m ((w.node i).marks.known j) (synced.past j)
        (subst (λ k. IsChange (w.node k) m) (sym (f refl).0) change) (synced.above i j) (has.known i j) (f refl).1
    of m false f change = more m.ops

    at : (a : Option Asked) → accepted c w e i ≡ a → IsBelow
        ((w.node j).past ((node_after i (w.node i) a e.words).marks.known j))
        (fold (node_after i (w.node i) a e.words).ops)
    at None p = synced.above i j
    at (Some (asks.Deliver read)) p = of (message_in read) _ (λ t.
        let parts = and_parts (j == (message_in read).from) _ t in (
          eqb-true j (message_in read).from parts.0,
          leb-true _ _
              (and_parts (nat_le (message_in read).base ((w.node i).marks.known j)) _ parts.1).0,
        ))
        (synced.sent (message_in read) (delivered_was_sent c w e i read allowed p))
    at (Some ask) p = more (operations_added i (w.node i) ask e.words)

synced_after : (c : Cluster) (w : World) (e : Event) → IsSynced w → HasMarks w →
    Allows w e.node (accepted c w e e.node) → AllowsDelta w e.node (accepted c w e e.node) → IsSynced (happens c w e)
synced_after c w e synced has allowed sends =
    record {
      past = λ i. node_history i (w.node i) (accepted c w e i) e.words (synced.past i);
      acked = λ i j. acked_after c w e i j synced;
      sent = λ m h. change_kept m.from (w.node m.from) (accepted c w e m.from) e.words m (synced.past m.from)
          (⊎_elim (synced.sent m) (sent_change c w e e.node synced sends m) (IsIn-append_cases m _ _ h));
      above = λ i j. subst (λ (s : State). IsBelow s (fold (node_after i (w.node i) (accepted c w e i) e.words).ops))
          (sym (past_kept j (w.node j) (accepted c w e j) e.words (synced.past j) _ (known_upto c w e i j has allowed)))
          (above_after c w e i j synced has allowed);
    }

pub all_synced : (c : Cluster) (es : List Event) → IsDeltaSchedule c es → IsSynced (world c es)
all_synced c [] s =
    record {
      past = node_has_history c [];
      acked = λ i j. omega arith;
      sent = λ m h. absurd h;
      above = λ i j. below-refl (fold []);
    }
all_synced c (e ∷ es) s =
    let before = deltas_are_schedules c es s.1 in
    synced_after c (world c es) e (all_synced c es s.1) (marked c es before) (deltas_are_schedules c (e ∷ es) s).0 s.0

-- ---- the laws

pub known_is_below : (c : Cluster) (es : List Event) → IsDeltaSchedule c es → (i j version : ℕ) →
    ((world c es).node j).marks.known i ≡ version → IsBelow (((world c es).node i).past version) (state_of c es j)
known_is_below c es s i j version e = subst (λ v. IsBelow (((world c es).node i).past v) (state_of c es j)) e
    ((all_synced c es s).above j i)

pub known_is_same : (c : Cluster) (es : List Event) → IsDeltaSchedule c es → (i j : ℕ) →
    ((world c es).node j).marks.known i ≡ ((world c es).node i).marks.version →
    ((world c es).node i).marks.known j ≡ ((world c es).node j).marks.version → state_of c es i ≡ state_of c es j
known_is_same c es s i j p q =
    below_antisym ((world c es).node i).ops ((world c es).node j).ops
    (subst (λ (v : State). IsBelow v (state_of c es j)) (node_has_history c es i).last (known_is_below c es s i j _ p))
    (subst (λ (v : State). IsBelow v (state_of c es i)) (node_has_history c es j).last (known_is_below c es s j i _ q))
