-- What a set holds can be spelled: each key that it carries has its setting there, and each hit has one of its name.
use Rattle.std.proofs.Common.{◌≡◌, ◌≢◌, ℕ, ◌≤◌, ◌<◌, ◌+◌, max, Bool, true, false, cond, List, [], ◌∷◌, ◌⊎◌, inl, inr, refl, sym, ◌∙◌, ap, subst, arith, ⊎_elim, Option, Some, None}
use Rattle.std.proofs.lemmas.Bool.{cases_lt}
use Rattle.stamp_register.specs.Keys.{KeyValue}
use Rattle.operations.specs.Operations.{Cell, Hits, Execs, Shifts, Operation, Set, Count, IsIn, same_cell}
use Rattle.replica_state.specs.States.{State}
use Rattle.replica_state.specs.Folds.{fold, key_in, key_of, number_in, number_at, at_key}
use Rattle.replica_state.specs.Deltas.{IsTold, TellSameOf, IsInDelta, IsDelta}
use Rattle.replica_state.proofs.Orders.{same_cell-true}
use Rattle.replica_state.proofs.Sets.{KeyUpto, key_of-is_in}
use Rattle.operations.proofs.Members.{IsIn-append_cases}
use Rattle.replica_state.proofs.KnownSets.{own_name}
use Rattle.node_calls.specs.Asks.{Asked, Message}
use Rattle.node_calls.specs.Asks as asks
use Rattle.node_steps.specs.Nodes.{Node, Marks, state_shown}
use Rattle.node_steps.specs.Settings.{settings, operations_issued}
use Rattle.node_core.specs.Steps.{shift_under}
use Rattle.node_steps.specs.Refusals.{message_in}
use Rattle.node_core.specs.Traces.{versions_told}
use Rattle.cluster_model.specs.Worlds.{Cluster, World, Event, accepted, node_after, sent, world}
use Rattle.cluster_model.specs.Schedules.{MaySend, MayTell, Allows, AllowsDelta, IsSchedule, IsDeltaSchedule}
use Rattle.cluster_model.specs.Histories.{state_of, ops_issued, ops_delivered, keys_by}
use Rattle.cluster_model.proofs.Steps.{delivered_was_sent, emitted_may, gains, keeps, holds_issued, holds_delivered}
use Rattle.cluster_model.proofs.Passes.{Outcome, NotSet, Nothing, Triggered, IsOutcome, ops_of, outcome_of}
use Rattle.cluster_model.proofs.Stamps.{carried_name, own_carries, held_carrier}

pub record IsClosed (ops : List Operation) : Type 0 where
  pub sets : (op : Operation) → IsIn op ops → (name : List ℕ) (key : KeyValue) → key_in name op ≡ Some key →
      IsIn (Set name key) ops
  pub hits : (name : List ℕ) (node number : ℕ) → IsIn (Count (Hits name node) number) ops →
      (key : KeyValue) × IsIn (Set name key) ops

may_send_closed : (ops chosen : List Operation) → MaySend ops chosen → IsClosed chosen
may_send_closed ops chosen may = record { sets = λ op h name key k. may.named name key op h k; hits = may.with_hits }

-- a carried key's setting is there, also that of the key of the set
set_of_key : (ops : List Operation) → IsClosed ops → (name : List ℕ) (key : KeyValue) → (fold ops).key name ≡ Some key →
    IsIn (Set name key) ops
set_of_key ops closed name key e =
    let found = held_carrier ops name key e in
    closed.sets found.op found.held name key found.carries

pub keys_in_ops : (i : ℕ) (n : Node) (a : Option Asked) (words : List ℕ) (op : Operation) → IsIn op (keys_by i n a) →
    IsIn op (ops_issued i n a words)
keys_in_ops i n None words op h = absurd h
keys_in_ops i n (Some (asks.Set name text)) words op h = h
keys_in_ops i n (Some (asks.Remove name)) words op h = h
keys_in_ops i n (Some (asks.Load text)) words op h = h
keys_in_ops i n (Some (asks.Pass name)) words op h = absurd h
keys_in_ops i n (Some (asks.Shift name term to amount)) words op h = absurd h
keys_in_ops i n (Some (asks.Grant name term amount)) words op h = absurd h
keys_in_ops i n (Some (asks.Emit to versions chosen)) words op h = absurd h
keys_in_ops i n (Some (asks.Deliver read)) words op h = absurd h

-- ---- a hit is of a name that is set

no_count_issued : (i clock : ℕ) (all : List (List ℕ × Option (List ℕ))) (cell : Cell) (k : ℕ) →
    IsIn (Count cell k) (operations_issued i clock all) → ⊥
no_count_issued i clock [] cell k h = h
no_count_issued i clock (setting ∷ rest) cell k (inl e) = cc
no_count_issued i clock (setting ∷ rest) cell k (inr h) = no_count_issued i (clock + 1) rest cell k h

hit_of_pass : (i : ℕ) (v : State) (name n : List ℕ) (j k : ℕ) (o : Outcome) → IsOutcome i v name o →
    IsIn (Count (Hits n j) k) (ops_of i v name o) → (key : KeyValue) × (v.key n ≡ Some key)
hit_of_pass i v name n j k NotSet is h = absurd h
hit_of_pass i v name n j k (Nothing key) is (inl e) = (
  key,
  let same : n ≡ name = cc in
      subst (λ m. v.key m ≡ Some key) (sym same) is,
)
hit_of_pass i v name n j k (Nothing key) is (inr h) = absurd h
hit_of_pass i v name n j k (Triggered key t None task) is (inl e) =
    (key, let same : n ≡ name = cc in subst (λ m. v.key m ≡ Some key) (sym same) is.under)
hit_of_pass i v name n j k (Triggered key t None task) is (inr h) = absurd h
hit_of_pass i v name n j k (Triggered key t (Some c) task) is (inl e) = absurd (cc)
hit_of_pass i v name n j k (Triggered key t (Some c) task) is (inr (inl e)) =
    (key, let same : n ≡ name = cc in subst (λ m. v.key m ≡ Some key) (sym same) is.under)
hit_of_pass i v name n j k (Triggered key t (Some c) task) is (inr (inr h)) = absurd h

no_hit_shifted : (i : ℕ) (v : State) (other : List ℕ) (term to amount : ℕ) (name : List ℕ) (j k : ℕ)
    (o : Option KeyValue) → IsIn (Count (Hits name j) k) (shift_under i v other term to amount o) → ⊥
no_hit_shifted i v other term to amount name j k None h = h
no_hit_shifted i v other term to amount name j k (Some key) (inl e) = cc
no_hit_shifted i v other term to amount name j k (Some key) (inr h) = h

own_hits : (i : ℕ) (n : Node) (a : Option Asked) (words name : List ℕ) (j k : ℕ) →
    IsIn (Count (Hits name j) k) (ops_issued i n a words) → (key : KeyValue) × ((state_shown n).key name ≡ Some key)
own_hits i n None words name j k h = absurd h
own_hits i n (Some (asks.Set other text)) words name j k h =
    absurd (no_count_issued i n.marks.clock (settings (asks.Set other text)) (Hits name j) k h)
own_hits i n (Some (asks.Remove other)) words name j k h = absurd
    (no_count_issued i n.marks.clock (settings (asks.Remove other)) (Hits name j) k h)
own_hits i n (Some (asks.Load text)) words name j k h = absurd
    (no_count_issued i n.marks.clock (settings (asks.Load text)) (Hits name j) k h)
own_hits i n (Some (asks.Pass other)) words name j k h =
    let o = outcome_of i (state_shown n) other words in
    hit_of_pass i (state_shown n) other name j k o.outcome o.is (subst (λ os. IsIn (Count (Hits name j) k) os) o.ops h)
own_hits i n (Some (asks.Shift other term to amount)) words name j k h =
    absurd (no_hit_shifted i (state_shown n) other term to amount name j k ((state_shown n).key other) h)
own_hits i n (Some (asks.Grant other term amount)) words name j k h =
    absurd (no_hit_shifted i (state_shown n) other term i amount name j k ((state_shown n).key other) h)
own_hits i n (Some (asks.Emit to versions chosen)) words name j k h = absurd h
own_hits i n (Some (asks.Deliver read)) words name j k h = absurd h

-- ---- over a schedule

pub record ClosedWorld (w : World) : Type 0 where
  pub held : (i : ℕ) → IsClosed (w.node i).ops
  pub sent : (m : Message) → IsIn m w.messages → IsClosed m.ops

nothing_closed : IsClosed []
nothing_closed = record { sets = λ op h. absurd h; hits = λ name node number h. absurd h }

delivered_closed : (c : Cluster) (w : World) (e : Event) (i : ℕ) → Allows w e.node (accepted c w e e.node) →
    ClosedWorld w → IsClosed (ops_delivered (accepted c w e i))
delivered_closed c w e i allowed closed = at (accepted c w e i) refl
  where
    at : (a : Option Asked) → accepted c w e i ≡ a → IsClosed (ops_delivered a)
    at None p = nothing_closed
    at (Some (asks.Deliver read)) p = closed.sent (message_in read) (delivered_was_sent c w e i read allowed p)
    at (Some ask) p = nothing_closed

node_closed : (i : ℕ) (n : Node) (a : Option Asked) (words : List ℕ) → IsClosed n.ops → IsClosed (ops_delivered a) →
    IsClosed (node_after i n a words).ops
node_closed i n a words closed came =
    record {
      sets = λ op h name key k. ⊎_elim
          (λ l. ⊎_elim
          (λ m. holds_issued i n a words (Set name key) (keys_in_ops i n a words (Set name key) m))
          (λ m. keeps i n a words (Set name key) (set_of_key n.ops closed name key m))
          (own_carries i n a words name key op l k))
          (⊎_elim (λ l. holds_delivered i n a words (Set name key) (came.sets op l name key k))
          (λ l. keeps i n a words (Set name key) (closed.sets op l name key k)))
          (gains i n a words op h);
      hits = λ name j k h. ⊎_elim
          (λ l. let set = own_hits i n a words name j k l in
          (set.0, keeps i n a words (Set name set.0) (set_of_key n.ops closed name set.0 set.1)))
          (⊎_elim
          (λ l. let set = came.hits name j k l in (set.0, holds_delivered i n a words (Set name set.0) set.1))
          (λ l. let set = closed.hits name j k l in (set.0, keeps i n a words (Set name set.0) set.1)))
          (gains i n a words _ h);
    }

sent_closed : (c : Cluster) (w : World) (e : Event) (i : ℕ) → Allows w e.node (accepted c w e e.node) → (m : Message) →
    IsIn m (sent i (w.node i) (accepted c w e i)) → IsClosed m.ops
sent_closed c w e i allowed m h = at (accepted c w e i) refl h
  where
    at : (a : Option Asked) → accepted c w e i ≡ a → IsIn m (sent i (w.node i) a) → IsClosed m.ops
    at None p q = absurd q
    at (Some (asks.Emit to versions chosen)) p (inl q) = subst (λ (l : Message). IsClosed l.ops) (sym q)
        (may_send_closed (w.node i).ops chosen (emitted_may c w e i to versions chosen allowed p).1)
    at (Some (asks.Emit to versions chosen)) p (inr q) = absurd q
    at (Some ask) p q = absurd q

pub closed_world : (c : Cluster) (es : List Event) → IsSchedule c es → ClosedWorld (world c es)
closed_world c [] s = record { held = λ i. nothing_closed; sent = λ m h. absurd h }
closed_world c (e ∷ es) s =
    let before = closed_world c es s.1 in
    record {
      held = λ i. node_closed i ((world c es).node i) (accepted c (world c es) e i) e.words (before.held i)
          (delivered_closed c (world c es) e i s.0 before);
      sent = λ m h. ⊎_elim (before.sent m) (sent_closed c (world c es) e e.node s.0 m) (IsIn-append_cases m _ _ h);
    }

-- ---- what differs may be sent

number_in_is : (cell : Cell) (op : Operation) → (number_in cell op ≡ 0) ⊎ (Count cell (number_in cell op) ≡ op)
number_in_is cell (Set name key) = inl refl
number_in_is cell (Count d k) = at (same_cell d cell) refl
  where
    at : (t : Bool) → same_cell d cell ≡ t → (◌≡◌ {A = ℕ} (cond t k 0) 0) ⊎ (Count cell (cond t k 0) ≡ Count d k)
    at true e = inr (ap (λ x. Count x k) (sym (same_cell-true d cell e)))
    at false e = inl refl

-- a number that is not 0 is held
number_found : (cell : Cell) (ops : List Operation) → (number_at cell ops ≡ 0) ⊎ IsIn (Count cell (number_at cell ops))
    ops
number_found cell [] = inl refl
number_found cell (op ∷ ops) = at (number_in_is cell op) (number_found cell ops)
    (cases_lt (number_in cell op) (number_at cell ops))
  where
    there : number_in cell op < number_at cell ops → IsIn (Count cell (number_at cell ops)) ops →
        IsIn (Count cell (max (number_in cell op) (number_at cell ops))) ops
    there l h =
        let e : number_at cell ops ≡ max (number_in cell op) (number_at cell ops) = omega arith in
        subst (λ k. IsIn (Count cell k) ops) e h

    here : number_at cell ops ≤ number_in cell op → Count cell (number_in cell op) ≡ op →
        Count cell (max (number_in cell op) (number_at cell ops)) ≡ op
    here l h =
        let e : max (number_in cell op) (number_at cell ops) ≡ number_in cell op = omega arith in
        ap (Count cell) e ∙ h

    at : (number_in cell op ≡ 0) ⊎ (Count cell (number_in cell op) ≡ op) →
        (number_at cell ops ≡ 0) ⊎ IsIn (Count cell (number_at cell ops)) ops →
        (number_in cell op < number_at cell ops) ⊎ (number_at cell ops ≤ number_in cell op) →
        (max (number_in cell op) (number_at cell ops) ≡ 0) ⊎
        ((Count cell (max (number_in cell op) (number_at cell ops)) ≡ op) ⊎ IsIn
        (Count cell (max (number_in cell op) (number_at cell ops))) ops)
    at a (inl z) (inl l) = absurd (omega arith)
    at a (inr h) (inl l) = inr (inr (there l h))
    at (inl z) b (inr l) = inl (omega arith)
    at (inr h) b (inr l) = inr (inl (here l h))

pub held_number : (cell : Cell) (ops : List Operation) (k : ℕ) → k ≡ number_at cell ops → k ≢ 0 →
    IsIn (Count cell k) ops
held_number cell ops k e ne = ⊎_elim (λ z. absurd (ne (e ∙ z))) (λ h. subst (λ m. IsIn (Count cell m) ops) (sym e) h)
    (number_found cell ops)

-- what a delta carries is of the key now
pub delta_key : (v w : State) (op : Operation) (name : List ℕ) (key : KeyValue) → IsInDelta v w op →
    key_in name op ≡ Some key → (w.key name ≡ Some key) × (TellSameOf v w name → ⊥)
delta_key v w (Set n k) name key d c =
    let parts = carried_name name n key k c in (
      subst (λ m. w.key m ≡ Some key) parts.0 (d.0 ∙ ap Some parts.1),
      λ s. d.1 (subst (λ m. TellSameOf v w m) (sym parts.0) s),
    )
delta_key v w (Count (Hits n node) number) name key d c = absurd
    (let impossible : ◌≡◌ {A = Option KeyValue} None (Some key) = c in cc)
delta_key v w (Count (Execs n k term node) number) name key d c =
    let parts = carried_name name n key k c in (
      subst (λ m. w.key m ≡ Some key) parts.0 (d.0.0.0 ∙ ap Some parts.1),
      λ s. d.1 ((s (Count (Execs n k term node) number) parts.0).1 d.0),
    )
delta_key v w (Count (Shifts n k term from to) number) name key d c =
    let parts = carried_name name n key k c in (
      subst (λ m. w.key m ≡ Some key) parts.0 (d.0.0.0 ∙ ap Some parts.1),
      λ s. d.1 ((s (Count (Shifts n k term from to) number) parts.0).1 d.0),
    )

-- the number that a state tells of a cell is the greatest of its set
pub told_number : (ops : List Operation) (cell : Cell) (number : ℕ) → IsTold (fold ops) (Count cell number) →
    number ≡ number_at cell ops
unfolding fold
told_number ops (Hits name node) number d = sym d.0
told_number ops (Execs name key term node) number d = sym d.0.1 ∙
    ap (λ k. at_key k (λ l. number_at (Execs name l term node) ops)) d.0.0
told_number ops (Shifts name key term from to) number d = sym d.0.1 ∙
    ap (λ k. at_key k (λ l. number_at (Shifts name l term from to) ops)) d.0.0

delta_held : (v : State) (ops : List Operation) → IsClosed ops → (op : Operation) → IsInDelta v (fold ops) op →
    IsIn op ops
delta_held v ops closed (Set name key) d = set_of_key ops closed name key d.0
delta_held v ops closed (Count cell number) d = held_number cell ops number (told_number ops cell number d.0) d.0.1

-- a set with a setting of the name has a key of it
some_key : (name : List ℕ) (ops : List Operation) (key : KeyValue) → IsIn (Set name key) ops →
    (k : KeyValue) × ((fold ops).key name ≡ Some k)
unfolding fold
some_key name ops key h = at (key_of name ops) refl
  where
    at : (o : Option KeyValue) → key_of name ops ≡ o → (k : KeyValue) × (key_of name ops ≡ Some k)
    at None e =
        let upto : KeyUpto (Some key) (key_of name ops) = subst (λ k. KeyUpto k (key_of name ops)) (own_name name key)
        (key_of-is_in name (Set name key) ops h) in
        absurd (subst (KeyUpto (Some key)) e upto)
    at (Some k) e = (k, e)

delta_may : (ops : List Operation) → IsClosed ops → (v : State) (chosen : List Operation) →
    IsDelta v (fold ops) chosen → MaySend ops chosen
delta_may ops closed v chosen delta =
    record {
      held = λ op h. delta_held v ops closed op ((delta op).0 h);
      one_key = λ name a b o p h k c d.
          let e : Some a ≡ Some b = sym (delta_key v (fold ops) o name a ((delta o).0 h) c).0 ∙
          (delta_key v (fold ops) p name b ((delta p).0 k) d).0 in
          cc;
      named = λ name key op h c. (delta (Set name key)).1 (delta_key v (fold ops) op name key ((delta op).0 h) c);
      with_hits = λ name node number h.
          let d = (delta (Count (Hits name node) number)).0 h in
          let set = closed.hits name node number (delta_held v ops closed (Count (Hits name node) number) d) in
          let now = some_key name ops set.0 set.1 in
          (now.0, (delta (Set name now.0)).1 (now.1, λ s. d.1 ((s (Count (Hits name node) number) refl).1 d.0)));
      once = λ cell a b h k. told_number ops cell a ((delta (Count cell a)).0 h).0 ∙
          sym (told_number ops cell b ((delta (Count cell b)).0 k).0);
    }

pub delta_may_send : (c : Cluster) (es : List Event) → IsSchedule c es →
    (i : ℕ) (base : State) (chosen : List Operation) → IsDelta base (state_of c es i) chosen →
    MaySend ((world c es).node i).ops chosen
delta_may_send c es s i base chosen delta = delta_may ((world c es).node i).ops ((closed_world c es s).held i) base
    chosen delta

-- the versions that a node has may be told
pub told_may : (marks : Marks) (to : ℕ) → MayTell marks to (versions_told marks to)
told_may marks to = record { base = omega arith; upto = omega arith; ack = omega arith }

-- so what differs is among what may be sent
pub delta_allows : (c : Cluster) (es : List Event) → IsSchedule c es → (i : ℕ) (a : Option Asked) →
    AllowsDelta (world c es) i a → Allows (world c es) i a
delta_allows c es s i None h = tt
delta_allows c es s i (Some (asks.Emit to versions chosen)) h = (
  subst (MayTell ((world c es).node i).marks to) (sym h.0) (told_may ((world c es).node i).marks to),
  delta_may_send c es s i (((world c es).node i).past versions.base) chosen h.1,
)
delta_allows c es s i (Some (asks.Deliver read)) h = h
delta_allows c es s i (Some ask) h = h

pub deltas_are_schedules : (c : Cluster) (es : List Event) → IsDeltaSchedule c es → IsSchedule c es
deltas_are_schedules c [] s = tt
deltas_are_schedules c (e ∷ es) s =
    let before = deltas_are_schedules c es s.1 in
    (delta_allows c es before e.node (accepted c (world c es) e e.node) s.0, before)
