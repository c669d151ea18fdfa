-- Of what another node wrote, a node holds at each of its versions what that other held at one of its own.
use Rattle.std.proofs.Common.{◌≡◌, ℕ, ◌<◌, ◌≤◌, List, [], ◌∷◌, ◌++◌, ◌⊎◌, inl, inr, refl, sym, ◌∙◌, subst, arith, ⊎_elim, Option, Some, None}
use Rattle.std.proofs.lemmas.Bool.{cases_lt, cases_eq}
use Rattle.operations.specs.Operations.{Operation, Set, Count, writer_of, IsIn}
use Rattle.replica_state.specs.States.{State}
use Rattle.replica_state.specs.Folds.{fold}
use Rattle.replica_state.specs.StateOrder.{IsBelow}
use Rattle.replica_state.specs.Deltas.{IsTold}
use Rattle.replica_state.proofs.Sets.{key_of-found}
use Rattle.replica_state.proofs.KnownSets.{union_above_right}
use Rattle.node_calls.specs.Asks.{Asked, Message}
use Rattle.node_calls.specs.Asks as asks
use Rattle.node_steps.specs.Nodes.{Node, state_shown}
use Rattle.node_core.specs.Steps.{after, operations_added}
use Rattle.node_steps.specs.Refusals.{message_in}
use Rattle.cluster_model.specs.Worlds.{Cluster, World, Event, accepted, node_after, happens, world}
use Rattle.cluster_model.specs.Schedules.{Allows, IsDeltaSchedule}
use Rattle.cluster_model.specs.Histories.{ops_issued}
use Rattle.cluster_model.specs.Views.{IsAsOf, SeesWhole}
use Rattle.cluster_model.proofs.Steps.{delivered_was_sent, own_ops}
use Rattle.cluster_model.proofs.Stamps.{own_carries}
use Rattle.cluster_model.proofs.Versions.{HasMarks, version_grows, marked}
use Rattle.cluster_model.proofs.Closed.{keys_in_ops, held_number, told_number, deltas_are_schedules}
use Rattle.cluster_model.proofs.KnownVersions.{past_kept, past_or_now, IsChange, IsSynced, brings, all_synced}
use Rattle.cluster_model.proofs.Views.{told_union, delta_tells, as_of_self, as_of_more, as_of_later}
use Rattle.cluster_model.proofs.Acks.{HasAcks, delivered_to, has_acks}

-- each version of each node sees each node whole
abbrev pub IsWhole : World → Type 0
IsWhole w = (i v : ℕ) → v ≤ (w.node i).marks.version → (j : ℕ) → SeesWhole w ((w.node i).past v) j

sees_self : (w : World) (i v : ℕ) → v ≤ (w.node i).marks.version → SeesWhole w ((w.node i).past v) i
sees_self w i v l = record { version = v; reached = l; as_of = as_of_self ((w.node i).past v) i }

sees_now : (w : World) → IsSynced w → IsWhole w → (i j : ℕ) → SeesWhole w (fold (w.node i).ops) j
sees_now w synced whole i j = subst (λ (s : State). SeesWhole w s j) (synced.past i).last
    (whole i (w.node i).marks.version (omega arith) j)

-- ---- a message, merged

module _ (w : World) (synced : IsSynced w) (marked : HasMarks w) (acks : HasAcks w) (whole : IsWhole w) (i : ℕ)
    (m : Message) (sent_then : IsIn m w.messages) (mine : m.to ≡ i) where
  abbrev merged : List Operation
  merged = m.ops ++ (w.node i).ops

  abbrev sender_then : State
  sender_then = (w.node m.from).past m.upto

  change : IsChange (w.node m.from) m
  change = synced.sent m sent_then

  -- it comes to all that its sender held
  above_sender : IsBelow sender_then (fold merged)
  above_sender = brings (w.node m.from) (w.node i).ops m ((w.node i).marks.known m.from) (synced.past m.from) change
      (synced.above i m.from) (marked.known i m.from)
      (subst (λ k. m.base ≤ (w.node k).marks.known m.from) mine (acks.base m sent_then))

  -- and tells what its sender then told or its receiver tells
  told_before : (op : Operation) → IsTold (fold merged) op → IsTold sender_then op ⊎ IsTold (fold (w.node i).ops) op
  told_before op t = ⊎_elim
      (λ k. inl (delta_tells ((w.node m.from).past m.base) sender_then m.ops change.delta op k))
      (λ k. inr k)
      (told_union m.ops (w.node i).ops op t)

  merge_sees_whole : (j : ℕ) → SeesWhole w (fold merged) j
  merge_sees_whole j = later (cases_lt here.version there.version)
    where
      there : SeesWhole w sender_then j
      there = whole m.from m.upto change.upto j

      here : SeesWhole w (fold (w.node i).ops) j
      here = sees_now w synced whole i j

      later : (here.version < there.version) ⊎ (there.version ≤ here.version) → SeesWhole w (fold merged) j
      later (inl l) =
          record {
            version = there.version;
            reached = there.reached;
            as_of = as_of_later (fold merged) (fold (w.node i).ops) sender_then ((w.node j).past here.version)
                ((w.node j).past there.version) j above_sender
                (λ op t. ⊎_elim (λ k. inr k) (λ k. inl k) (told_before op t)) here.as_of there.as_of
                ((synced.past j).grows here.version there.version (omega (arith, l)) there.reached);
          }
      later (inr l) =
          record {
            version = here.version;
            reached = here.reached;
            as_of = as_of_later (fold merged) sender_then (fold (w.node i).ops) ((w.node j).past there.version)
                ((w.node j).past here.version) j (union_above_right m.ops (w.node i).ops)
                told_before there.as_of here.as_of
                ((synced.past j).grows there.version here.version l here.reached);
          }

-- ---- what a node issues

-- it tells nothing new that another wrote
issued_tells : (i : ℕ) (n : Node) (a : Option Asked) (words : List ℕ) (op : Operation) → (writer_of op ≡ i → ⊥) →
    IsTold (fold (ops_issued i n a words)) op → IsTold (state_shown n) op
unfolding fold
issued_tells i n a words (Set name key) other t =
    let found = key_of-found name key (ops_issued i n a words) t in
    ⊎_elim
    (λ h. absurd (other (own_ops i n a words (Set name key) (keys_in_ops i n a words (Set name key) h))))
    (λ h. h)
    (own_carries i n a words name key found.op found.held found.carries)
issued_tells i n a words (Count cell number) other t =
    absurd (other (own_ops i n a words (Count cell number) (held_number cell (ops_issued i n a words) number
    (told_number (ops_issued i n a words) cell number t) t.1)))

-- ---- one event

sees_kept : (c : Cluster) (w : World) (e : Event) → IsSynced w → (v : State) (j : ℕ) → SeesWhole w v j →
    SeesWhole (happens c w e) v j
sees_kept c w e synced v j sees =
    let grows : (w.node j).marks.version ≤ ((happens c w e).node j).marks.version =
    version_grows j (w.node j) (accepted c w e j) e.words in
    let upto = sees.reached in
    record {
      version = sees.version;
      reached = omega (arith, grows, upto);
      as_of = subst (λ (s : State). IsAsOf v s j) (sym (past_kept j (w.node j) (accepted c w e j) e.words
          (synced.past j) sees.version sees.reached)) sees.as_of;
    }

module _ (c : Cluster) (w : World) (e : Event) (synced : IsSynced w) (marked : HasMarks w) (acks : HasAcks w)
    (whole : IsWhole w) (allowed : Allows w e.node (accepted c w e e.node)) where
  other_sees : (i j : ℕ) → (j ≡ i → ⊥) → SeesWhole w (fold (node_after i (w.node i) (accepted c w e i) e.words).ops) j
  unfolding after
  other_sees i j other = at (accepted c w e i) refl
    where
      here : SeesWhole w (fold (w.node i).ops) j
      here = sees_now w synced whole i j

      at : (a : Option Asked) → accepted c w e i ≡ a → SeesWhole w (fold (node_after i (w.node i) a e.words).ops) j
      at None p = here
      at (Some (asks.Deliver read)) p = merge_sees_whole w synced marked acks whole i (message_in read)
          (delivered_was_sent c w e i read allowed p) (delivered_to c w e i read p) j
      at (Some ask) p =
          let added = operations_added i (w.node i) ask e.words in
          record {
            version = here.version;
            reached = here.reached;
            as_of = as_of_more (fold (added ++ (w.node i).ops)) (fold (w.node i).ops) ((w.node j).past here.version) j
                (union_above_right added (w.node i).ops)
                (λ op own t. ⊎_elim (issued_tells i (w.node i) (Some ask) e.words op (λ same. other (sym own ∙ same)))
                (λ k. k) (told_union added (w.node i).ops op t))
                here.as_of;
          }

  whole_after : IsWhole (happens c w e)
  whole_after i v l j = ⊎_elim
      (λ same. subst (SeesWhole (happens c w e) (((happens c w e).node i).past v)) (sym same)
      (sees_self (happens c w e) i v l))
      (λ other. sees_kept c w e synced (((happens c w e).node i).past v) j (⊎_elim
      (λ k. subst (λ (s : State). SeesWhole w s j) (sym k.1) (whole i v k.0 j))
      (λ k. subst (λ (s : State). SeesWhole w s j) (sym k) (other_sees i j other))
      (past_or_now i (w.node i) (accepted c w e i) e.words (synced.past i) v l)))
      (cases_eq j i)

-- ---- the law

pub sees_whole : (c : Cluster) (es : List Event) → IsDeltaSchedule c es → IsWhole (world c es)
sees_whole c [] s = λ i v l j. record { version = 0; reached = omega arith; as_of = as_of_self (fold []) j }
sees_whole c (e ∷ es) s =
    let before = deltas_are_schedules c es s.1 in
    whole_after c (world c es) e (all_synced c es s.1) (marked c es before) (has_acks c es before) (sees_whole c es s.1)
    (deltas_are_schedules c (e ∷ es) s).0

-- what a message brings its receiver to sees each node whole too
pub merged_sees_whole : (c : Cluster) (es : List Event) → IsDeltaSchedule c es → (i : ℕ) (m : Message) →
    IsIn m (world c es).messages → m.to ≡ i → (j : ℕ) → SeesWhole (world c es)
    (fold (m.ops ++ ((world c es).node i).ops)) j
merged_sees_whole c es s i m =
    let before = deltas_are_schedules c es s in
    merge_sees_whole (world c es) (all_synced c es s) (marked c es before) (has_acks c es before) (sees_whole c es s) i
    m
