-- What one event does to what a node knows and to the messages.
use Rattle.std.proofs.Common.{◌≡◌, ℕ, ◌+◌, ◌<◌, ◌==◌, Bool, true, false, cond, List, [], ◌∷◌, ◌++◌, length, ◌⊎◌, inl, inr, refl, sym, ap, subst, arith, nat_lt, ⊎_elim, Option, Some, None, Result}
use Rattle.std.proofs.lemmas.Bool.{eqb-true, ltb-true, and_parts}
use Rattle.std.specs.Prelude.{is_none}
use Rattle.actions.specs.Value.{TermValue}
use Rattle.stamp_register.specs.Keys.{KeyValue}
use Rattle.operations.specs.Operations.{Operation, writer_of, IsIn, count_at}
use Rattle.replica_state.specs.States.{State}
use Rattle.replica_state.specs.Folds.{fold}
use Rattle.operations.proofs.Members.{IsIn-append_left, IsIn-append_right, IsIn-append_cases}
use Rattle.replica_state.proofs.KnownSets.{same_members}
use Rattle.message_format.specs.declared.fault.WireFault.{WireFault}
use Rattle.node_calls.specs.declared.fault.NodeFault.{NodeFault}
use Rattle.node_calls.specs.Asks.{Asked, Message, Versions}
use Rattle.node_calls.specs.Asks as asks
use Rattle.node_steps.specs.Nodes.{Node, state_shown, setting_of}
use Rattle.node_steps.specs.Passes.{ops_of_pass, triggered_term, execs_of_choice, execs_of_term, next_hit}
use Rattle.node_core.specs.Steps.{after, operations_added, shift_under}
use Rattle.node_steps.specs.Settings.{settings, operations_issued}
use Rattle.node_steps.specs.Refusals.{message_in, refusal_at}
use Rattle.cluster_model.specs.Worlds.{Cluster, World, Event, config_of, is_accepted, accepted, node_after, sent, happens, world}
use Rattle.cluster_model.specs.Schedules.{MaySend, MayTell, Allows, IsSchedule}
use Rattle.cluster_model.specs.Histories.{ops_issued, ops_delivered, all_issued, all_delivered, all_learnt}

-- ---- who accepts what

pub record IsAsked (c : Cluster) (w : World) (e : Event) (i : ℕ) (ask : Asked) : Type 0 where
  pub below : i < c.nodes
  pub here : i ≡ e.node
  pub of : e.ask ≡ ask
  pub agreed : refusal_at (config_of c i) (length (w.trace i)) (w.node i) ask e.words ≡ None

pub asked_is : (c : Cluster) (w : World) (e : Event) (i : ℕ) (ask : Asked) → accepted c w e i ≡ Some ask →
    IsAsked c w e i ask
asked_is c w e i ask h = at (is_accepted c w e i) refl h
  where
    is_none-true : (o : Option NodeFault) → is_none o ≡ true → o ≡ None
    is_none-true None p = refl
    is_none-true (Some fault) p = absurd (let impossible : false ≡ true = p in cc)

    at : (t : Bool) → is_accepted c w e i ≡ t → cond t (Some e.ask) None ≡ Some ask → IsAsked c w e i ask
    at false p q = absurd (let impossible : ◌≡◌ {A = Option Asked} None (Some ask) = q in cc)
    at true p q =
        let same : e.ask ≡ ask = cc in
        let first = and_parts (nat_lt e.node c.nodes) _ p in
        let rest = and_parts (i == e.node) _ first.1 in
        let here = eqb-true i e.node rest.0 in
        let low = ltb-true e.node c.nodes first.0 in
        record {
          below = omega arith;
          here = here;
          of = same;
          agreed = subst (λ (a : Asked). refusal_at (config_of c i) (length (w.trace i)) (w.node i) a e.words ≡ None)
              same (is_none-true _ rest.1);
        }

-- an accepted ask was not refused
abbrev pub IsAgreed : Cluster → World → Event → ℕ → Option Asked → Type 0
IsAgreed c w e i None = Unit {0}
IsAgreed c w e i (Some ask) = refusal_at (config_of c i) (length (w.trace i)) (w.node i) ask e.words ≡ None

pub agreed : (c : Cluster) (w : World) (e : Event) (i : ℕ) → IsAgreed c w e i (accepted c w e i)
agreed c w e i = at (accepted c w e i) refl
  where
    at : (a : Option Asked) → accepted c w e i ≡ a → IsAgreed c w e i a
    at None p = tt
    at (Some ask) p = (asked_is c w e i ask p).agreed

-- what is delivered was sent
pub delivered_was_sent : (c : Cluster) (w : World) (e : Event) (i : ℕ) (read : Result Message WireFault) →
    Allows w e.node (accepted c w e e.node) → accepted c w e i ≡ Some (asks.Deliver read) →
    IsIn (message_in read) w.messages
delivered_was_sent c w e i read allowed h =
    let here = (asked_is c w e i (asks.Deliver read) h).here in
    subst (λ (a : Option Asked). Allows w i a) h (subst (λ j. Allows w j (accepted c w e j)) (sym here) allowed)

-- what is sent is a choice of what the sender knows, and of the versions that it may tell
pub emitted_may : (c : Cluster) (w : World) (e : Event) (i to : ℕ) (versions : Versions) (chosen : List Operation) →
    Allows w e.node (accepted c w e e.node) → accepted c w e i ≡ Some (asks.Emit to versions chosen) →
    MayTell (w.node i).marks to versions × MaySend (w.node i).ops chosen
emitted_may c w e i to versions chosen allowed h =
    let here = (asked_is c w e i (asks.Emit to versions chosen) h).here in
    subst (λ (a : Option Asked). Allows w i a) h (subst (λ j. Allows w j (accepted c w e j)) (sym here) allowed)

-- ---- a node's set only grows, by what it issues and what is delivered

pub gains : (i : ℕ) (n : Node) (a : Option Asked) (words : List ℕ) (op : Operation) →
    IsIn op (node_after i n a words).ops →
    IsIn op (ops_issued i n a words) ⊎ (IsIn op (ops_delivered a) ⊎ IsIn op n.ops)
unfolding after
gains i n None words op h = inr (inr h)
gains i n (Some (asks.Deliver read)) words op h = ⊎_elim (λ k. inr (inl k)) (λ k. inr (inr k))
    (IsIn-append_cases op _ _ h)
gains i n (Some ask) words op h = ⊎_elim (λ k. inl k) (λ k. inr (inr k))
    (IsIn-append_cases op (operations_added i n ask words) n.ops h)

pub keeps : (i : ℕ) (n : Node) (a : Option Asked) (words : List ℕ) (op : Operation) → IsIn op n.ops →
    IsIn op (node_after i n a words).ops
unfolding after
keeps i n None words op h = h
keeps i n (Some ask) words op h = IsIn-append_right op (operations_added i n ask words) n.ops h

pub holds_issued : (i : ℕ) (n : Node) (a : Option Asked) (words : List ℕ) (op : Operation) →
    IsIn op (ops_issued i n a words) → IsIn op (node_after i n a words).ops
unfolding after
holds_issued i n None words op h = absurd h
holds_issued i n (Some (asks.Deliver read)) words op h = absurd h
holds_issued i n (Some ask) words op h = IsIn-append_left op (operations_added i n ask words) n.ops h

pub holds_delivered : (i : ℕ) (n : Node) (a : Option Asked) (words : List ℕ) (op : Operation) →
    IsIn op (ops_delivered a) → IsIn op (node_after i n a words).ops
unfolding after
holds_delivered i n None words op h = absurd h
holds_delivered i n (Some (asks.Deliver read)) words op h = IsIn-append_left op (message_in read).ops n.ops h
holds_delivered i n (Some ask) words op h = absurd h

-- ---- a node's set is what it issued and what was delivered to it

learnt : (c : Cluster) (es : List Event) (i : ℕ) (op : Operation) → IsIn op ((world c es).node i).ops →
    IsIn op (all_issued c es i) ⊎ IsIn op (all_delivered c es i)
learnt c [] i op h = absurd h
learnt c (e ∷ es) i op h = ⊎_elim
    (λ k. inl (IsIn-append_left op _ _ k))
    (⊎_elim
    (λ k. inr (IsIn-append_left op _ _ k))
    (λ k. ⊎_elim (λ l. inl (IsIn-append_right op _ _ l)) (λ l. inr (IsIn-append_right op _ _ l)) (learnt c es i op k)))
    (gains i ((world c es).node i) (accepted c (world c es) e i) e.words op h)

issued_is_held : (c : Cluster) (es : List Event) (i : ℕ) (op : Operation) → IsIn op (all_issued c es i) →
    IsIn op ((world c es).node i).ops
issued_is_held c [] i op h = absurd h
issued_is_held c (e ∷ es) i op h = ⊎_elim
    (holds_issued i ((world c es).node i) (accepted c (world c es) e i) e.words op)
    (λ k. keeps i ((world c es).node i) (accepted c (world c es) e i) e.words op (issued_is_held c es i op k))
    (IsIn-append_cases op _ _ h)

delivered_is_held : (c : Cluster) (es : List Event) (i : ℕ) (op : Operation) → IsIn op (all_delivered c es i) →
    IsIn op ((world c es).node i).ops
delivered_is_held c [] i op h = absurd h
delivered_is_held c (e ∷ es) i op h = ⊎_elim
    (holds_delivered i ((world c es).node i) (accepted c (world c es) e i) e.words op)
    (λ k. keeps i ((world c es).node i) (accepted c (world c es) e i) e.words op (delivered_is_held c es i op k))
    (IsIn-append_cases op _ _ h)

pub state_is_fold : (c : Cluster) (es : List Event) (i : ℕ) → fold ((world c es).node i).ops ≡ fold (all_learnt c es i)
state_is_fold c es i = same_members _ _
    (λ op h. ⊎_elim (IsIn-append_left op _ _) (IsIn-append_right op _ _) (learnt c es i op h))
    (λ op h. ⊎_elim (issued_is_held c es i op) (delivered_is_held c es i op) (IsIn-append_cases op _ _ h))

-- ---- each operation is known to the node that wrote it

issued_by : (i clock : ℕ) (settings : List (List ℕ × Option (List ℕ))) (op : Operation) →
    IsIn op (operations_issued i clock settings) → writer_of op ≡ i
issued_by i clock [] op h = absurd h
issued_by i clock (setting ∷ rest) op (inl e) = ap writer_of e
issued_by i clock (setting ∷ rest) op (inr h) = issued_by i (clock + 1) rest op h

pass_by : (i : ℕ) (v : State) (name words : List ℕ) (setting : Option (KeyValue × List TermValue)) (op : Operation) →
    IsIn op (ops_of_pass i v name words setting) → writer_of op ≡ i
pass_by i v name words None op h = absurd h
pass_by i v name words (Some setting) op h = at (triggered_term i v name words setting) h
  where
    counted : (term : ℕ) (count : Option ℕ) → IsIn op (execs_of_term i v name setting.0 term count ++
        next_hit i v name ∷ []) → writer_of op ≡ i
    counted term None (inl e) = ap writer_of e
    counted term None (inr k) = absurd k
    counted term (Some n) (inl e) = ap writer_of e
    counted term (Some n) (inr (inl e)) = ap writer_of e
    counted term (Some n) (inr (inr k)) = absurd k

    at : (chosen : Option ℕ) → IsIn op (execs_of_choice i v name setting chosen ++ next_hit i v name ∷ []) →
        writer_of op ≡ i
    at None (inl e) = ap writer_of e
    at None (inr k) = absurd k
    at (Some term) k = counted term (count_at setting.1 term) k

shift_by : (i : ℕ) (v : State) (name : List ℕ) (term to amount : ℕ) (key : Option KeyValue) (op : Operation) →
    IsIn op (shift_under i v name term to amount key) → writer_of op ≡ i
shift_by i v name term to amount None op h = absurd h
shift_by i v name term to amount (Some key) op (inl e) = ap writer_of e
shift_by i v name term to amount (Some key) op (inr h) = absurd h

pub own_ops : (i : ℕ) (n : Node) (a : Option Asked) (words : List ℕ) (op : Operation) →
    IsIn op (ops_issued i n a words) → writer_of op ≡ i
own_ops i n None words op h = absurd h
own_ops i n (Some (asks.Deliver read)) words op h = absurd h
own_ops i n (Some (asks.Emit to versions chosen)) words op h = absurd h
own_ops i n (Some (asks.Pass name)) words op h = pass_by i (state_shown n) name words (setting_of (state_shown n) name)
    op h
own_ops i n (Some (asks.Shift name term to amount)) words op h =
    shift_by i (state_shown n) name term to amount ((state_shown n).key name) op h
own_ops i n (Some (asks.Grant name term amount)) words op h =
    shift_by i (state_shown n) name term i amount ((state_shown n).key name) op h
own_ops i n (Some (asks.Set name text)) words op h = issued_by i n.marks.clock (settings (asks.Set name text)) op h
own_ops i n (Some (asks.Remove name)) words op h = issued_by i n.marks.clock (settings (asks.Remove name)) op h
own_ops i n (Some (asks.Load text)) words op h = issued_by i n.marks.clock (settings (asks.Load text)) op h

pub record IsKnown (w : World) : Type 0 where
  pub held : (i : ℕ) (op : Operation) → IsIn op (w.node i).ops → IsIn op (w.node (writer_of op)).ops
  pub sent : (m : Message) → IsIn m w.messages → (op : Operation) → IsIn op m.ops → IsIn op (w.node (writer_of op)).ops

-- what is delivered comes from a message that was sent
pub delivered_from : (c : Cluster) (w : World) (e : Event) (i : ℕ) (P : Operation → Type 0) →
    Allows w e.node (accepted c w e e.node) →
    ((m : Message) → IsIn m w.messages → (op : Operation) → IsIn op m.ops → P op) → (op : Operation) →
    IsIn op (ops_delivered (accepted c w e i)) → P op
delivered_from c w e i P allowed each op h = at (accepted c w e i) refl h
  where
    at : (a : Option Asked) → accepted c w e i ≡ a → IsIn op (ops_delivered a) → P op
    at None p q = absurd q
    at (Some (asks.Deliver read)) p q = each (message_in read) (delivered_was_sent c w e i read allowed p) op q
    at (Some ask) p q = absurd q

-- what a message carries, its sender knew
pub sent_was_held : (c : Cluster) (w : World) (e : Event) (i : ℕ) → Allows w e.node (accepted c w e e.node) →
    (m : Message) → IsIn m (sent i (w.node i) (accepted c w e i)) → (op : Operation) → IsIn op m.ops →
    IsIn op (w.node i).ops
sent_was_held c w e i allowed m h op k = at (accepted c w e i) refl h
  where
    at : (a : Option Asked) → accepted c w e i ≡ a → IsIn m (sent i (w.node i) a) → IsIn op (w.node i).ops
    at None p q = absurd q
    at (Some (asks.Emit to versions chosen)) p (inl q) = (emitted_may c w e i to versions chosen allowed p).1.held op
        (subst (λ (l : Message). IsIn op l.ops) q k)
    at (Some (asks.Emit to versions chosen)) p (inr q) = absurd q
    at (Some ask) p q = absurd q

pub known_after : (c : Cluster) (w : World) (e : Event) → IsKnown w → Allows w e.node (accepted c w e e.node) →
    IsKnown (happens c w e)
known_after c w e known allowed =
    let grows : (j : ℕ) (op : Operation) → IsIn op (w.node j).ops →
    IsIn op ((happens c w e).node j).ops = λ j op. keeps j (w.node j) (accepted c w e j) e.words op in
    record {
      held = λ i op h. ⊎_elim
          (λ k. subst (λ j. IsIn op ((happens c w e).node j).ops)
          (sym (own_ops i (w.node i) (accepted c w e i) e.words op k)) h)
          (⊎_elim (λ k. grows (writer_of op) op (delivered_from c w e i (λ o. IsIn o (w.node (writer_of o)).ops) allowed
          known.sent op k)) (λ k. grows (writer_of op) op (known.held i op k)))
          (gains i (w.node i) (accepted c w e i) e.words op h);
      sent = λ m h op k. ⊎_elim
          (λ l. grows (writer_of op) op (known.sent m l op k))
          (λ l. grows (writer_of op) op (known.held e.node op (sent_was_held c w e e.node allowed m l op k)))
          (IsIn-append_cases m _ _ h);
    }

pub known : (c : Cluster) (es : List Event) → IsSchedule c es → IsKnown (world c es)
known c [] s = record { held = λ i op h. absurd h; sent = λ m h op k. absurd h }
known c (e ∷ es) s = known_after c (world c es) e (known c es s.1) s.0
