-- Each node is what its trace comes to, each event is a call of its node, and a delivery gives the least state above
-- both.
use Rattle.std.proofs.Common.{◌≡◌, ◌≢◌, ℕ, ◌+◌, ◌<◌, ◌≤◌, cond, arith, List, [], ◌∷◌, ◌++◌, length, refl, sym, ◌∙◌, ap, subst, Option, Some, None, Ok}
use Rattle.std.proofs.lemmas.Bool.{and_from, eq-eqb, lt-ltb}
use Rattle.std.proofs.lemmas.List.{append-nil}
use Rattle.std.specs.Prelude.{is_none}
use Rattle.operations.specs.Operations.{Operation}
use Rattle.replica_state.specs.States.{State}
use Rattle.replica_state.specs.Folds.{fold}
use Rattle.replica_state.specs.StateOrder.{IsBelow}
use Rattle.replica_state.proofs.KnownSets.{union_least, union_above_left, union_above_right}
use Rattle.node_steps.specs.declared.config.Config.{Config}
use Rattle.node_calls.specs.declared.fault.NodeFault.{NodeFault}
use Rattle.node_calls.specs.Asks.{Asked, Message, Call}
use Rattle.node_calls.specs.Asks as asks
use Rattle.node_steps.specs.Nodes.{Node, start}
use Rattle.node_core.specs.Steps.{after, reply}
use Rattle.node_core.specs.Traces.{Kept, replay, replay_from, SendsDelta, IsLegal}
use Rattle.node_core.proofs.TraceLemmas.{replay_more}
use Rattle.node_core.proofs.LegalTraces.{legal_more, nothing_legal}
use Rattle.node_steps.specs.Refusals.{refusal_at}
use Rattle.cluster_model.specs.Worlds.{Cluster, World, Event, config_of, accepted, node_after, trace_after, sent, world}
use Rattle.cluster_model.specs.Schedules.{AllowsDelta, IsDeltaSchedule}
use Rattle.cluster_model.specs.Histories.{state_of}
use Rattle.cluster_model.specs.Laws.{IsCall, IsLeastAboveBoth}
use Rattle.cluster_model.proofs.Steps.{asked_is}

step_replayed : (i : ℕ) (n : Node) (trace : List Call) (a : Option Asked) (words : List ℕ) → n ≡ replay i trace →
    node_after i n a words ≡ replay i (trace_after i n trace a words)
step_replayed i n trace None words e = e
step_replayed i n trace (Some ask) words e =
    ap (λ (m : Node). after i m ask words) e ∙ sym (replay_more i start trace
    (record { ask = ask; words = words; reply = reply i n ask words }))

nothing_replayed : (i : ℕ) → start ≡ replay i []
unfolding replay_from
nothing_replayed i = refl

pub node_is_replay : (c : Cluster) (es : List Event) (i : ℕ) → (world c es).node i ≡ replay i ((world c es).trace i)
node_is_replay c [] i = nothing_replayed i
node_is_replay c (e ∷ es) i = step_replayed i ((world c es).node i) ((world c es).trace i) (accepted c (world c es) e i)
    e.words (node_is_replay c es i)

-- ---- an event

-- where nothing is accepted, nothing happens
not_asked : (c : Cluster) (w : World) (e : Event) (i : ℕ) → i ≢ e.node → accepted c w e i ≡ None
not_asked c w e i ne = at (accepted c w e i) refl
  where
    at : (a : Option Asked) → accepted c w e i ≡ a → accepted c w e i ≡ None
    at None p = p
    at (Some ask) p = absurd (ne (asked_is c w e i ask p).here)

not_agreed : (c : Cluster) (w : World) (e : Event) (fault : NodeFault) →
    refusal_at (config_of c e.node) (length (w.trace e.node)) (w.node e.node) e.ask e.words ≡ Some fault → (i : ℕ) →
    accepted c w e i ≡ None
not_agreed c w e fault h i = at (accepted c w e i) refl
  where
    at : (a : Option Asked) → accepted c w e i ≡ a → accepted c w e i ≡ None
    at None p = p
    at (Some ask) p =
        let is = asked_is c w e i ask p in
        let agreed : refusal_at (config_of c e.node) (length (w.trace e.node)) (w.node e.node) e.ask e.words ≡ None =
        subst (λ j. refusal_at (config_of c j) (length (w.trace j)) (w.node j) e.ask e.words ≡ None) is.here
        (subst (λ (a : Asked). refusal_at (config_of c i) (length (w.trace i)) (w.node i) a e.words ≡ None) (sym is.of)
        is.agreed) in
        absurd (let impossible : ◌≡◌ {A = Option NodeFault} None (Some fault) = sym agreed ∙ h in cc)

no_node : (c : Cluster) (w : World) (e : Event) → c.nodes ≤ e.node → (i : ℕ) → accepted c w e i ≡ None
no_node c w e high i = at (accepted c w e i) refl
  where
    at : (a : Option Asked) → accepted c w e i ≡ a → accepted c w e i ≡ None
    at None p = p
    at (Some ask) p =
        let is = asked_is c w e i ask p in
        let low = is.below in
        let here = is.here in
        absurd (omega (arith, low, here, high))

pub is_agreed : (c : Cluster) (w : World) (e : Event) → e.node < c.nodes →
    refusal_at (config_of c e.node) (length (w.trace e.node)) (w.node e.node) e.ask e.words ≡ None →
    accepted c w e e.node ≡ Some e.ask
is_agreed c w e low h = ap (λ b. cond b (Some e.ask) None) (and_from _ _ (lt-ltb e.node c.nodes low)
    (and_from _ _ (eq-eqb e.node e.node refl) (ap is_none h)))

abbrev kept_with : Config → List Call → Kept
kept_with config trace = record { config = config; trace = trace; from = 0 }

pub event_is_call : (c : Cluster) (es : List Event) (e : Event) → IsCall c es e
event_is_call c es e =
    record {
      accepted = λ low h. ap (kept_with (config_of c e.node)) (grown (is_agreed c w e low (unreplayed None h)));
      refused = λ fault h. nothing_happens (not_agreed c w e fault (unreplayed (Some fault) h));
      absent = λ high. nothing_happens (no_node c w e high);
      others = λ i ne r. record {
        config = config_of c i;
        trace =
            trace_after i (w.node i) (w.trace i) (not_asked c w e i ne r) e.words;
        from = 0;
      };
    }
  where
    w : World
    w = world c es

    now : w.node e.node ≡ replay e.node (w.trace e.node)
    now = node_is_replay c es e.node

    unreplayed : (o : Option NodeFault) → refusal_at (config_of c e.node) (length (w.trace e.node))
        (replay e.node (w.trace e.node)) e.ask e.words ≡ o →
        refusal_at (config_of c e.node) (length (w.trace e.node)) (w.node e.node) e.ask e.words ≡ o
    unreplayed o h = ap (λ (n : Node). refusal_at (config_of c e.node) (length (w.trace e.node)) n e.ask e.words) now ∙
        h

    grown : accepted c w e e.node ≡ Some e.ask →
        trace_after e.node (w.node e.node) (w.trace e.node) (accepted c w e e.node) e.words ≡ trace_after e.node
        (replay e.node (w.trace e.node)) (w.trace e.node) (Some e.ask) e.words
    grown p =
        ap (λ (a : Option Asked). trace_after e.node (w.node e.node) (w.trace e.node) a e.words) p
        ∙ ap (λ (n : Node). trace_after e.node n (w.trace e.node) (Some e.ask) e.words) now

    no_more : w.messages ++ [] ≡ w.messages
    no_more = append-nil w.messages

    nothing_happens : ((i : ℕ) → accepted c w e i ≡ None) → world c (e ∷ es) ≡ w
    nothing_happens none =
        (λ r. record {
          node = λ i. node_after i (w.node i) (none i r) e.words;
          trace = λ i. trace_after i (w.node i) (w.trace i) (none i r) e.words;
          messages = w.messages ++ sent e.node (w.node e.node) (none e.node r);
        })
        ∙ (λ r. record { node = w.node; trace = w.trace; messages = no_more r })

-- ---- legal traces

pub sends_delta : (c : Cluster) (w : World) (e : Event) (i : ℕ) (ask : Asked) →
    AllowsDelta w e.node (accepted c w e e.node) → accepted c w e i ≡ Some ask → SendsDelta (w.node i) ask
sends_delta c w e i ask allowed h =
    let here = (asked_is c w e i ask h).here in
    of ask (subst (λ (a : Option Asked). AllowsDelta w i a) h
    (subst (λ j. AllowsDelta w j (accepted c w e j)) (sym here) allowed))
  where
    of : (a : Asked) → AllowsDelta w i (Some a) → SendsDelta (w.node i) a
    of (asks.Emit to versions chosen) k = k
    of a k = tt

pub traces_are_legal : (c : Cluster) (es : List Event) → IsDeltaSchedule c es → (i : ℕ) →
    IsLegal (config_of c i) ((world c es).trace i)
traces_are_legal c [] s i = nothing_legal (config_of c i)
traces_are_legal c (e ∷ es) s i = at (traces_are_legal c es s.1 i) (accepted c (world c es) e i) refl
  where
    w : World
    w = world c es

    now : w.node i ≡ replay i (w.trace i)
    now = node_is_replay c es i

    at : IsLegal (config_of c i) (w.trace i) → (a : Option Asked) → accepted c w e i ≡ a →
        IsLegal (config_of c i) (trace_after i (w.node i) (w.trace i) a e.words)
    at before None p = before
    at before (Some ask) p =
        let agreed = subst (λ (n : Node). refusal_at (config_of c i) (length (w.trace i)) n ask e.words ≡ None) now
        (asked_is c w e i ask p).agreed in
        let from_0 : length (w.trace i) ≡ 0 + length (w.trace i) = omega arith in
        let sends = subst (λ (n : Node). SendsDelta n ask) now (sends_delta c w e i ask s.0 p) in
        subst (λ (n : Node). IsLegal (config_of c i) (trace_after i n (w.trace i) (Some ask) e.words)) (sym now)
        (legal_more (config_of c i) 0 start (w.trace i) ask e.words before
        (subst (λ k. refusal_at (config_of c i) k (replay i (w.trace i)) ask e.words ≡ None) from_0 agreed) sends)

-- ---- a delivery

after_delivery : (i : ℕ) (n : Node) (m : Message) (words : List ℕ) →
    (node_after i n (Some (asks.Deliver (Ok m))) words).ops ≡ m.ops ++ n.ops
unfolding after
after_delivery i n m words = refl

pub delivery_is_least : (c : Cluster) (es : List Event) (e : Event) (i : ℕ) (m : Message) →
    accepted c (world c es) e i ≡ Some (asks.Deliver (Ok m)) → IsLeastAboveBoth c es e i m
delivery_is_least c es e i m h =
    record {
      own = subst (λ (v : State). IsBelow (state_of c es i) v) (sym now) (union_above_right m.ops own);
      came = subst (λ (v : State). IsBelow (fold m.ops) v) (sym now) (union_above_left m.ops own);
      least = λ ops p q. subst (λ (v : State). IsBelow v (fold ops)) (sym now) (union_least m.ops own ops q p);
    }
  where
    own : List Operation
    own = ((world c es).node i).ops

    now : state_of c (e ∷ es) i ≡ fold (m.ops ++ own)
    now = ap (λ (a : Option Asked). fold (node_after i ((world c es).node i) a e.words).ops) h ∙
        ap fold (after_delivery i ((world c es).node i) m e.words)
