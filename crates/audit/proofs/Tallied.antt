-- What is noted of calls, call after call and node after node, is what a schedule of them tells.
use Rattle.std.proofs.Common.{◌≡◌, ℕ, zero, suc, ◌+◌, ◌<◌, ◌==◌, ◌&&◌, cond, Bool, true, false, List, [], ◌∷◌, ◌++◌, Option, Some, None, IsSome, refl, sym, ◌∙◌, ap, subst, arith, inl, inr, ⊎_elim, append_assoc}
use Rattle.std.proofs.lemmas.List.{append-nil}
use Rattle.std.proofs.lemmas.List.Sums.{sum_by-cons, sum_by-append}
use Rattle.std.proofs.lemmas.Bool.{eqb-true, eq-eqb, and_parts, and_from}
use Rattle.std.proofs.lemmas.Bool.Decides.{eqb_tells, leb_tells}
use Rattle.counters.specs.Sums.{sum_below}
use Rattle.stamp_register.specs.declared.key.Stamp.{Stamp}
use Rattle.stamp_register.specs.Keys.{KeyValue, stamp_of}
use Rattle.operations.specs.Operations.{Operation, Set, IsIn}
use Rattle.operations.proofs.Members.{IsIn-append_left, IsIn-append_right, IsIn-append_cases}
use Rattle.node_calls.specs.Asks.{Asked, Call, call}
use Rattle.node_calls.specs.Asks as asks
use Rattle.node_steps.specs.Nodes.{Node, start, state_shown}
use Rattle.node_core.specs.Steps.{after, reply}
use Rattle.node_core.specs.Traces.{replay_from}
use Rattle.cluster_model.specs.Worlds.{Cluster, Event, accepted, world, trace_after}
use Rattle.cluster_model.specs.Histories.{keys_by, keys_issued, IsIssued, acts, is_key, amount_granted, granted, all_granted, all_executions}
use Rattle.cluster_model.proofs.Replays.{node_is_replay}
use Rattle.cluster_model.specs.Schedules.{IsSchedule}
use Rattle.cluster_model.proofs.Steps.{asked_is}
use Rattle.cluster_model.proofs.Stamps.{under_issued, carried, stamp_is_one_key}
use Rattle.stamp_register.specs.Keys.{same_key}
use Rattle.stamp_register.proofs.KeyLemmas.{same_key-true, same_key-refl}
use Rattle.std.proofs.lemmas.Slice.Eq.{bytes_eq-Decides}
use Rattle.std.specs.Str.{bytes_eq}
use Rattle.audit.specs.declared.tally.Tally.{Tally}
use Rattle.audit.specs.declared.total.Total.{Total}
use Rattle.audit.specs.Sums.{is_term}
use Rattle.audit.specs.Counts.{count_kept}
use Rattle.audit.specs.Totals.{IsTotal, AreTotals, IsTotalIn, AreTotalsIn}
use Rattle.audit.specs.Traces.{Traces, audited}
use Rattle.audit.specs.Tallies.{keys_from, amount_under, granted_by, granted_from, executed_in, calls_of, keys_below, granted_below, executed_below, IsTallied}

-- ---- one call more

pub keys_more : (i : ℕ) (n : Node) (cs : List Call) (c : Call) →
    keys_from i n (cs ++ c ∷ []) ≡ keys_from i n cs ++ keys_by i (replay_from i n cs) (Some c.ask)
unfolding replay_from
keys_more i n [] c = append-nil (keys_by i n (Some c.ask))
keys_more i n (d ∷ cs) c =
    ap (λ ks. keys_by i n (Some d.ask) ++ ks) (keys_more i (after i n d.ask d.words) cs c)
    ∙ sym (append_assoc (keys_by i n (Some d.ask)) (keys_from i (after i n d.ask d.words) cs) _)

pub granted_more : (i : ℕ) (n : Node) (cs : List Call) (c : Call) (stamp : Stamp) (term : ℕ) →
    granted_from i n (cs ++ c ∷ []) stamp term ≡ granted_from i n cs stamp term + granted_by (replay_from i n cs) c.ask
    stamp term
unfolding replay_from
granted_more i n [] c stamp term = omega arith
granted_more i n (d ∷ cs) c stamp term = let rest = granted_more i (after i n d.ask d.words) cs c stamp term in
    omega (arith, rest)

pub executed_more : (cs : List Call) (c : Call) (stamp : Stamp) (term : ℕ) →
    executed_in (cs ++ c ∷ []) stamp term ≡ executed_in cs stamp term + cond (acts stamp term c.reply) 1 0
executed_more cs c stamp term =
    let whole = sum_by-append (λ (d : Call). cond (acts stamp term d.reply) 1 0) cs (c ∷ []) in
    let one = sum_by-cons (λ (d : Call). cond (acts stamp term d.reply) 1 0) c [] in
    omega (arith, whole, one)

-- ---- from a list of events to the calls of each node

trace_keys : (c : Cluster) (es : List Event) (e : Event) (i : ℕ) →
    keys_from i start ((world c (e ∷ es)).trace i) ≡ keys_from i start ((world c es).trace i) ++
    keys_by i ((world c es).node i) (accepted c (world c es) e i)
trace_keys c es e i = at (accepted c (world c es) e i)
  where
    at : (a : Option Asked) → keys_from i start (trace_after i ((world c es).node i) ((world c es).trace i) a e.words) ≡
        keys_from i start ((world c es).trace i) ++ keys_by i ((world c es).node i) a
    at None = sym (append-nil (keys_from i start ((world c es).trace i)))
    at (Some ask) =
        keys_more i start ((world c es).trace i) (record {
          ask = ask;
          words = e.words;
          reply =
              reply i ((world c es).node i) ask e.words;
        })
        ∙ ap (λ n. keys_from i start ((world c es).trace i) ++ keys_by i n (Some ask)) (sym (node_is_replay c es i))

record IsKeyAt (c : Cluster) (es : List Event) (op : Operation) : Type 0 where
  i : ℕ
  below : i < c.nodes
  held : IsIn op (keys_from i start ((world c es).trace i))

key_at : (c : Cluster) (es : List Event) (op : Operation) → IsIn op (keys_issued c es) → IsKeyAt c es op
key_at c [] op h = absurd h
key_at c (e ∷ es) op h = ⊎_elim now (λ k. before (key_at c es op k))
    (IsIn-append_cases op (keys_by e.node ((world c es).node e.node) (accepted c (world c es) e e.node))
    (keys_issued c es) h)
  where
    there : (i : ℕ) → IsIn op (keys_from i start ((world c es).trace i) ++
        keys_by i ((world c es).node i) (accepted c (world c es) e i)) →
        IsIn op (keys_from i start ((world c (e ∷ es)).trace i))
    there i k = subst (λ ks. IsIn op ks) (sym (trace_keys c es e i)) k

    is_node : (a : Option Asked) → accepted c (world c es) e e.node ≡ a →
        IsIn op (keys_by e.node ((world c es).node e.node) a) → e.node < c.nodes
    is_node None p k = absurd k
    is_node (Some ask) p k = (asked_is c (world c es) e e.node ask p).below

    now : IsIn op (keys_by e.node ((world c es).node e.node) (accepted c (world c es) e e.node)) → IsKeyAt c (e ∷ es) op
    now k = record {
      i = e.node;
      below = is_node (accepted c (world c es) e e.node) refl k;
      held = there e.node (IsIn-append_right op (keys_from e.node start ((world c es).trace e.node)) _ k);
    }

    before : IsKeyAt c es op → IsKeyAt c (e ∷ es) op
    before at =
        record {
          i = at.i;
          below = at.below;
          held = there at.i
              (IsIn-append_left op _ (keys_by at.i ((world c es).node at.i) (accepted c (world c es) e at.i)) at.held);
        }

key_issued : (c : Cluster) (es : List Event) (i : ℕ) (op : Operation) →
    IsIn op (keys_from i start ((world c es).trace i)) → IsIn op (keys_issued c es)
key_issued c [] i op h = absurd h
key_issued c (e ∷ es) i op h = ⊎_elim (λ k. before (key_issued c es i op k)) now
    (IsIn-append_cases op (keys_from i start ((world c es).trace i))
    (keys_by i ((world c es).node i) (accepted c (world c es) e i)) (subst (λ ks. IsIn op ks) (trace_keys c es e i) h))
  where
    before : IsIn op (keys_issued c es) → IsIn op (keys_issued c (e ∷ es))
    before k = IsIn-append_right op (keys_by e.node ((world c es).node e.node) (accepted c (world c es) e e.node))
        (keys_issued c es) k

    is_node : (a : Option Asked) → accepted c (world c es) e i ≡ a → IsIn op (keys_by i ((world c es).node i) a) →
        i ≡ e.node
    is_node None p k = absurd k
    is_node (Some ask) p k = (asked_is c (world c es) e i ask p).here

    now : IsIn op (keys_by i ((world c es).node i) (accepted c (world c es) e i)) → IsIn op (keys_issued c (e ∷ es))
    now k =
        IsIn-append_left op (keys_by e.node ((world c es).node e.node) (accepted c (world c es) e e.node))
        (keys_issued c es)
        (subst (λ j. IsIn op (keys_by j ((world c es).node j) (accepted c (world c es) e j)))
        (is_node (accepted c (world c es) e i) refl k) k)

-- ---- grants

same_truth : (p q : Bool) → (p ≡ true → q ≡ true) → (q ≡ true → p ≡ true) → p ≡ q
same_truth true q f g = sym (f refl)
same_truth false true f g = g refl
same_truth false false f g = refl

and_false : (p q : Bool) → (p && (q && false)) ≡ false
and_false true true = refl
and_false true false = refl
and_false false q = refl

abbrev grant_asked : ℕ → Node → Option Asked → Stamp → ℕ → ℕ
grant_asked i n None stamp term = 0
grant_asked i n (Some ask) stamp term = granted_by n ask stamp term

trace_granted : (c : Cluster) (es : List Event) (e : Event) (i : ℕ) (stamp : Stamp) (term : ℕ) →
    granted_from i start ((world c (e ∷ es)).trace i) stamp term ≡ granted_from i start ((world c es).trace i) stamp
    term + grant_asked i ((world c es).node i) (accepted c (world c es) e i) stamp term
trace_granted c es e i stamp term = at (accepted c (world c es) e i)
  where
    at : (a : Option Asked) → granted_from i start (trace_after i ((world c es).node i) ((world c es).trace i) a
        e.words) stamp term ≡ granted_from i start ((world c es).trace i) stamp term + grant_asked i
        ((world c es).node i) a stamp term
    at None = omega arith
    at (Some ask) =
        granted_more i start ((world c es).trace i) (record {
          ask = ask;
          words = e.words;
          reply =
              reply i ((world c es).node i) ask e.words;
        }) stamp term
        ∙ ap (λ n. granted_from i start ((world c es).trace i) stamp term + granted_by n ask stamp term)
        (sym (node_is_replay c es i))

module _ (c : Cluster) (full : List Event) (name : List ℕ) (key : KeyValue) (term : ℕ)
    (issued : IsIssued c full name key) where
  -- a grant under a key that was issued is one under its stamp
  same_grant : (n : Node) (other : List ℕ) (k amount : ℕ) → ((held : KeyValue) → (state_shown n).key other ≡ Some held →
      IsIssued c full other held) →
      amount_granted n (Some (asks.Grant other k amount)) name key term ≡ granted_by n (asks.Grant other k amount)
      (stamp_of key) term
  same_grant n other k amount carried = at ((state_shown n).key other) carried
    where
      at : (o : Option KeyValue) → ((held : KeyValue) → o ≡ Some held → IsIssued c full other held) →
          cond (bytes_eq other name && (k == term && is_key key o)) amount 0 ≡ amount_under o k amount (stamp_of key)
          term
      at None f = ap {B = ℕ} (λ t. cond t amount 0) (and_false (bytes_eq other name) (k == term))
      at (Some held) f = ap {B = ℕ} (λ t. cond t amount 0) (same_truth _ _ to from)
        where
          to : (bytes_eq other name && (k == term && same_key held key)) ≡ true →
              is_term (stamp_of held) k (stamp_of key) term ≡ true
          to h =
              let both = and_parts (bytes_eq other name) _ h in
              let rest = and_parts (k == term) _ both.1 in
              let keys : held ≡ key = same_key-true held key rest.1 in
              subst (λ x. is_term (stamp_of x) k (stamp_of key) term ≡ true) (sym keys)
              (and_from (key.clock == key.clock) _ (eq-eqb key.clock key.clock refl)
              (and_from (key.node == key.node) _ (eq-eqb key.node key.node refl) rest.0))

          from : is_term (stamp_of held) k (stamp_of key) term ≡ true →
              (bytes_eq other name && (k == term && same_key held key)) ≡ true
          from h =
              let first = and_parts (held.clock == key.clock) _ h in
              let rest = and_parts (held.node == key.node) _ first.1 in
              let clock : held.clock ≡ key.clock = eqb-true held.clock key.clock first.0 in
              let node : held.node ≡ key.node = eqb-true held.node key.node rest.0 in
              let one = stamp_is_one_key c full other name held key (f held refl) issued
              (λ i. record { clock = clock i; node = node i }) in
              and_from (bytes_eq other name) _ ((bytes_eq-Decides other name).1 one.0)
              (and_from (k == term) _ rest.1 (subst (λ x. same_key held x ≡ true) one.1 (same_key-refl held)))

  same_amount : (n : Node) (i : ℕ) (a : Option Asked) → ((other : List ℕ) (held : KeyValue) →
      (state_shown n).key other ≡ Some held → IsIssued c full other held) →
      amount_granted n a name key term ≡ grant_asked i n a (stamp_of key) term
  same_amount n i None f = refl
  same_amount n i (Some (asks.Grant other k amount)) f = same_grant n other k amount (f other)
  same_amount n i (Some (asks.Set other text)) f = refl
  same_amount n i (Some (asks.Remove other)) f = refl
  same_amount n i (Some (asks.Load text)) f = refl
  same_amount n i (Some (asks.Pass other)) f = refl
  same_amount n i (Some (asks.Shift other k to amount)) f = refl
  same_amount n i (Some (asks.Emit to versions chosen)) f = refl
  same_amount n i (Some (asks.Deliver read)) f = refl

  granted_trace : (es : List Event) → IsSchedule c es → ((other : List ℕ) (held : KeyValue) → IsIssued c es other held →
      IsIssued c full other held) → (i : ℕ) →
      granted c es name key term i ≡ granted_from i start ((world c es).trace i) (stamp_of key) term
  granted_trace [] s sub i = refl
  granted_trace (e ∷ es) s sub i =
      let before = granted_trace es (s.1) (λ other held h. sub other held
      (IsIn-append_right (Set other held) (keys_by e.node ((world c es).node e.node)
      (accepted c (world c es) e e.node)) (keys_issued c es) h)) i in
      let now = same_amount ((world c es).node i) i (accepted c (world c es) e i)
      (λ other held h. sub other held (IsIn-append_right (Set other held)
      (keys_by e.node ((world c es).node e.node) (accepted c (world c es) e e.node)) (keys_issued c es)
      (under_issued c es (carried c es s.1) i other held h))) in
      let whole = trace_granted c es e i (stamp_of key) term in
      omega (arith, before, now, whole)

-- ---- over all nodes

same_sums : (n : ℕ) (f g : ℕ → ℕ) → ((i : ℕ) → f i ≡ g i) → sum_below n f ≡ sum_below n g
same_sums zero f g h = refl
same_sums (suc n) f g h = let first = h n in let rest = same_sums n f g h in omega (arith, first, rest)

in_below : (nodes : ℕ) (traces : Traces) (n i : ℕ) (op : Operation) → i < n →
    IsIn op (keys_from i start (calls_of nodes traces i)) → IsIn op (keys_below nodes traces n)
in_below nodes traces zero i op below h = absurd (omega (arith, below))
in_below nodes traces (suc n) i op below h = elim (eqb_tells i n) [
  | inl w ↦ IsIn-append_left op (keys_from n start (calls_of nodes traces n)) (keys_below nodes traces n)
      (subst (λ j. IsIn op (keys_from j start (calls_of nodes traces j))) w.1 h)
  | inr w ↦ (let other = w.1 in IsIn-append_right op (keys_from n start (calls_of nodes traces n))
      (keys_below nodes traces n) (in_below nodes traces n i op (below_other i n below other) h))
]
  where
    below_other : (i n : ℕ) → i < suc n → (i ≡ n → ⊥) → i < n
    below_other i n h ne = elim (leb_tells n i) [
      | inl w ↦ absurd (ne (omega (arith, h, w.1)))
      | inr w ↦ w.1
    ]

from_below : (nodes : ℕ) (traces : Traces) (n : ℕ) (op : Operation) → IsIn op (keys_below nodes traces n) →
    (i : ℕ) × IsIn op (keys_from i start (calls_of nodes traces i))
from_below nodes traces zero op h = absurd h
from_below nodes traces (suc n) op h = ⊎_elim (λ k. (n, k)) (λ k. from_below nodes traces n op k)
    (IsIn-append_cases op (keys_from n start (calls_of nodes traces n)) (keys_below nodes traces n) h)

-- ---- the totals of a tally are those of a schedule that fits

some_of : (o : Option ℕ) → IsSome o → (v : ℕ) × (o ≡ Some v)
some_of None h = absurd (let impossible : false ≡ true = h in cc)
some_of (Some v) h = (v, refl)

module _ (nodes : ℕ) (traces : Traces) (tally : Tally) (totals : List Total)
    (tallied : IsTallied tally nodes traces nodes) (made : AreTotalsIn tally totals)
    (es : List Event) (schedule : IsSchedule (audited nodes) es)
    (told : (i : ℕ) → (world (audited nodes) es).trace i ≡ calls_of nodes traces i) where
  abbrev c : Cluster
  c = audited nodes

  issued_of : (op : Operation) → IsIn op (keys_below nodes traces nodes) → IsIn op (keys_issued c es)
  issued_of op h =
      let at = from_below nodes traces nodes op h in
      key_issued c es at.0 op (subst (λ calls. IsIn op (keys_from at.0 start calls)) (sym (told at.0)) at.1)

  kept_of : (op : Operation) → IsIn op (keys_issued c es) → IsIn op (keys_below nodes traces nodes)
  kept_of op h =
      let at = key_at c es op h in
      in_below nodes traces nodes at.i op at.below (subst (λ calls. IsIn op (keys_from at.i start calls)) (told at.i)
      at.held)

  granted_is : (name : List ℕ) (key : KeyValue) (term : ℕ) → IsIssued c es name key →
      granted_below nodes traces nodes (stamp_of key) term ≡ all_granted c es name key term
  granted_is name key term issued = same_sums nodes _ _ (λ i.
      ap (λ calls. granted_from i start calls (stamp_of key) term) (sym (told i)) ∙
      sym (granted_trace c es name key term issued es schedule (λ other held h. h) i))

  executed_is : (stamp : Stamp) (term : ℕ) → executed_below nodes traces nodes stamp term ≡ all_executions c es stamp
      term
  executed_is stamp term = same_sums nodes _ _ (λ i. ap (λ calls. executed_in calls stamp term) (sym (told i)))

  is_total : (t : Total) → IsTotalIn tally t → IsTotal c es t
  is_total t in_tally =
      let counted = tallied.keys.sound t.name t.stamp t.term t.count in_tally.counted in
      let issued : IsIssued c es t.name counted.key = issued_of (Set t.name counted.key) counted.set in
      record {
        key = counted.key;
        issued = issued;
        stamped = counted.stamped;
        counted = counted.counted;
        granted = in_tally.granted ∙ tallied.granted t.stamp t.term ∙
            ap (λ s. granted_below nodes traces nodes s t.term) (sym counted.stamped) ∙
            granted_is t.name counted.key t.term issued;
        executed = in_tally.executed ∙ tallied.executed t.stamp t.term ∙ executed_is t.stamp t.term;
      }

  pub totals_told : AreTotals c es totals
  totals_told = record {
    each = λ place t there. is_total t (made.each place t there);
    all = λ name key term count issued counted.
        let some = tallied.keys.whole name (stamp_of key) term count
        (record { key = key; set = kept_of (Set name key) issued; stamped = refl; counted = counted }) in
        let value = some_of (count_kept tally.counts name (stamp_of key) term) some in
        made.all name (stamp_of key) term value.0 value.1;
    ascend = made.ascend;
  }
