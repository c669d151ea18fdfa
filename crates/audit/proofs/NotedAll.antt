-- What is noted of a trace, and of all traces.
use Rattle.std.proofs.Common.{◌≡◌, ℕ, suc, ◌+◌, ◌-◌, ◌^◌, ◌<◌, ◌≤◌, cond, Bool, true, false, List, [], ◌∷◌, ◌++◌, length, map, take, Some, sym, ◌∙◌, ap, subst, arith, slice_get}
use Rattle.std.proofs.lemmas.List.{length-map, length-take-le, length-append, map-append, append-nil}
use Rattle.std.proofs.lemmas.List.Sums.{sum_by-cons}
use Rattle.std.specs.Map.{lookup}
use Rattle.stamp_register.specs.declared.key.Stamp.{Stamp}
use Rattle.node_steps.specs.declared.config.Config.{Config}
use Rattle.node_calls.specs.Told.{Told}
use Rattle.node_calls.specs.Asks.{Call, call_from}
use Rattle.node_steps.specs.Nodes.{Node, start}
use Rattle.node_core.specs.Traces.{Kept, node_of, replay_from}
use Rattle.cluster_model.specs.Histories.{keys_by, acts}
use Rattle.cluster_model.specs.Worlds.{config_of}
use Rattle.audit.specs.declared.counts.Counts.{Counts}
use Rattle.audit.specs.declared.tally.Tally.{Tally}
use Rattle.audit.specs.Sums.{sum_of}
use Rattle.audit.specs.Counts.{count_kept, AreCountsOf, AddsKeys}
use Rattle.audit.specs.Tallies.{keys_from, granted_by, executed_in, calls_of, Notes, IsTallied}
use Rattle.audit.specs.Traces.{Traces, trace_of, audited}
use Rattle.node_core.specs.Resumed.{IsLegalAlone}
use Rattle.audit.proofs.CountsKept.{adds_behind, adds_none}
use Rattle.std.proofs.lemmas.Option.{slice_get_within}
use Rattle.audit.proofs.LegalCalls.{legal_short}
use Rattle.node_core.proofs.Repeated.{alone, take_one_more}
use Rattle.audit.proofs.Tallied.{keys_more, granted_more, executed_more}

nothing_kept : {K X : Type 0} (test : K → Bool) (es : List (K × X)) (v : X) → es ≡ [] → lookup test es ≡ Some v → ⊥
nothing_kept test [] v h f = cc f
nothing_kept test (e ∷ es) v h f = cc h

pub counts_none : (counts : Counts) → counts.counts.entries ≡ [] → AreCountsOf counts []
unfolding count_kept
counts_none counts h = record {
  sound = λ name stamp term count f. absurd (nothing_kept _ counts.counts.entries count h f);
  whole = λ name stamp term count c. absurd c.set;
}

pub tallied_none : (t : Tally) → t.counts.counts.entries ≡ [] →
    ((stamp : Stamp) (term : ℕ) → sum_of t.granted stamp term ≡ 0) →
    ((stamp : Stamp) (term : ℕ) → sum_of t.executed stamp term ≡ 0) →
    (nodes : ℕ) (traces : Traces) → IsTallied t nodes traces 0
tallied_none t h g x nodes traces = record {
  keys = counts_none t.counts h;
  granted = g;
  executed = x;
  few_granted = λ stamp term. let none = g stamp term in omega (arith, none);
  few_executed = λ stamp term. let none = x stamp term in omega (arith, none);
}

-- one call
pub one_call : (old new : Tally) (i : ℕ) (n : Node) (c : Call) →
    AddsKeys old.counts new.counts (keys_by i n (Some c.ask)) →
    ((stamp : Stamp) (term : ℕ) → sum_of new.granted stamp term ≡ sum_of old.granted stamp term + granted_by n c.ask
    stamp term) →
    ((stamp : Stamp) (term : ℕ) → sum_of new.granted stamp term ≤ sum_of old.granted stamp term + 2 ^ 64) →
    ((stamp : Stamp) (term : ℕ) → sum_of new.executed stamp term ≡ sum_of old.executed stamp term + cond
    (acts stamp term c.reply) 1 0) →
    Notes old new i n (c ∷ [])
one_call old new i n c keys granted few executed = record {
  keys = subst (λ ks. AddsKeys old.counts new.counts ks) (sym (append-nil (keys_by i n (Some c.ask)))) keys;
  granted = λ stamp term. let is = granted stamp term in omega (arith, is);
  executed = λ stamp term. executed stamp term ∙ ap (λ m. sum_of old.executed stamp term + m) (one stamp term);
  few_granted = λ stamp term. let most = few stamp term in omega (arith, most);
  few_executed = λ stamp term. let is = executed stamp term in let most = at_most (acts stamp term c.reply) in
      omega (arith, is, most);
}
  where
    one : (stamp : Stamp) (term : ℕ) → cond (acts stamp term c.reply) 1 0 ≡ executed_in (c ∷ []) stamp term
    one stamp term = let is = sum_by-cons (λ (d : Call). cond (acts stamp term d.reply) 1 0) c [] in omega (arith, is)

    at_most : (b : Bool) → cond b 1 0 ≤ 1
    at_most true = omega arith
    at_most false = omega arith

pub notes_none : (t : Tally) (i : ℕ) (n : Node) → Notes t t i n []
notes_none t i n = record {
  keys = adds_none t.counts;
  granted = λ stamp term. omega arith;
  executed = λ stamp term. omega arith;
  few_granted = λ stamp term. omega arith;
  few_executed = λ stamp term. omega arith;
}

-- one call more
pub notes_more : (a b d : Tally) (i : ℕ) (cs : List Call) (c : Call) → Notes a b i start cs →
    Notes b d i (replay_from i start cs) (c ∷ []) → Notes a d i start (cs ++ c ∷ [])
notes_more a b d i cs c first next = record {
  keys = subst (λ ks. AddsKeys a.counts d.counts ks) (sym (keys_more i start cs c))
      (adds_behind a.counts b.counts d.counts (keys_from i start cs) (keys_by i (replay_from i start cs) (Some c.ask))
      first.keys
      (subst (λ ks. AddsKeys b.counts d.counts ks) (append-nil (keys_by i (replay_from i start cs) (Some c.ask)))
      next.keys));
  granted = λ stamp term. let f = first.granted stamp term in let g = next.granted stamp term in
      let h = granted_more i start cs c stamp term in omega (arith, f, g, h);
  executed = λ stamp term.
      let f = first.executed stamp term in let g = next.executed stamp term in
      let h = executed_more cs c stamp term in let one = sum_by-cons (λ (x : Call). cond (acts stamp term x.reply) 1 0)
      c [] in
      omega (arith, f, g, h, one);
  few_granted = λ stamp term. let f = first.few_granted stamp term in let g = next.few_granted stamp term in
      let h = length-append cs (c ∷ []) in omega (arith, f, g, h);
  few_executed = λ stamp term. let f = first.few_executed stamp term in let g = next.few_executed stamp term in
      let h = length-append cs (c ∷ []) in omega (arith, f, g, h);
}

-- one entry more of a trace
pub entry_noted : (a b d : Tally) (config : Config) (es : List Told) (j : ℕ) (e : Told) (core : Kept) →
    core ≡ alone config (take j es) → slice_get es j ≡ Some e →
    Notes a b config.node start (map (call_from config.nodes) (take j es)) →
    Notes b d core.config.node (node_of core) (call_from core.config.nodes e ∷ []) →
    Notes a d config.node start (map (call_from config.nodes) (take (j + 1) es))
entry_noted a b d config es j e core so_far there first next =
    let more : take (j + 1) es ≡ take j es ++ e ∷ [] = ap (λ n. take n es) (one_on j) ∙ take_one_more es j e there in
    subst (λ cs. Notes a d config.node start cs) (sym (ap (λ xs. map (call_from config.nodes) xs) more ∙
    map-append (call_from config.nodes) (take j es) (e ∷ [])))
    (notes_more a b d config.node (map (call_from config.nodes) (take j es)) (call_from config.nodes e) first
    (subst (λ (k : Kept). Notes b d k.config.node (node_of k) (call_from k.config.nodes e ∷ [])) so_far next))
  where
    one_on : (m : ℕ) → m + 1 ≡ suc m
    one_on m = omega arith

-- one node more
pub node_tallied : (old new : Tally) (nodes : ℕ) (traces : Traces) (i : ℕ) → length (trace_of traces i) < 2 ^ 32 →
    IsTallied old nodes traces i → Notes old new i start (calls_of nodes traces i) → IsTallied new nodes traces (i + 1)
node_tallied old new nodes traces i short t n = subst (λ j. IsTallied new nodes traces j) (one_on i) (record {
  keys = n.keys _ t.keys;
  granted = λ stamp term. let f = t.granted stamp term in let g = n.granted stamp term in omega (arith, f, g);
  executed = λ stamp term. let f = t.executed stamp term in let g = n.executed stamp term in omega (arith, f, g);
  few_granted = λ stamp term. let f = t.few_granted stamp term in let g = n.few_granted stamp term in
      omega (arith, f, g, many, short);
  few_executed = λ stamp term. let f = t.few_executed stamp term in let g = n.few_executed stamp term in
      omega (arith, f, g, many, short);
})
  where
    one_on : (m : ℕ) → suc m ≡ m + 1
    one_on m = omega arith

    many : length (calls_of nodes traces i) ≡ length (trace_of traces i)
    many = length-map (trace_of traces i) (call_from nodes)

pub calls_taken : (config : Config) (es : List Told) (j : ℕ) (e : Told) → slice_get es j ≡ Some e →
    length (map (call_from config.nodes) (take j es)) ≡ j
calls_taken config es j e is =
    let below : j < length es = slice_get_within es j e is in
    length-map (take j es) (call_from config.nodes) ∙ length-take-le j es (omega (arith, below))

pub one_short : (nodes : ℕ) (traces : Traces) (n : ℕ) → IsLegalAlone (config_of (audited nodes) n) (trace_of traces n) →
    length (trace_of traces n) < 2 ^ 32
one_short nodes traces n legal =
    let short : 0 + length (map (call_from nodes) (trace_of traces n)) ≤ 2 ^ 32 - 1 =
    legal_short (config_of (audited nodes) n) 0 start (map (call_from nodes) (trace_of traces n)) legal (omega arith) in
    let same : length (map (call_from nodes) (trace_of traces n)) ≡ length (trace_of traces n) =
    length-map (trace_of traces n) (call_from nodes) in
    omega (arith, short, same)
