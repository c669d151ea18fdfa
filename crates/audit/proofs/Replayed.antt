-- How many entries are replayed, and where all are legal.
use Rattle.std.proofs.Common.{◌≡◌, inl, inr, ℕ, zero, suc, ◌+◌, ◌<◌, ◌≤◌, List, [], ◌∷◌, length, map, take, Some, refl, sym, subst, arith, slice_get}
use Rattle.std.proofs.lemmas.Bool.Decides.{leb_tells}
use Rattle.node_steps.specs.declared.config.Config.{Config}
use Rattle.node_calls.specs.Told.{Told}
use Rattle.node_calls.specs.Asks.{Call, call_from}
use Rattle.node_steps.specs.Nodes.{start}
use Rattle.node_core.specs.Resumed.{IsLegalAlone, IsLegalKept}
use Rattle.node_core.specs.Traces.{IsLegal, Kept}
use Rattle.node_core.proofs.LegalTraces.{legal_prefix, nothing_legal}
use Rattle.node_core.proofs.Repeated.{alone, take_map}
use Rattle.cluster_model.specs.Worlds.{config_of}
use Rattle.audit.specs.Traces.{Traces, trace_of, audited, AllLegal}
use Rattle.audit.proofs.LegalCalls.{legal_short}
use Rattle.audit.proofs.Runs.{trace_past}

pub legal_begins : (nodes n : ℕ) (es : List Told) (k : ℕ) → IsLegalAlone (config_of (audited nodes) n) es →
    IsLegalAlone (config_of (audited nodes) n) (take k es)
legal_begins nodes n es k legal =
    subst (λ t. IsLegal (config_of (audited nodes) n) t) (take_map (call_from nodes) es k)
    (legal_prefix (config_of (audited nodes) n) 0 start (map (call_from nodes) es) k legal)

length_taken : (f : Told → Call) (xs : List Told) (k : ℕ) (x : Told) → slice_get xs k ≡ Some x →
    length (map f (take k xs)) ≡ k
length_taken f [] k x is = absurd (cc is)
length_taken f (y ∷ ys) zero x is = refl
length_taken f (y ∷ ys) (suc k) x is = let rest = length_taken f ys k x is in omega (arith, rest)

-- the index of an entry that comes after a legal trace is no more than the node accepts
pub index_small : (config : Config) (es : List Told) (k : ℕ) (e : Told) (core : Kept) →
    core ≡ alone config (take k es) → slice_get es k ≡ Some e → IsLegalKept core → k ≤ config.trace_cap
index_small config es k e core so_far is legal =
    let short : 0 + length (map (call_from config.nodes) (take k es)) ≤ config.trace_cap =
    legal_short config 0 start (map (call_from config.nodes) (take k es)) (subst IsLegalKept so_far legal)
    (omega arith) in
    let long = length_taken (call_from config.nodes) es k e is in
    omega (arith, short, long)

-- where each node's trace is legal, so is each past the nodes
pub legal_everywhere : (nodes : ℕ) (traces : Traces) → ((n : ℕ) → n < length traces →
    IsLegalAlone (config_of (audited nodes) n) (trace_of traces n)) → AllLegal nodes traces
legal_everywhere nodes traces legal n = elim (leb_tells (length traces) n) [
  | inl w ↦ subst (λ es. IsLegalAlone (config_of (audited nodes) n) es) (sym (trace_past traces n w.1))
      (nothing_legal (config_of (audited nodes) n))
  | inr w ↦ legal n w.1
]
