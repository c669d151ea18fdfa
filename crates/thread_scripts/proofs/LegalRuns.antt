-- The traces of a plan are legal for an audit, which allows more calls.
use Rattle.std.proofs.Common.{◌≡◌, ℕ, zero, suc, ◌+◌, ◌-◌, ◌<◌, ◌≤◌, ◌^◌, [], ◌∷◌, length, map, subst, arith}
use Rattle.node_steps.specs.declared.config.Config.{Config}
use Rattle.node_calls.specs.Asks.{call_from}
use Rattle.packed_trace.specs.Packed.{Packed}
use Rattle.node_steps.specs.Nodes.{start}
use Rattle.node_core.proofs.LegalTraces.{nothing_legal}
use Rattle.audit.specs.Traces.{Traces, trace_of}
use Rattle.node_core.specs.Resumed.{IsLegalAlone}
use Rattle.audit.proofs.LegalCalls.{legal_short, legal_wider}
use Rattle.audit.proofs.Replayed.{legal_begins}
use Rattle.thread_plans.specs.Plans.{PlanValue}
use Rattle.thread_scripts.specs.Laws.{RepliesAreRight}
use Rattle.thread_scripts.specs.Plays.{AllFrom, IsTraceOf, config_at}

-- the configuration by which an audit goes
abbrev widest : PlanValue → ℕ → Config
widest plan n = record { node = n; nodes = plan.nodes; trace_cap = 2 ^ 32 - 1 }

module _ (plan : PlanValue) (small : plan.cap < 2 ^ 32) where
  legal_alone : (n : ℕ) (trace : Packed) → IsTraceOf (config_at plan n) plan.seed trace →
      IsLegalAlone (widest plan n) trace.calls
  legal_alone n trace h =
      let calls = map (call_from plan.nodes) trace.calls in
      let short : 0 + length calls ≤ plan.cap = legal_short (config_at plan n) 0 start calls h.legal (omega arith) in
      legal_wider plan.nodes n plan.cap (2 ^ 32 - 1) 0 start calls (omega arith) h.legal

  legal_at : (m : ℕ) (traces : Traces) → AllFrom (λ node trace. IsTraceOf (config_at plan node) plan.seed trace) m
      traces
      → (k : ℕ) → IsLegalAlone (widest plan (m + k)) (trace_of traces k)
  legal_at m [] h k = nothing_legal (widest plan (m + k))
  legal_at m (trace ∷ traces) h zero =
      let here : m ≡ m + 0 = omega arith in
      subst (λ n. IsLegalAlone (widest plan n) trace.calls) here (legal_alone m trace h.0)
  legal_at m (trace ∷ traces) h (suc k) =
      let there : m + 1 + k ≡ m + suc k = omega arith in
      subst (λ n. IsLegalAlone (widest plan n) (trace_of traces k)) there (legal_at (m + 1) traces h.1 k)

pub replies_are_right : RepliesAreRight
replies_are_right plan traces lists node index small h judged =
    let whole : IsLegalAlone (widest plan node) (trace_of traces node) =
    let none : 0 + node ≡ node = omega arith in
    subst (λ n. IsLegalAlone (widest plan n) (trace_of traces node)) none (legal_at plan small 0 traces h node) in
    judged.1.first.wrong (legal_begins plan.nodes node (trace_of traces node) (index + 1) whole)
