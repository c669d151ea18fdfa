use Rattle.std.proofs.Common.{[], ℕ, List, ap, inr, sym, subst, ◌∙◌}
use Rattle.node_calls.specs.Asks.{Remove}
use Rattle.node_steps.specs.Refusals.{key_refusal}
use Rattle.node_core.specs.Room.{HasPlace}
use Rattle.node_core.specs.Traces.{IsRefusalOf, node_of}
use Rattle.node_core.proofs.NamedRefusals.{passed_on, trace_refused, name_refused, remove_later, remove_fits}
use Rattle.node_core.proofs.node.NodeCore.remove_checked.Goals as goal

pub returns-in_err-check_trace-clause-refused : goal.returns-in_err-check_trace-clause-refused
returns-in_err-check_trace-clause-refused c =
    passed_on (IsRefusalOf c.args.self.now (Remove c.args.name.now) []) _ _ c.from_residual.ensures.0
    c.from_residual.ensures.1
    (trace_refused c.args.self.now _ _ c.in_err-check_trace.ensures.full)

pub returns-in_err-point-clause-refused : goal.returns-in_err-point-clause-refused
returns-in_err-point-clause-refused c =
    passed_on (IsRefusalOf c.args.self.now (Remove c.args.name.now) []) _ _ c.from_residual-in_err-point.ensures.0
    c.from_residual-in_err-point.ensures.1
    (name_refused c.args.self.now c.args.name.now _ _ c.in_ok-check_trace.ensures.ok c.in_err-point.ensures.refused)

pub returns-in_err-check_room-clause-refused : goal.returns-in_err-check_room-clause-refused
returns-in_err-check_room-clause-refused c =
    let named = c.in_ok-point.ensures.ok in
    passed_on (IsRefusalOf c.args.self.now (Remove c.args.name.now) []) _ _ c.from_residual-in_err-check_room.ensures.0
    c.from_residual-in_err-check_room.ensures.1
    (inr (remove_later c.args.self.now c.args.name.now c.in_ok-check_trace.ensures.ok named.0
    ∙ ap (λ (n : List ℕ). key_refusal (node_of c.args.self.now) n) (sym named.1) ∙ c.in_err-check_room.ensures.refused))

pub returns-clause-ok : goal.returns-clause-ok
returns-clause-ok c =
    let named = c.in_ok-point.ensures.ok in
    let room = c.in_ok-check_room.ensures.ok in (
      remove_fits c.args.self.now c.args.name.now c.in_ok-check_trace.ensures.ok named.0
          (subst (λ (n : List ℕ). HasPlace c.args.self.now n) named.1 room.0) room.1,
      named.1,
    )
