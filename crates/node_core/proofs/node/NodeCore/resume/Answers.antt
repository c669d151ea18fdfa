use Rattle.std.proofs.Common.{◌≡◌, ◌+◌, ◌≤◌, length, true, false, sym, ◌∙◌, ap, subst, arith}
use Rattle.std.specs.Prelude.{option_map}
use Rattle.std.specs.Bool.{OnTrue}
use Rattle.std.proofs.lemmas.Option.{slice_get_within}
use Rattle.node_calls.specs.Asks.{call_from}
use Rattle.packed_trace.specs.Packed.{seen_told}
use Rattle.node_steps.specs.Nodes.{max_trace_cap}
use Rattle.node_core.specs.Resumed.{IsFirstWrong, IsLegalKept}
use Rattle.node_core.specs.Traces.{Kept, kept_of, with_call}
use Rattle.node_core.proofs.LegalTraces.{nothing_legal}
use Rattle.node_core.proofs.Repeated.{alone, first_wrong_at, legal_next, next_parts, replayed_more, take_past, taken_length, whole_legal}
use Rattle.node_core.proofs.node.NodeCore.resume.Goals as goal

pub loop-told-init : goal.loop-told-init
loop-told-init c = record {
  legal = subst IsLegalKept (sym c.in-Ok.ensures.ok) (nothing_legal c.args.config);
  node = c.in-Ok.ensures.ok;
}

pub loop-told-preserved : goal.loop-told-preserved
loop-told-preserved c =
    let is = sym c.at.ensures ∙ ap (option_map seen_told) c.in-Some.is in
    let call = call_from c.loop-told.node.config.nodes (seen_told c.in-Some.told) in
    let made = subst (λ b. OnTrue b (c.repeat.new.self ≡ with_call c.loop-told.node call)) c.in-Ok-true.field-0-test
    c.in-Ok-true.ensures.made in
    let next = c.in-Ok-true.ensures.given.0 c.in-Ok-true.field-0-test in
    record {
      legal = subst IsLegalKept (sym made) (legal_next c.loop-told.node call c.loop-told.invariant.legal next);
      node = replayed_more c.args.config c.args.calls.now.calls c.loop-told.index (seen_told c.in-Some.told)
          c.loop-told.node c.repeat.new.self c.loop-told.invariant.node is made;
    }

pub loop-told-smaller : goal.loop-told-smaller
loop-told-smaller c =
    let is = sym c.at.ensures ∙ ap (option_map seen_told) c.in-Some.is in
    let inside = slice_get_within c.args.calls.now.calls c.loop-told.index (seen_told c.in-Some.told) is in
    omega (arith, inside)

pub overflow_add-index : goal.overflow_add-index
overflow_add-index c =
    let is = sym c.at.ensures ∙ ap (option_map seen_told) c.in-Some.is in
    let call = call_from c.loop-told.node.config.nodes (seen_told c.in-Some.told) in
    let made = subst (λ b. OnTrue b (c.repeat.new.self ≡ with_call c.loop-told.node call)) c.in-Ok-true.field-0-test
    c.in-Ok-true.ensures.made in
    let node = replayed_more c.args.config c.args.calls.now.calls c.loop-told.index (seen_told c.in-Some.told)
    c.loop-told.node c.repeat.new.self c.loop-told.invariant.node is made in
    let kept : Kept = kept_of c.node.inside.config c.node.inside.history.calls in
    let capped : length kept.trace ≤ kept.config.trace_cap = c.node.invariant.0.0.capped in
    let small : kept.config.trace_cap ≤ max_trace_cap = c.node.invariant.0.0.small in
    let long : length kept.trace ≡ c.loop-told.index + 1 = ap (λ (n : Kept). length n.trace) (c.node.view_is ∙ node) ∙
    taken_length c.args.config c.args.calls.now.calls c.loop-told.index (seen_told c.in-Some.told) is in
    omega (arith, capped, small, long)

pub returns-in-Ok-false-clause-differs : goal.returns-in-Ok-false-clause-differs
returns-in-Ok-false-clause-differs c = λ index is_index.
    let is = sym c.at.ensures ∙ ap (option_map seen_told) c.in-Some.is in
    let same : c.loop-told.index ≡ index = cc is_index in
    let call = call_from c.loop-told.node.config.nodes (seen_told c.in-Some.told) in
    subst (λ i. IsFirstWrong c.args.config c.args.calls.now.calls i) same
    (first_wrong_at c.args.config c.args.calls.now.calls c.loop-told.index (seen_told c.in-Some.told) c.loop-told.node
    c.loop-told.invariant.node is c.loop-told.invariant.legal
    (λ legal. let next = next_parts c.loop-told.node call legal in
    let clash : true ≡ false = sym (c.in-Ok-false.ensures.given.1 next) ∙ c.in-Ok-false.field-0-test in
    cc))

pub returns-clause-ok : goal.returns-clause-ok
returns-clause-ok c =
    let none = sym c.at.ensures ∙ ap (option_map seen_told) c.in_default-at.is in
    c.loop-told.invariant.node ∙ ap (alone c.args.config) (take_past c.args.calls.now.calls c.loop-told.index none)

pub returns-clause-legal : goal.returns-clause-legal
returns-clause-legal c =
    let none = sym c.at.ensures ∙ ap (option_map seen_told) c.in_default-at.is in
    whole_legal c.args.config c.args.calls.now.calls c.loop-told.index c.loop-told.node c.loop-told.invariant.node
    (take_past c.args.calls.now.calls c.loop-told.index none) c.loop-told.invariant.legal
