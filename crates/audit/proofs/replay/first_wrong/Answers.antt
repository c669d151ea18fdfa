use Rattle.std.proofs.Common.{◌≡◌, List, true, false, map, sym, ◌∙◌, ap, subst, arith}
use Rattle.std.specs.Prelude.{option_map}
use Rattle.std.specs.Bool.{OnTrue}
use Rattle.std.proofs.lemmas.Option.{slice_get_within}
use Rattle.node_calls.specs.Told.{Told}
use Rattle.node_calls.specs.Asks.{call_from}
use Rattle.node_core.proofs.LegalTraces.{nothing_legal}
use Rattle.node_steps.specs.Nodes.{start}
use Rattle.packed_trace.specs.Packed.{seen_told}
use Rattle.node_core.specs.Resumed.{IsLegalKept}
use Rattle.node_core.specs.Traces.{with_call}
use Rattle.audit.specs.Tallies.{Notes}
use Rattle.audit.proofs.Replayed.{index_small}
use Rattle.node_core.proofs.Repeated.{first_wrong_at, legal_next, next_parts, replayed_more, take_past, whole_legal}
use Rattle.audit.proofs.NotedAll.{notes_none, entry_noted, calls_taken}
use Rattle.audit.proofs.replay.first_wrong.Goals as goal

pub loop-seen-init : goal.loop-seen-init
loop-seen-init c = record {
  legal = subst IsLegalKept (sym c.in_ok-core.ensures.ok) (nothing_legal c.args.config);
  noted = notes_none c.args.tally.now c.args.config.node start;
  core = c.in_ok-core.ensures.ok;
}

pub overflow_cast-result : goal.overflow_cast-result
overflow_cast-result c =
    let is = sym c.at.ensures ∙ ap (option_map seen_told) c.in-Some.is in
    let small = index_small c.args.config c.args.trace.now.calls c.loop-seen.index (seen_told c.in-Some.seen)
    c.loop-seen.core c.loop-seen.invariant.core is c.loop-seen.invariant.legal in
    omega (arith, small, c.requires.cap)

pub returns-then-not-branch-clause-wrong : goal.returns-then-not-branch-clause-wrong
returns-then-not-branch-clause-wrong c =
    let is = sym c.at.ensures ∙ ap (option_map seen_told) c.in-Some.is in
    first_wrong_at c.args.config c.args.trace.now.calls c.loop-seen.index (seen_told c.in-Some.seen) c.loop-seen.core
    c.loop-seen.invariant.core is c.loop-seen.invariant.legal
    (λ legal. let next = next_parts c.loop-seen.core
    (call_from c.loop-seen.core.config.nodes (seen_told c.in-Some.seen)) legal in
    let clash : true ≡ false = sym (c.in_ok-repeat.ensures.given.1 next) ∙ c.if-not-branch.true in
    cc)

pub loop-seen-preserved : goal.loop-seen-preserved
loop-seen-preserved c =
    let is = sym c.at.ensures ∙ ap (option_map seen_told) c.in-Some.is in
    let call = call_from c.loop-seen.core.config.nodes (seen_told c.in-Some.seen) in
    let made = subst (λ b. OnTrue b (c.repeat.new.self ≡ with_call c.loop-seen.core call)) c.if-not-branch.false
    c.in_ok-repeat.ensures.made in
    let next = c.in_ok-repeat.ensures.given.0 c.if-not-branch.false in
    let legal = subst IsLegalKept (sym made) (legal_next c.loop-seen.core call c.loop-seen.invariant.legal next) in
    record {
      legal = legal;
      noted = entry_noted c.args.tally.now c.loop-seen.tally c.note.new.self c.args.config c.args.trace.now.calls
          c.loop-seen.index (seen_told c.in-Some.seen) c.loop-seen.core c.loop-seen.invariant.core is
          c.loop-seen.invariant.noted
          (c.in_ok-note.ensures c.loop-seen.core (record { made = made; legal = legal }));
      core = replayed_more c.args.config c.args.trace.now.calls c.loop-seen.index (seen_told c.in-Some.seen)
          c.loop-seen.core c.repeat.new.self c.loop-seen.invariant.core is made;
    }

pub note-requires-clause-after : goal.note-requires-clause-after
note-requires-clause-after c =
    let call = call_from c.loop-seen.core.config.nodes (seen_told c.in-Some.seen) in
    let made = subst (λ b. OnTrue b (c.repeat.new.self ≡ with_call c.loop-seen.core call)) c.if-not-branch.false
    c.in_ok-repeat.ensures.made in
    let next = c.in_ok-repeat.ensures.given.0 c.if-not-branch.false in (
      c.loop-seen.core,
      record {
        made = made;
        legal = subst IsLegalKept (sym made) (legal_next c.loop-seen.core call c.loop-seen.invariant.legal next);
      },
    )

pub note-requires-clause-granted : goal.note-requires-clause-granted
note-requires-clause-granted c = λ stamp term.
    let is = sym c.at.ensures ∙ ap (option_map seen_told) c.in-Some.is in
    let small = index_small c.args.config c.args.trace.now.calls c.loop-seen.index (seen_told c.in-Some.seen)
    c.loop-seen.core c.loop-seen.invariant.core is c.loop-seen.invariant.legal in
    let many = calls_taken c.args.config c.args.trace.now.calls c.loop-seen.index (seen_told c.in-Some.seen) is in
    let more = c.loop-seen.invariant.noted.few_granted stamp term in
    let old = c.requires.granted stamp term in
    omega (arith, small, many, more, old, c.requires.cap)

pub note-requires-clause-executed : goal.note-requires-clause-executed
note-requires-clause-executed c = λ stamp term.
    let is = sym c.at.ensures ∙ ap (option_map seen_told) c.in-Some.is in
    let small = index_small c.args.config c.args.trace.now.calls c.loop-seen.index (seen_told c.in-Some.seen)
    c.loop-seen.core c.loop-seen.invariant.core is c.loop-seen.invariant.legal in
    let many = calls_taken c.args.config c.args.trace.now.calls c.loop-seen.index (seen_told c.in-Some.seen) is in
    let more = c.loop-seen.invariant.noted.few_executed stamp term in
    let old = c.requires.executed stamp term in
    omega (arith, small, many, more, old, c.requires.cap)

pub overflow_add-index : goal.overflow_add-index
overflow_add-index c =
    let is = sym c.at.ensures ∙ ap (option_map seen_told) c.in-Some.is in
    let small = index_small c.args.config c.args.trace.now.calls c.loop-seen.index (seen_told c.in-Some.seen)
    c.loop-seen.core c.loop-seen.invariant.core is c.loop-seen.invariant.legal in
    omega (arith, small, c.requires.cap)

pub loop-seen-smaller : goal.loop-seen-smaller
loop-seen-smaller c =
    let is = sym c.at.ensures ∙ ap (option_map seen_told) c.in-Some.is in
    let inside = slice_get_within c.args.trace.now.calls c.loop-seen.index (seen_told c.in-Some.seen) is in
    omega (arith, inside)

pub returns-clause-noted : goal.returns-clause-noted
returns-clause-noted c =
    let none = sym c.at.ensures ∙ ap (option_map seen_told) c.in_default.is in
    subst (λ (es : List Told). Notes c.args.tally.now c.loop-seen.tally c.args.config.node start
    (map (call_from c.args.config.nodes) es)) (take_past c.args.trace.now.calls c.loop-seen.index none)
    c.loop-seen.invariant.noted

pub returns-clause-legal : goal.returns-clause-legal
returns-clause-legal c =
    let none = sym c.at.ensures ∙ ap (option_map seen_told) c.in_default.is in
    whole_legal c.args.config c.args.trace.now.calls c.loop-seen.index c.loop-seen.core c.loop-seen.invariant.core
    (take_past c.args.trace.now.calls c.loop-seen.index none) c.loop-seen.invariant.legal
