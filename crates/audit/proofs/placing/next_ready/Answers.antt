use Rattle.std.proofs.Common.{arith, ap, sym, ◌∙◌}
use Rattle.std.specs.Prelude.{option_map}
use Rattle.packed_trace.specs.Packed.{seen_told}
use Rattle.audit.specs.Traces.{entry_at}
use Rattle.audit.proofs.Runs.{entry_read, position_read, stuck_at_end, stuck_unsent}
use Rattle.audit.proofs.placing.next_ready.Goals as goal

pub returns-in_default-clause-stuck : goal.returns-in_default-clause-stuck
returns-in_default-clause-stuck c =
    let at = position_read c.args.board.now.positions.items c.args.node c.index-index.result.now
    (omega (arith, c.requires.board.each)) c.index-index.ensures in
    let read = entry_read c.args.traces.now c.args.node c.index-index.result.now _ _ c.requires.node
    c.index-traces-node.is c.call_at.ensures in
    stuck_at_end c.args.traces.now _ c.args.board.now.positions.items _ c.args.node c.requires.board c.requires.node
    (ap (λ i. entry_at c.args.traces.now c.args.node i) at ∙ read ∙ ap (option_map seen_told) c.in_default.is)

pub returns-then-not-has-clause-stuck : goal.returns-then-not-has-clause-stuck
returns-then-not-has-clause-stuck c =
    let at = position_read c.args.board.now.positions.items c.args.node c.index-index.result.now
    (omega (arith, c.requires.board.each)) c.index-index.ensures in
    let read = entry_read c.args.traces.now c.args.node c.index-index.result.now _ _ c.requires.node
    c.index-traces-node.is c.call_at.ensures in
    stuck_unsent c.args.traces.now _ c.args.board.now.positions.items _ c.args.node (seen_told c.in-Some.entry)
    c.in-Some-delivered.bytes.now c.requires.board c.requires.node
    (ap (λ i. entry_at c.args.traces.now c.args.node i) at ∙ read ∙ ap (option_map seen_told) c.in-Some.is)
    (sym c.delivered.ensures ∙ ap (λ o. option_map (λ b. b.now) o) c.in-Some-delivered.is)
    (sym c.has.ensures ∙ c.if-not-has.true)

pub returns-clause-entry : goal.returns-clause-entry
returns-clause-entry c =
    let at = position_read c.args.board.now.positions.items c.args.node c.index-index.result.now
    (omega (arith, c.requires.board.each)) c.index-index.ensures in
    let read = entry_read c.args.traces.now c.args.node c.index-index.result.now _ _ c.requires.node
    c.index-traces-node.is c.call_at.ensures in
    ap (λ i. entry_at c.args.traces.now c.args.node i) at ∙ read ∙ ap (option_map seen_told) c.in-Some.is
