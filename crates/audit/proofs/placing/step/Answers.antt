use Rattle.std.proofs.Common.{◌≡◌, ◌+◌, ℕ, slice_index, slice_set, reverse, arith, ap, ◌∙◌, subst}
use Rattle.std.proofs.lemmas.List.{reverse-append}
use Rattle.audit.specs.Boards.{left}
use Rattle.audit.specs.Boards.{placed_on}
use Rattle.audit.proofs.Runs.{entry_within, kept_pushed, left_falls, position_read}
use Rattle.audit.proofs.placing.step.Goals as goal

pub overflow_add-index : goal.overflow_add-index
overflow_add-index c =
    let at = position_read c.args.board.now.positions.items c.args.node c.index-index.result.now
    (omega (arith, c.requires.board.each)) c.index-index.ensures in
    let inside = entry_within c.args.traces.now c.args.node (slice_index c.args.board.now.positions.items c.args.node) _
    c.in-Some.ensures.entry in
    omega (arith, at, inside, c.requires.short c.args.node)

pub returns-clause-kept : goal.returns-clause-kept
returns-clause-kept c =
    let at = position_read c.args.board.now.positions.items c.args.node c.index-index.result.now
    (omega (arith, c.requires.board.each)) c.index-index.ensures in
    kept_pushed c.args.traces.now (placed_on c.args.board.now) _ c.args.board.now.positions.items _ _ c.args.node
    c.index-index.result.now _
    c.requires.board c.requires.node at c.in-Some.ensures.entry c.in-Some.ensures.fed c.in_ok-add_reply.ensures
    (ap reverse c.in_ok-push.ensures.items ∙ reverse-append c.args.board.now.order.items _)

pub returns-clause-moved : goal.returns-clause-moved
returns-clause-moved c =
    let at = position_read c.args.board.now.positions.items c.args.node c.index-index.result.now
    (omega (arith, c.requires.board.each)) c.index-index.ensures in
    let inside = entry_within c.args.traces.now c.args.node (slice_index c.args.board.now.positions.items c.args.node) _
    c.in-Some.ensures.entry in
    let falls = left_falls c.args.traces.now c.args.board.now.positions.items c.args.node c.requires.board.each
    c.requires.node inside in
    let P : ℕ → Type 0 = λ i. left c.args.traces.now (slice_set c.args.board.now.positions.items c.args.node (i + 1)) +
    1 ≡ left c.args.traces.now c.args.board.now.positions.items in
    let moved : P c.index-index.result.now = subst P at falls in
    omega (arith, moved)
