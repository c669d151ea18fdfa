use Rattle.std.proofs.Common.{◌≡◌, ◌≤◌, length, sym, subst, arith, IfSome, IfNone, Err}
use Rattle.message_format.specs.Limits.{max_nodes}
use Rattle.audit.specs.Answers.{IsAudited}
use Rattle.audit.specs.Boards.{IsPlacing}
use Rattle.audit.specs.Places.{Fits}
use Rattle.audit.specs.Schedules.{SomeFits}
use Rattle.audit.specs.Traces.{IsSized, AllLegal, IsLeastWrong}
use Rattle.audit.proofs.Scheduled.{order_fits, some_fits, order_of_fits, all_short}
use Rattle.audit.specs.Tallies.{IsTallied}
use Rattle.audit.proofs.Answered.{answer_is, fault_is, totals_are, escrow_is}
use Rattle.audit.proofs.auditing.audit.Goals as goal
use Rattle.audit.proofs.auditing.audit.Goals.{then-nodes-eq0-via-then-nodes-eq0, then-nodes-eq0-via-else-nodes-eq0+then-nodes-gt-MAX_NODES, then-nodes-eq0-via-else-nodes-eq0+else-nodes-gt-MAX_NODES+then-traces-nodes}

pub returns-then-nodes-eq0-clause-answer : goal.returns-then-nodes-eq0-clause-answer
returns-then-nodes-eq0-clause-answer c =
    elim c.then-nodes-eq0.branch [
      | then-nodes-eq0-via-then-nodes-eq0 w ↦ λ sized. (let some : 1 ≤ c.args.nodes = sized.some in
          omega (arith, some, w.if-nodes-eq0.true))
      | then-nodes-eq0-via-else-nodes-eq0+then-nodes-gt-MAX_NODES w ↦ λ sized.
          (let few : c.args.nodes ≤ max_nodes = sized.few in omega (arith, few, w.if-nodes-gt-MAX_NODES.true))
      | then-nodes-eq0-via-else-nodes-eq0+else-nodes-gt-MAX_NODES+then-traces-nodes w ↦ λ sized.
          (let each : length c.args.traces.now ≡ c.args.nodes = sized.each in
          omega (arith, each, w.if-traces-nodes.true))
    ]

pub returns-in-Ok-Some-clause-answer : goal.returns-in-Ok-Some-clause-answer
returns-in-Ok-Some-clause-answer c =
    let sized : IsSized c.args.nodes c.args.traces.now = record {
      some = omega (arith, c.if-nodes-eq0.false);
      few = omega (arith, c.if-nodes-gt-MAX_NODES.false);
      each =
          omega (arith, c.if-traces-nodes.false);
    } in (
      sized,
      subst (λ o. IfSome o (λ at. IsLeastWrong c.args.nodes c.args.traces.now at.0 at.1)) c.in-Ok-Some.field-0-is
          c.in-Ok-Some.ensures.wrong,
    )

pub returns-in-Err-clause-answer : goal.returns-in-Err-clause-answer
returns-in-Err-clause-answer c =
    let sized : IsSized c.args.nodes c.args.traces.now = record {
      some = omega (arith, c.if-nodes-eq0.false);
      few = omega (arith, c.if-nodes-gt-MAX_NODES.false);
      each =
          omega (arith, c.if-traces-nodes.false);
    } in
    sized

pub place_all-requires-clause-short : goal.place_all-requires-clause-short
place_all-requires-clause-short c =
    let legal : AllLegal c.args.nodes c.args.traces.now = subst
    (λ o. IfNone o (AllLegal c.args.nodes c.args.traces.now)) c.in-Ok-None.field-0-is c.in-Ok-None.ensures.legal in
    all_short c.args.nodes c.args.traces.now legal

pub returns-in-Ok-Stuck-clause-answer : goal.returns-in-Ok-Stuck-clause-answer
returns-in-Ok-Stuck-clause-answer c =
    let sized : IsSized c.args.nodes c.args.traces.now = record {
      some = omega (arith, c.if-nodes-eq0.false);
      few = omega (arith, c.if-nodes-gt-MAX_NODES.false);
      each =
          omega (arith, c.if-traces-nodes.false);
    } in
    let legal : AllLegal c.args.nodes c.args.traces.now = subst
    (λ o. IfNone o (AllLegal c.args.nodes c.args.traces.now)) c.in-Ok-None.field-0-is c.in-Ok-None.ensures.legal in
    let placing = subst (λ p. IsPlacing c.args.traces.now p) c.in-Ok-Stuck.field-0-is c.in-Ok-Stuck.ensures in (
      sized,
      legal,
      placing.0,
      λ some. (let order = order_of_fits c.args.nodes c.args.traces.now some in
          placing.1 order.0 order.1),
    )

pub returns-in-Err-place_all-clause-answer : goal.returns-in-Err-place_all-clause-answer
returns-in-Err-place_all-clause-answer c =
    let sized : IsSized c.args.nodes c.args.traces.now = record {
      some = omega (arith, c.if-nodes-eq0.false);
      few = omega (arith, c.if-nodes-gt-MAX_NODES.false);
      each =
          omega (arith, c.if-traces-nodes.false);
    } in
    sized

pub check_receipts-requires-clause-short : goal.check_receipts-requires-clause-short
check_receipts-requires-clause-short c =
    let legal : AllLegal c.args.nodes c.args.traces.now = subst
    (λ o. IfNone o (AllLegal c.args.nodes c.args.traces.now)) c.in-Ok-None.field-0-is c.in-Ok-None.ensures.legal in
    all_short c.args.nodes c.args.traces.now legal

pub least_wrong-requires-clause-none : goal.least_wrong-requires-clause-none
least_wrong-requires-clause-none c = c.new-tally.ensures c.args.nodes c.args.traces.now

pub returns-in-Ok-clause-answer : goal.returns-in-Ok-clause-answer
returns-in-Ok-clause-answer c =
    let sized : IsSized c.args.nodes c.args.traces.now = record {
      some = omega (arith, c.if-nodes-eq0.false);
      few = omega (arith, c.if-nodes-gt-MAX_NODES.false);
      each =
          omega (arith, c.if-traces-nodes.false);
    } in
    let legal : AllLegal c.args.nodes c.args.traces.now = subst
    (λ o. IfNone o (AllLegal c.args.nodes c.args.traces.now)) c.in-Ok-None.field-0-is c.in-Ok-None.ensures.legal in
    let fits : Fits c.args.traces.now c.in-Ok-All.order.items =
    subst (λ p. IsPlacing c.args.traces.now p) c.in-Ok-All.field-0-is c.in-Ok-All.ensures in
    let is = order_fits c.args.nodes c.args.traces.now sized legal c.in-Ok-All.order.items fits in
    let checked = c.in-Ok.ensures in
    answer_is c.args.nodes c.args.traces.now sized c.in-Ok-All.order is c.args.lists.now
    (record { match_ = checked.0; once = checked.1; all = checked.2; ascend = checked.3 }) c.answer.result
    c.answer.ensures.order c.answer.ensures.err

pub returns-in-Ok-clause-totals : goal.returns-in-Ok-clause-totals
returns-in-Ok-clause-totals c =
    let sized : IsSized c.args.nodes c.args.traces.now = record {
      some = omega (arith, c.if-nodes-eq0.false);
      few = omega (arith, c.if-nodes-gt-MAX_NODES.false);
      each =
          omega (arith, c.if-traces-nodes.false);
    } in
    let legal : AllLegal c.args.nodes c.args.traces.now = subst
    (λ o. IfNone o (AllLegal c.args.nodes c.args.traces.now)) c.in-Ok-None.field-0-is c.in-Ok-None.ensures.legal in
    let fits : Fits c.args.traces.now c.in-Ok-All.order.items =
    subst (λ p. IsPlacing c.args.traces.now p) c.in-Ok-All.field-0-is c.in-Ok-All.ensures in
    let is = order_fits c.args.nodes c.args.traces.now sized legal c.in-Ok-All.order.items fits in
    let tallied = subst (λ o. IfNone o (IsTallied c.least_wrong.new.tally c.args.nodes c.args.traces.now c.args.nodes))
    c.in-Ok-None.field-0-is c.in-Ok-None.ensures.tallied in
    totals_are c.args.nodes c.args.traces.now sized c.in-Ok-All.order is c.least_wrong.new.tally tallied c.answer.result
    c.answer.ensures.order c.answer.ensures.totals

pub returns-in-Ok-clause-escrow : goal.returns-in-Ok-clause-escrow
returns-in-Ok-clause-escrow c =
    let sized : IsSized c.args.nodes c.args.traces.now = record {
      some = omega (arith, c.if-nodes-eq0.false);
      few = omega (arith, c.if-nodes-gt-MAX_NODES.false);
      each =
          omega (arith, c.if-traces-nodes.false);
    } in
    let legal : AllLegal c.args.nodes c.args.traces.now = subst
    (λ o. IfNone o (AllLegal c.args.nodes c.args.traces.now)) c.in-Ok-None.field-0-is c.in-Ok-None.ensures.legal in
    let fits : Fits c.args.traces.now c.in-Ok-All.order.items =
    subst (λ p. IsPlacing c.args.traces.now p) c.in-Ok-All.field-0-is c.in-Ok-All.ensures in
    let is = order_fits c.args.nodes c.args.traces.now sized legal c.in-Ok-All.order.items fits in
    escrow_is c.args.nodes c.args.traces.now sized c.in-Ok-All.order is c.answer.result c.answer.ensures.order

pub returns-in-Err-check_receipts-clause-answer : goal.returns-in-Err-check_receipts-clause-answer
returns-in-Err-check_receipts-clause-answer c =
    let sized : IsSized c.args.nodes c.args.traces.now = record {
      some = omega (arith, c.if-nodes-eq0.false);
      few = omega (arith, c.if-nodes-gt-MAX_NODES.false);
      each =
          omega (arith, c.if-traces-nodes.false);
    } in
    let legal : AllLegal c.args.nodes c.args.traces.now = subst
    (λ o. IfNone o (AllLegal c.args.nodes c.args.traces.now)) c.in-Ok-None.field-0-is c.in-Ok-None.ensures.legal in
    let fits : Fits c.args.traces.now c.in-Ok-All.order.items =
    subst (λ p. IsPlacing c.args.traces.now p) c.in-Ok-All.field-0-is c.in-Ok-All.ensures in
    let some : SomeFits c.args.nodes c.args.traces.now = some_fits c.args.nodes c.args.traces.now sized legal
    c.in-Ok-All.order.items fits in
    subst (λ f. IsAudited c.args.nodes c.args.traces.now c.args.lists.now (Err f)) (sym c.receipts_fault.ensures)
    (fault_is c.args.nodes c.args.traces.now sized some c.args.lists.now c.in-Err-check_receipts.fault
    c.in-Err-check_receipts.ensures)
