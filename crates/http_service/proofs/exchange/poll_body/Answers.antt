use Rattle.std.proofs.Common.{rules}
use Rattle.http_service.specs.Exchanges.{pieces_of}
use Rattle.http_service.proofs.Exchanges.{ends_piece, goes_on_none, goes_piece, goes_within}
use Rattle.http_service.proofs.exchange.poll_body.Goals as goal

pub loop-init : goal.loop-init
loop-init g c = (
  λ keeps had h. (had, goes_on_none (pieces_of c.args.body.now) had, c.reserve.ensures keeps had h),
  search rules,
)

pub returns-in-loop-clause-goes_on : goal.returns-in-loop-clause-goes_on
returns-in-loop-clause-goes_on g c =
    goes_within (pieces_of c.args.body.now) (pieces_of c.loop.body) c.args.kept.now c.loop.kept
    (pieces_of c.poll_frame.new.self) (search rules) c.loop.invariant.0

pub returns-in-Some-clause-ends : goal.returns-in-Some-clause-ends
returns-in-Some-clause-ends g c =
    ends_piece (pieces_of c.args.body.now) (pieces_of c.loop.body) c.args.kept.now c.loop.kept _ c.in-Some.reading
    c.take_in.new.kept c.loop.invariant.0 (search rules) c.in-Some.ensures

pub loop-preserved : goal.loop-preserved
loop-preserved g c = (
  goes_piece (pieces_of c.args.body.now) (pieces_of c.loop.body) c.args.kept.now c.loop.kept _
      (pieces_of c.poll_frame.new.self) c.take_in.new.kept c.loop.invariant.0 (search rules) c.in_default.ensures,
  search rules,
)

pub returns-then-saturating_sub-ge-BYTES_AT_ONCE-clause-goes_on :
    goal.returns-then-saturating_sub-ge-BYTES_AT_ONCE-clause-goes_on
returns-then-saturating_sub-ge-BYTES_AT_ONCE-clause-goes_on g c = rw c.yield_now.ensures.pending
    (goes_piece (pieces_of c.args.body.now) (pieces_of c.loop.body) c.args.kept.now c.loop.kept _
    (pieces_of c.poll_frame.new.self) c.take_in.new.kept c.loop.invariant.0 (search rules) c.in_default.ensures)
