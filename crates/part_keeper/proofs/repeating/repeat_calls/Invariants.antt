use Rattle.std.proofs.Common.{◌≡◌, ◌+◌, ◌<◌, false}
use Rattle.std.specs.Prelude.{IfSome}
use Rattle.std.specs.Io.Buffered.{reader_inner}
use Rattle.streams.specs.Watched.{has_failed}
use Rattle.drills.specs.Taken.{bytes_left}
use Rattle.part_keeper.proofs.Walks.{IsSoFar}
use Rattle.part_keeper.proofs.repeating.repeat_calls.Given as goal

abbrev pub invariant-loop-number : goal.invariant-loop-number
invariant-loop-number g l = record {
  counted : l.seat.calls ≡ l.initial.seat.calls + l.had.calls;
  numbered : l.number ≡ l.had.calls + 2;
  goes : IfSome (bytes_left g.I.Read.remaining l.initial.reader) (λ bytes.
      IsSoFar g.L.Label.config g.L.Label.seed l.initial.seat.calls l.seat.calls bytes l.had
      (bytes_left g.I.Read.remaining l.reader));
  read : 2 < l.number → has_failed (reader_inner l.reader) ≡ false;
}
