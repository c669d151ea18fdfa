use Rattle.std.proofs.Common.{◌≡◌, ◌≢◌, ◌+◌, All, length}
use Rattle.std.specs.Io.{StartsWith, appended_bytes}
use Rattle.std.specs.Io.KnownBytes.{Consumes}
use Rattle.part_keeper.proofs.bounded_line.append_line.Given as goal

abbrev pub invariant-loop-left : goal.invariant-loop-left
invariant-loop-left g l = record {
  appends : StartsWith l.line.items l.initial.line.items;
  counted : l.left + length (appended_bytes l.initial.line.items l.line.items) ≡ l.most;
  plain : All (λ x. x ≢ 10) (appended_bytes l.initial.line.items l.line.items);
  taken : Consumes (g.B.Read.remaining l.initial.reader) (g.B.Read.remaining l.reader)
      (appended_bytes l.initial.line.items l.line.items);
}

abbrev pub decreases-loop-left : goal.decreases-loop-left
decreases-loop-left g l = l.left
