use Rattle.std.proofs.Common.{◌≡◌, take}
use Rattle.std.specs.Prelude.{◌==◌, pos, slice_index_or}
use Rattle.std.specs.Int.{int_gap}
use Rattle.std.specs.List.{filter}
use Rattle.sharing.proofs.line.find_waiting.Given as goal

abbrev pub invariant-loop-other : goal.invariant-loop-other
invariant-loop-other l =
    l.waiting.items ≡ filter (λ other. int_gap (pos 0) (slice_index_or l.rights other (pos 0)) == 0)
    (take l.other-index l.others)
