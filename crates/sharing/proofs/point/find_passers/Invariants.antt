use Rattle.std.proofs.Common.{◌≡◌}
use Rattle.std.specs.Prelude.{◌==◌, ◌&&◌, not, nat_lt, slice_index}
use Rattle.std.specs.List.{filter, range_with_len}
use Rattle.sharing.specs.Memory.{seen}
use Rattle.sharing.specs.Remembered.{recalled_at}
use Rattle.sharing.proofs.point.find_passers.Given as goal

abbrev pub invariant-loop-other : goal.invariant-loop-other
invariant-loop-other l =
    l.others.items ≡ filter (λ other. not (other == l.node)
    && nat_lt (seen (recalled_at l.remembered) other) (slice_index l.hits other)) (range_with_len 0 l.other)
