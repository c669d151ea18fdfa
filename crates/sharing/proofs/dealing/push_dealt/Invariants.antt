use Rattle.std.proofs.Common.{◌≡◌, ◌++◌}
use Rattle.std.specs.List.{flat_map, range_with_len}
use Rattle.sharing.specs.Spreads.{shift_behind}
use Rattle.sharing.proofs.dealing.push_dealt.Given as goal

abbrev pub invariant-loop-place : goal.invariant-loop-place
invariant-loop-place g l =
    l.shifts.items ≡ l.initial.shifts.items
    ++ flat_map (shift_behind l.name l.term l.rights l.node l.nodes) (range_with_len 0 l.place)
