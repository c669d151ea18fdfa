use Rattle.std.proofs.Common.{◌≡◌, ◌+◌, ◌-◌, ◌^◌, min}
use Rattle.std.specs.List.{fold, range_with_len}
use Rattle.node_sharing.specs.Spread.{own_rights}
use Rattle.node_sharing.proofs.spreading.rights_kept.Given as goal

abbrev pub invariant-loop-term : goal.invariant-loop-term
invariant-loop-term l =
    l.all ≡ fold (λ all term. min (all + own_rights l.node l.name term) (2 ^ 64 - 1)) 0 (range_with_len 0 l.term)
