use Rattle.std.proofs.Common.{◌≡◌, take}
use Rattle.std.specs.List.{All}
use Rattle.std.specs.Ordering.{nat_cmp}
use Rattle.std.specs.Cmp.Lexicographic.{slice_cmp}
use Rattle.std.specs.declared.cmp.Ordering.TheVariants.{Less}
use Rattle.sharing.proofs.remembered.place_of.Given as goal

abbrev pub invariant-loop-remembered : goal.invariant-loop-remembered
invariant-loop-remembered l =
    record {
      place : l.place ≡ l.remembered-index;
      below : All (λ remembered. slice_cmp nat_cmp remembered.name l.name ≡ Less)
          (take l.remembered-index l.memory);
    }
