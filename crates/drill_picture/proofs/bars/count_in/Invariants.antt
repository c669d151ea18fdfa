use Rattle.std.proofs.Common.{◌≡◌, ◌≤◌, take}
use Rattle.drill_picture.specs.Bars.{count_in}
use Rattle.drill_picture.proofs.bars.count_in.Given as goal

abbrev pub invariant-loop-place : goal.invariant-loop-place
invariant-loop-place l = record {
  counted : l.count ≡ count_in l.scale l.bin (take l.place-index l.places);
  few : l.count ≤ l.place-index;
}
