use Rattle.std.proofs.Common.{◌≡◌, ◌<◌, ◌≤◌, ℕ, length, get_or}
use Rattle.std.specs.Prelude.{slice_index}
use Rattle.counters.proofs.cells.write_numbers.Given as goal

abbrev pub invariant-loop-place : goal.invariant-loop-place
invariant-loop-place l =
    record {
      len : length l.numbers ≡ length l.initial.numbers;
      read : (i : ℕ) → i < l.place → get_or l.numbers i 0 ≡ slice_index l.known i;
      left : (i : ℕ) → l.place ≤ i → i < length l.numbers → get_or l.numbers i 0 ≡ 0;
    }
