use Rattle.std.proofs.Common.{◌≡◌, ◌≤◌, ◌<◌, ℕ, true, length, get_or, int_le, pos}
use Rattle.counters.proofs.balances.marked.Given as goal

abbrev pub invariant-loop-place : goal.invariant-loop-place
invariant-loop-place l =
    record {
      len : length l.are_short ≡ 32;
      before : (node : ℕ) → node < l.place → get_or l.are_short node true ≡ int_le (get_or l.balances node (pos 0)) (pos 0);
      behind : (node : ℕ) → l.place ≤ node → node < length l.are_short → get_or l.are_short node true ≡ true;
    }
