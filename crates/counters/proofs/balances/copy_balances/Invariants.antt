use Rattle.std.proofs.Common.{◌≡◌, ◌<◌, ◌≤◌, ℕ, length, get_or, pos}
use Rattle.counters.proofs.balances.copy_balances.Given as goal

abbrev pub invariant-loop-place : goal.invariant-loop-place
invariant-loop-place l =
    record {
      len : length l.into ≡ length l.initial.into;
      read : (i : ℕ) → i < l.place → get_or l.into i (pos 0) ≡ get_or l.balances i (pos 0);
      left : (i : ℕ) → l.place ≤ i → i < length l.into → get_or l.into i (pos 0) ≡ pos 0;
    }
