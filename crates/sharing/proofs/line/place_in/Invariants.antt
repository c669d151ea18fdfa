use Rattle.std.proofs.Common.{◌≡◌, ℕ, ◌<◌, ◌≤◌, length, get_or, true}
use Rattle.std.specs.Prelude.{nat_lt, slice_index}
use Rattle.sharing.proofs.line.place_in.Given as goal

abbrev pub invariant-loop-place : goal.invariant-loop-place
invariant-loop-place l = (k : ℕ) → l.place ≤ k → k < length l.line
    → nat_lt (slice_index l.executions l.node) (slice_index l.executions (get_or l.line k 0)) ≡ true
