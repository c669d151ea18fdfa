use Rattle.std.proofs.Common.{◌≡◌, ℕ, ◌<◌, length, get_or}
use Rattle.gossip.specs.Spreads.{share_of}
use Rattle.gossip.proofs.spreading.Shares.of.Given as goal

abbrev pub invariant-loop-term : goal.invariant-loop-term
invariant-loop-term l = record {
  all : length l.amounts ≡ 16;
  done : (k : ℕ) → k < l.term → get_or l.amounts k 0 ≡ share_of l.core l.name k;
}
