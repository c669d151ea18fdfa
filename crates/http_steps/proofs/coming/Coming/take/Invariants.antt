use Rattle.std.proofs.Common.{◌≡◌, ℕ, length}
use Rattle.http_steps.proofs.coming.Coming.take.Given as goal

abbrev pub invariant-loop-outcome : goal.invariant-loop-outcome
invariant-loop-outcome l = (l.self.accepted ≡ l.fn.self.accepted) × (l.self.fields ≡ l.fn.self.fields)

abbrev pub decreases-loop-outcome : goal.decreases-loop-outcome
decreases-loop-outcome l = length l.input.items
