use Rattle.std.proofs.Common.{◌≡◌, ◌-◌, ◌≤◌, ◌++◌, List, ℕ, length, take, drop}
use Rattle.http_exchange.specs.Checked.{HasChecked}
use Rattle.http_exchange.proofs.text_check.TextCheck.add_blocks.Given as goal

abbrev pub invariant-loop-block : goal.invariant-loop-block
invariant-loop-block l =
    (l.self.filled ≡ 0) × (length l.rest ≤ length l.fn.bytes)
    × (l.rest ≡ drop (length l.fn.bytes - length l.rest) l.fn.bytes)
    × ((came : List ℕ) → HasChecked l.fn.self came
    → HasChecked l.self (came ++ take (length l.fn.bytes - length l.rest) l.fn.bytes))

abbrev pub decreases-loop-block : goal.decreases-loop-block
decreases-loop-block l = length l.rest
