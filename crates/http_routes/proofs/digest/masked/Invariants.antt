use Rattle.std.proofs.Common.{◌≡◌, ℕ, length, take, drop}
use Rattle.http_routes.specs.Digests.{masked}
use Rattle.http_routes.proofs.digest.masked.Given as goal

abbrev pub invariant-loop-at : goal.invariant-loop-at
invariant-loop-at l =
    (length l.masked ≡ 64) × (take l.at l.masked ≡ masked l.mask (take l.at l.fn.block))
    × (drop l.at l.masked ≡ drop l.at l.fn.block)
