use Rattle.std.proofs.Common.{◌≡◌, ◌≤◌, ◌++◌, List, ℕ, length, take}
use Rattle.http_exchange.specs.Checked.{HasChecked}
use Rattle.http_exchange.proofs.text_check.TextCheck.add_bytes.Given as goal

abbrev pub invariant-loop-byte : goal.invariant-loop-byte
invariant-loop-byte l =
    (l.byte-index ≤ length l.bytes) × (l.byte-index-end ≡ length l.bytes)
    × ((came : List ℕ) → HasChecked l.fn.self came → HasChecked l.self (came ++ take l.byte-index l.bytes))
