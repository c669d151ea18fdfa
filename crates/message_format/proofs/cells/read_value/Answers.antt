use Rattle.std.proofs.Common.{◌≡◌, ℕ, List, true, nat_lt, Ok, refl, arith}
use Rattle.std.specs.Int.{w64}
use Rattle.std.proofs.lemmas.Bool.{lt-ltb}
use Rattle.message_format.specs.Reading.{number_at, value_at}
use Rattle.message_format.proofs.cells.read_value.Goals as goal

value_read : (all : ℕ) (left : List ℕ) (value : ℕ × List ℕ) → number_at all w64 left ≡ Ok value →
    nat_lt 0 value.0 ≡ true
    → value_at all left ≡ Ok value
unfolding value_at
value_read all left value number some = rw (number, some) refl

pub returns : goal.returns
returns c =
    value_read c.args.whole.len c.args.rest.now (c.in_ok-value.value, c.in_ok-value.after.now) c.in_ok-value.ensures
    (lt-ltb 0 c.in_ok-value.value (omega arith))
