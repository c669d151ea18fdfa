-- Numbers that C is told: the status of a call, which is 0, the code of a fault, or one of these; stamps, and numbers
-- that don't fit.
use Rattle.std.specs.Prelude.{◌≡◌, ℕ, ℤ, ◌+◌, ◌*◌, ◌^◌, ◌≤ℤ◌, pos, neg_ℤ}
use Rattle.stamp_register.specs.declared.key.Stamp.{Stamp}
use Rattle.node_calls.specs.FaultCodes.{code_of}
use Rattle.node_calls.specs.declared.fault.NodeFault.TheVariants as faults
use Rattle.node_for_c.specs.declared.numbers.Stamped.{Stamped}
use Rattle.node_for_c.specs.declared.numbers.Wide.{Wide}

-- memory was refused
abbrev pub no_memory : ℕ
no_memory = code_of faults.OutOfMemory

-- a text isn't UTF-8
abbrev pub not_text : ℕ
not_text = 30

-- the node is closed
abbrev pub closed : ℕ
closed = 31

-- the node is open already
abbrev pub already_open : ℕ
already_open = 32

-- no point of the node has the number
abbrev pub no_point : ℕ
no_point = 33

-- the node answers the call of a line otherwise, or refuses it; it keeps no call of the number; bytes are no line of a
-- call
abbrev pub differs : ℕ
differs = 23

abbrev pub no_entry : ℕ
no_entry = 34

abbrev pub no_line : ℕ
no_line = 35

-- no node
abbrev pub nobody : ℕ
nobody = 255

-- a stamp as C has it, and what C is told where there is none
abbrev pub stamp_in : Stamped → Stamp
stamp_in s = record { clock = s.clock; node = s.node }

abbrev pub no_stamp : Stamped
no_stamp = record { clock = 0; node = 0 }

-- the number of two halves
abbrev pub whole : Wide → ℕ
whole w = w.low + 2 ^ 64 * w.high

-- the greatest and the least number of 64 bits
abbrev pub greatest : ℤ
greatest = pos 9223372036854775807

abbrev pub least : ℤ
least = neg_ℤ (pos 9223372036854775808)

-- of the numbers of 64 bits the one that is nearest to a number
abbrev pub IsNearest : ℤ → ℤ → Type 0
IsNearest number told =
    (greatest ≤ℤ number → told ≡ greatest) × (number ≤ℤ least → told ≡ least) ×
    (least ≤ℤ number → number ≤ℤ greatest → told ≡ number)
