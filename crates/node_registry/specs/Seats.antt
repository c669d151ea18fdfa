-- What a registry counts of its seats.
use Rattle.std.specs.Prelude.{◌≡◌, ◌==◌, if◌then◌else◌, ℕ, ◌+◌, ◌-◌, ◌*◌, ◌^◌, ◌≤◌, List, map, sum}

-- how many calls were accepted from a seat; how many calls of the node's trace it handed out; and the number after that
-- of its last call, which is 0 where it made none
pub record SeatState : Type 0 where
  pub calls : ℕ
  pub given : ℕ
  pub next : ℕ

-- a seat that has made no call, and handed none out
abbrev pub new_seat : SeatState
new_seat = record { calls = 0; given = 0; next = 0 }

-- a call of this number may be accepted from the seat: it comes behind as many calls as the seat made, and behind the
-- last of them
abbrev pub ComesNext : SeatState → ℕ → Type 0
ComesNext seat number = (seat.calls ≤ number) × (seat.next ≤ number)

-- the seat after an accepted call of this number
abbrev pub called : SeatState → ℕ → SeatState
called seat number = record { calls = seat.calls + 1; given = seat.given; next = number + 1 }

-- a call more was accepted from the seat
abbrev pub IsCalled : SeatState → SeatState → Type 0
IsCalled had has = (number : ℕ) × ComesNext had number × (has ≡ called had number)

-- so many calls more were accepted from the seat, of which the last is the last of so many of the node
abbrev pub AreCalled : SeatState → ℕ → ℕ → SeatState → Type 0
AreCalled had more all has = (has.calls ≡ had.calls + more) × (has.next ≡ (if more == 0 then had.next else all))

-- no call more was
abbrev pub HasSameCalls : SeatState → SeatState → Type 0
HasSameCalls had has = (has.calls ≡ had.calls) × (has.next ≡ had.next)

-- the seat after it handed out so many calls
abbrev pub gave : SeatState → ℕ → SeatState
gave seat more = record { calls = seat.calls; given = seat.given + more; next = seat.next }

-- how many calls were accepted from seats, and how many they handed out
abbrev pub calls_from : List SeatState → ℕ
calls_from seats = sum (map (λ (s : SeatState). s.calls) seats)

abbrev pub given_by : List SeatState → ℕ
given_by seats = sum (map (λ (s : SeatState). s.given) seats)

-- what a ledger counts for calls that were accepted and calls that were handed out. No sum of its seats has as many
-- handed out as make up one that was accepted
abbrev pub amount_of : ℕ → ℕ → ℕ
amount_of calls given = (2 ^ 64 - 1) * calls + given
