-- What a clause reads of a `Watched`, and when a write counts as failed or as taking bytes.
use Rattle.std.specs.Prelude.{ℕ, Bool, true, false, ◌&&◌, ◌==◌, List, length, nat_lt, Result, Ok, Err}
use Rattle.streams.specs.declared.watched.Watched.{Watched}

-- the reader or the writer inside
abbrev pub inner_of : {T : Type 0} → Watched T → T
inner_of w = w.inner

-- `w.failed()`
abbrev pub has_failed : {T : Type 0} → Watched T → Bool
has_failed w = w.failed

-- `w.unflushed()`
abbrev pub has_unflushed : {T : Type 0} → Watched T → Bool
has_unflushed w = w.unflushed

-- a write of these bytes failed, or took none of some
abbrev pub is_failed_write : {E : Type 0} → Result ℕ E → List ℕ → Bool
is_failed_write (Ok count) bytes = (count == 0) && nat_lt 0 (length bytes)
is_failed_write (Err error) bytes = true

-- a write took a byte at least
abbrev pub takes_some : {E : Type 0} → Result ℕ E → Bool
takes_some (Ok count) = nat_lt 0 count
takes_some (Err error) = false
