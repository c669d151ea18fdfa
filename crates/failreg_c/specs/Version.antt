-- The version of the library.
use Rattle.std.specs.Prelude.{ℕ, ◌+◌, ◌*◌}

-- version 0.2.0: its numbers times 10000, 100 and 1
abbrev pub library_version : ℕ
library_version = 0 * 10000 + 2 * 100 + 0
