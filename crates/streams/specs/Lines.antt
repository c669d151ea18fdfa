-- What the bytes of a line are: nothing to read, or a text.
use Rattle.std.specs.Prelude.{ℕ, Bool, ◌==◌, ◌||◌, List, length, slice_index, if◌then◌else◌, Option, Some, None, option_and_then}
use Rattle.std.specs.Str.{is_utf8}

abbrev pub hash_sign : ℕ
hash_sign = 35

-- an empty line, or a comment, whatever its bytes
abbrev pub is_skipped : List ℕ → Bool
is_skipped line = (length line == 0) || (slice_index line 0 == hash_sign)

abbrev pub text_in : List ℕ → Option (List ℕ)
text_in line = if is_utf8 line then Some line else None

-- what is read on of what was read, where it could be
infixl 10 ◌>>=◌
abbrev pub ◌>>=◌ : {A B : Type 0} → Option A → (A → Option B) → Option B
o >>= f = option_and_then f o
