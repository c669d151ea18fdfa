-- The test of `from_utf8`, as a test of the bytes.
use Rattle.std.proofs.Common.{◌≡◌, ℕ, Bool, true, false, List, refl, Some, None}
use Rattle.std.specs.Str.{IsUtf8, is_utf8}
use Rattle.std.proofs.lemmas.Str.{IsUtf8-from_is_utf8, is_utf8-from_IsUtf8}
use Rattle.streams.specs.Lines.{text_in}

is_utf8-from_not : (bytes : List ℕ) → ¬ (IsUtf8 bytes) → (b : Bool) → is_utf8 bytes ≡ b → b ≡ false
is_utf8-from_not bytes isnt true e = absurd (isnt (IsUtf8-from_is_utf8 bytes e))
is_utf8-from_not bytes isnt false e = refl

-- bytes that are text
pub text_in-text : (bytes : List ℕ) → IsUtf8 bytes → Some bytes ≡ text_in bytes
text_in-text bytes is = rw (is_utf8-from_IsUtf8 bytes is)

-- bytes that are none
pub text_in-other : (bytes : List ℕ) → ¬ (IsUtf8 bytes) → None ≡ text_in bytes
text_in-other bytes isnt = rw (is_utf8-from_not bytes isnt (is_utf8 bytes) refl)
