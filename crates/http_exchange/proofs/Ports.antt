-- The number of a port, where its bytes are a text, and where they aren't.
use Rattle.std.proofs.Common.{◌≡◌, ℕ, Bool, true, false, List, refl, is_some}
use Rattle.std.specs.Str.{IsUtf8, is_utf8}
use Rattle.std.proofs.lemmas.Str.{IsUtf8-from_is_utf8, is_utf8-from_IsUtf8}
use Rattle.decimals.specs.Decimals.{number_of}
use Rattle.http_exchange.specs.Hosts.{is_port}

is_utf8-from_not : (bytes : List ℕ) → ¬ (IsUtf8 bytes) → (b : Bool) → is_utf8 bytes ≡ b → b ≡ false
is_utf8-from_not bytes isnt true e = absurd (isnt (IsUtf8-from_is_utf8 bytes e))
is_utf8-from_not bytes isnt false e = refl

pub is_port-text : (bytes : List ℕ) → IsUtf8 bytes → is_port bytes ≡ is_some (number_of 65535 bytes)
is_port-text bytes is = rw (is_utf8-from_IsUtf8 bytes is)

pub is_port-other : (bytes : List ℕ) → ¬ (IsUtf8 bytes) → false ≡ is_port bytes
is_port-other bytes isnt = rw (is_utf8-from_not bytes isnt (is_utf8 bytes) refl)
