-- Who asks, where a body is a text, and where it isn't.
use Rattle.std.proofs.Common.{◌≡◌, ℕ, Bool, true, false, List, None, refl}
use Rattle.std.specs.Str.{IsUtf8, is_utf8}
use Rattle.std.proofs.lemmas.Str.{IsUtf8-from_is_utf8, is_utf8-from_IsUtf8}
use Rattle.decimals.specs.Decimals.{byte_of}
use Rattle.peers.specs.declared.heard.Cluster.{Cluster}
use Rattle.peers.specs.Hello.{asker_in, peer_in}

is_utf8-from_not : (bytes : List ℕ) → ¬ (IsUtf8 bytes) → (b : Bool) → is_utf8 bytes ≡ b → b ≡ false
is_utf8-from_not bytes isnt true e = absurd (isnt (IsUtf8-from_is_utf8 bytes e))
is_utf8-from_not bytes isnt false e = refl

pub asker_in-text : (cluster : Cluster) (body : List ℕ) → IsUtf8 body → asker_in cluster body ≡ peer_in cluster (byte_of body)
asker_in-text cluster body is = rw (is_utf8-from_IsUtf8 body is)

pub asker_in-other : (cluster : Cluster) (body : List ℕ) → ¬ (IsUtf8 body) → None ≡ asker_in cluster body
asker_in-other cluster body isnt = rw (is_utf8-from_not body isnt (is_utf8 body) refl)
