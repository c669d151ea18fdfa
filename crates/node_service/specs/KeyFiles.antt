-- What a node does with the key of a file.
use Rattle.std.specs.Prelude.{◌≡◌, ◌<◌, ◌≤◌, ⊤, true, ℕ, List, length, Option, Some, IfSome, IsSomeAnd}
use Rattle.std.specs.Prelude.{option_map, string_bytes}
use Rattle.http_posts.specs.Keys.{credentials}
use Rattle.http_exchange.specs.Keys.{are_credentials, key_in}
use Rattle.node_calls.specs.declared.fault.NodeFault.TheVariants.{OutOfMemory}
use Rattle.node_service.specs.declared.fault.ServiceFault.{ServiceFault}
use Rattle.node_service.specs.declared.fault.ServiceFault.TheVariants as faults
use Rattle.node_service.specs.declared.key_file.KeyFault.{KeyFault}
use Rattle.node_service.specs.declared.key_file.KeyFault.TheVariants as keys
use Rattle.node_service.specs.declared.key_file.Keyed.{Keyed}

-- the credentials that peers are sent, and the key with which their messages are sealed
abbrev pub sent_in : Keyed → Option (List ℕ)
sent_in keyed = option_map (λ key. string_bytes key.credentials) keyed.key

abbrev pub sealed_in : Keyed → Option (List ℕ)
sealed_in keyed = option_map (λ key. key.bytes.items) keyed.key

-- clients are asked for the key by which messages to peers are sealed, and for the credentials that peers are sent, with
-- which a client is let in; or neither are there
pub record AsksForWhatItSends (keyed : Keyed) : Type 0 where
  pub key : key_in keyed.access ≡ sealed_in keyed
  pub sent : option_map credentials (key_in keyed.access) ≡ sent_in keyed
  pub passes : IfSome (key_in keyed.access)
      (λ key. IsSomeAnd (sent_in keyed) (λ value. are_credentials key value ≡ true))

-- clients are asked for the key of these bytes, and peers are sent it, with messages that are sealed by it
pub record IsKeyedBy (bytes : List ℕ) (keyed : Keyed) : Type 0 where
  pub asks : key_in keyed.access ≡ Some bytes
  pub sends : sent_in keyed ≡ Some (credentials bytes)
  pub seals : sealed_in keyed ≡ Some bytes

-- the key is 32 to 1,024 bytes: all that a reader has to give, where it tells them
pub record HasKeyOf (input : Option (List ℕ)) (keyed : Keyed) : Type 0 where
  pub bytes : List ℕ
  pub whole : IfSome input (λ given. given ≡ bytes)
  pub least : 32 ≤ length bytes
  pub most : length bytes ≤ 1024
  pub used : IsKeyedBy bytes keyed

-- why bytes couldn't be read as a key: there are too many, or the reader failed
abbrev pub IsReadFault : List ℕ → KeyFault → Type 0
IsReadFault bytes keys.TooLong = 1024 < length bytes
IsReadFault bytes (keys.CantRead error) = ⊤
IsReadFault bytes other = ⊥

-- why bytes are no key: the same, or there are too few, or memory was refused
abbrev pub IsFaultOf : List ℕ → ServiceFault → Type 0
IsFaultOf bytes (faults.Key (keys.TooShort count)) = (count ≡ length bytes) × (count < 32)
IsFaultOf bytes (faults.Key fault) = IsReadFault bytes fault
IsFaultOf bytes (faults.Node fault) = fault ≡ OutOfMemory
IsFaultOf bytes other = ⊥
