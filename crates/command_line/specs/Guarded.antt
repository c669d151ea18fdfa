-- For which addresses of a served node a key is needed.
use Rattle.std.specs.Prelude.{◌≡◌, ℕ, ⊤, List, [], ◌∷◌, ◌++◌, None, codes, decimal}
use Rattle.std.specs.List.{Contains}
use Rattle.std.specs.Net.Text.{socket_text}
use Rattle.std.specs.declared.net.socket_addr.SocketAddr.{SocketAddr}
use Rattle.command_line.specs.Addresses.{IsHere}
use Rattle.command_line.specs.declared.guarding.Unguarded.{Unguarded}
use Rattle.command_line.specs.declared.guarding.Unguarded.TheVariants.{Listening, Told}
use Rattle.command_line.specs.declared.peers.NamedPeer.{NamedPeer}
use Rattle.command_line.specs.declared.reading.Invocation.{Invocation}
use Rattle.command_line.specs.declared.reading.Invocation.TheVariants as asked
use Rattle.command_line.specs.declared.reading.ServeOptions.{ServeOptions}

-- all peers are of this machine
abbrev pub AllHere : List NamedPeer → Type 0
AllHere [] = ⊤
AllHere (peer ∷ peers) = IsHere peer.address × AllHere peers

-- no other machine reaches the node, and it tells none on another machine
pub record AreHere (listen : SocketAddr) (peers : List NamedPeer) : Type 0 where
  pub listening : IsHere listen
  pub told : AllHere peers

-- an address that other machines reach, or of a node on another machine
abbrev pub IsUnguardedAmong : SocketAddr → List NamedPeer → Unguarded → Type 0
IsUnguardedAmong listen peers (Listening address) = (address ≡ listen) × ¬ (IsHere address)
IsUnguardedAmong listen peers (Told node address) =
    Contains peers (record { node = node; address = address }) × ¬ (IsHere address)

-- who has no key is reached by no other machine, and tells none
abbrev pub IsGuarded : ServeOptions → Type 0
IsGuarded options = options.key_file ≡ None → AreHere options.listen options.telling.peers.items

-- what is printed of it
abbrev pub unguarded_text : Unguarded → List ℕ
unguarded_text (Listening address) =
    socket_text address ++ codes " is not a loopback address: --key-file is required"
unguarded_text (Told node address) =
    decimal node ++ (codes ":" ++ (socket_text address ++ codes " is not a loopback address: --key-file is required"))

-- a node that is to be served is guarded
abbrev pub IsGuardedInvocation : Invocation → Type 0
IsGuardedInvocation (asked.Serve options part) = IsGuarded options
IsGuardedInvocation other = ⊤
