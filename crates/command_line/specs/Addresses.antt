-- Addresses with a port that words of a command line name.
use Rattle.std.specs.Prelude.{◌≡◌, ℕ, ◌==◌, Bool, if◌then◌else◌, List, [], ◌∷◌, Result, Ok, Err, codes}
use Rattle.std.specs.List.{list_any}
use Rattle.std.specs.Net.Addr.{IsLoopbackV4, IsLoopbackV6, IsV4And, MatchIp, ipv4_octets}
use Rattle.std.specs.Net.Grammar.{IsSocketText}
use Rattle.std.specs.Net.Socket.{IsPlainSocket, socket_ip}
use Rattle.std.specs.declared.net.socket_addr.SocketAddr.{SocketAddr}
use Rattle.command_line.specs.declared.addresses.AddressFault.{AddressFault}
use Rattle.command_line.specs.declared.addresses.AddressFault.TheVariants.{NoAddress, BadScope}

-- whether a text has this byte
abbrev pub has_byte : ℕ → List ℕ → Bool
has_byte byte text = list_any (λ other. other == byte) text

-- why a text that spells no address is none
abbrev pub address_fault : List ℕ → AddressFault
address_fault text = if has_byte 37 text then BadScope else NoAddress

-- the address that a text spells, or that it spells none, and why
abbrev pub SaysAddress : List ℕ → Result SocketAddr AddressFault → Type 0
SaysAddress text (Ok address) = IsSocketText text address
SaysAddress text (Err fault) = ((address : SocketAddr) → ¬ (IsSocketText text address)) × (fault ≡ address_fault text)

-- an address of this machine's own: one of 127.0.0.0/8, or ::1
abbrev pub IsHere : SocketAddr → Type 0
IsHere address = MatchIp (socket_ip address) IsLoopbackV4 IsLoopbackV6

-- a port of 127.0.0.1
abbrev pub IsPortHere : ℕ → SocketAddr → Type 0
IsPortHere port address =
    IsV4And (socket_ip address) (λ ip. ipv4_octets ip ≡ 127 ∷ 0 ∷ 0 ∷ 1 ∷ []) × IsPlainSocket address port

-- what is printed of a fault
abbrev pub address_fault_text : AddressFault → List ℕ
address_fault_text NoAddress =
    codes "expected an IP address and port, such as 10.0.0.2:7071 or [fd00::2]:7071; host names aren't resolved"
address_fault_text BadScope =
    codes "expected a scope number, such as [fe80::2%3]:7071; `ip link` shows those of this machine"
