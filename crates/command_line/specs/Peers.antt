-- What the words of a command line name as peers.
use Rattle.std.specs.Prelude.{◌≡◌, ℕ, ◌==◌, ◌≤◌, ◌<◌, ◌⊎◌, Bool, true, false, if◌then◌else◌, nat_lt, List, ◌++◌, ◌∷◌, length, Option, Some, None, Result, Ok, Err, codes}
use Rattle.std.specs.List.{AllZip, position_or_len, before_first, after_first}
use Rattle.std.specs.Net.Grammar.{IsSocketText}
use Rattle.std.specs.declared.net.socket_addr.SocketAddr.{SocketAddr}
use Rattle.decimals.specs.Decimals.{number_of, byte_of}
use Rattle.command_line.specs.Addresses.{IsPortHere, address_fault, address_fault_text, has_byte}
use Rattle.command_line.specs.declared.peers.NamedPeer.{NamedPeer}
use Rattle.command_line.specs.declared.peers.PeerFault.{PeerFault}
use Rattle.command_line.specs.declared.peers.PeerFault.TheVariants.{NoColon, BadNode, BadPort, BadAddress, NoSuchNode}

abbrev pub is_colon : ℕ → Bool
is_colon byte = byte == 58

abbrev pub has_colon : List ℕ → Bool
has_colon word = nat_lt (position_or_len is_colon word) (length word)

-- the number of a node that a word begins with, where it is one
abbrev pub node_of : List ℕ → Option ℕ
node_of word = byte_of (before_first is_colon word)

-- what stands behind that number
abbrev pub place_of : List ℕ → List ℕ
place_of word = after_first is_colon word

-- a text says where a node is served: by a port of this machine, or by an address and a port
abbrev pub IsPlaceText : List ℕ → SocketAddr → Type 0
IsPlaceText text address =
    ((port : ℕ) × (number_of 65535 text ≡ Some port) × IsPortHere port address) ⊎ IsSocketText text address

-- why a text that says no place says none
abbrev pub place_fault : List ℕ → PeerFault
place_fault text = if has_byte 58 text then BadAddress (address_fault text) else BadPort

-- where a text says that a node is served, or that it doesn't say it, and why
abbrev pub SaysPlace : List ℕ → Result SocketAddr PeerFault → Type 0
SaysPlace text (Ok address) = IsPlaceText text address
SaysPlace text (Err fault) = ((address : SocketAddr) → ¬ (IsPlaceText text address)) × (fault ≡ place_fault text)

-- a word names this peer in a cluster of so many nodes: what stands before the first colon is the number of one of
-- them, and what stands behind it says where it is served
pub record IsPeerText (nodes : ℕ) (word : List ℕ) (peer : NamedPeer) : Type 0 where
  pub colon : has_colon word ≡ true
  pub node : node_of word ≡ Some peer.node
  pub below : peer.node < nodes
  pub place : IsPlaceText (place_of word) peer.address

-- what stands behind the number of a node says no place
pub record IsBadPlace (word : List ℕ) (fault : PeerFault) : Type 0 where
  pub colon : has_colon word ≡ true
  pub number : ℕ
  pub node : node_of word ≡ Some number
  pub place : SaysPlace (place_of word) (Err fault)

-- it names a node that the cluster doesn't have
pub record IsBeyond (nodes : ℕ) (word : List ℕ) : Type 0 where
  pub colon : has_colon word ≡ true
  pub number : ℕ
  pub node : node_of word ≡ Some number
  pub above : nodes ≤ number
  pub address : SocketAddr
  pub place : IsPlaceText (place_of word) address

-- why a word names no peer
abbrev pub IsNoPeer : ℕ → List ℕ → PeerFault → Type 0
IsNoPeer nodes word fault =
    ((fault ≡ NoColon) × (has_colon word ≡ false))
    ⊎ (((fault ≡ BadNode) × (has_colon word ≡ true) × (node_of word ≡ None))
    ⊎ (IsBadPlace word fault ⊎ ((fault ≡ NoSuchNode) × IsBeyond nodes word)))

-- the peer that a word names in a cluster of so many nodes, or why it names none
abbrev pub SaysPeer : ℕ → List ℕ → Result NamedPeer PeerFault → Type 0
SaysPeer nodes word (Ok peer) = IsPeerText nodes word peer
SaysPeer nodes word (Err fault) = IsNoPeer nodes word fault

-- the words name these peers
abbrev pub AreNamed : ℕ → List (List ℕ) → List NamedPeer → Type 0
AreNamed nodes words peers = AllZip (IsPeerText nodes) words peers

-- the first of these words that names none, and why: those before it name peers
pub record IsFirstBad (nodes : ℕ) (words : List (List ℕ)) (word : List ℕ) (fault : PeerFault) : Type 0 where
  pub before : List (List ℕ)
  pub after : List (List ℕ)
  pub peers : List NamedPeer
  pub place : words ≡ before ++ word ∷ after
  pub good : AreNamed nodes before peers
  pub bad : IsNoPeer nodes word fault

-- what is printed of a fault
abbrev pub peer_fault_text : PeerFault → List ℕ
peer_fault_text NoColon = codes "expected `:` between the node and its port"
peer_fault_text BadNode = codes "the node isn't a number of at most 255"
peer_fault_text BadPort = codes "the port isn't a number of at most 65535"
peer_fault_text (BadAddress fault) = address_fault_text fault
peer_fault_text NoSuchNode = codes "the cluster has no such node"
