-- The bytes of a message, field by field, and which messages have them. Numbers are big endian.
use Rattle.std.specs.Prelude.{◌≡◌, ◌≢◌, ℕ, ◌<◌, ◌≤◌, ◌^◌, Bool, nat_lt, if◌then◌else◌, List, [], ◌∷◌, ◌++◌, length, map, Option, Some, None, is_some, IsTrue, codes}
use Rattle.std.specs.List.{flat_map, list_any, AllByRecursion}
use Rattle.std.specs.List.Sorted.{IsStrictlySortedBy}
use Rattle.std.specs.Int.{w16, w64, to_be_bytes}
use Rattle.std.specs.Str.{IsUtf8}
use Rattle.std.specs.Ordering.{nat_cmp}
use Rattle.std.specs.Cmp.Lexicographic.{slice_cmp}
use Rattle.actions.specs.Value.{TermValue}
use Rattle.actions.specs.Grammar.{SpellsActions}
use Rattle.actions.specs.Canonical.{canonical}
use Rattle.actions.specs.Names.{is_name}
use Rattle.stamp_register.specs.Keys.{KeyValue}
use Rattle.operations.specs.Operations.{count_of}
use Rattle.message_format.specs.declared.wire.Form.{Form}
use Rattle.message_format.specs.declared.wire.Form.TheVariants.{Plain, WithGrants}
use Rattle.message_format.specs.Messages.{EntryValue, MessageValue}

-- the most bytes of a message
abbrev pub max_message : ℕ
max_message = 67108864

-- ---- the bytes

-- a message that tells no grant, and one that does: in that each name ends with its grants
abbrev pub magic : Form → List ℕ
magic Plain = codes "FPG1"
magic WithGrants = codes "FPG2"

-- whether an entry tells a grant, and the form of a message of these entries
abbrev pub has_grants : EntryValue → Bool
has_grants e = nat_lt 0 (length e.grants)

abbrev pub form_of : List EntryValue → Form
form_of es = if list_any has_grants es then WithGrants else Plain

-- a node and its hits
abbrev pub hit_bytes : ℕ × ℕ → List ℕ
hit_bytes c = c.0 ∷ to_be_bytes w64 c.1

-- a term, a node and its executions
abbrev pub exec_bytes : ℕ × ℕ × ℕ → List ℕ
exec_bytes c = c.0 ∷ c.1 ∷ to_be_bytes w64 c.2

-- a term, two nodes and the rights that the first moved to the second
abbrev pub shift_bytes : ℕ × ℕ × ℕ × ℕ → List ℕ
shift_bytes c = c.0 ∷ c.1 ∷ c.2 ∷ to_be_bytes w64 c.3

-- 0 where the point is removed, and else 1, the length of the text and the text
abbrev pub body_bytes : Option (List ℕ) → List ℕ
body_bytes None = 0 ∷ []
body_bytes (Some text) = 1 ∷ (to_be_bytes w16 (length text) ++ text)

abbrev pub key_bytes : KeyValue → List ℕ
key_bytes k = to_be_bytes w64 k.clock ++ (k.node ∷ body_bytes k.body)

-- each list behind its length
abbrev pub hits_bytes : List (ℕ × ℕ) → List ℕ
hits_bytes cells = length cells ∷ flat_map hit_bytes cells

abbrev pub execs_bytes : List (ℕ × ℕ × ℕ) → List ℕ
execs_bytes cells = to_be_bytes w16 (length cells) ++ flat_map exec_bytes cells

abbrev pub shifts_bytes : List (ℕ × ℕ × ℕ × ℕ) → List ℕ
shifts_bytes cells = to_be_bytes w16 (length cells) ++ flat_map shift_bytes cells

-- a term, a node and the rights that it granted, as of executions
abbrev pub grants_bytes : Form → List (ℕ × ℕ × ℕ) → List ℕ
grants_bytes Plain cells = []
grants_bytes WithGrants cells = execs_bytes cells

abbrev pub name_bytes : List ℕ → List ℕ
name_bytes name = length name ∷ name

abbrev pub entry_bytes : Form → EntryValue → List ℕ
entry_bytes form e =
    name_bytes e.name ++ (key_bytes e.key ++ (hits_bytes e.hits ++ (execs_bytes e.execs
    ++ (shifts_bytes e.shifts ++ grants_bytes form e.grants))))

abbrev pub entries_bytes : Form → List EntryValue → List ℕ
entries_bytes form es = to_be_bytes w16 (length es) ++ flat_map (entry_bytes form) es

abbrev pub versions_bytes : MessageValue → List ℕ
versions_bytes m = to_be_bytes w64 m.base ++ (to_be_bytes w64 m.upto ++ to_be_bytes w64 m.ack)

abbrev pub message_bytes : MessageValue → List ℕ
message_bytes m =
    let form = form_of m.entries in
    magic form ++ (m.from ∷ m.to ∷ (versions_bytes m ++ entries_bytes form m.entries))

-- ---- what has a spelling

-- by what cells of a list are told apart: their numbers but the last
abbrev pub hit_place : ℕ × ℕ → List ℕ
hit_place c = c.0 ∷ []

abbrev pub exec_place : ℕ × ℕ × ℕ → List ℕ
exec_place c = c.0 ∷ c.1 ∷ []

abbrev pub shift_place : ℕ × ℕ × ℕ × ℕ → List ℕ
shift_place c = c.0 ∷ c.1 ∷ c.2 ∷ []

-- each is below all after it: the first number that differs decides
abbrev pub Ascend : List (List ℕ) → Type 0
Ascend places = IsStrictlySortedBy (slice_cmp nat_cmp) places

-- a number of 64 bits that isn't 0
abbrev pub IsCount : ℕ → Type 0
IsCount n = (0 < n) × (n < 2 ^ 64)

-- the key sets a counted term of this number
abbrev pub IsCountedTerm : KeyValue → ℕ → Type 0
IsCountedTerm key term = IsTrue (is_some (count_of key term)) × (term < 2 ^ 8)

abbrev pub IsHit : ℕ → ℕ × ℕ → Type 0
IsHit nodes c = (c.0 < nodes) × IsCount c.1

abbrev pub IsExec : ℕ → KeyValue → ℕ × ℕ × ℕ → Type 0
IsExec nodes key c = IsCountedTerm key c.0 × (c.1 < nodes) × IsCount c.2

abbrev pub IsShift : ℕ → KeyValue → ℕ × ℕ × ℕ × ℕ → Type 0
IsShift nodes key c = IsCountedTerm key c.0 × (c.1 < nodes) × (c.2 < nodes) × (c.2 ≢ c.1) × IsCount c.3

-- what a node granted, as what it executed
abbrev pub IsGrant : ℕ → KeyValue → ℕ × ℕ × ℕ → Type 0
IsGrant nodes key c = IsExec nodes key c

abbrev pub grant_place : ℕ × ℕ × ℕ → List ℕ
grant_place c = exec_place c

-- the canonical text of some actions
abbrev pub IsCanonicalText : List ℕ → Type 0
IsCanonicalText text = IsUtf8 text × (terms : List TermValue) × SpellsActions text terms × (text ≡ canonical terms)

abbrev pub IsBody : Option (List ℕ) → Type 0
IsBody None = Unit {0}
IsBody (Some text) = IsCanonicalText text

pub record IsKey (nodes : ℕ) (k : KeyValue) : Type 0 where
  pub clock : k.clock < 2 ^ 64
  pub node : k.node < nodes
  pub body : IsBody k.body

pub record IsEntry (nodes : ℕ) (e : EntryValue) : Type 0 where
  pub name : IsTrue (is_name e.name)
  pub key : IsKey nodes e.key
  pub few_hits : length e.hits < 2 ^ 8
  pub hits : AllByRecursion (IsHit nodes) e.hits
  pub hits_ascend : Ascend (map hit_place e.hits)
  pub few_execs : length e.execs < 2 ^ 16
  pub execs : AllByRecursion (IsExec nodes e.key) e.execs
  pub execs_ascend : Ascend (map exec_place e.execs)
  pub few_shifts : length e.shifts < 2 ^ 16
  pub shifts : AllByRecursion (IsShift nodes e.key) e.shifts
  pub shifts_ascend : Ascend (map shift_place e.shifts)
  pub few_grants : length e.grants < 2 ^ 16
  pub grants : AllByRecursion (IsGrant nodes e.key) e.grants
  pub grants_ascend : Ascend (map grant_place e.grants)

-- entries in the order of their names
pub record AreEntries (nodes : ℕ) (es : List EntryValue) : Type 0 where
  pub few : length es < 2 ^ 16
  pub each : AllByRecursion (IsEntry nodes) es
  pub ascend : Ascend (map (λ e. e.name) es)

-- a message that a node of so many may send
pub record IsMessage (nodes : ℕ) (m : MessageValue) : Type 0 where
  pub few_nodes : nodes ≤ 2 ^ 8
  pub from : m.from < nodes
  pub to : m.to < nodes
  pub apart : m.to ≢ m.from
  pub base : m.base < 2 ^ 64
  pub upto : m.upto < 2 ^ 64
  pub ack : m.ack < 2 ^ 64
  pub entries : AreEntries nodes m.entries

-- the bytes are the message's, and keep to the limit
abbrev pub SpellsMessage : ℕ → List ℕ → MessageValue → Type 0
SpellsMessage nodes bytes m = IsMessage nodes m × (bytes ≡ message_bytes m) × (length bytes ≤ max_message)

-- a message that may be written: in a cluster of some number of nodes it has bytes, which keep to the limit
abbrev pub HasSpelling : MessageValue → Type 0
HasSpelling m = (nodes : ℕ) × SpellsMessage nodes (message_bytes m) m
