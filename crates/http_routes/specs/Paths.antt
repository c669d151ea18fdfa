-- Where a path leads, by the segments that it has between its slashes.
use Rattle.std.specs.Prelude.{ℕ, ◌≡◌, ◌⊎◌, ◌<◌, ◌==◌, Bool, nat_lt, List, [], ◌∷◌, ◌++◌, length, if◌then◌else◌, Option, Some, None, false, codes, bytes_eq}
use Rattle.std.specs.List.{slice_split, list_all, join_with_byte}
use Rattle.matchit.specs.Seek.{has_slash}

abbrev pub slash : ℕ
slash = 47

pub data TargetValue : Type 0 where
  page : TargetValue
  points : TargetValue
  point : (name : List ℕ) → TargetValue
  load : TargetValue
  spread : (name : List ℕ) → TargetValue
  shift : (name term to amount : List ℕ) → TargetValue
  grant : (name term amount : List ℕ) → TargetValue
  gossip : TargetValue
  hello : TargetValue
  report : TargetValue
  status : TargetValue
  stop : TargetValue

-- ---- from a path to its target

-- a path, cut at its slashes: where it begins with one, its first segment is empty
abbrev pub segments : List ℕ → List (List ℕ)
segments path = slice_split (λ byte. byte == slash) path

-- a part that a route leaves open isn't empty, and it has no slash, since it is a segment
abbrev pub is_part : List ℕ → Bool
is_part segment = nat_lt 0 (length segment)

-- after `fail`: nothing or an empty segment, or a point's name
abbrev pub after_fail : List (List ℕ) → Option TargetValue
after_fail [] = Some points
after_fail ([] ∷ []) = Some points
after_fail (name ∷ []) = Some (point name)
after_fail more = None

-- after `grant`: a name, a term and an amount
abbrev pub after_grant : List (List ℕ) → Option TargetValue
after_grant (name ∷ term ∷ amount ∷ []) =
    if list_all is_part (name ∷ term ∷ amount ∷ [])
    then Some (grant name term amount) else None
after_grant other = None

-- after `shift`: a name, a term, a node and an amount
abbrev pub after_shift : List (List ℕ) → Option TargetValue
after_shift (name ∷ term ∷ to ∷ amount ∷ []) =
    if list_all is_part (name ∷ term ∷ to ∷ amount ∷ [])
    then Some (shift name term to amount) else None
after_shift other = None

-- after `spread`: a point's name
abbrev pub after_spread : List (List ℕ) → Option TargetValue
after_spread (name ∷ []) = if is_part name then Some (spread name) else None
after_spread other = None

-- after a word that leaves no part open: nothing
abbrev pub alone : TargetValue → List (List ℕ) → Option TargetValue
alone target [] = Some target
alone target more = None

-- the segments behind the empty one: a word, which may be empty, and what follows it
abbrev pub after_word : List ℕ → List (List ℕ) → Option TargetValue
after_word word parts =
    if bytes_eq word [] then alone page parts
    else if bytes_eq word (codes "fail") then after_fail parts
    else if bytes_eq word (codes "gossip") then alone gossip parts
    else if bytes_eq word (codes "grant") then after_grant parts
    else if bytes_eq word (codes "hello") then alone hello parts
    else if bytes_eq word (codes "load") then alone load parts
    else if bytes_eq word (codes "report") then alone report parts
    else if bytes_eq word (codes "shift") then after_shift parts
    else if bytes_eq word (codes "spread") then after_spread parts
    else if bytes_eq word (codes "status") then alone status parts
    else if bytes_eq word (codes "stop") then alone stop parts else None

abbrev pub target_in : List (List ℕ) → Option TargetValue
target_in ([] ∷ word ∷ parts) = after_word word parts
target_in other = None

-- where a path leads, if it leads anywhere
unfoldable pub target_of : List ℕ → Option TargetValue
target_of path = target_in (segments path)

-- ---- from a target to its paths

-- one segment that isn't empty
abbrev pub IsPart : List ℕ → Type 0
IsPart part = (0 < length part) × (has_slash part ≡ false)

abbrev pub AreParts : List (List ℕ) → Type 0
AreParts [] = Unit {0}
AreParts (part ∷ parts) = IsPart part × AreParts parts

-- a beginning, and parts with slashes between them
abbrev pub SpellsParts : List ℕ → List (List ℕ) → List ℕ → Type 0
SpellsParts start parts path = AreParts parts × (path ≡ start ++ join_with_byte slash parts)

-- a path of this target
abbrev pub SpellsTarget : TargetValue → List ℕ → Type 0
SpellsTarget page path = path ≡ codes "/"
SpellsTarget points path = (path ≡ codes "/fail") ⊎ (path ≡ codes "/fail/")
SpellsTarget (point name) path = SpellsParts (codes "/fail/") (name ∷ []) path
SpellsTarget load path = path ≡ codes "/load"
SpellsTarget (spread name) path = SpellsParts (codes "/spread/") (name ∷ []) path
SpellsTarget (shift name term to amount) path =
    SpellsParts (codes "/shift/") (name ∷ term ∷ to ∷ amount ∷ []) path
SpellsTarget (grant name term amount) path =
    SpellsParts (codes "/grant/") (name ∷ term ∷ amount ∷ []) path
SpellsTarget gossip path = path ≡ codes "/gossip"
SpellsTarget hello path = path ≡ codes "/hello"
SpellsTarget report path = path ≡ codes "/report"
SpellsTarget status path = path ≡ codes "/status"
SpellsTarget stop path = path ≡ codes "/stop"
