-- When each key and each cell of a state last changed, by versions, and what changed since one.
use Rattle.std.specs.Prelude.{◌≡◌, ◌≢◌, ℕ, List, ◌≤◌, ◌<◌, ◌↔◌, Some, false}
use Rattle.operations.specs.Operations.{Operation, Set, Count}
use Rattle.operations.specs.Operations as cells
use Rattle.replica_state.specs.States.{State}
use Rattle.operations.specs.Counts.{is_hits}
use Rattle.replica_state.specs.Cells.{cell_of}
use Rattle.operations.specs.declared.counted.Counted.{Counted}
use Rattle.operations.specs.declared.counted.Counted.TheVariants.{Hits, Execs, Shifts}

-- of each name the version that last changed its key, and of each of its cells. Of a cell that is 0 it
-- says nothing
pub record LastChanges : Type 0 where
  pub key : List ℕ → ℕ
  pub cell : List ℕ → Counted → ℕ

abbrev pub IsSameKey : State → State → List ℕ → Type 0
IsSameKey v w name = v.key name ≡ w.key name

-- a cell of a key is the same under the same key alone
abbrev pub IsSameCell : State → State → List ℕ → Counted → Type 0
IsSameCell v w name c = (is_hits c ≡ false → IsSameKey v w name) × (cell_of v name c ≡ cell_of w name c)

-- it stays where nothing changed, and else it is the version
abbrev pub IsChangedAt : Type 0 → ℕ → ℕ → ℕ → Type 0
IsChangedAt same version before now = (same → now ≡ before) × ((same → ⊥) → now ≡ version)

-- a step from one state to another changes with this version what it changes, and nothing else
pub record ChangesAt (v w : State) (version : ℕ) (before now : LastChanges) : Type 0 where
  pub key : (name : List ℕ) → IsChangedAt (IsSameKey v w name) version (before.key name) (now.key name)
  pub cell : (name : List ℕ) (c : Counted) → cell_of w name c ≢ 0 →
      IsChangedAt (IsSameCell v w name c) version (before.cell name c) (now.cell name c)

-- what changed after a version is what differs from the state then, for each version so far
pub record TellsChanges (past : ℕ → State) (version : ℕ) (now : State) (last : LastChanges) : Type 0 where
  pub key : (v : ℕ) → v ≤ version → (name : List ℕ) →
      (v < last.key name) ↔ (IsSameKey (past v) now name → ⊥)
  pub cell : (v : ℕ) → v ≤ version → (name : List ℕ) (c : Counted) → cell_of now name c ≢ 0 →
      (v < last.cell name c) ↔ (IsSameCell (past v) now name c → ⊥)

-- nothing of a name changed after a version
pub record IsUnchangedSince (v : State) (last : LastChanges) (base : ℕ) (name : List ℕ) : Type 0 where
  pub key : last.key name ≤ base
  pub cell : (c : Counted) → cell_of v name c ≢ 0 → last.cell name c ≤ base

-- a cell that isn't 0 and changed after a version
pub record IsChangedCell (v : State) (last : LastChanges) (base : ℕ)
    (name : List ℕ) (c : Counted) (number : ℕ) : Type 0 where
  pub is_now : number ≡ cell_of v name c
  pub positive : number ≢ 0
  pub later : base < last.cell name c

-- an operation tells of a change after a version: the key of a name of which anything changed; and a cell that did
abbrev pub IsChangeSince : State → LastChanges → ℕ → Operation → Type 0
IsChangeSince v last base (Set name key) = (v.key name ≡ Some key) × (IsUnchangedSince v last base name → ⊥)
IsChangeSince v last base (Count (cells.Hits name node) number) =
    IsChangedCell v last base name (Hits node) number
IsChangeSince v last base (Count (cells.Execs name key term node) number) =
    (v.key name ≡ Some key) × IsChangedCell v last base name (Execs term node) number
IsChangeSince v last base (Count (cells.Shifts name key term from to) number) =
    (v.key name ≡ Some key) × IsChangedCell v last base name (Shifts term from to) number
