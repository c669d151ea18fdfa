-- A replica with versions: its state, how many changes it had, which versions of others it knows and
-- which of its own others are known to know, and when each key and each cell last changed.
use Rattle.std.specs.Prelude.{◌≡◌, ℕ, ◌+◌, ◌<◌, ◌^◌, max, Bool, ◌==◌, ◌&&◌, nat_le, nat_lt, List, [], if◌then◌else◌, Option, is_some, IfSome, IsSome}
use Rattle.std.specs.Option.{unwrap_or}
use Rattle.std.specs.Map.{lookup}
use Rattle.std.specs.BTreeMap.{is_at}
use Rattle.std.specs.Ordering.{nat_cmp}
use Rattle.operations.specs.Operations.{Operation}
use Rattle.replica_state.specs.States.{State, budget_of}
use Rattle.replica_state.specs.Folds.{fold}
use Rattle.replica_state.specs.Knowledge.{changes}
use Rattle.delta_exchange.specs.declared.versions.NodeVersions.{NodeVersions}
use Rattle.delta_exchange.specs.declared.versioned.Versioned.{Versioned}
use Rattle.delta_exchange.specs.Marks.{marks_value, last_changes}
use Rattle.message_format.specs.Messages.{MessageValue, operations_in}
use Rattle.delta_exchange.specs.Told.{HasLearned}
use Rattle.delta_exchange.specs.Changes.{LastChanges, ChangesAt}

pub record VersionedValue : Type 0 where
  pub state : State
  pub version : ℕ
  pub known : ℕ → ℕ
  pub acked : ℕ → ℕ
  pub last : LastChanges

-- the version of a node, 0 where there is none
unfoldable pub version_of : NodeVersions → ℕ → ℕ
version_of versions node = unwrap_or (lookup (is_at (nat_cmp node)) versions.versions.entries) 0

unfoldable pub has_version : NodeVersions → ℕ → Bool
has_version versions node = is_some (lookup (is_at (nat_cmp node)) versions.versions.entries)

-- the value of a replica with versions, by the state that its replica stands for
unfoldable pub value_of : {R : Type 0} → (R → State) → Versioned R → VersionedValue
value_of state v =
    record {
      state = state v.replica;
      version = v.version;
      known = version_of v.known;
      acked = version_of v.acked;
      last = last_changes (marks_value v.marks);
    }

-- nothing ever changed
abbrev pub no_changes : LastChanges
no_changes = record { key = λ name. 0; cell = λ name c. 0 }

abbrev pub nothing_known : VersionedValue
nothing_known = record { state = fold []; version = 0; known = λ j. 0; acked = λ j. 0; last = no_changes }

-- the known version of a sender is raised to the one that it tells, if nothing lies between what was
-- known and the base of what it tells
abbrev pub known_raised : ℕ → ℕ → ℕ → (ℕ → ℕ) → ℕ → ℕ
known_raised from base upto known j =
    if j == from && (nat_le base (known j) && nat_lt (known j) upto) then upto else known j

-- the acknowledged version of a sender is raised to the one that it acknowledges
abbrev pub acked_raised : ℕ → ℕ → (ℕ → ℕ) → ℕ → ℕ
acked_raised from ack acked j = if j == from then max (acked j) ack else acked j

-- a pass may be counted: the point has a key, which counts the term that is spent, and there is room
-- for one hit, one execution of that term and one change more
pub record MayPass (v : VersionedValue) (name : List ℕ) (node : ℕ) (spent : Option ℕ) : Type 0 where
  pub set : IsSome (v.state.key name)
  pub counted : IfSome spent (λ term. IsSome (budget_of v.state name term))
  pub hits : v.state.hits name node + 1 < 2 ^ 64
  pub execs : IfSome spent (λ term. v.state.execs name term node + 1 < 2 ^ 64)
  pub version : v.version + 1 < 2 ^ 64

-- one change, after which the state is this one
pub record ChangesTo (before : VersionedValue) (state : State) (after : VersionedValue) : Type 0 where
  pub state_is : after.state ≡ state
  pub version : after.version ≡ before.version + 1
  pub known : after.known ≡ before.known
  pub acked : after.acked ≡ before.acked
  pub last : ChangesAt before.state after.state after.version before.last after.last

-- operations are learned, all at once: where the state was that of some set, it is then that of the
-- set with these operations, and what they change is changed with the new version
pub record LearnsAll (before : VersionedValue) (added : List Operation) (after : VersionedValue) : Type 0 where
  pub state : HasLearned before.state after.state added
  pub version : after.version ≡ before.version + (if changes before.state added then 1 else 0)
  pub last : (ops : List Operation) → before.state ≡ fold ops →
      ChangesAt before.state after.state after.version before.last after.last

pub record Issues (before : VersionedValue) (added : List Operation) (after : VersionedValue) : Type 0 where
  pub learned : LearnsAll before added after
  pub known : after.known ≡ before.known
  pub acked : after.acked ≡ before.acked

pub record Receives (before : VersionedValue) (m : MessageValue) (after : VersionedValue) : Type 0 where
  pub learned : LearnsAll before (operations_in m) after
  pub known : after.known ≡ known_raised m.from m.base m.upto before.known
  pub acked : after.acked ≡ acked_raised m.from m.ack before.acked
