-- Which operations a node of a cluster may know, so that messages can tell them.
use Rattle.std.specs.Prelude.{ℕ, ◌<◌, List, IsTrue, is_some}
use Rattle.actions.specs.Names.{is_name}
use Rattle.operations.specs.Operations.{Operation, Set, Count, Hits, Execs, Shifts, IsIn}
use Rattle.replica_state.specs.Folds.{key_of}
use Rattle.message_format.specs.Spelling.{IsKey, IsCountedTerm}

-- an operation that a message of a cluster of so many nodes can tell
abbrev pub IsLawful : ℕ → Operation → Type 0
IsLawful nodes (Set name key) = IsTrue (is_name name) × IsKey nodes key
IsLawful nodes (Count (Hits name node) number) = IsTrue (is_name name) × (node < nodes) × (0 < number)
IsLawful nodes (Count (Execs name key term node) number) =
    IsTrue (is_name name) × IsKey nodes key × IsCountedTerm key term × (node < nodes) × (0 < number)
IsLawful nodes (Count (Shifts name key term from to) number) =
    IsTrue (is_name name) × IsKey nodes key × IsCountedTerm key term
    × (from < nodes) × (to < nodes) × (0 < number)

-- each operation can be told, and a point that was passed has a key
pub record AreLawful (nodes : ℕ) (ops : List Operation) : Type 0 where
  pub each : (op : Operation) → IsIn op ops → IsLawful nodes op
  pub keyed : (name : List ℕ) (node number : ℕ) → IsIn (Count (Hits name node) number) ops →
      IsTrue (is_some (key_of name ops))
