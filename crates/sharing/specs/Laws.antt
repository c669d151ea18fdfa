-- What holds of the shifts of every round, in every state, whatever is remembered.
use Rattle.std.specs.Prelude.{◌≡◌, ◌≢◌, ℕ, ◌<◌, ◌≤◌, ◌==◌, ◌&&◌, List, [], Option, sum_by, count_by, pos, ◌≤ℤ◌}
use Rattle.std.specs.Int.{int_gap}
use Rattle.std.specs.List.{All}
use Rattle.std.specs.List.Sorted.{IsPermutation, IsNonDecreasingBy}
use Rattle.replica_state.specs.States.{State, rights_of}
use Rattle.sharing.specs.declared.shift.Shift.{Shift}
use Rattle.sharing.specs.Memory.{Recalled, recall, seen}
use Rattle.sharing.specs.Shares.{kept, line_of, point_shifts, shifts_of, term_shifts}

-- how many rights shifts move in all
abbrev pub moved_in : List Shift → ℕ
moved_in shifts = sum_by (λ shift. shift.amount) shifts

-- of a term it never gives more than it has, and one right less where it passed lately itself
abbrev pub GivesOfItsRights : Type 0
GivesOfItsRights = (v : State) (name : List ℕ) (node still : ℕ) (others : List ℕ) (term : ℕ) →
    moved_in (term_shifts v name node still others term) ≤ int_gap (pos (kept still)) (rights_of v name term node)

-- who is given rights, at least one: another node of the cluster, which passed the point since the last
-- round and has no right to the term
abbrev pub IsDue : State → ℕ → ℕ → List Recalled → Shift → Type 0
IsDue v node nodes memory shift =
    (shift.to < nodes) × (shift.to ≢ node)
    × (seen (recall memory shift.name) shift.to < v.hits shift.name shift.to)
    × (rights_of v shift.name shift.term shift.to ≤ℤ pos 0)
    × (0 < shift.amount)

abbrev pub GivesWhatIsDue : Type 0
GivesWhatIsDue = (v : State) (node nodes : ℕ) (memory : List Recalled) →
    All (IsDue v node nodes memory) (shifts_of v node nodes memory)

-- of a point one shift of a term at most goes to a node
abbrev pub GivesOnce : Type 0
GivesOnce = (v : State) (node nodes : ℕ) (recalled : Option Recalled) (name : List ℕ) (term to : ℕ) →
    count_by (λ shift. shift.term == term && shift.to == to) (point_shifts v node nodes recalled name) ≤ 1

-- where no other node's hits grew since the last round, nothing is given
abbrev pub GivesNothingToTheQuiet : Type 0
GivesNothingToTheQuiet = (v : State) (node nodes : ℕ) (memory : List Recalled) →
    ((name : List ℕ) (other : ℕ) → other ≢ node → v.hits name other ≤ seen (recall memory name) other)
    → shifts_of v node nodes memory ≡ []

-- a line has those that wait, each once, and who executed the term less often stands before who did
-- more often
abbrev pub LineIsInOrder : Type 0
LineIsInOrder = (executions : ℕ → ℕ) (nodes : List ℕ) →
    IsPermutation nodes (line_of executions nodes) × IsNonDecreasingBy executions (line_of executions nodes)
