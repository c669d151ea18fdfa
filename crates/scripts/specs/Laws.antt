-- What holds of each script that runs as a schedule.
use Rattle.std.specs.Prelude.{◌≡◌, ◌≤◌, ◌+◌, ℕ, List, [], ◌∷◌, ◌++◌, Option, Some, None, option_map}
use Rattle.stamp_register.specs.Keys.{KeyValue, stamp_of}
use Rattle.operations.specs.Operations.{count_of}
use Rattle.cluster_model.specs.Histories.{IsIssued, all_granted}
use Rattle.cluster_model.specs.Laws.{EscrowHolds}
use Rattle.cluster_model.specs.Events.{WorldValue}
use Rattle.cluster_model.specs.Runs.{HoldsWhatItLearnt}
use Rattle.scripts.specs.Script.{after_line, line_output, text_from}
use Rattle.scripts.specs.Schedules.{ClusterRun, IsScheduled, carried_out, executions_told, run_in, world_left}

-- the cluster that lines leave
abbrev pub after_lines : Option WorldValue → List (List ℕ) → Option WorldValue
after_lines w [] = w
after_lines w (line ∷ lines) = after_lines (after_line w line) lines

-- it is that of the run that they ask for
abbrev pub LinesLeaveWorld : Type 0
LinesLeaveWorld = (lines : List (List ℕ)) → after_lines None lines ≡ option_map world_left (run_in lines)

-- and each line prints what it is answered by the cluster that those before it left
abbrev pub LinesAreAnswered : Type 0
LinesAreAnswered = (before : List (List ℕ)) (line : List ℕ) (behind : List (List ℕ)) →
    text_from line_output None (before ++ line ∷ behind) ≡
    text_from line_output None before ++
    (line_output (after_lines None before) line ++
    text_from line_output (after_lines None (before ++ line ∷ [])) behind)

-- of each term that was counted and granted so often under one stamp, the rights that nodes hold, those in transit and
-- the executions add up to the count and the grants
abbrev pub RunIsConserved : Type 0
RunIsConserved = (r : ClusterRun) → IsScheduled r → EscrowHolds r.cluster (carried_out r)

-- and the answers tell of no more executions, on all nodes together
abbrev pub IsBounded : ClusterRun → Type 0
IsBounded r = (name : List ℕ) (key : KeyValue) (term count : ℕ) →
    IsIssued r.cluster (carried_out r) name key → count_of key term ≡ Some count →
    executions_told r (stamp_of key) term ≤ count + all_granted r.cluster (carried_out r) name key term

abbrev pub RunIsBounded : Type 0
RunIsBounded = (r : ClusterRun) → IsScheduled r → IsBounded r

-- each node holds what it learnt
abbrev pub NodesHoldWhatTheyLearnt : Type 0
NodesHoldWhatTheyLearnt = (r : ClusterRun) → IsScheduled r →
    HoldsWhatItLearnt r.cluster (carried_out r) (world_left r)
