-- A script as a schedule: the cluster that its lines make, what they ask of it, and what is carried out.
use Rattle.std.specs.Prelude.{◌≡◌, ℕ, true, List, [], ◌∷◌, ◌++◌, if◌then◌else◌, Option, Some, None, IfSome, count_by}
use Rattle.stamp_register.specs.declared.key.Stamp.{Stamp}
use Rattle.cluster_model.specs.Worlds.{Cluster, Event, cluster_of, is_cluster_size}
use Rattle.cluster_model.specs.Histories.{all_executions}
use Rattle.cluster_model.specs.Events.{WorldValue, EventValue, Answer, answer, new_world}
use Rattle.cluster_model.specs.Runs.{AreHonest, Continues, HasHistory, after_answers, happened, happened_after, tells_act}
use Rattle.streams.specs.Lines.{is_skipped}
use Rattle.streams.specs.Fields.{lines_of}
use Rattle.scripts.specs.Commands.{CommandValue, nodes, event, question}
use Rattle.scripts.specs.Script.{command_in, after_event, after_line}

-- what a line asks for, where it isn't skipped and has one of the forms
abbrev pub asked_in : List ℕ → Option CommandValue
asked_in line = if is_skipped line then None else command_in line

-- the cluster that a line makes, if it makes one
abbrev pub cluster_made : Option CommandValue → Option Cluster
cluster_made None = None
cluster_made (Some (nodes count cap)) = if is_cluster_size count then Some (cluster_of count cap) else None
cluster_made (Some (event e)) = None
cluster_made (Some (question node asked)) = None

-- the event that a line asks for, if it asks for one
abbrev pub event_asked : Option CommandValue → List EventValue
event_asked None = []
event_asked (Some (nodes count cap)) = []
event_asked (Some (event e)) = e ∷ []
event_asked (Some (question node asked)) = []

-- the events that lines ask for, in their order
abbrev pub events_in : List (List ℕ) → List EventValue
events_in [] = []
events_in (line ∷ lines) = event_asked (asked_in line) ++ events_in lines

-- a cluster, and what is asked of it
pub record ClusterRun : Type 0 where
  pub cluster : Cluster
  pub events : List EventValue

-- the first cluster that lines make, if they make one, is asked for the events of the lines behind
abbrev pub run_with : Option Cluster → List (List ℕ) → Option ClusterRun → Option ClusterRun
run_with None lines later = later
run_with (Some c) lines later = Some (record { cluster = c; events = events_in lines })

abbrev pub run_in : List (List ℕ) → Option ClusterRun
run_in [] = None
run_in (line ∷ lines) = run_with (cluster_made (asked_in line)) lines (run_in lines)

-- each event has its answer in the world that those before it left
abbrev pub answers_from : WorldValue → List EventValue → List Answer
answers_from w [] = []
answers_from w (e ∷ es) = answer w e ∷ answers_from (after_event w e) es

abbrev pub answers_in : ClusterRun → List Answer
answers_in r = answers_from (new_world r.cluster) r.events

-- the world after the last of them
abbrev pub world_left : ClusterRun → WorldValue
world_left r = after_answers (new_world r.cluster) r.events (answers_in r)

-- the events that were carried out, those that weren't refused; the last of them first
abbrev pub carried_out : ClusterRun → List Event
carried_out r = happened_after [] (new_world r.cluster) r.events (answers_in r)

-- how often the answers say that a term was executed under a stamp
abbrev pub executions_told : ClusterRun → Stamp → ℕ → ℕ
executions_told r stamp term = count_by (tells_act stamp term) (answers_in r)

-- a run is a schedule: what was carried out is the history of the world after it, the answers tell of each execution,
-- and no delivery was refused for what its message says
pub record IsScheduled (r : ClusterRun) : Type 0 where
  pub history : HasHistory r.cluster (carried_out r) (world_left r)
  pub executions : (stamp : Stamp) (term : ℕ) →
      all_executions r.cluster (carried_out r) stamp term ≡ executions_told r stamp term
  pub honest : AreHonest r.events (answers_in r)

-- so is the run of a script, if it makes a cluster
abbrev pub RunsAsSchedule : List ℕ → Type 0
RunsAsSchedule script = IfSome (run_in (lines_of script)) IsScheduled

-- ---- line by line

-- nothing happened yet in a cluster that was just made
abbrev pub Begins : CommandValue → Type 0
Begins (nodes count cap) =
    is_cluster_size count ≡ true → HasHistory (cluster_of count cap) [] (new_world (cluster_of count cap))
Begins (event e) = Unit {0}
Begins (question node asked) = Unit {0}

-- an event that isn't refused is the next of the schedule
abbrev pub IsNext : WorldValue → CommandValue → Type 0
IsNext w (nodes count cap) = Unit {0}
IsNext w (event e) = Continues w (after_event w e) (happened w e (answer w e))
IsNext w (question node asked) = Unit {0}

abbrev pub GoesOn : Option WorldValue → CommandValue → Type 0
GoesOn None command = Begins command
GoesOn (Some w) command = IsNext w command

abbrev pub LineGoesOn : Option WorldValue → List ℕ → Type 0
LineGoesOn w line = IfSome (asked_in line) (GoesOn w)

-- each line in the cluster that those before it left
abbrev pub AllGoOn : Option WorldValue → List (List ℕ) → Type 0
AllGoOn w [] = Unit {0}
AllGoOn w (line ∷ lines) = LineGoesOn w line × AllGoOn (after_line w line) lines
