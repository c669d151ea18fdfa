-- A pass as C is told it.
use Rattle.std.specs.Prelude.{◌≡◌, ℕ, List, [], length, Option, Some, None, is_some, false}
use Rattle.actions.specs.Value.{TaskValue}
use Rattle.actions.specs.Value as tasks
use Rattle.node_calls.specs.Asks.{Answered}
use Rattle.node_calls.specs.Told.{Passed}
use Rattle.node_calls.specs.Told as calls
use Rattle.node_calls.specs.Asks as asks
use Rattle.node_for_c.specs.declared.act.Act.{Act}

-- the number, the time and the text of a task
abbrev pub task_number : TaskValue → ℕ
task_number tasks.off = 0
task_number (tasks.«return» _) = 1
task_number (tasks.sleep _) = 2
task_number (tasks.panic _) = 3
task_number (tasks.print _) = 4
task_number tasks.pause = 5
task_number tasks.yield = 6
task_number (tasks.delay _) = 7

abbrev pub task_time : TaskValue → ℕ
task_time tasks.off = 0
task_time (tasks.«return» _) = 0
task_time (tasks.sleep n) = n
task_time (tasks.panic _) = 0
task_time (tasks.print _) = 0
task_time tasks.pause = 0
task_time tasks.yield = 0
task_time (tasks.delay n) = n

abbrev pub task_text : TaskValue → Option (List ℕ)
task_text tasks.off = None
task_text (tasks.«return» text) = text
task_text (tasks.sleep _) = None
task_text (tasks.panic text) = text
task_text (tasks.print text) = text
task_text tasks.pause = None
task_text tasks.yield = None
task_text (tasks.delay _) = None

abbrev pub text_or_none : Option (List ℕ) → List ℕ
text_or_none None = []
text_or_none (Some text) = text

-- the term that acts, and its task, whose text is to be fetched
pub record TellsTask (term : ℕ) (task : TaskValue) (a : Act) : Type 0 where
  pub term_is : a.term ≡ term
  pub task_is : a.task ≡ task_number task
  pub time : a.millis ≡ task_time task
  pub has_text : a.has_text ≡ is_some (task_text task)
  pub text_len : a.text_len ≡ length (text_or_none (task_text task))

-- what C is told of a point that isn't set, and of a pass that is refused
abbrev pub no_act : Act
no_act = record {
  clock = 0;
  millis = 0;
  text_len = 0;
  node = 0;
  term = 0;
  outcome = 0;
  task = 0;
  has_text = false;
}

abbrev pub IsTold : Passed → Act → Type 0
IsTold calls.Unset a = a ≡ no_act
IsTold (calls.NoTerm s) a = a ≡ record no_act { clock = s.clock; node = s.node; outcome = 1 }
IsTold (calls.Act s term task) a =
    (a.outcome ≡ 2) × (a.clock ≡ s.clock) × (a.node ≡ s.node) × TellsTask term task a

-- the text of the task that a pass came to
abbrev pub passed_text : Passed → List ℕ
passed_text calls.Unset = []
passed_text (calls.NoTerm s) = []
passed_text (calls.Act s term task) = text_or_none (task_text task)

-- what C is told of a pass, and what it may fetch then
abbrev pub IsPassTold : Answered → Act → List ℕ → Type 0
IsPassTold (asks.IsPassed p) a said = IsTold p a × (said ≡ passed_text p)
IsPassTold (asks.IsSet _) a said = ⊥
IsPassTold (asks.IsRemoved _) a said = ⊥
IsPassTold (asks.IsLoaded _) a said = ⊥
IsPassTold (asks.IsShifted _) a said = ⊥
IsPassTold (asks.IsGranted _) a said = ⊥
IsPassTold (asks.IsEmitted _) a said = ⊥
IsPassTold (asks.IsDelivered _) a said = ⊥
