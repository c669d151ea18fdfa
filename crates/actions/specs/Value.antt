-- What an action text stands for, without where it lies in memory.
use Rattle.std.specs.Prelude.{ℕ, List, Option, option_map, string_bytes}
use Rattle.actions.specs.declared.task.Task.{Task}
use Rattle.actions.specs.declared.task.Task.TheVariants as tasks
use Rattle.actions.specs.declared.task.Term.{Term}

-- a task with its argument
pub data TaskValue : Type 0 where
  off : TaskValue
  «return» : Option (List ℕ) → TaskValue
  sleep : ℕ → TaskValue
  panic : Option (List ℕ) → TaskValue
  print : Option (List ℕ) → TaskValue
  pause : TaskValue
  yield : TaskValue
  delay : ℕ → TaskValue

-- a term: its chance in parts per million, its count and its task
pub record TermValue : Type 0 where
  pub ppm : ℕ
  pub count : Option ℕ
  pub task : TaskValue

abbrev pub task_value : Task → TaskValue
task_value tasks.Off = off
task_value (tasks.Return text) = «return» (option_map string_bytes text)
task_value (tasks.Sleep n) = sleep n
task_value (tasks.Panic text) = panic (option_map string_bytes text)
task_value (tasks.Print text) = print (option_map string_bytes text)
task_value tasks.Pause = pause
task_value tasks.Yield = yield
task_value (tasks.Delay n) = delay n

abbrev pub term_value : Term → TermValue
term_value t = record { ppm = t.ppm; count = t.count; task = task_value t.task }
