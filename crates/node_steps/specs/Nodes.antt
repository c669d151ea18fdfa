-- One node: the set of operations that it knows, and its marks.
use Rattle.std.specs.Prelude.{ℕ, ◌-◌, ◌^◌, List, [], Option, Some, None, option_map}
use Rattle.actions.specs.Value.{TermValue}
use Rattle.stamp_register.specs.Keys.{KeyValue, terms_set}
use Rattle.operations.specs.Operations.{Operation}
use Rattle.replica_state.specs.States.{State}
use Rattle.replica_state.specs.Folds.{fold}

-- the most calls that a node may be made to accept in its life
abbrev pub max_trace_cap : ℕ
max_trace_cap = 2 ^ 56 - 1

-- the clock; the version, which counts the accepted calls that changed the state; the version of
-- each other node that this one knows, and the version of this node that each other is known to know
pub record Marks : Type 0 where
  pub clock : ℕ
  pub version : ℕ
  pub known : ℕ → ℕ
  pub acked : ℕ → ℕ

-- the operations, the marks, and the state as it was at each version
pub record Node : Type 0 where
  pub ops : List Operation
  pub marks : Marks
  pub past : ℕ → State

abbrev pub start : Node
start = record {
  ops = [];
  marks = record { clock = 0; version = 0; known = λ j. 0; acked = λ j. 0 };
  past = λ v. fold [];
}

-- what a node shows of its operations; each step reads no more of them
abbrev pub state_shown : Node → State
state_shown n = fold n.ops

-- the key of a name and its terms, where the point is set
abbrev pub setting_in : Option KeyValue → Option (KeyValue × List TermValue)
setting_in None = None
setting_in (Some key) = option_map (λ terms. (key, terms)) (terms_set key.body)

abbrev pub setting_of : State → List ℕ → Option (KeyValue × List TermValue)
setting_of v name = setting_in (v.key name)

abbrev pub terms_in : Option (KeyValue × List TermValue) → List TermValue
terms_in None = []
terms_in (Some setting) = setting.1
