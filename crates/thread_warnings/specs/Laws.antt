-- What holds of every warning.
use Rattle.std.specs.Prelude.{◌≡◌, ℕ, false, All, List, count_by, length, Some}
use Rattle.std.specs.List.{range_with_len, sum_by}
use Rattle.node_calls.specs.Asks.{asked_first}
use Rattle.node_calls.specs.Told.{AskTold}
use Rattle.node_calls.specs.FaultCodes.{IsCoded, codes_end}
use Rattle.node_calls.specs.declared.fault.NodeFault.{NodeFault}
use Rattle.node_steps.specs.declared.config.Config.{Config}
use Rattle.node_steps.specs.Nodes.{Node}
use Rattle.node_steps.specs.Refusals.{is_full, refusal_at}
use Rattle.thread_warnings.specs.RefusedCalls.{has_code}
use Rattle.thread_warnings.specs.Unfit.{why_refused}

-- a call that is refused whatever a node knows: each node that has room for an entry refuses it so
abbrev pub UnfitIsRefused : Type 0
UnfitIsRefused = (config : Config) (entries : ℕ) (n : Node) (call : AskTold) (words : List ℕ) (fault : NodeFault) →
    is_full config entries ≡ false → why_refused call ≡ Some fault →
    refusal_at config entries n (asked_first config.nodes call) words ≡ Some fault

-- each call that was refused is counted under one code, with which the text of its fault begins
abbrev pub RefusedAreCounted : Type 0
RefusedAreCounted = (refused : List NodeFault) →
    (sum_by (λ code. count_by (has_code code) refused) (range_with_len 0 codes_end) ≡ length refused)
    × All IsCoded refused
