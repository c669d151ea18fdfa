-- Calls that are made again, and the node that they come to.
use Rattle.std.specs.Prelude.{◌≡◌, ℕ, ◌+◌, List, length, map, slice_get, take, None, Some}
use Rattle.node_steps.specs.declared.config.Config.{Config}
use Rattle.node_calls.specs.Asks.{Call, call_from}
use Rattle.node_calls.specs.Told.{Told}
use Rattle.node_steps.specs.Nodes.{Node}
use Rattle.node_core.specs.Steps.{reply}
use Rattle.node_steps.specs.Refusals.{refusal_at}
use Rattle.node_core.specs.Traces.{Kept, IsLegal, SendsDelta, node_of}

-- a call may come next: nothing refuses it, an emit sends what differs, and the reply is the step's
pub record IsLegalCall (config : Config) (entries : ℕ) (n : Node) (c : Call) : Type 0 where
  pub agreed : refusal_at config entries n c.ask c.words ≡ None
  pub sends : SendsDelta n c.ask
  pub reply : c.reply ≡ reply config.node n c.ask c.words

abbrev pub IsNext : Kept → Call → Type 0
IsNext k c = IsLegalCall k.config (length k.trace) (node_of k) c

abbrev pub IsLegalKept : Kept → Type 0
IsLegalKept k = IsLegal k.config k.trace

-- a node whose life is these calls, all of which it keeps
abbrev pub lived : Config → List Call → Kept
lived config calls = record { config = config; trace = calls; from = 0 }

-- these entries, one after the other, are calls that a node accepts and answers so
abbrev pub IsLegalAlone : Config → List Told → Type 0
IsLegalAlone config entries = IsLegal config (map (call_from config.nodes) entries)

-- the entry at this index is the first that it doesn't
pub record IsFirstWrong (config : Config) (entries : List Told) (index : ℕ) : Type 0 where
  pub entry : Told
  pub there : slice_get entries index ≡ Some entry
  pub legal : IsLegalAlone config (take index entries)
  pub wrong : IsLegalAlone config (take (index + 1) entries) → ⊥
