use Rattle.std.proofs.Common.{subst, sym, ℕ, List, Option}
use Rattle.actions.specs.Names.{is_name}
use Rattle.std.specs.Prelude.{IsTrue}
use Rattle.operations.specs.Operations.{IsIn}
use Rattle.message_format.specs.Spelling.{IsBody}
use Rattle.node_calls.specs.Asks.{Load}
use Rattle.node_steps.specs.Settings.{settings}
use Rattle.node_core.proofs.node.NodeCore.load.Goals as goal

pub take_in-requires-clause-tellable : goal.take_in-requires-clause-tellable
take_in-requires-clause-tellable c =
    subst (λ (text : List ℕ). (s : List ℕ × Option (List ℕ)) → IsIn s (settings (Load text)) →
    IsTrue (is_name s.0) × IsBody s.1) (sym c.in_ok-from_str.ensures.ok) c.in_ok-ops.ensures.tellable
