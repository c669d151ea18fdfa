use Rattle.std.proofs.Common.{sym, ◌∙◌, ap, List, map}
use Rattle.std.specs.List.{list_any, flat_map}
use Rattle.node_steps.specs.Replicas.{state_in}
use Rattle.message_format.specs.declared.message.NameEntry.{NameEntry}
use Rattle.message_format.specs.Messages.{entry_value, operations_of}
use Rattle.node_steps.specs.Refusals.{is_ahead}
use Rattle.node_steps.proofs.Ahead.{any_told}
use Rattle.node_steps.proofs.delivery.is_message_ahead.Goals as goal

pub returns : goal.returns
returns c =
    let test = is_ahead c.args.me (state_in c.args.state.now) in
    c.is_any_ahead.ensures ∙ sym (any_told test _) ∙ ap (λ (es : List NameEntry). list_any test
    (flat_map operations_of (map entry_value es))) c.deref.ensures.value
