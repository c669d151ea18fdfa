use Rattle.std.proofs.Common.{◌≡◌, ◌⊎◌, Some, Ok, Err, sym, ap, subst}
use Rattle.message_format.specs.Reading.{message_at}
use Rattle.node_calls.specs.declared.fault.NodeFault.{NodeFault}
use Rattle.node_calls.specs.declared.fault.NodeFault.TheVariants as faults
use Rattle.node_calls.specs.Asks.{message_read, read_of}
use Rattle.node_steps.specs.Refusals.{bad_message}
use Rattle.node_steps.proofs.BadMessages.{refused_so}
use Rattle.node_steps.proofs.MemoryLemmas.{header_is_ok}
use Rattle.message_format.specs.declared.message.Message.{Message}
use Rattle.node_steps.proofs.delivery.read_message.Goals as goal

pub returns-in-Ok-clause-ok : goal.returns-in-Ok-clause-ok
unfolding message_read
returns-in-Ok-clause-ok c = ap read_of c.in-Ok.ensures.exact

pub returns-in-Ok-clause-header : goal.returns-in-Ok-clause-header
returns-in-Ok-clause-header c =
    header_is_ok Message c.args.nodes c.args.bytes.now (Ok c.in-Ok.message) c.in-Ok.ensures.header
    (λ fault same. absurd cc)

pub returns-in-Err : goal.returns-in-Err
unfolding message_read
returns-in-Err c =
    let read = message_at c.args.nodes c.args.bytes.now in
    record {
      ok = tt;
      spelled = tt;
      header = tt;
      memory = λ e. header_is_ok Message c.args.nodes c.args.bytes.now (Err c.in-Err.fault) c.in-Err.ensures.header
          (λ fault same. let told = c.refusal_for.ensures in cc);
      refused = subst (λ (f : NodeFault). (f ≡ faults.OutOfMemory) ⊎ (bad_message (read_of read) ≡ Some f))
          (sym c.refusal_for.ensures) (refused_so c.in-Err.fault read c.in-Err.ensures.exact);
    }
