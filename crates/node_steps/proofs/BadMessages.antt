-- Bytes that are refused.
use Rattle.std.proofs.Common.{◌≡◌, ◌⊎◌, inl, inr, Result, Some, refl, ap}
use Rattle.message_format.specs.declared.fault.WireFault.{WireFault}
use Rattle.message_format.specs.declared.fault.WireFault.TheVariants as wires
use Rattle.message_format.specs.Messages.{MessageValue}
use Rattle.message_format.specs.Reading.{Fails}
use Rattle.node_calls.specs.declared.fault.NodeFault.TheVariants as faults
use Rattle.node_calls.specs.Asks.{read_of}
use Rattle.node_steps.specs.Refusals.{bad_message, wire_refusal}

-- the refusal is the fault that was read, or out of memory
pub refused_so : (fault : WireFault) (read : Result MessageValue WireFault) → Fails fault read →
    (wire_refusal fault ≡ faults.OutOfMemory) ⊎ (bad_message (read_of read) ≡ Some (wire_refusal fault))
refused_so wires.OutOfMemory read h = inl refl
refused_so (wires.Magic offset) read h = inr (ap (λ r. bad_message (read_of r)) h)
refused_so (wires.Short offset) read h = inr (ap (λ r. bad_message (read_of r)) h)
refused_so (wires.Long offset) read h = inr (ap (λ r. bad_message (read_of r)) h)
refused_so (wires.BadNode offset) read h = inr (ap (λ r. bad_message (read_of r)) h)
refused_so (wires.NameOrder offset) read h = inr (ap (λ r. bad_message (read_of r)) h)
refused_so (wires.BadName offset) read h = inr (ap (λ r. bad_message (read_of r)) h)
refused_so (wires.BadBody offset) read h = inr (ap (λ r. bad_message (read_of r)) h)
refused_so (wires.NotCanonical offset) read h = inr (ap (λ r. bad_message (read_of r)) h)
refused_so (wires.CellOrder offset) read h = inr (ap (λ r. bad_message (read_of r)) h)
refused_so (wires.ZeroCell offset) read h = inr (ap (λ r. bad_message (read_of r)) h)
refused_so (wires.BadTerm offset) read h = inr (ap (λ r. bad_message (read_of r)) h)
refused_so (wires.TooBig offset) read h = inr (ap (λ r. bad_message (read_of r)) h)
refused_so (wires.NoGrant offset) read h = inr (ap (λ r. bad_message (read_of r)) h)
