-- The calls that a node refused.
use Rattle.node_calls.specs.declared.ask.Ask.{Ask}
use Rattle.node_calls.specs.declared.fault.NodeFault.{NodeFault}
use Rattle.node_registry.specs.declared.noted.Refused.{Refused}

-- what was asked, and why it was refused
abbrev pub Refusal : Type 0
Refusal = Ask × NodeFault

abbrev pub refusal_of : Refused → Refusal
refusal_of r = (r.ask.value, r.fault)
