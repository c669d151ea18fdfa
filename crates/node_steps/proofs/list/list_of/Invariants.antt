use Rattle.std.proofs.Common.{◌≡◌, map, string_bytes}
use Rattle.node_steps.specs.Replicas.{state_in}
use Rattle.node_steps.specs.Texts.{list_text}
use Rattle.node_steps.proofs.Listing.{grown}
use Rattle.node_steps.proofs.list.list_of.Given as goal

abbrev pub invariant-loop-name : goal.invariant-loop-name
invariant-loop-name l =
    grown (state_in l.state) l.is_first (string_bytes l.text) (map (λ e. e.0) l.name-iterator) ≡ list_text
    (state_in l.state)
