-- Bytes that tell what differs are those of an emit that a schedule allows next.
use Rattle.std.proofs.Common.{◌≡◌, ℕ, List, [], refl, sym, ◌∙◌, ap, subst, Option, Some, None, Result, Ok, Err}
use Rattle.operations.specs.Operations.{Operation}
use Rattle.message_format.specs.declared.fault.WireFault.{WireFault}
use Rattle.node_calls.specs.Asks.{Asked, Message, Versions, message_of, message_read, emit_of}
use Rattle.node_calls.specs.Asks as asks
use Rattle.node_steps.specs.Nodes.{Node}
use Rattle.node_core.specs.Steps.{message_to}
use Rattle.node_core.specs.Traces.{emission_of, versions_told, SendsDelta}
use Rattle.node_core.specs.Deliveries.{TellsDelta}
use Rattle.node_core.proofs.RepliedDelta.{delta_read, delta_message, delta_sends}
use Rattle.cluster_model.specs.Worlds.{Cluster, Event, accepted, world}
use Rattle.cluster_model.specs.Schedules.{MayTell, Allows, AllowsDelta, IsSchedule}
use Rattle.cluster_model.specs.Laws.{kept, emission, IsEmission}
use Rattle.cluster_model.proofs.Steps.{asked_is}
use Rattle.cluster_model.proofs.Replays.{node_is_replay}
use Rattle.cluster_model.proofs.Closed.{told_may, delta_may_send}

-- what is allowed of an ask is allowed of what is accepted of it
once_accepted : (c : Cluster) (es : List Event) (e : Event) (P : Option Asked → Type 0) → P None → P (Some e.ask) →
    P (accepted c (world c es) e e.node)
once_accepted c es e P none some = at (accepted c (world c es) e e.node) refl
  where
    at : (a : Option Asked) → accepted c (world c es) e e.node ≡ a → P a
    at None p = none
    at (Some ask) p = subst (λ (a : Asked). P (Some a)) (asked_is c (world c es) e e.node ask p).of some

module _ (c : Cluster) (es : List Event) (i to : ℕ) (bytes : List ℕ) (told : TellsDelta (kept c es i) to bytes) where
  abbrev ask : Asked
  ask = emission_of (kept c es i) to bytes

  sends : SendsDelta ((world c es).node i) ask
  sends = subst (λ (n : Node). SendsDelta n ask) (sym (node_is_replay c es i)) (delta_sends (kept c es i) to bytes told)

  differs : AllowsDelta (world c es) i (Some ask)
  differs = of (message_read c.nodes bytes) sends
    where
      of : (read : Result Message WireFault) → SendsDelta ((world c es).node i) (emit_of to read) →
          AllowsDelta (world c es) i (Some (emit_of to read))
      of (Ok m) h = h
      of (Err fault) h = h

  allowed : IsSchedule c es → Allows (world c es) i (Some ask)
  allowed s = of (message_read c.nodes bytes) sends
    where
      may : (versions : Versions) (chosen : List Operation) →
          SendsDelta ((world c es).node i) (asks.Emit to versions chosen) →
          Allows (world c es) i (Some (asks.Emit to versions chosen))
      may versions chosen h = (
        subst (MayTell ((world c es).node i).marks to) (sym h.0) (told_may ((world c es).node i).marks to),
        delta_may_send c es s i (((world c es).node i).past versions.base) chosen h.1,
      )

      of : (read : Result Message WireFault) → SendsDelta ((world c es).node i) (emit_of to read) →
          Allows (world c es) i (Some (emit_of to read))
      of (Ok m) h = may _ m.ops h
      of (Err fault) h = may _ [] h

  pub delta_is_emission : IsEmission c es i to bytes
  delta_is_emission =
      record {
        message = message_of told.message;
        read = delta_read (kept c es i) to bytes told;
        sent = delta_message (kept c es i) to bytes told
            ∙ ap (λ (v : Versions). message_to i to v (message_of told.message).ops)
            (told.versions ∙ ap (λ (n : Node). versions_told n.marks to) (sym (node_is_replay c es i)));
        differs = differs;
        allowed = allowed;
        schedule = λ s. (once_accepted c es (emission c es i to bytes) (Allows (world c es) i) tt (allowed s), s);
        delta_schedule = λ s. (
          once_accepted c es (emission c es i to bytes) (AllowsDelta (world c es) i) tt differs,
          s,
        );
      }
