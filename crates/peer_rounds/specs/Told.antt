-- Over which wire the peers of a served node were told.
use Rattle.std.specs.Prelude.{◌≡◌, ℕ, ◌&&◌, Bool, true, false, List, [], is_some, Option, Some, None}
use Rattle.node_steps.specs.declared.config.Config.{Config}
use Rattle.command_line.specs.declared.reading.Rights.{Rights}
use Rattle.node_registry.specs.Seats.{SeatState}
use Rattle.node_registry.specs.declared.label.Label.{Ghosts}
use Rattle.gossip.specs.Traffic.{Traffic}
use Rattle.gossip.specs.News.{Says}
use Rattle.http_wire.specs.Reached.{is_ready_for}
use Rattle.http_wire.specs.Sent.{traffic_of}
use Rattle.http_wire.specs.declared.wire.HttpWire.{HttpWire}
use Rattle.part_files.specs.declared.recording_wire.RecordingWire.{RecordingWire}
use Rattle.peer_rounds.specs.Sharing.{AreRoundsTo}
use Rattle.peer_rounds.specs.declared.round.Round.{Round}
use Rattle.peer_rounds.specs.declared.telling.Told.{Told}
use Rattle.peer_rounds.specs.declared.telling.Over.{Over}
use Rattle.peer_rounds.specs.declared.telling.Over.TheVariants as over

abbrev pub no_traffic : Traffic
no_traffic = record { sent = []; taken = [] }

-- what a wire said of the nodes that it reaches: a bare one, and one that sends what is written
abbrev pub bare_says : {R : Type 0} → HttpWire R → ℕ → Bool → Type 0
bare_says {R = R} wire = Says {X = HttpWire R} (λ w node. is_ready_for w.ready node)

abbrev pub recorded_says : {L R : Type 0} {g : Ghosts L} → RecordingWire L (HttpWire R) g → ℕ → Bool → Type 0
recorded_says {L = L} {R = R} {g = g} wire =
    Says {X = RecordingWire L (HttpWire R) g} (λ w node. w.goes_on && is_ready_for w.wire.inner.ready node)

-- Rounds to these nodes were made over the wire, by what it sent in all: with a recorder over one that sends what is
-- written, and without over a bare one. If there is no wire, nothing was done
abbrev pub IsToldBy : {X R L : Type 0} {g : Ghosts L} → Option X → List ℕ → Config → List ℕ → Bool → ℕ → Rights →
    SeatState → SeatState → ℕ → List Round → Bool → Over L R g → Type 0
IsToldBy recorder nodes config seed keeps seats wanted had has count rounds lost over.Nothing =
    (has ≡ had) × (count ≡ 0) × (lost ≡ false)
IsToldBy recorder nodes config seed keeps seats wanted had has count rounds lost (over.Wire wire) =
    (recorder ≡ None) × AreRoundsTo nodes config seed keeps seats (bare_says wire) wanted had has
    no_traffic (traffic_of wire.sent.items) count rounds lost
IsToldBy recorder nodes config seed keeps seats wanted had has count rounds lost (over.Recorded wire) =
    (is_some recorder ≡ true) × AreRoundsTo nodes config seed keeps seats (recorded_says wire) wanted had has
    no_traffic (traffic_of wire.wire.inner.sent.items) count rounds lost

abbrev pub IsToldOver : {X R L : Type 0} {g : Ghosts L} → Option X → List ℕ → Config → List ℕ → Bool → ℕ → Rights →
    SeatState → SeatState → Told L R g → Type 0
IsToldOver recorder nodes config seed keeps seats wanted had has told =
    IsToldBy recorder nodes config seed keeps seats wanted had has told.rounds.made told.rounds.log.items
    (is_some told.rounds.loss) told.over
