-- What is kept of a run: its drill, or the part of each node.
use Rattle.std.specs.Prelude.{◌≡◌, ◌<◌, ℕ, List, [], slice_index_or, false, Option, Ok, Vec}
use Rattle.std.specs.declared.alloc.Global.{Global}
use Rattle.drills.specs.Drills.{drill_in, drill_text, drill_told}
use Rattle.drills.specs.Lines.{HeadTold}
use Rattle.drills.specs.Parts.{part_text}
use Rattle.node_calls.specs.declared.receipt.Receipt.{Receipt}
use Rattle.packed_trace.specs.Packed.{Packed}
use Rattle.streams.specs.Streams.{Writes}
use Rattle.streams.specs.Watched.{has_unflushed}
use Rattle.streams.specs.declared.watched.Watched.{Watched}

-- the drill was written, and reads back as the same
abbrev pub KeepsDrill : {D : Type 0} → (D → Option (List ℕ)) → Watched D → Watched D → List Packed
    → List (Vec Receipt Global) → Type 0
KeepsDrill kept old new traces lists =
    Writes kept old new (drill_text (drill_told traces lists))
    × (drill_in (drill_text (drill_told traces lists)) ≡ Ok (drill_told traces lists))

-- the head of a node's part in a run at so many nodes with this cap, which has no name
abbrev pub head_at : ℕ → ℕ → ℕ → HeadTold
head_at nodes cap node = record { node = node; nodes = nodes; cap = cap; run = [] }

-- the part of a node, of the trace at its place, was written to the writer at that place, and flushed
abbrev pub KeepsPart : {D : Type 0} → (D → Option (List ℕ)) → ℕ → ℕ → List Packed → List (Watched D)
    → List (Watched D) → ℕ → Type 0
KeepsPart {D = D} kept nodes cap traces old new node =
    (w : Watched D) (t : Packed)
    → Writes kept (slice_index_or old node w) (slice_index_or new node w)
    (part_text (head_at nodes cap node) (slice_index_or traces node t).calls)
    × (has_unflushed (slice_index_or new node w) ≡ false)

-- so was that of each node
abbrev pub KeepsParts : {D : Type 0} → (D → Option (List ℕ)) → ℕ → ℕ → List Packed → List (Watched D)
    → List (Watched D) → Type 0
KeepsParts kept nodes cap traces old new = (node : ℕ) → node < nodes → KeepsPart kept nodes cap traces old new node
