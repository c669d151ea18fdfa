-- Which calls need memory: those that no refusal stops before the first of it is taken. No other call
-- that is made by its own name is refused for want of it. One that is given as a value may be: its ask
-- and its words are copied first.
use Rattle.std.specs.Prelude.{◌≡◌, ◌≢◌, ℕ, ◌≤◌, ◌<◌, List, length, true, IsOk}
use Rattle.actions.specs.Names.{is_name}
use Rattle.message_format.specs.Reading.{header_of}
use Rattle.node_steps.specs.Refusals.{IsReadable}
use Rattle.node_core.specs.Traces.{Kept}
use Rattle.node_core.specs.Room.{HasRoom}

abbrev pub SetNeedsMemory : Kept → List ℕ → List ℕ → Type 0
SetNeedsMemory k name text = HasRoom k × (is_name name ≡ true) × IsReadable text

-- a removal, a pass, a shift or a grant
abbrev pub NameNeedsMemory : Kept → List ℕ → Type 0
NameNeedsMemory k name = HasRoom k × (is_name name ≡ true)

abbrev pub LoadNeedsMemory : Kept → List ℕ → Type 0
LoadNeedsMemory k text = HasRoom k × (length text ≤ 65536)

abbrev pub EmitNeedsMemory : Kept → ℕ → Type 0
EmitNeedsMemory k to = HasRoom k × (to < k.config.nodes) × (to ≢ k.config.node)

-- a message is refused for what stands before its entries first
abbrev pub DeliveryNeedsMemory : Kept → List ℕ → Type 0
DeliveryNeedsMemory k bytes = HasRoom k × IsOk (header_of k.config.nodes bytes)
