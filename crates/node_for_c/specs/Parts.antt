-- The lines of a node's part, and calls that are made again.
use Rattle.std.specs.Prelude.{◌≡◌, ◌⊎◌, ℕ, ◌+◌, ◌^◌, ◌%◌, ◌<◌, ◌≤◌, List, [], ◌++◌, length, IsUtf8, Some, None}
use Rattle.node_calls.specs.Asks.{call_from}
use Rattle.node_calls.specs.Told.{Told}
use Rattle.node_core.specs.Resumed.{IsNext}
use Rattle.node_core.specs.Traces.{Kept, call_kept, with_call}
use Rattle.drills.specs.Drills.{ended}
use Rattle.drills.specs.Lines.{HeadTold, entry, line_text, part_head}
use Rattle.drills.specs.Reading.{entry_in}
use Rattle.node_for_c.specs.Numbers.{no_memory, not_text}
use Rattle.node_for_c.specs.Calls.{IsSaid, said_of}
use Rattle.node_for_c.specs.declared.registry.Registry.{Registry}

-- the head of a node's part
abbrev pub head_of : Kept → List ℕ → HeadTold
head_of k run = record { node = k.config.node; nodes = k.config.nodes; cap = k.config.trace_cap; run = run }

-- it is to be fetched
abbrev pub IsHeadSaid : List ℕ → Registry → Registry → Type 0
IsHeadSaid run k l = IsUtf8 run × IsSaid (line_text (part_head (head_of k.core run))) k l

-- why it isn't: the run's name is no UTF-8, or memory was refused
abbrev pub IsNoHead : List ℕ → ℕ → Type 0
IsNoHead run status = ((status ≡ not_text) × (IsUtf8 run → ⊥)) ⊎ (status ≡ no_memory)

-- the line of the call of this number is to be fetched
pub record IsEntrySaid (index : ℕ) (k l : Registry) : Type 0 where
  pub told : Told
  pub there : call_kept k.core index ≡ Some (call_from k.core.config.nodes told)
  pub said : IsSaid (line_text (entry told)) k l

-- the lines of the calls from one number up to another, each with the newline that ends it
pub data AreLines (k : Kept) : ℕ → ℕ → List ℕ → Type 0 where
  no_line : {at : ℕ} → AreLines k at at []
  one_more : {from at : ℕ} {text : List ℕ} (told : Told)
      → AreLines k from at text → call_kept k at ≡ Some (call_from k.config.nodes told)
      → AreLines k from (at + 1) (text ++ ended (entry told))

-- the node keeps no call of one of the numbers from one on, or has fewer calls
abbrev pub LacksCall : Kept → ℕ → Type 0
LacksCall k from = (length k.trace < from) ⊎ ((at : ℕ) × (from ≤ at) × (call_kept k at ≡ None))

-- the lines of all calls from a number on are to be fetched
abbrev pub AreLinesSaid : ℕ → Registry → Registry → Type 0
AreLinesSaid from k l =
    AreLines k.core from (length k.core.trace) (said_of l) × (l ≡ record k { said = l.said })

-- the node made the call of a line again, and its generator went over the draws of it
pub record IsRepeated (line : List ℕ) (k l : Registry) : Type 0 where
  pub told : Told
  pub read : entry_in line ≡ Some told
  pub next : IsNext k.core (call_from k.core.config.nodes told)
  pub left : l ≡ record k {
    core = with_call k.core (call_from k.core.config.nodes told);
    generator = record k.generator { word_pos = (k.generator.word_pos + length told.words) % 2 ^ 68 };
  }

-- the node refuses the call of a line, or answers it otherwise
pub record IsOtherwise (line : List ℕ) (k : Registry) : Type 0 where
  pub told : Told
  pub read : entry_in line ≡ Some told
  pub other : IsNext k.core (call_from k.core.config.nodes told) → ⊥
