-- A node with its generator, as callers see it.
use Rattle.std.specs.Prelude.{◌≡◌, ℕ, ◌+◌, ◌*◌, ◌≤◌, ◌^◌, Bool, true, List, length, None}
use Rattle.rand_chacha.specs.ChaCha.{ChaCha, key_of}
use Rattle.node_steps.specs.declared.config.Config.{Config}
use Rattle.node_calls.specs.declared.fault.NodeFault.{NodeFault}
use Rattle.node_calls.specs.declared.ask.Ask.{Ask}
use Rattle.node_calls.specs.declared.reply.Reply.{Reply}
use Rattle.node_calls.specs.declared.trace.Entry.{Entry}
use Rattle.node_core.specs.Applied.{TellsIfEmit}
use Rattle.node_calls.specs.Asks.{Asked, Call, Pass}
use Rattle.node_calls.specs.Told.{Passed, ask_told}
use Rattle.node_steps.specs.Nodes.{max_trace_cap}
use Rattle.node_steps.specs.Passes.{pass_reply}
use Rattle.node_core.specs.Traces.{Kept, IsLegal, IsRefusalOf, Records, after_call, call_of, new_kept, refusal, state_known, without_kept}
use Rattle.node_steps.specs.Words.{words_from}
use Rattle.node_registry.specs.Seats.{SeatState}
use Rattle.node_registry.specs.Words.{words_of, words_taken}

-- the node; the key of its generator, whose stream is that of the node's number; and the place of the
-- generator's next word
pub record Cell : Type 0 where
  pub node : Kept
  pub key : List ℕ
  pub place : ℕ

abbrev pub cell_of : Kept → ChaCha → Cell
cell_of k g = record { node = k; key = g.key; place = g.word_pos }

-- a node that has accepted no call, at the start of its stream
abbrev pub new_cell : Config → List ℕ → Cell
new_cell config seed = record { node = new_kept config; key = key_of seed; place = 0 }

-- the words that a call takes
abbrev pub next_words : Cell → Asked → List ℕ
next_words c ask = words_from c.key c.node.config.node c.place (words_taken c.node ask)

-- the cell after a call that is accepted with the next words
abbrev pub cell_after : Cell → Asked → Cell
cell_after c ask =
    record { node = after_call c.node ask (next_words c ask); key = c.key; place = c.place + words_taken c.node ask }

-- the cell where its node no longer keeps the calls that it kept
abbrev pub cell_without_kept : Cell → Cell
cell_without_kept c = record { node = without_kept c.node; key = c.key; place = c.place }

-- the call of this entry is accepted with the next words, and the cell is then the second one
pub record Enters (c d : Cell) (e : Entry) : Type 0 where
  pub records : Records c.node d.node (call_of c.node e) (next_words c (call_of c.node e).ask)
  pub tells : TellsIfEmit c.node (ask_told e.ask) e.reply
  pub key : d.key ≡ c.key
  pub place : d.place ≡ c.place + words_taken c.node (call_of c.node e).ask

-- the call of this ask is accepted with the next words and answered so, and the cell is then the second one
abbrev pub Submits : Cell → Cell → Ask → Reply → Type 0
Submits c d ask reply = (e : Entry) × (e.ask ≡ ask) × (e.reply ≡ reply) × Enters c d e

-- a pass of a point is accepted with the next words, and the cell is then the second one
abbrev pub Passes : Cell → Cell → List ℕ → Type 0
Passes c d name = (refusal c.node (Pass name) (next_words c (Pass name)) ≡ None) × (d ≡ cell_after c (Pass name))

-- what a pass of a point comes to with the next words
abbrev pub next_passed : Cell → List ℕ → Passed
next_passed c name = pass_reply c.node.config.node (state_known c.node) name (next_words c (Pass name))

-- an ask is refused so with the next words
abbrev pub IsRefusedBy : Cell → Asked → NodeFault → Type 0
IsRefusedBy c ask = IsRefusalOf c.node ask (next_words c ask)

-- the trace is legal, and its words are those of the stream from its start on, as many as the place says
pub record IsLawful (c : Cell) : Type 0 where
  pub legal : IsLegal c.node.config c.node.trace
  pub drawn : words_of c.node.trace ≡ words_from c.key c.node.config.node 0 c.place

-- a lawful cell of a node of this configuration, whose key is that of this seed
abbrev pub IsLawfulAt : Config → List ℕ → Cell → Type 0
IsLawfulAt config seed c = IsLawful c × (c.node.config ≡ config) × (c.key ≡ key_of seed)

-- a lawful cell of the node that has as many calls as a seat made, and no others where that is the only one of so many,
-- and that keeps all its calls where its registry does
pub record IsCellOf (config : Config) (seed : List ℕ) (keeps : Bool) (seats : ℕ) (seat : SeatState) (c : Cell) :
    Type 0 where
  pub lawful : IsLawfulAt config seed c
  pub since : seat.calls ≤ length c.node.trace
  pub alone : seats ≡ 1 → seat.calls ≡ length c.node.trace
  pub kept : keeps ≡ true → c.node.from ≡ 0

-- such a cell that has the seat's last call
abbrev pub IsCellSince : Config → List ℕ → Bool → ℕ → SeatState → Cell → Type 0
IsCellSince config seed keeps seats seat c = IsCellOf config seed keeps seats seat c × (seat.next ≤ length c.node.trace)

-- the random draws of a trace are the first ones of this seed, on the stream of the node's number
abbrev pub IsDrawnBy : Config → List ℕ → List Call → Type 0
IsDrawnBy config seed trace = (n : ℕ) × (words_of trace ≡ words_from (key_of seed) config.node 0 n)

-- there are few calls, and so few words that the stream has more
pub record IsWithinBounds (c : Cell) : Type 0 where
  pub few_words : c.place ≤ 2 ^ 8 * length c.node.trace
  pub few_calls : length c.node.trace ≤ c.node.config.trace_cap
  pub small_cap : c.node.config.trace_cap ≤ max_trace_cap
