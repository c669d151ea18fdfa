-- What C is told of a call, and what the call leaves of the registry. Where C's node is closed there is none.
use Rattle.std.specs.Prelude.{◌≡◌, ◌≢◌, ◌⊎◌, ℕ, Bool, List, [], ◌∷◌, ◌++◌, length, take, drop, slice_get, option_map, MatchOption, Option, Some, None, true, false, IsTrue, IsUtf8}
use Rattle.rand_chacha.specs.ChaCha.{key_of}
use Rattle.actions.specs.Names.{is_name}
use Rattle.node_steps.specs.declared.config.Config.{Config}
use Rattle.node_calls.specs.declared.fault.NodeFault.{NodeFault}
use Rattle.node_calls.specs.declared.fault.NodeFault.TheVariants.{BadConfig, BadName}
use Rattle.node_calls.specs.Asks.{Asked, Answered}
use Rattle.node_calls.specs.Asks as asks
use Rattle.node_calls.specs.FaultText.{node_fault_text}
use Rattle.node_calls.specs.Told.{Passed}
use Rattle.node_core.specs.Deliveries.{TellsDelta}
use Rattle.node_core.specs.Lasts.{passed_at}
use Rattle.node_core.specs.Memory.{NameNeedsMemory}
use Rattle.node_steps.specs.Passes.{words_for}
use Rattle.node_steps.specs.Refusals.{is_bad_config}
use Rattle.node_core.specs.Traces.{Kept, Accepts, Emits, IsRefusalOf, after_call, call_kept, new_kept, refusal, reply_to, state_known}
use Rattle.node_steps.specs.Words.{place_after, words_next}
use Rattle.sharing.specs.Shares.{memory_after}
use Rattle.stamp_register.specs.declared.key.Stamp.{Stamp}
use Rattle.peers.specs.declared.heard.Cluster.{Cluster}
use Rattle.peers.specs.Book.{fresh_book}
use Rattle.node_sharing.specs.Made.{AreMade, IsStopped, shifts_due}
use Rattle.node_sharing.specs.Spread.{IsNotSetSpread, IsNotSpread, IsSetSpread, rights_kept, spread_due}
use Rattle.node_for_c.specs.Numbers.{closed, no_memory, no_point, not_text}
use Rattle.node_calls.specs.FaultCodes.{code_of}
use Rattle.node_for_c.specs.Told.{IsPassTold, passed_text, text_or_none}
use Rattle.node_for_c.specs.declared.act.Act.{Act}
use Rattle.node_for_c.specs.declared.registry.Registry.{Registry}
use Rattle.node_for_c.specs.declared.registry.Said.{Said}
use Rattle.node_for_c.specs.declared.registry.Said.TheVariants as saids

-- a fact of a registry before and after a call, which there is
abbrev pub Both : {R : Type 0} → Option R → Option R → (R → R → Type 0) → Type 0
Both (Some k) (Some l) f = f k l
Both (Some k) None f = ⊥
Both None _ f = ⊥

-- the same, or there is none before and after
abbrev pub Stays : {R : Type 0} → Option R → Option R → (R → R → Type 0) → Type 0
Stays (Some k) (Some l) f = f k l
Stays (Some k) None f = ⊥
Stays None (Some l) f = ⊥
Stays None None f = Unit {0}

-- a fact of a registry before and after a call that isn't answered by 0; or there is none before and after, and the
-- answer is that
abbrev pub IsClosedOr : {R : Type 0} → ℕ → Option R → Option R → (R → R → Type 0) → Type 0
IsClosedOr status (Some k) (Some l) f = f k l
IsClosedOr status (Some k) None f = ⊥
IsClosedOr status None (Some l) f = ⊥
IsClosedOr status None None f = status ≡ closed

-- what is to be fetched: these bytes, the text of the task that the pass at this place came to, or what stands in the
-- room for replies
abbrev pub text_of : Option Passed → List ℕ
text_of None = []
text_of (Some passed) = passed_text passed

abbrev pub said_in : Kept → List ℕ → Said → List ℕ
said_in core room (saids.Bytes bytes) = bytes.items
said_in core room (saids.TextAt index) = text_of (passed_at (call_kept core index))
said_in core room saids.InRoom = room

-- what is to be fetched isn't the text of an action
abbrev pub holds_body : Said → Bool
holds_body (saids.TextAt index) = false
holds_body _ = true

abbrev pub said_of : Registry → List ℕ
said_of k = said_in k.core k.room k.said

-- the text of the last refusal, which has a call of its own
abbrev pub fault_said : Registry → List ℕ
fault_said k = text_or_none (option_map node_fault_text k.fault)

-- a node among the others of its cluster
abbrev pub cluster_in : Config → Cluster
cluster_in config = record { own = config.node; nodes = config.nodes }

-- a registry that was just opened
abbrev pub IsOpened : Config → List ℕ → Registry → Type 0
IsOpened config seed k =
    (k.core ≡ new_kept config) ×
    (k.generator ≡ record { key = key_of seed; stream = config.node; word_pos = 0 }) ×
    (k.room ≡ []) × (said_of k ≡ []) × (k.words.items ≡ []) × (k.points ≡ []) × (k.fault ≡ None) ×
    (k.memory ≡ []) × (k.book ≡ fresh_book (cluster_in config))

-- why a closed node isn't opened
abbrev pub IsNotOpened : Config → ℕ → Type 0
IsNotOpened config status =
    ((status ≡ code_of BadConfig) × IsTrue (is_bad_config config)) ⊎
    ((status ≡ no_memory) × (is_bad_config config ≡ false))

-- an accepted call that draws no words: it changes the node, and nothing else
abbrev pub IsMade : Asked → Answered → Registry → Registry → Type 0
IsMade ask answer k l = Accepts k.core l.core ask [] answer × (l ≡ record k { core = l.core })

-- a round of sharing: so many shifts were due, each is made by a call that the node accepts, and the round is
-- remembered; nothing else changed
abbrev pub IsShared : ℕ → Registry → Registry → Type 0
IsShared count k l =
    (count ≡ length (shifts_due k.core k.memory)) × AreMade k.core (shifts_due k.core k.memory) l.core ×
    (l.memory ≡ memory_after (state_known k.core) k.core.config.node k.core.config.nodes k.memory) ×
    (l ≡ record k { core = l.core; memory = l.memory })

-- calls that changed the node were made up to one that was refused so, which is kept, and nothing else changed
abbrev pub IsLeftBy : (NodeFault → Type 0) → ℕ → Registry → Registry → Type 0
IsLeftBy refused status k l =
    MatchOption l.fault ⊥ (λ f. (status ≡ code_of f) × refused f) × (l ≡ record k { core = l.core; fault = l.fault })

-- a shift of a round is refused, or memory was: those before it are made
abbrev pub IsShareStopped : ℕ → Registry → Registry → Type 0
IsShareStopped status k l =
    IsLeftBy (IsStopped k.core (shifts_due k.core k.memory) l.core) status k l

-- the rights to a point are spread, and the node keeps so many
abbrev pub IsSpread : List ℕ → ℕ → Registry → Registry → Type 0
IsSpread name kept k l =
    (kept ≡ rights_kept l.core name) × AreMade k.core (spread_due k.core name) l.core ×
    (l ≡ record k { core = l.core })

-- a point is set, and the rights to it are spread
abbrev pub IsSpreadSet : List ℕ → List ℕ → Stamp → Registry → Registry → Type 0
IsSpreadSet name text stamp k l = IsSetSpread k.core name text stamp l.core × (l ≡ record k { core = l.core })

-- a text isn't UTF-8, and all is as it was but that no fault is kept; or it is refused otherwise
abbrev pub IsNoText : Type 0 → ℕ → Registry → Registry → Type 0
IsNoText texts status k l = (status ≡ not_text) × (texts → ⊥) × (l ≡ record k { fault = None })

abbrev pub IsNotSpreadBy : List ℕ → ℕ → Registry → Registry → Type 0
IsNotSpreadBy name status k l =
    IsNoText (IsUtf8 name) status k l
    ⊎ (IsUtf8 name × IsLeftBy (IsNotSpread k.core name l.core) status k l)

abbrev pub IsNotSpreadSet : List ℕ → List ℕ → ℕ → Registry → Registry → Type 0
IsNotSpreadSet name text status k l =
    IsNoText (IsUtf8 name × IsUtf8 text) status k l
    ⊎ ((IsUtf8 name × IsUtf8 text) × IsLeftBy (IsNotSetSpread k.core name text l.core) status k l)

-- an accepted emit, whose message is to be fetched
abbrev pub IsEmitted : ℕ → Registry → Registry → Type 0
IsEmitted to k l =
    Emits k.core l.core to (said_of l) × TellsDelta k.core to (said_of l) ×
    (l ≡ record k { core = l.core; said = l.said })

-- an accepted pass with these words
abbrev pub IsPassedWith : List ℕ → List ℕ → Act → Registry → Registry → Type 0
IsPassedWith name words act k l =
    (refusal k.core (asks.Pass name) words ≡ None) ×
    IsPassTold (reply_to k.core (asks.Pass name) words) act (said_of l) ×
    (l.core ≡ after_call k.core (asks.Pass name) words)

abbrev pub IsPassedGiven : List ℕ → List ℕ → Act → Registry → Registry → Type 0
IsPassedGiven name words act k l =
    IsPassedWith name words act k l × (l ≡ record k { core = l.core; said = l.said })

-- the words that a pass draws: those of the node's stream, as a registry of Rattle's draws them
abbrev pub words_needed : Registry → List ℕ → ℕ
words_needed k name = words_for (state_known k.core) name

abbrev pub words_drawn : Registry → List ℕ → List ℕ
words_drawn k name = words_next k.generator (words_needed k name)

-- an accepted pass with the next words of the node's generator, which are kept
abbrev pub IsPassedDrawing : List ℕ → Act → Registry → Registry → Type 0
IsPassedDrawing name act k l =
    IsPassedWith name (words_drawn k name) act k l × (l.words.items ≡ words_drawn k name) ×
    (l.generator ≡ place_after k.generator (words_needed k name)) × (l.points ≡ k.points) × (l.fault ≡ k.fault) ×
    (l.routes ≡ k.routes) × (l.room ≡ k.room) × (l.memory ≡ k.memory) × (l.book ≡ k.book)

-- a text is to be fetched, and nothing else changed
abbrev pub IsSaid : List ℕ → Registry → Registry → Type 0
IsSaid text k l = (said_of l ≡ text) × (l ≡ record k { said = l.said })

-- why an ask of UTF-8 texts isn't answered by 0: out of memory, where it is needed, or the first refusal
abbrev pub IsRefused : Kept → Asked → List ℕ → Type 0 → ℕ → Type 0
IsRefused k ask words needs status =
    ((status ≡ no_memory) × needs) ⊎ MatchOption (refusal k ask words) ⊥ (λ f. status ≡ code_of f)

-- the same where these texts are to be UTF-8
abbrev pub IsRefusedOf : Type 0 → Kept → Asked → List ℕ → Type 0 → ℕ → Type 0
IsRefusedOf texts k ask words needs status =
    ((status ≡ not_text) × (texts → ⊥)) ⊎ (texts × IsRefused k ask words needs status)

-- all is as it was, but for the fault that is kept, if the texts were UTF-8: the one of the status
abbrev pub IsLeft : Asked → List ℕ → ℕ → Registry → Registry → Type 0
IsLeft ask words status k l =
    (l ≡ record k { fault = l.fault }) ×
    MatchOption l.fault (status ≡ not_text)
    (λ f. (status ≡ code_of f) × IsRefusalOf k.core ask words f)

-- the point of a number is as a call by its name, and where there is none no call is made
abbrev pub AtPoint : Registry → ℕ → (List ℕ → Type 0) → Type 0
AtPoint k point f = MatchOption (slice_get k.points point) ⊥ f

-- why a pass of the point of a number isn't answered by 0
abbrev pub IsRefusedAt : Registry → ℕ → ℕ → Type 0
IsRefusedAt k point status =
    MatchOption (slice_get k.points point) (status ≡ no_point) (λ name.
    IsRefused k.core (asks.Pass name) (words_drawn k name) (NameNeedsMemory k.core name) status)

-- all is as it was, but for the fault that is kept, if the number is a point's: the one of the status
abbrev pub IsLeftAt : ℕ → ℕ → Registry → Registry → Type 0
IsLeftAt point status k l =
    MatchOption (slice_get k.points point) (l ≡ record k { fault = None }) (λ name.
    IsLeft (asks.Pass name) (words_drawn k name) status k l)

-- a name has this number: the one that it had, and else the next one
abbrev pub HasNumber : List ℕ → ℕ → Registry → Registry → Type 0
HasNumber name point k l =
    (l ≡ record k { points = l.points }) × (slice_get l.points point ≡ Some name) ×
    ((l.points ≡ k.points) ⊎
    ((l.points ≡ k.points ++ name ∷ []) × ((at : ℕ) → slice_get k.points at ≢ Some name)))

-- why a reader isn't answered by 0: these bytes are no UTF-8, or no name, or memory was refused
abbrev pub IsNoName : List ℕ → ℕ → Type 0
IsNoName name status =
    ((status ≡ not_text) × (IsUtf8 name → ⊥)) ⊎
    (IsUtf8 name × (((status ≡ code_of BadName) × (is_name name ≡ false)) ⊎
    ((status ≡ no_memory) × (is_name name ≡ true))))

-- as much of what is to be fetched as there is room for, and the rest of the room as it was
abbrev pub FillsFront : List ℕ → List ℕ → List ℕ → Type 0
FillsFront said old new = new ≡ take (length old) said ++ drop (length said) old
