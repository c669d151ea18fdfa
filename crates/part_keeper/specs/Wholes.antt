-- The pieces that a recording wrote, one after another: a journal.
use Rattle.std.specs.Prelude.{◌≡◌, ℕ, ◌+◌, List, [], ◌∷◌, ◌++◌, length, map, take, drop, slice_get, Option, Some}
use Rattle.node_calls.specs.declared.receipt.Receipt.{Receipt}
use Rattle.node_calls.specs.Asks.{Call, call_from}
use Rattle.node_calls.specs.Told.{Told, told}
use Rattle.node_registry.specs.declared.guarded.Piece.{Piece}
use Rattle.node_registry.specs.Cells.{Cell}
use Rattle.node_registry.specs.Pieces.{HasCall, IsPieceOf}
use Rattle.part_keeper.specs.Kept.{Records}
use Rattle.part_keeper.specs.Pieces.{Adds}

-- calls begin with these
pub record Begins (calls all : List Call) : Type 0 where
  pub rest : List Call
  pub is : all ≡ calls ++ rest

-- calls are those that follow these in a trace, as it once was
abbrev pub Follows : List Call → List Call → List Call → Type 0
Follows trace had calls = (upto : ℕ) × (calls ≡ drop (length had) (take upto trace))

-- a piece is of the node that had this trace in the end: it has what the node kept once, of a cluster of so many
pub record IsFrom (nodes : ℕ) (trace : List Call) (piece : Piece) : Type 0 where
  pub cell : Cell
  pub upto : ℕ
  pub given : IsPieceOf cell piece
  pub was : cell.node.trace ≡ take upto trace
  pub among : cell.node.config.nodes ≡ nodes

abbrev pub AreFrom : ℕ → List Call → List Piece → Type 0
AreFrom nodes trace [] = Unit {0}
AreFrom nodes trace (piece ∷ pieces) = IsFrom nodes trace piece × AreFrom nodes trace pieces

-- the calls of a piece, and those of several, of which the last stands first
abbrev pub calls_of : ℕ → Piece → List Call
calls_of nodes piece = map (call_from nodes) piece.trace.calls

abbrev pub told_in : List Piece → List Told
told_in [] = []
told_in (piece ∷ pieces) = told_in pieces ++ piece.trace.calls

abbrev pub calls_in : ℕ → List Piece → List Call
calls_in nodes pieces = map (call_from nodes) (told_in pieces)

-- these pieces were written one after another, from a writer with the lines of so many calls on
abbrev pub AreAdded : {W : Type 0} → (W → Option (List ℕ)) → W → ℕ → W → ℕ → List Piece → Type 0
AreAdded contents first had last has [] = (last ≡ first) × (has ≡ had)
AreAdded {W} contents first had last has (piece ∷ pieces) =
    (mid : W) × (was : ℕ) × Adds contents mid last was has piece × AreAdded contents first had mid was pieces

-- The writer has the lines of their calls behind what it had, in order, and no other. If they are of one node, whose
-- first calls it had before, it has a beginning of that node's trace
pub record IsWhole {W : Type 0} (contents : W → Option (List ℕ)) (first : W) (had : ℕ) (last : W) (has : ℕ)
    (pieces : List Piece) : Type 0 where
  pub lines : Records contents first last (told_in pieces)
  pub counted : has ≡ had + length (told_in pieces)
  pub begins : (nodes : ℕ) (trace earlier : List Call) → AreFrom nodes trace pieces → Begins earlier trace →
      length earlier ≡ had → Begins (earlier ++ calls_in nodes pieces) trace

abbrev pub PiecesAreWhole : {W : Type 0} → (W → Option (List ℕ)) → Type 0
PiecesAreWhole {W} contents = (first : W) (had : ℕ) (last : W) (has : ℕ) (pieces : List Piece) →
    AreAdded contents first had last has pieces → IsWhole contents first had last has pieces

-- the calls of a piece that begins where a journal ends follow those of the journal
abbrev pub PieceFollows : Type 0
PieceFollows = (nodes : ℕ) (trace had : List Call) (piece : Piece) → IsFrom nodes trace piece →
    piece.from ≡ length had → Follows trace had (calls_of nodes piece)

-- and the call of a receipt that it has is the one of its number in the trace
abbrev pub CallIsInPlace : Type 0
CallIsInPlace = (nodes : ℕ) (trace had : List Call) (piece : Piece) (r : Receipt) → IsFrom nodes trace piece →
    Begins had trace → piece.from ≡ length had → HasCall piece r →
    slice_get trace r.index ≡ Some (call_from nodes (told r.entry))
