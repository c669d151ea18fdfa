-- What is known of pieces that were written one after another.
use Rattle.std.proofs.Common.{◌≡◌, ℕ, zero, suc, ◌+◌, ◌-◌, arith, List, [], ◌∷◌, ◌++◌, length, map, take, drop, sym, ◌∙◌, ap, subst, Option, Some}
use Rattle.std.proofs.lemmas.List.{append-nil, append_assoc, length-append, length-map, map-append, take-append-drop, take-append-le, take_all}
use Rattle.std.proofs.lemmas.Option.{slice_get-map}
use Rattle.std.specs.Prelude.{option_map, slice_get}
use Rattle.node_calls.specs.declared.receipt.Receipt.{Receipt}
use Rattle.node_calls.specs.Asks.{Call, call_from}
use Rattle.node_calls.specs.Told.{told}
use Rattle.node_registry.specs.declared.guarded.Piece.{Piece}
use Rattle.cluster_model.proofs.Lists.{get_append}
use Rattle.drills.proofs.Growing.{both, none_yet}
use Rattle.drills.specs.Lines.{entry}
use Rattle.part_keeper.specs.Kept.{Records}
use Rattle.node_registry.specs.Pieces.{HasCall}
use Rattle.part_keeper.specs.Wholes.{AreAdded, AreFrom, Begins, Follows, IsFrom, IsWhole, calls_in, calls_of, told_in}

-- ---- beginnings

pub begins_more : (calls all more : List Call) → Begins calls all → Begins calls (all ++ more)
begins_more calls all more b = record {
  rest = b.rest ++ more;
  is = ap (λ l. l ++ more) b.is ∙ append_assoc calls b.rest more;
}

-- with what follows
begins_with : (had rest : List Call) (upto : ℕ) →
    Begins (had ++ drop (length had) (take upto (had ++ rest))) (had ++ rest)
begins_with [] rest upto = record { rest = drop upto rest; is = sym (take-append-drop upto rest) }
begins_with (x ∷ had) rest zero = record { rest = rest; is = ap (λ l. l ++ rest) (sym (append-nil (x ∷ had))) }
begins_with (x ∷ had) rest (suc upto) =
    let less = begins_with had rest upto in
    record { rest = less.rest; is = ap (λ l. x ∷ l) less.is }

pub follows : (trace had calls : List Call) → Begins had trace → Follows trace had calls → Begins (had ++ calls) trace
follows trace had calls b f =
    let with_rest = begins_with had b.rest f.0 in
    let same : calls ≡ drop (length had) (take f.0 (had ++ b.rest)) =
    f.1 ∙ ap (λ t. drop (length had) (take f.0 t)) b.is in
    subst (λ t. Begins (had ++ calls) t) (sym b.is)
    (subst (λ l. Begins (had ++ l) (had ++ b.rest)) (sym same) with_rest)

pub first_of : (calls all : List Call) → Begins calls all → take (length calls) all ≡ calls
first_of calls all b =
    ap (take (length calls)) b.is ∙ take-append-le (length calls) calls b.rest (omega arith)
    ∙ take_all (length calls) calls (omega arith)

-- ---- pieces

pub piece_follows : (nodes : ℕ) (trace had : List Call) (piece : Piece) → IsFrom nodes trace piece →
    piece.from ≡ length had → Follows trace had (calls_of nodes piece)
piece_follows nodes trace had piece from begins = (
  from.upto,
  ap (λ n. map (call_from n) piece.trace.calls) (sym from.among) ∙ from.given.1
      ∙ ap (λ n. drop n from.cell.node.trace) (sym from.given.0 ∙ begins)
      ∙ ap (drop (length had)) from.was,
)

module _ {W : Type 0} (contents : W → Option (List ℕ)) (first : W) (had : ℕ) where
  lines_of : (last : W) (has : ℕ) (pieces : List Piece) → AreAdded contents first had last has pieces →
      Records contents first last (told_in pieces)
  lines_of last has [] added = subst (λ w. Records contents first w []) (sym added.0) (none_yet (contents first))
  lines_of last has (piece ∷ pieces) (mid, was, adds, before) =
      both (contents first) (contents mid) (contents last) (map entry (told_in pieces)) (map entry piece.trace.calls) _
      (lines_of mid was pieces before) adds.lines (map-append entry (told_in pieces) piece.trace.calls)

  count_of : (last : W) (has : ℕ) (pieces : List Piece) → AreAdded contents first had last has pieces →
      has ≡ had + length (told_in pieces)
  count_of last has [] added = let same = added.1 in omega (arith, same)
  count_of last has (piece ∷ pieces) (mid, was, adds, before) =
      let ends = adds.ends in
      let earlier = count_of mid was pieces before in
      let long = length-append (told_in pieces) piece.trace.calls in
      omega (arith, ends, earlier, long)

  module _ (nodes : ℕ) (trace earlier : List Call) (begins : Begins earlier trace) (long : length earlier ≡ had) where
    abbrev with_pieces : List Piece → List Call
    with_pieces pieces = earlier ++ calls_in nodes pieces

    length_with : (last : W) (has : ℕ) (pieces : List Piece) → AreAdded contents first had last has pieces →
        length (with_pieces pieces) ≡ has
    length_with last has pieces added =
        let counted = count_of last has pieces added in
        let each = length-map (told_in pieces) (call_from nodes) in
        let all = length-append earlier (calls_in nodes pieces) in
        omega (arith, long, counted, each, all)

    begins_of : (last : W) (has : ℕ) (pieces : List Piece) → AreAdded contents first had last has pieces →
        AreFrom nodes trace pieces → Begins (with_pieces pieces) trace
    begins_of last has [] added from = subst (λ l. Begins l trace) (sym (append-nil earlier)) begins
    begins_of last has (piece ∷ pieces) (mid, was, adds, before) from =
        let so_far = begins_of mid was pieces before from.1 in
        let place = adds.begins ∙ sym (length_with mid was pieces before) in
        let next = piece_follows nodes trace (with_pieces pieces) piece from.0 place in
        subst (λ l. Begins l trace)
        (append_assoc earlier (calls_in nodes pieces) (calls_of nodes piece)
        ∙ ap (λ l. earlier ++ l) (sym (map-append (call_from nodes) (told_in pieces) piece.trace.calls)))
        (follows trace (with_pieces pieces) (calls_of nodes piece) so_far next)

pub pieces_are_whole : {W : Type 0} (contents : W → Option (List ℕ)) (first : W) (had : ℕ) (last : W) (has : ℕ)
    (pieces : List Piece) → AreAdded contents first had last has pieces → IsWhole contents first had last has pieces
pieces_are_whole contents first had last has pieces added = record {
  lines = lines_of contents first had last has pieces added;
  counted = count_of contents first had last has pieces added;
  begins = λ nodes trace earlier from begins long.
      begins_of contents first had nodes trace earlier begins long last has pieces added from;
}

-- ---- a call of a piece

get_behind : (had calls : List Call) (place : ℕ) → slice_get (had ++ calls) (length had + place) ≡ slice_get calls place
get_behind [] calls place = let same : 0 + place ≡ place = omega arith in ap (slice_get calls) same
get_behind (x ∷ had) calls place =
    let same : length (x ∷ had) + place ≡ suc (length had + place) = omega arith in
    ap (slice_get (x ∷ had ++ calls)) same ∙ get_behind had calls place

pub call_is_in_place : (nodes : ℕ) (trace had : List Call) (piece : Piece) (r : Receipt) → IsFrom nodes trace piece →
    Begins had trace → piece.from ≡ length had → HasCall piece r →
    slice_get trace r.index ≡ Some (call_from nodes (told r.entry))
call_is_in_place nodes trace had piece r from begins place has =
    let all = follows trace had (calls_of nodes piece) begins (piece_follows nodes trace had piece from place) in
    let within = has.0 in
    let number : r.index ≡ length had + (r.index - piece.from) = omega (arith, place, within) in
    let there : slice_get (calls_of nodes piece) (r.index - piece.from) ≡ Some (call_from nodes (told r.entry)) =
    slice_get-map (call_from nodes) piece.trace.calls (r.index - piece.from)
    ∙ ap (option_map (call_from nodes)) has.1 in
    let found : slice_get (had ++ calls_of nodes piece) r.index ≡ Some (call_from nodes (told r.entry)) =
    ap (slice_get (had ++ calls_of nodes piece)) number
    ∙ get_behind had (calls_of nodes piece) (r.index - piece.from) ∙ there in
    subst (λ l. slice_get l r.index ≡ Some (call_from nodes (told r.entry))) (sym all.is)
    (get_append (had ++ calls_of nodes piece) all.rest r.index (call_from nodes (told r.entry)) found)
