-- A drill as lanes of text, 100 columns wide: a line for each column of calls, from the top down.
use Rattle.std.specs.Prelude.{◌≡◌, ℕ, zero, suc, ◌+◌, ◌-◌, ◌*◌, ◌/◌, ◌==◌, List, [], ◌∷◌, ◌++◌, length, map, max, min, nat_le, slice_get, take, if◌then◌else◌, codes, decimal, Option, Some, None}
use Rattle.node_calls.specs.Told.{Told, AskTold, sets, removes, loads, passes, shifts, grants, emits, delivers}
use Rattle.drill_picture.specs.declared.place.Place.{Place}
use Rattle.drill_picture.specs.Bars.{own_of}
use Rattle.drill_picture.specs.Calls.{Traces, call_at}
use Rattle.drill_picture.specs.Escaped.{is_seen}
use Rattle.drill_picture.specs.Picture.{calls_in}
use Rattle.drill_picture.specs.Placing.{AreAllColumns}
use Rattle.drill_picture.specs.Signs.{sign_of, sign_word}

-- how wide the lane of a node is
abbrev pub lane_width : ℕ → ℕ
lane_width nodes = max (100 / max nodes 1) 2

-- a text in its lane, cut where it is too long: a space stands before the next
abbrev pub shown_byte : ℕ → ℕ
shown_byte byte = if is_seen byte then byte else 63

unfoldable pub cell_text : ℕ → List ℕ → List ℕ
cell_text width text = map shown_byte (take (width - 1) text)

-- how much of it is shown
unfoldable pub shown_length : ℕ → List ℕ → ℕ
shown_length width text = min (length text) (width - 1)

abbrev pub spaces : ℕ → List ℕ
spaces zero = []
spaces (suc n) = spaces n ++ 32 ∷ []

-- what a call was about: its point, or the node that a message is for
abbrev pub subject_of : AskTold → List ℕ
subject_of (sets name text) = codes " " ++ name
subject_of (removes name) = codes " " ++ name
subject_of (loads text) = []
subject_of (passes name) = codes " " ++ name
subject_of (shifts name term to amount) = codes " " ++ name
subject_of (grants name term amount) = codes " " ++ name
subject_of (emits to) = codes " " ++ decimal to
subject_of (delivers bytes) = []

-- the word for its answer, and what it was about
abbrev pub words_of : Option Told → List ℕ
words_of None = []
words_of (Some call) = sign_word (sign_of call.reply) ++ subject_of call.ask

-- up to the lane of a call, where so much of the line of the call before is written; in another column on a new line
abbrev pub gap_text : ℕ → Place → Option Place → ℕ → List ℕ
gap_text width place None at = codes "\n" ++ spaces (width * place.node)
gap_text width place (Some last) at =
    if last.column == place.column then spaces (width * place.node - at)
    else codes "\n" ++ spaces (width * place.node)

-- the calls, each in its lane
abbrev pub calls_from : Traces → ℕ → Option Place → ℕ → List Place → List ℕ
calls_from traces width last at [] = []
calls_from traces width last at (place ∷ places) =
    let words = words_of (call_at traces place.node place.index) in
    gap_text width place last at ++ (cell_text width words
    ++ calls_from traces width (Some place) (width * place.node + shown_length width words) places)

-- the names of the lanes
unfoldable pub name_of : ℕ → List ℕ
name_of node = codes "node " ++ decimal node

-- how many spaces stand before one
abbrev pub name_gap : ℕ → ℕ → ℕ
name_gap width node = if node == 0 then 0 else width - shown_length width (name_of (node - 1))

unfoldable pub name_text : ℕ → ℕ → List ℕ
name_text width node = spaces (name_gap width node) ++ cell_text width (name_of node)

abbrev pub names_below : ℕ → ℕ → List ℕ
names_below width zero = []
names_below width (suc node) = names_below width node ++ name_text width node

-- what waits, where calls of a node don't stand
unfoldable pub waiting_text : ℕ → ℕ → ℕ → List ℕ
waiting_text node index missing =
    codes "node " ++ decimal node ++ codes ", call " ++ decimal index ++ codes " waits for its message; not placed: "
    ++ decimal missing ++ codes "\n"

abbrev pub waiting_of : ℕ → ℕ → ℕ → List ℕ
waiting_of node placed calls = if nat_le calls placed then [] else waiting_text node placed (calls - placed)

abbrev pub waiting_below : Traces → List Place → ℕ → List ℕ
waiting_below traces places zero = []
waiting_below traces places (suc node) =
    waiting_below traces places node
    ++ waiting_of node (length (own_of node places)) (calls_in (slice_get traces node))

unfoldable pub title_line : ℕ → ℕ → ℕ → List ℕ → List ℕ
title_line nodes calls columns headline =
    codes "A drill of " ++ decimal nodes ++ codes " nodes: " ++ decimal calls ++ codes " calls in " ++ decimal columns
    ++ codes " columns, " ++ headline ++ codes "\n"

unfoldable pub lines_of : Traces → List ℕ → ℕ → List Place → List ℕ
lines_of traces headline columns places =
    let width = lane_width (length traces) in
    title_line (length traces) (length places) columns headline
    ++ (names_below width (length traces)
    ++ (calls_from traces width None 0 places
    ++ (codes "\n" ++ waiting_below traces places (length traces))))

-- the text is that of all columns that there are
pub record AreLines (traces : Traces) (headline text : List ℕ) : Type 0 where
  pub columns : ℕ
  pub places : List Place
  pub placed : AreAllColumns traces columns places
  pub drawn : text ≡ lines_of traces headline columns places
