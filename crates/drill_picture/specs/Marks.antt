-- The marks of a picture in which each call has one, as text.
use Rattle.std.specs.Prelude.{◌≡◌, ℕ, Bool, ◌||◌, List, [], ◌++◌, length, nat_le, if◌then◌else◌, codes, decimal, Option, Some, None, Result, OnOk, String, string_bytes}
use Rattle.std.specs.declared.alloc.Global.{Global}
use Rattle.std.specs.List.{flat_map}
use Rattle.stamp_register.specs.Keys.{stamp_text}
use Rattle.node_calls.specs.Told.{Told, AskTold, ReplyTold, sets, removes, loads, passes, shifts, grants, emits, delivers, was_set}
use Rattle.drill_picture.specs.declared.arrow.Arrow.{Arrow}
use Rattle.drill_picture.specs.declared.place.Place.{Place}
use Rattle.drill_picture.specs.Calls.{Traces, call_at}
use Rattle.drill_picture.specs.Escaped.{escaped}
use Rattle.drill_picture.specs.Scale.{ScaleTold, column_x, lane_y}
use Rattle.drill_picture.specs.Signs.{sign_of, sign_word}

-- at Ok this text was appended
abbrev pub Adds : {T E : Type 0} → Result T E → String Global → String Global → List ℕ → Type 0
Adds result old new text = OnOk result (string_bytes new ≡ string_bytes old ++ text)

-- what was asked, as the line of a script says it
abbrev pub asked_text : AskTold → List ℕ
asked_text (sets name text) = codes "set " ++ escaped name ++ codes " " ++ escaped text
asked_text (removes name) = codes "remove " ++ escaped name
asked_text (loads text) = codes "load " ++ escaped text
asked_text (passes name) = codes "pass " ++ escaped name
asked_text (shifts name term to amount) =
    codes "shift " ++ escaped name ++ codes " " ++ decimal term ++ codes " " ++ decimal to ++ codes " " ++ decimal amount
asked_text (grants name term amount) =
    codes "grant " ++ escaped name ++ codes " " ++ decimal term ++ codes " " ++ decimal amount
asked_text (emits to) = codes "emit " ++ decimal to
asked_text (delivers bytes) = codes "deliver"

-- where something is
unfoldable pub at_text : ℕ → ℕ → List ℕ
at_text x y = codes " x='" ++ decimal x ++ codes "' y='" ++ decimal y ++ codes "'"

unfoldable pub point_text : ℕ → ℕ → List ℕ
point_text x y = decimal x ++ codes " " ++ decimal y

-- a shape at a place
unfoldable pub use_text : List ℕ → ℕ → ℕ → List ℕ
use_text shape x y = (codes "<use href='#" ++ (shape ++ codes "'")) ++ at_text x y

-- which call it is
unfoldable pub call_text : ℕ → ℕ → List ℕ
call_text node index = codes "node " ++ decimal node ++ codes ", call " ++ decimal index ++ codes ": "

-- what a pointer that rests on a call is told: what was asked, and the word for the answer
unfoldable pub title_of : ℕ → ℕ → AskTold → List ℕ → List ℕ
title_of node index ask word =
    codes "><title>" ++ call_text node index ++ asked_text ask ++ codes ", " ++ word ++ codes "</title></use>\n"

abbrev pub title_text : ℕ → ℕ → Told → List ℕ
title_text node index call = title_of node index call.ask (sign_word (sign_of call.reply))

-- the name and the stamp beside the flag of a setting
unfoldable pub name_at : ℕ → ℕ → List ℕ → List ℕ → List ℕ
name_at x y name stamp =
    codes "<text class='name'" ++ at_text x y ++ codes " dx='9' dy='-14'>" ++ escaped name
    ++ (codes " " ++ (stamp ++ codes "</text>\n"))

abbrev pub name_text : ScaleTold → Place → List ℕ → List ℕ → List ℕ
name_text scale place name stamp =
    name_at (column_x scale place.column) (lane_y scale place.node) name stamp

abbrev pub label_of_reply : ScaleTold → Place → List ℕ → ReplyTold → List ℕ
label_of_reply scale place name (was_set stamp) = name_text scale place name (stamp_text stamp)
label_of_reply scale place name _ = []

abbrev pub label_text : ScaleTold → Place → AskTold → ReplyTold → List ℕ
label_text scale place (sets name text) reply = label_of_reply scale place name reply
label_text scale place _ reply = []

abbrev pub mark_of_call : ScaleTold → Place → Option Told → List ℕ
mark_of_call scale place None = []
mark_of_call scale place (Some call) =
    use_text (sign_word (sign_of call.reply)) (column_x scale place.column) (lane_y scale place.node)
    ++ (title_text place.node place.index call ++ label_text scale place call.ask call.reply)

-- the call at a place
unfoldable pub mark_text : Traces → ScaleTold → Place → List ℕ
mark_text traces scale place = mark_of_call scale place (call_at traces place.node place.index)

abbrev pub marks_text : Traces → ScaleTold → List Place → List ℕ
marks_text traces scale places = flat_map (mark_text traces scale) places

-- a message that told its node something looks different from one that didn't
abbrev pub arrow_class : Bool → List ℕ
arrow_class news = if news then codes "news" else codes "same"

unfoldable pub line_text : ScaleTold → List ℕ → Place → Place → List ℕ
line_text scale class from to =
    codes "<path class='" ++ class ++ codes "' d='M"
    ++ point_text (column_x scale from.column) (lane_y scale from.node) ++ codes "L"
    ++ point_text (column_x scale to.column) (lane_y scale to.node) ++ codes "'/>\n"

-- all arrows are drawn where they are few, and else those of news
unfoldable pub arrow_text : ScaleTold → Bool → Arrow → List ℕ
arrow_text scale few a =
    if few || a.news then line_text scale (arrow_class a.news) a.from a.to else []

abbrev pub arrows_text : ScaleTold → List Arrow → List ℕ
arrows_text scale arrows = flat_map (arrow_text scale (nat_le (length arrows) 40)) arrows
