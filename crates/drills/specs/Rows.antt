-- How what an entry tells stands in a recorded drill, as JSON: rows of a word and what goes with it.
use Rattle.std.specs.Prelude.{ℕ, true, false, List, [], ◌∷◌, map, codes, Option}
use Rattle.std.specs.Option.{option_map_or}
use Rattle.hex.specs.Hex.{encode_lower}
use Rattle.serde_json.specs.Data.{Data, null, number, string, array, unsigned}
use Rattle.serde_json.specs.View.{items_of, view}
use Rattle.drills.specs.declared.json_rows.Row.{Row}
use Rattle.drills.specs.declared.json_rows.Row.TheVariants as rows
use Rattle.actions.specs.Value.{TaskValue, off, «return», sleep, panic, print, pause, yield, delay}
use Rattle.node_calls.specs.Told.{AskTold, sets, removes, loads, passes, shifts, grants, emits, delivers, ReplyTold, was_set, was_removed, was_loaded, was_passed, was_shifted, was_granted, was_emitted, was_delivered, Passed, Unset, NoTerm, Act}

abbrev pub count_data : ℕ → Data
count_data n = number (unsigned n)

-- in hexadecimal
abbrev pub bytes_data : List ℕ → Data
bytes_data bytes = string (encode_lower bytes)

-- a text, or null where there is none
abbrev pub text_data : Option (List ℕ) → Data
text_data text = option_map_or string text null

abbrev pub list_data : List Data → Data
list_data fields = array (items_of fields)

abbrev pub row : List ℕ → List Data → Data
row word fields = list_data (string word ∷ fields)

abbrev pub words_data : List ℕ → Data
words_data words = list_data (map count_data words)

-- the words of an action text
abbrev pub task_data : TaskValue → Data
task_data off = row (codes "off") []
task_data («return» text) = row (codes "return") (text_data text ∷ [])
task_data (sleep time) = row (codes "sleep") (count_data time ∷ [])
task_data (panic text) = row (codes "panic") (text_data text ∷ [])
task_data (print text) = row (codes "print") (text_data text ∷ [])
task_data pause = row (codes "pause") []
task_data yield = row (codes "yield") []
task_data (delay time) = row (codes "delay") (count_data time ∷ [])

-- the words of a script's line
abbrev pub ask_data : AskTold → Data
ask_data (sets name text) = row (codes "set") (string name ∷ string text ∷ [])
ask_data (removes name) = row (codes "remove") (string name ∷ [])
ask_data (loads text) = row (codes "load") (string text ∷ [])
ask_data (passes name) = row (codes "pass") (string name ∷ [])
ask_data (shifts name term to amount) =
    row (codes "shift") (string name ∷ count_data term ∷ count_data to ∷ count_data amount ∷ [])
ask_data (grants name term amount) = row (codes "grant") (string name ∷ count_data term ∷ count_data amount ∷ [])
ask_data (emits to) = row (codes "emit") (count_data to ∷ [])
ask_data (delivers bytes) = row (codes "deliver") (bytes_data bytes ∷ [])

-- the words that a script prints, with a stamp as its clock and its node
abbrev pub pass_data : Passed → Data
pass_data Unset = row (codes "unset") []
pass_data (NoTerm stamp) = row (codes "none") (count_data stamp.clock ∷ count_data stamp.node ∷ [])
pass_data (Act stamp term task) =
    row (codes "act") (count_data stamp.clock ∷ count_data stamp.node ∷ count_data term ∷ task_data task ∷ [])

abbrev pub reply_data : ReplyTold → Data
reply_data (was_set stamp) = row (codes "set") (count_data stamp.clock ∷ count_data stamp.node ∷ [])
reply_data (was_removed stamp) = row (codes "removed") (count_data stamp.clock ∷ count_data stamp.node ∷ [])
reply_data (was_loaded entries) = row (codes "loaded") (count_data entries ∷ [])
reply_data (was_passed outcome) = pass_data outcome
reply_data (was_shifted total) = row (codes "shifted") (count_data total ∷ [])
reply_data (was_granted total) = row (codes "granted") (count_data total ∷ [])
reply_data (was_emitted bytes) = row (codes "message") (bytes_data bytes ∷ [])
reply_data (was_delivered true) = row (codes "changed") []
reply_data (was_delivered false) = row (codes "same") []

-- a row of the code, of which the bytes of a message still lie where they lay
abbrev pub row_data : Row → Data
row_data (rows.Value value) = view value
row_data (rows.Deliver bytes) = ask_data (delivers bytes.now)
row_data (rows.Message bytes) = reply_data (was_emitted bytes.now)
