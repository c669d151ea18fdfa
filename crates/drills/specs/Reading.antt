-- What a line of a recorded drill is read as. An object has just the members of its line, and a row just the fields of
-- its word.
use Rattle.std.specs.Prelude.{ℕ, Bool, true, false, ◌&&◌, ◌==◌, List, [], ◌∷◌, nat_le, if◌then◌else◌, codes, Option, Some, None, option_map, Result, Ok, Err}
use Rattle.std.specs.Option.{option_map_or}
use Rattle.std.specs.Str.{bytes_eq}
use Rattle.hex.specs.Hex.{decode_of}
use Rattle.hex.specs.declared.error.FromHexError.{FromHexError}
use Rattle.serde_json.specs.Data.{Data, null, boolean, number, string, array, object, Items, no_items, item}
use Rattle.serde_json.specs.Events.{items_len, members_len}
use Rattle.serde_json.specs.Find.{at, get, as_str, as_number, as_u64, as_array, as_object}
use Rattle.serde_json.specs.Read.{read}
use Rattle.stamp_register.specs.declared.key.Stamp.{Stamp}
use Rattle.actions.specs.Value.{TaskValue, off, «return», sleep, panic, print, pause, yield, delay}
use Rattle.node_calls.specs.Told.{AskTold, sets, removes, loads, passes, shifts, grants, emits, delivers, ReplyTold, was_set, was_removed, was_loaded, was_passed, was_shifted, was_granted, was_emitted, was_delivered, Told, Passed, Unset, NoTerm, Act}
use Rattle.streams.specs.Lines.{◌>>=◌, text_in}
use Rattle.drills.specs.Lines.{LineTold, head, trace, entry, list, receipt, ReceiptTold, part_head, HeadTold}

-- ---- values

abbrev pub number_in : Data → Option ℕ
number_in d = as_number d >>= as_u64

abbrev pub up_to : ℕ → ℕ → Option ℕ
up_to most n = if nat_le n most then Some n else None

abbrev pub byte_in : Data → Option ℕ
byte_in d = number_in d >>= up_to 255

abbrev pub short_in : Data → Option ℕ
short_in d = number_in d >>= up_to 65535

abbrev pub word_in : Data → Option ℕ
word_in d = number_in d >>= up_to 4294967295

abbrev pub decoded : Result (List ℕ) FromHexError → Option (List ℕ)
decoded (Ok bytes) = Some bytes
decoded (Err fault) = None

abbrev pub bytes_in : Data → Option (List ℕ)
bytes_in d = as_str d >>= (λ text. decoded (decode_of text))

-- a text or null
abbrev pub text_or_null : Data → Option (Option (List ℕ))
text_or_null null = Some None
text_or_null (boolean b) = None
text_or_null (number n) = None
text_or_null (string text) = Some (Some text)
text_or_null (array ds) = None
text_or_null (object ms) = None

abbrev pub words_from : Items → Option (List ℕ)
words_from no_items = Some []
words_from (item d ds) = do
  word ← word_in d
  words ← words_from ds
  Some (word ∷ words)

abbrev pub words_in : Data → Option (List ℕ)
words_in d = as_array d >>= words_from

-- ---- rows

abbrev pub fields_in : Data → ℕ
fields_in d = option_map_or items_len (as_array d) 0

abbrev pub is_word : List ℕ → Option (List ℕ) → Bool
is_word word None = false
is_word word (Some text) = bytes_eq text word

-- a row of this word, with so many fields in all
abbrev pub is_row : Data → List ℕ → ℕ → Bool
is_row d word fields = (fields_in d == fields) && is_word word (at 0 d >>= as_str)

abbrev pub text_at : ℕ → Data → Option (List ℕ)
text_at i d = at i d >>= as_str

abbrev pub number_at : ℕ → Data → Option ℕ
number_at i d = at i d >>= number_in

abbrev pub byte_at : ℕ → Data → Option ℕ
byte_at i d = at i d >>= byte_in

abbrev pub short_at : ℕ → Data → Option ℕ
short_at i d = at i d >>= short_in

abbrev pub bytes_at : ℕ → Data → Option (List ℕ)
bytes_at i d = at i d >>= bytes_in

abbrev pub text_or_null_at : ℕ → Data → Option (Option (List ℕ))
text_or_null_at i d = at i d >>= text_or_null

-- a stamp in the two fields behind the word
abbrev pub stamp_in : Data → Option Stamp
stamp_in d = do
  clock ← number_at 1 d
  node ← byte_at 2 d
  Some (record { clock = clock; node = node })

-- a task that takes time
abbrev pub wait_in : Data → Option TaskValue
wait_in d =
    if is_row d (codes "sleep") 2 then option_map sleep (number_at 1 d) else
    (if is_row d (codes "pause") 1 then Some pause else
    (if is_row d (codes "yield") 1 then Some yield else
    (if is_row d (codes "delay") 2 then option_map delay (number_at 1 d) else None)))

abbrev pub task_in : Data → Option TaskValue
task_in d =
    if is_row d (codes "off") 1 then Some off else
    (if is_row d (codes "return") 2 then option_map «return» (text_or_null_at 1 d) else
    (if is_row d (codes "panic") 2 then option_map panic (text_or_null_at 1 d) else
    (if is_row d (codes "print") 2 then option_map print (text_or_null_at 1 d) else wait_in d)))

abbrev pub set_in : Data → Option AskTold
set_in d = do
  name ← text_at 1 d
  text ← text_at 2 d
  Some (sets name text)

abbrev pub shift_in : Data → Option AskTold
shift_in d = do
  name ← text_at 1 d
  term ← byte_at 2 d
  to ← byte_at 3 d
  amount ← number_at 4 d
  Some (shifts name term to amount)

abbrev pub grant_in : Data → Option AskTold
grant_in d = do
  name ← text_at 1 d
  term ← byte_at 2 d
  amount ← number_at 3 d
  Some (grants name term amount)

-- what was asked of rights or messages
abbrev pub exchange_in : Data → Option AskTold
exchange_in d =
    if is_row d (codes "shift") 5 then shift_in d else
    (if is_row d (codes "grant") 4 then grant_in d else
    (if is_row d (codes "emit") 2 then option_map emits (byte_at 1 d) else
    (if is_row d (codes "deliver") 2 then option_map delivers (bytes_at 1 d) else None)))

abbrev pub ask_in : Data → Option AskTold
ask_in d =
    if is_row d (codes "pass") 2 then option_map passes (text_at 1 d) else
    (if is_row d (codes "set") 3 then set_in d else
    (if is_row d (codes "remove") 2 then option_map removes (text_at 1 d) else
    (if is_row d (codes "load") 2 then option_map loads (text_at 1 d) else exchange_in d)))

abbrev pub act_in : Data → Option Passed
act_in d = do
  stamp ← stamp_in d
  term ← byte_at 3 d
  task ← at 4 d >>= task_in
  Some (Act stamp term task)

abbrev pub pass_in : Data → Option Passed
pass_in d =
    if is_row d (codes "act") 5 then act_in d else
    (if is_row d (codes "none") 3 then option_map NoTerm (stamp_in d) else
    (if is_row d (codes "unset") 1 then Some Unset else None))

-- of a message that was made or taken in, and else of a pass
abbrev pub message_in : Data → Option ReplyTold
message_in d =
    if is_row d (codes "message") 2 then option_map was_emitted (bytes_at 1 d) else
    (if is_row d (codes "changed") 1 then Some (was_delivered true) else
    (if is_row d (codes "same") 1 then Some (was_delivered false) else option_map was_passed (pass_in d)))

-- of rights that were moved, and else of a message or a pass
abbrev pub moved_in : Data → Option ReplyTold
moved_in d =
    if is_row d (codes "shifted") 2 then option_map was_shifted (number_at 1 d) else
    (if is_row d (codes "granted") 2 then option_map was_granted (number_at 1 d) else message_in d)

abbrev pub reply_in : Data → Option ReplyTold
reply_in d =
    if is_row d (codes "set") 3 then option_map was_set (stamp_in d) else
    (if is_row d (codes "removed") 3 then option_map was_removed (stamp_in d) else
    (if is_row d (codes "loaded") 2 then option_map was_loaded (short_at 1 d) else moved_in d))

-- ---- lines

abbrev pub members_in : Data → ℕ
members_in d = option_map_or members_len (as_object d) 0

abbrev pub text_member : List ℕ → Data → Option (List ℕ)
text_member name d = get name d >>= as_str

abbrev pub number_member : List ℕ → Data → Option ℕ
number_member name d = get name d >>= number_in

-- of parts, where each of them could be read
abbrev pub told_of : Option AskTold → Option (List ℕ) → Option ReplyTold → Option Told
told_of ask words reply = do
  ask ← ask
  words ← words
  reply ← reply
  Some (record { ask = ask; words = words; reply = reply })

abbrev pub ask_member : Data → Option AskTold
ask_member d = get (codes "ask") d >>= ask_in

abbrev pub words_member : Data → Option (List ℕ)
words_member d = get (codes "words") d >>= words_in

abbrev pub reply_member : Data → Option ReplyTold
reply_member d = get (codes "reply") d >>= reply_in

-- an entry's words and reply, where each of them could be read
abbrev pub answer_of : Option (List ℕ) → Option ReplyTold → Option (List ℕ × ReplyTold)
answer_of words reply = do
  words ← words
  reply ← reply
  Some (words, reply)

abbrev pub answer_in : Data → Option (List ℕ × ReplyTold)
answer_in d = answer_of (words_member d) (reply_member d)

abbrev pub told_in : Data → Option Told
told_in d = told_of (ask_member d) (words_member d) (reply_member d)

abbrev pub receipt_in : Data → Option ReceiptTold
receipt_in d = do
  node ← get (codes "node") d >>= byte_in
  index ← get (codes "index") d >>= word_in
  told ← told_in d
  Some (record { node = node; index = index; entry = told })

abbrev pub is_head : Data → Bool
is_head d = is_word (codes "drill") (text_member (codes "failreg") d)

-- in the second version traces and lists may come in pieces
abbrev pub version_in : ℕ → Option LineTold
version_in version =
    if version == 1 then Some (head false) else (if version == 2 then Some (head true) else None)

abbrev pub head_in : Data → Option LineTold
head_in d = if is_head d then number_member (codes "version") d >>= version_in else None

abbrev pub or_list : Option ℕ → Option ℕ → Option ℕ → Option LineTold
or_list from (Some node) other = Some (trace node from)
or_list from None other = option_map (λ number. list number from) other

abbrev pub begin_in : Option ℕ → Data → Option LineTold
begin_in from d = or_list from (number_member (codes "trace") d) (number_member (codes "list") d)

-- a piece that says where it begins, and else the first line
abbrev pub piece_or_head : Option ℕ → Data → Option LineTold
piece_or_head None d = head_in d
piece_or_head (Some from) d = begin_in (Some from) d

abbrev pub pair_in : Data → Option LineTold
pair_in d = piece_or_head (number_member (codes "from") d) d

-- this number
abbrev pub is_number : ℕ → Option ℕ → Bool
is_number n None = false
is_number n (Some m) = m == n

abbrev pub is_part : Data → Bool
is_part d = is_word (codes "part") (text_member (codes "failreg") d) && is_number 1 (number_member (codes "version") d)

abbrev pub head_members_in : Data → Option HeadTold
head_members_in d = do
  node ← get (codes "node") d >>= byte_in
  nodes ← get (codes "nodes") d >>= byte_in
  cap ← number_member (codes "cap") d
  run ← text_member (codes "run") d
  Some (record { node = node; nodes = nodes; cap = cap; run = run })

abbrev pub part_head_of : Data → Option HeadTold
part_head_of d = if is_part d then head_members_in d else None

-- by how many members it has
abbrev pub line_of : Data → Option LineTold
line_of d =
    if members_in d == 5 then option_map receipt (receipt_in d) else
    (if members_in d == 3 then option_map entry (told_in d) else
    (if members_in d == 1 then begin_in None d else
    (if members_in d == 2 then pair_in d else
    (if members_in d == 6 then option_map part_head (part_head_of d) else None))))

-- the same of bytes, which have to be text
abbrev pub line_in : List ℕ → Option LineTold
line_in bytes = (text_in bytes >>= read) >>= line_of

-- an entry's line alone
abbrev pub entry_alone : LineTold → Option Told
entry_alone (head pieces) = None
entry_alone (trace node from) = None
entry_alone (entry e) = Some e
entry_alone (list n from) = None
entry_alone (receipt r) = None
entry_alone (part_head h) = None

abbrev pub entry_in : List ℕ → Option Told
entry_in bytes = line_in bytes >>= entry_alone

-- and a part's first line
abbrev pub head_alone : LineTold → Option HeadTold
head_alone (head pieces) = None
head_alone (trace node from) = None
head_alone (entry e) = None
head_alone (list n from) = None
head_alone (receipt r) = None
head_alone (part_head h) = Some h

abbrev pub part_head_in : List ℕ → Option HeadTold
part_head_in bytes = line_in bytes >>= head_alone
