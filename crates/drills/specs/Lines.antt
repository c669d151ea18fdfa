-- The lines of a recorded drill.
use Rattle.std.specs.Prelude.{ℕ, Bool, true, false, List, codes, string_bytes, Option, Some, None}
use Rattle.serde_json.specs.Data.{Data, string, object, member, no_members}
use Rattle.serde_json.specs.Written.{compact_text}
use Rattle.node_calls.specs.declared.receipt.Receipt.{Receipt}
use Rattle.node_calls.specs.Told.{Told, told}
use Rattle.drills.specs.declared.line.Line.{Line}
use Rattle.drills.specs.declared.line.Line.TheVariants as lines
use Rattle.drills.specs.declared.part.PartHead.{PartHead}
use Rattle.drills.specs.Rows.{count_data, words_data, ask_data, reply_data}

-- what a receipt tells: its place, and its entry
pub record ReceiptTold : Type 0 where
  pub node : ℕ
  pub index : ℕ
  pub entry : Told

abbrev pub receipt_told : Receipt → ReceiptTold
receipt_told r = record { node = r.node; index = r.index; entry = told r.entry }

-- what the head of a part tells: its node, of how many, how many calls the node accepts in its life, and which run it is
pub record HeadTold : Type 0 where
  pub node : ℕ
  pub nodes : ℕ
  pub cap : ℕ
  pub run : List ℕ

abbrev pub head_told : PartHead → HeadTold
head_told h = record { node = h.node; nodes = h.nodes; cap = h.cap; run = string_bytes h.run }

-- the first line, and whether traces and lists may come in pieces; the trace of a node begins, or a piece of it that
-- says behind how many of its entries; its next entry; so a list begins, or a piece of it; or its next receipt. A part
-- has another first line
pub data LineTold : Type 0 where
  head : (pieces : Bool) → LineTold
  trace : (node : ℕ) → (from : Option ℕ) → LineTold
  entry : (told : Told) → LineTold
  list : (number : ℕ) → (from : Option ℕ) → LineTold
  receipt : (told : ReceiptTold) → LineTold
  part_head : (told : HeadTold) → LineTold

-- a line of the code, without where its texts lie in memory
abbrev pub line_told : Line → LineTold
line_told (lines.Head pieces) = head pieces
line_told (lines.Trace node from) = trace node from
line_told (lines.Entry e) = entry (told e)
line_told (lines.List number from) = list number from
line_told (lines.Receipt r) = receipt (receipt_told r)
line_told (lines.Part h) = part_head (head_told h)

-- the version of a drill, in which traces and lists may come in pieces or not
abbrev pub version_of : Bool → ℕ
version_of false = 1
version_of true = 2

-- where a part begins
abbrev pub part_data : List ℕ → ℕ → Option ℕ → Data
part_data name number None = object (member name (count_data number) no_members)
part_data name number (Some from) =
    object (member (codes "from") (count_data from) (member name (count_data number) no_members))

-- as JSON: one object a line
abbrev pub line_data : LineTold → Data
line_data (head pieces) =
    object (member (codes "failreg") (string (codes "drill"))
    (member (codes "version") (count_data (version_of pieces)) no_members))
line_data (trace node from) = part_data (codes "trace") node from
line_data (entry e) =
    object (member (codes "ask") (ask_data e.ask)
    (member (codes "reply") (reply_data e.reply)
    (member (codes "words") (words_data e.words) no_members)))
line_data (list number from) = part_data (codes "list") number from
line_data (receipt r) =
    object (member (codes "ask") (ask_data r.entry.ask)
    (member (codes "index") (count_data r.index)
    (member (codes "node") (count_data r.node)
    (member (codes "reply") (reply_data r.entry.reply)
    (member (codes "words") (words_data r.entry.words) no_members)))))
line_data (part_head h) =
    object (member (codes "cap") (count_data h.cap)
    (member (codes "failreg") (string (codes "part"))
    (member (codes "node") (count_data h.node)
    (member (codes "nodes") (count_data h.nodes)
    (member (codes "run") (string h.run)
    (member (codes "version") (count_data 1) no_members))))))

-- with no spaces, and without the newline that ends it
abbrev pub line_text : LineTold → List ℕ
line_text line = compact_text (line_data line)
