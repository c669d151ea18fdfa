-- The lines of a recorded drill have no floats, and nest little.
use Rattle.std.proofs.Common.{◌≡◌, ℕ, ◌≤◌, true, false, List, [], ◌∷◌, map, Option, Some, None, refl, ap, arith}
use Rattle.std.specs.Prelude.{codes, ◌||◌}
use Rattle.std.proofs.lemmas.Bool.{or_from}
use Rattle.serde_json.specs.Data.{Data, Items, depth, items_depth}
use Rattle.serde_json.specs.Read.{max_depth}
use Rattle.serde_json.specs.View.{items_of}
use Rattle.serde_json.specs.Written.{has_float, items_have_float}
use Rattle.actions.specs.Value.{TaskValue, off, «return», sleep, panic, print, pause, yield, delay}
use Rattle.node_calls.specs.Told.{AskTold, sets, removes, loads, passes, shifts, grants, emits, delivers, ReplyTold, was_set, was_removed, was_loaded, was_passed, was_shifted, was_granted, was_emitted, was_delivered, Told, Passed, Unset, NoTerm, Act}
use Rattle.drills.specs.Lines.{LineTold, head, trace, entry, list, receipt, part_head, line_data}
use Rattle.drills.specs.Rows.{count_data, text_data, row, words_data, task_data, ask_data, pass_data, reply_data}

pub record IsPlain (deep : ℕ) (d : Data) : Type 0 where
  pub floatless : has_float d ≡ false
  pub shallow : depth d ≤ deep

text_plain : (text : Option (List ℕ)) → IsPlain 0 (text_data text)
text_plain None = record { floatless = refl; shallow = omega arith }
text_plain (Some text) = record { floatless = refl; shallow = omega arith }

texts_plain : (word : List ℕ) (text : Option (List ℕ)) → IsPlain 1 (row word (text_data text ∷ []))
texts_plain word None = record { floatless = refl; shallow = omega arith }
texts_plain word (Some text) = record { floatless = refl; shallow = omega arith }

task_plain : (task : TaskValue) → IsPlain 1 (task_data task)
task_plain off = record { floatless = refl; shallow = omega arith }
task_plain («return» text) = texts_plain (codes "return") text
task_plain (sleep time) = record { floatless = refl; shallow = omega arith }
task_plain (panic text) = texts_plain (codes "panic") text
task_plain (print text) = texts_plain (codes "print") text
task_plain pause = record { floatless = refl; shallow = omega arith }
task_plain yield = record { floatless = refl; shallow = omega arith }
task_plain (delay time) = record { floatless = refl; shallow = omega arith }

pub ask_plain : (ask : AskTold) → IsPlain 1 (ask_data ask)
ask_plain (sets name text) = record { floatless = refl; shallow = omega arith }
ask_plain (removes name) = record { floatless = refl; shallow = omega arith }
ask_plain (loads text) = record { floatless = refl; shallow = omega arith }
ask_plain (passes name) = record { floatless = refl; shallow = omega arith }
ask_plain (shifts name term to amount) = record { floatless = refl; shallow = omega arith }
ask_plain (grants name term amount) = record { floatless = refl; shallow = omega arith }
ask_plain (emits to) = record { floatless = refl; shallow = omega arith }
ask_plain (delivers bytes) = record { floatless = refl; shallow = omega arith }

pass_plain : (outcome : Passed) → IsPlain 2 (pass_data outcome)
pass_plain Unset = record { floatless = refl; shallow = omega arith }
pass_plain (NoTerm stamp) = record { floatless = refl; shallow = omega arith }
pass_plain (Act stamp term task) =
    let plain = task_plain task in
    let bound = plain.shallow in
    record { floatless = ap (λ b. b || false) plain.floatless; shallow = omega (arith, bound) }

pub reply_plain : (reply : ReplyTold) → IsPlain 2 (reply_data reply)
reply_plain (was_set stamp) = record { floatless = refl; shallow = omega arith }
reply_plain (was_removed stamp) = record { floatless = refl; shallow = omega arith }
reply_plain (was_loaded entries) = record { floatless = refl; shallow = omega arith }
reply_plain (was_passed outcome) = pass_plain outcome
reply_plain (was_shifted total) = record { floatless = refl; shallow = omega arith }
reply_plain (was_granted total) = record { floatless = refl; shallow = omega arith }
reply_plain (was_emitted bytes) = record { floatless = refl; shallow = omega arith }
reply_plain (was_delivered true) = record { floatless = refl; shallow = omega arith }
reply_plain (was_delivered false) = record { floatless = refl; shallow = omega arith }

record ArePlain (ds : Items) : Type 0 where
  pub floatless : items_have_float ds ≡ false
  pub shallow : items_depth ds ≤ 0

counts_plain : (words : List ℕ) → ArePlain (items_of (map count_data words))
counts_plain [] = record { floatless = refl; shallow = omega arith }
counts_plain (word ∷ words) =
    let plain = counts_plain words in
    let bound = plain.shallow in
    record { floatless = plain.floatless; shallow = omega (arith, bound) }

pub words_plain : (words : List ℕ) → IsPlain 1 (words_data words)
words_plain words =
    let plain = counts_plain words in
    let bound = plain.shallow in
    record { floatless = plain.floatless; shallow = omega (arith, bound) }

-- an ask, a reply and words, one beside the other
record IsPlainEntry (e : Told) : Type 0 where
  pub floatless : (has_float (ask_data e.ask) || (has_float (reply_data e.reply) ||
      (has_float (words_data e.words) || false))) ≡ false
  pub ask : depth (ask_data e.ask) ≤ 1
  pub reply : depth (reply_data e.reply) ≤ 2
  pub words : depth (words_data e.words) ≤ 1

entry_plain : (e : Told) → IsPlainEntry e
entry_plain e =
    let ask = ask_plain e.ask in
    let reply = reply_plain e.reply in
    let words = words_plain e.words in
    record {
      floatless = or_from _ _ ask.floatless (or_from _ _ reply.floatless (or_from _ _ words.floatless refl));
      ask = ask.shallow;
      reply = reply.shallow;
      words = words.shallow;
    }

abbrev pub IsPlainLine : LineTold → Type 0
IsPlainLine line = (has_float (line_data line) ≡ false) × (depth (line_data line) ≤ max_depth)

pub line_plain : (line : LineTold) → IsPlainLine line
line_plain (head pieces) = (refl, omega arith)
line_plain (trace node None) = (refl, omega arith)
line_plain (trace node (Some from)) = (refl, omega arith)
line_plain (entry e) =
    let plain = entry_plain e in
    let ask = plain.ask in
    let reply = plain.reply in
    let words = plain.words in
    (plain.floatless, omega (arith, ask, reply, words))
line_plain (list number None) = (refl, omega arith)
line_plain (list number (Some from)) = (refl, omega arith)
line_plain (receipt r) =
    let plain = entry_plain r.entry in
    let ask = plain.ask in
    let reply = plain.reply in
    let words = plain.words in
    (plain.floatless, omega (arith, ask, reply, words))
line_plain (part_head h) = (refl, omega arith)
