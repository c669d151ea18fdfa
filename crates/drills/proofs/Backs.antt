-- What is written of an entry is read as the same.
use Rattle.std.proofs.Common.{◌≡◌, ℕ, ◌≤◌, ◌<◌, ◌^◌, true, false, List, [], ◌∷◌, map, Option, Some, None, refl, ap, arith}
use Rattle.std.specs.Prelude.{codes, option_map, nat_le}
use Rattle.std.proofs.lemmas.Bool.{cond-true, le-leb}
use Rattle.std.proofs.lemmas.List.Elements.{All-head, All-tail}
use Rattle.hex.specs.Hex.{IsBytes}
use Rattle.hex.proofs.HexLemmas.{decode_of-encode_lower}
use Rattle.serde_json.specs.Data.{Data}
use Rattle.serde_json.specs.View.{items_of}
use Rattle.stamp_register.specs.declared.key.Stamp.{Stamp}
use Rattle.actions.specs.Value.{TaskValue, off, «return», sleep, panic, print, pause, yield, delay}
use Rattle.node_calls.specs.Told.{AskTold, sets, removes, loads, passes, shifts, grants, emits, delivers, ReplyTold, was_set, was_removed, was_loaded, was_passed, was_shifted, was_granted, was_emitted, was_delivered, Told, Passed, Unset, NoTerm, Act}
use Rattle.drills.specs.Lines.{LineTold, head, trace, entry, list, receipt, part_head, ReceiptTold, HeadTold, line_data}
use Rattle.drills.specs.Rows.{count_data, bytes_data, text_data, row, task_data, ask_data, pass_data, reply_data}
use Rattle.drills.specs.Reading.{up_to, bytes_in, text_or_null, words_from, decoded, stamp_in, task_in, ask_in, pass_in, reply_in, told_in, receipt_in, part_head_of, line_of}
use Rattle.drills.specs.Fits.{StampFits, AskFits, ReplyFits, PassFits, WordsFit, ToldFits, LineFits}

fits_up_to : (most n : ℕ) → n ≤ most → up_to most n ≡ Some n
fits_up_to most n h = cond-true (nat_le n most) _ _ (le-leb n most h)

text_back : (text : Option (List ℕ)) → text_or_null (text_data text) ≡ Some text
text_back None = refl
text_back (Some text) = refl

bytes_back : (bytes : List ℕ) → IsBytes bytes → bytes_in (bytes_data bytes) ≡ Some bytes
bytes_back bytes h = ap decoded (decode_of-encode_lower bytes h)

task_back : (task : TaskValue) → task_in (task_data task) ≡ Some task
task_back off = refl
task_back («return» None) = refl
task_back («return» (Some text)) = refl
task_back (sleep time) = refl
task_back (panic None) = refl
task_back (panic (Some text)) = refl
task_back (print None) = refl
task_back (print (Some text)) = refl
task_back pause = refl
task_back yield = refl
task_back (delay time) = refl

ask_back : (ask : AskTold) → AskFits ask → ask_in (ask_data ask) ≡ Some ask
ask_back (sets name text) h = refl
ask_back (removes name) h = refl
ask_back (loads text) h = refl
ask_back (passes name) h = refl
ask_back (shifts name term to amount) h =
    rw (fits_up_to 255 term (omega (arith, h.0)), fits_up_to 255 to (omega (arith, h.1))) refl
ask_back (grants name term amount) h = rw (fits_up_to 255 term (omega (arith, h.0))) refl
ask_back (emits to) h = rw (fits_up_to 255 to (omega (arith, h))) refl
ask_back (delivers bytes) h = ap (option_map delivers) (bytes_back bytes h)

stamp_back : (word : List ℕ) (stamp : Stamp) (more : List Data) → StampFits stamp →
    stamp_in (row word (count_data stamp.clock ∷ count_data stamp.node ∷ more)) ≡ Some stamp
stamp_back word stamp more h = rw (fits_up_to 255 stamp.node (omega (arith, h.1))) refl

pass_back : (outcome : Passed) → PassFits outcome → pass_in (pass_data outcome) ≡ Some outcome
pass_back Unset h = refl
pass_back (NoTerm stamp) h = ap (option_map NoTerm) (stamp_back (codes "none") stamp [] h)
pass_back (Act stamp term task) h =
    rw (
      stamp_back (codes "act") stamp (count_data term ∷ task_data task ∷ []) h.0,
      fits_up_to 255 term (omega (arith, h.1)),
      task_back task,
    ) refl

reply_back : (reply : ReplyTold) → ReplyFits reply → reply_in (reply_data reply) ≡ Some reply
reply_back (was_set stamp) h = ap (option_map was_set) (stamp_back (codes "set") stamp [] h)
reply_back (was_removed stamp) h = ap (option_map was_removed) (stamp_back (codes "removed") stamp [] h)
reply_back (was_loaded entries) h = rw (fits_up_to 65535 entries (omega (arith, h))) refl
reply_back (was_passed Unset) h = refl
reply_back (was_passed (NoTerm stamp)) h = ap (option_map was_passed) (pass_back (NoTerm stamp) h)
reply_back (was_passed (Act stamp term task)) h = ap (option_map was_passed) (pass_back (Act stamp term task) h)
reply_back (was_shifted total) h = refl
reply_back (was_granted total) h = refl
reply_back (was_emitted bytes) h = ap (option_map was_emitted) (bytes_back bytes h)
reply_back (was_delivered true) h = refl
reply_back (was_delivered false) h = refl

words_back : (words : List ℕ) → WordsFit words → words_from (items_of (map count_data words)) ≡ Some words
words_back [] h = refl
words_back (word ∷ words) h =
    let fits : word < 2 ^ 32 = All-head (λ w. w < 2 ^ 32) word words h in
    rw (fits_up_to 4294967295 word (omega (arith, fits)), words_back words (All-tail (λ w. w < 2 ^ 32) word words h))
    refl

entry_back : (e : Told) → ToldFits e → told_in (line_data (entry e)) ≡ Some e
entry_back e h = rw (ask_back e.ask h.ask, words_back e.words h.words, reply_back e.reply h.reply) refl

receipt_back : (r : ReceiptTold) → LineFits (receipt r) → receipt_in (line_data (receipt r)) ≡ Some r
receipt_back r h =
    rw (
      fits_up_to 255 r.node (omega (arith, h.0)),
      fits_up_to 4294967295 r.index (omega (arith, h.1)),
      ask_back r.entry.ask h.2.ask,
      words_back r.entry.words h.2.words,
      reply_back r.entry.reply h.2.reply,
    ) refl

part_head_back : (h : HeadTold) → LineFits (part_head h) → part_head_of (line_data (part_head h)) ≡ Some h
part_head_back h fits =
    rw (fits_up_to 255 h.node (omega (arith, fits.0)), fits_up_to 255 h.nodes (omega (arith, fits.1))) refl

pub line_back : (line : LineTold) → LineFits line → line_of (line_data line) ≡ Some line
line_back (head false) h = refl
line_back (head true) h = refl
line_back (trace node None) h = refl
line_back (trace node (Some from)) h = refl
line_back (entry e) h = ap (option_map entry) (entry_back e h)
line_back (list number None) h = refl
line_back (list number (Some from)) h = refl
line_back (receipt r) h = ap (option_map receipt) (receipt_back r h)
line_back (part_head p) h = ap (option_map part_head) (part_head_back p h)
