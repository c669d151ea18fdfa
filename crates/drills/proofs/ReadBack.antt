-- The text of a call's line is read as its value.
use Rattle.std.proofs.Common.{◌≡◌, ℕ, ◌≤◌, ◌<◌, ◌^◌, List, [], ◌∷◌, length, map, Option, Some, None, option_map, option_and_then, refl, sym, ap, ◌∙◌, arith, append-nil}
use Rattle.std.specs.Prelude.{codes}
use Rattle.std.proofs.lemmas.List.Elements.{All-head, All-tail}
use Rattle.actions.specs.Value.{TaskValue, off, «return», sleep, panic, print, pause, yield, delay}
use Rattle.stamp_register.specs.declared.key.Stamp.{Stamp}
use Rattle.node_calls.specs.Told.{AskTold, sets, removes, loads, passes, shifts, grants, emits, delivers, ReplyTold, was_set, was_removed, was_loaded, was_passed, was_shifted, was_granted, was_emitted, was_delivered, Told, Passed, Unset, NoTerm, Act}
use Rattle.std.specs.Prelude.{true, false}
use Rattle.json.specs.Lex.{tokens}
use Rattle.json.specs.Json.{if_last, value}
use Rattle.json.specs.Tree.{json_tokens, HasNumbers}
use Rattle.json.specs.Tree as tree
use Rattle.json.proofs.Printed.Decimals.{IsNumber-decimal}
use Rattle.json.proofs.Printed.Tokens.{tokens-print}
use Rattle.json.proofs.Printed.Trees.{ArePrintable-json_tokens, value-json_tokens}
use Rattle.serde_json.specs.Data.{Data, null, boolean, number, string, array, object, Items, no_items, item, Members, no_members, member, unsigned, negative, float, depth, items_depth, members_depth}
use Rattle.serde_json.specs.Read.{max_depth, of_json, of_items, read}
use Rattle.serde_json.specs.View.{items_of}
use Rattle.serde_json.specs.Written.{compact_text, outline, items_outline, members_outline}
use Rattle.serde_json.proofs.Numbers.{number_of-decimal}
use Rattle.serde_json.proofs.Texts.{print-outline}
use Rattle.drills.specs.Fits.{StampFits, TaskFits, AskFits, PassFits, ReplyFits, WordsFit, ToldFits, LineFits}
use Rattle.drills.specs.Lines.{LineTold, entry, receipt, ReceiptTold, line_data, line_text}
use Rattle.drills.specs.Rows.{count_data, text_data, row, words_data, task_data, ask_data, pass_data, reply_data}
use Rattle.drills.proofs.Plain.{line_plain}

-- ---- values without objects, whose numbers are of 64 bits

abbrev mutual
  pub IsFlat : Data → Type 0
  IsFlat null = Unit {0}
  IsFlat (boolean b) = Unit {0}
  IsFlat (number (unsigned n)) = n < 2 ^ 64
  IsFlat (number (negative z)) = ⊥
  IsFlat (number (float x)) = ⊥
  IsFlat (string s) = Unit {0}
  IsFlat (array ds) = AreFlat ds
  IsFlat (object ms) = ⊥

  pub AreFlat : Items → Type 0
  AreFlat no_items = Unit {0}
  AreFlat (item d ds) = IsFlat d × AreFlat ds

mutual
  value_back : (d : Data) → IsFlat d → of_json (outline d) ≡ Some d
  value_back null h = refl
  value_back (boolean b) h = refl
  value_back (number (unsigned n)) h = ap (option_map number) (number_of-decimal n h)
  value_back (number (negative z)) h = absurd h
  value_back (number (float x)) h = absurd h
  value_back (string s) h = refl
  value_back (array ds) h = ap (option_map array) (values_back ds h)
  value_back (object ms) h = absurd h

  values_back : (ds : Items) → AreFlat ds → of_items (items_outline ds) ≡ Some ds
  values_back no_items h = refl
  values_back (item d ds) h =
      ap (option_and_then (λ e. option_map (item e) (of_items (items_outline ds)))) (value_back d h.0)
      ∙ ap (option_map (item d)) (values_back ds h.1)

mutual
  has_numbers : (d : Data) → IsFlat d → HasNumbers (outline d)
  has_numbers null h = tt
  has_numbers (boolean b) h = tt
  has_numbers (number (unsigned n)) h = IsNumber-decimal n h
  has_numbers (number (negative z)) h = absurd h
  has_numbers (number (float x)) h = absurd h
  has_numbers (string s) h = tt
  has_numbers (array ds) h = have_numbers ds h
  has_numbers (object ms) h = absurd h

  have_numbers : (ds : Items) → AreFlat ds → tree.ItemsHaveNumbers (items_outline ds)
  have_numbers no_items h = tt
  have_numbers (item d ds) h = (has_numbers d h.0, have_numbers ds h.1)

mutual
  same_depth : (d : Data) → tree.depth (outline d) ≡ depth d
  same_depth null = refl
  same_depth (boolean b) = refl
  same_depth (number n) = refl
  same_depth (string s) = refl
  same_depth (array ds) = let same = same_items_depth ds in omega (arith, same)
  same_depth (object ms) = let same = same_members_depth ms in omega (arith, same)

  same_items_depth : (ds : Items) → tree.items_depth (items_outline ds) ≡ items_depth ds
  same_items_depth no_items = refl
  same_items_depth (item d ds) =
      let first = same_depth d in
      let rest = same_items_depth ds in
      omega (arith, first, rest)

  same_members_depth : (ms : Members) → tree.members_depth (members_outline ms) ≡ members_depth ms
  same_members_depth no_members = refl
  same_members_depth (member k d ms) =
      let first = same_depth d in
      let rest = same_members_depth ms in
      omega (arith, first, rest)

-- the text of a value is read as it
text_back : (d : Data) → HasNumbers (outline d) → depth d ≤ max_depth → of_json (outline d) ≡ Some d →
    read (compact_text d) ≡ Some d
text_back d numbers shallow back =
    let same = same_depth d in
    let lexed : tokens (compact_text d) ≡ json_tokens (outline d) =
    ap tokens (sym (print-outline d)) ∙ tokens-print (json_tokens (outline d)) (ArePrintable-json_tokens (outline d) numbers) in
    ap (λ ts. option_and_then of_json (option_and_then (λ p. if_last p.0 p.1) (value max_depth ts)))
    (lexed ∙ sym (append-nil (json_tokens (outline d))))
    ∙ ap (λ o. option_and_then of_json (option_and_then (λ p. if_last p.0 p.1) o))
    (value-json_tokens (outline d) max_depth [] (omega (arith, same, shallow)))
    ∙ back

-- ---- what a call tells

texts_flat : (word : List ℕ) (text : Option (List ℕ)) → IsFlat (row word (text_data text ∷ []))
texts_flat word None = (tt, (tt, tt))
texts_flat word (Some text) = (tt, (tt, tt))

task_flat : (task : TaskValue) → TaskFits task → IsFlat (task_data task)
task_flat off h = (tt, tt)
task_flat («return» text) h = texts_flat (codes "return") text
task_flat (sleep time) h = (tt, (h, tt))
task_flat (panic text) h = texts_flat (codes "panic") text
task_flat (print text) h = texts_flat (codes "print") text
task_flat pause h = (tt, tt)
task_flat yield h = (tt, tt)
task_flat (delay time) h = (tt, (h, tt))

ask_flat : (ask : AskTold) → AskFits ask → IsFlat (ask_data ask)
ask_flat (sets name text) h = (tt, (tt, (tt, tt)))
ask_flat (removes name) h = (tt, (tt, tt))
ask_flat (loads text) h = (tt, (tt, tt))
ask_flat (passes name) h = (tt, (tt, tt))
ask_flat (shifts name term to amount) h =
    let a = h.0 in
    let b = h.1 in
    (tt, (tt, (omega (arith, a), (omega (arith, b), (h.2, tt)))))
ask_flat (grants name term amount) h = let a = h.0 in (tt, (tt, (omega (arith, a), (h.1, tt))))
ask_flat (emits to) h = (tt, (omega (arith, h), tt))
ask_flat (delivers bytes) h = (tt, (tt, tt))

stamp_flat : (word : List ℕ) (stamp : Stamp) → StampFits stamp →
    IsFlat (row word (count_data stamp.clock ∷ count_data stamp.node ∷ []))
stamp_flat word stamp h = let node = h.1 in (tt, (h.0, (omega (arith, node), tt)))

pass_flat : (outcome : Passed) → PassFits outcome → IsFlat (pass_data outcome)
pass_flat Unset h = (tt, tt)
pass_flat (NoTerm stamp) h = stamp_flat (codes "none") stamp h
pass_flat (Act stamp term task) h =
    let node = h.0.1 in
    let few = h.1 in
    (tt, (h.0.0, (omega (arith, node), (omega (arith, few), (task_flat task h.2, tt)))))

reply_flat : (reply : ReplyTold) → ReplyFits reply → IsFlat (reply_data reply)
reply_flat (was_set stamp) h = stamp_flat (codes "set") stamp h
reply_flat (was_removed stamp) h = stamp_flat (codes "removed") stamp h
reply_flat (was_loaded entries) h = (tt, (omega (arith, h), tt))
reply_flat (was_passed outcome) h = pass_flat outcome h
reply_flat (was_shifted total) h = (tt, (h, tt))
reply_flat (was_granted total) h = (tt, (h, tt))
reply_flat (was_emitted bytes) h = (tt, (tt, tt))
reply_flat (was_delivered true) h = (tt, tt)
reply_flat (was_delivered false) h = (tt, tt)

counts_flat : (words : List ℕ) → WordsFit words → AreFlat (items_of (map count_data words))
counts_flat [] h = tt
counts_flat (word ∷ words) h =
    let fits : word < 2 ^ 32 = All-head (λ w. w < 2 ^ 32) word words h in
    (omega (arith, fits), counts_flat words (All-tail (λ w. w < 2 ^ 32) word words h))

-- ---- the lines of calls

pub entry_read : (e : Told) → ToldFits e → read (line_text (entry e)) ≡ Some (line_data (entry e))
entry_read e h =
    let ask = ask_flat e.ask h.ask in
    let reply = reply_flat e.reply h.reply in
    let words = counts_flat e.words h.words in
    text_back (line_data (entry e))
    (has_numbers (ask_data e.ask) ask, (has_numbers (reply_data e.reply) reply, (has_numbers (words_data e.words) words, tt)))
    (line_plain (entry e)).1
    (rw (value_back (ask_data e.ask) ask, value_back (reply_data e.reply) reply, value_back (words_data e.words) words) refl)

pub receipt_read : (r : ReceiptTold) → LineFits (receipt r) → read (line_text (receipt r)) ≡ Some (line_data (receipt r))
receipt_read r h =
    let e = r.entry in
    let ask = ask_flat e.ask h.2.ask in
    let reply = reply_flat e.reply h.2.reply in
    let words = counts_flat e.words h.2.words in
    let node = h.0 in
    let index = h.1 in
    let small_node : r.node < 2 ^ 64 = omega (arith, node) in
    let small_index : r.index < 2 ^ 64 = omega (arith, index) in
    text_back (line_data (receipt r)) (
      has_numbers (ask_data e.ask) ask,
      (
        has_numbers (count_data r.index) small_index,
        (
          has_numbers (count_data r.node) small_node,
          (
            has_numbers (reply_data e.reply) reply,
            (has_numbers (words_data e.words) words, tt),
          ),
        ),
      ),
    )
    (line_plain (receipt r)).1
    (rw (
      value_back (ask_data e.ask) ask,
      value_back (count_data r.index) small_index,
      value_back (count_data r.node) small_node,
      value_back (reply_data e.reply) reply,
      value_back (words_data e.words) words,
    ) refl)
