use Rattle.std.proofs.Common.{◌≡◌, ℕ, List, [], Bor, get_or, string_bytes, rules}
use Rattle.serde_json.specs.Data.{string}
use Rattle.serde_json.specs.declared.value.Value.{the_lemmas}
use Rattle.drills.proofs.JsonRows.{value_more}
use Rattle.drills.proofs.json_rows.push_texts.Goals as goal

pub loop-text-preserved : goal.loop-text-preserved
loop-text-preserved c =
    let texts = c.args.texts.now in
    let i = c.loop-text.text-index in
    let none : Bor (List ℕ) = record { ref_ptr = (0, 0); now = [] } in
    let copied : string_bytes c.in_ok-from_str.field-0 ≡ (get_or texts i none).now = search rules in
    value_more (λ text. string text.now) texts i none c.args.row.now.items c.loop-text.row.items c.push.new.self.items
    _ c.loop-text-test.true c.loop-text.invariant c.in_ok-push.ensures.items (search (rules, the_lemmas))
