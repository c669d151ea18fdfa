use Rattle.std.proofs.Common.{◌≡◌, List, ℕ, Option, Some, None, option_map, refl, ap, ◌∙◌}
use Rattle.serde_json.specs.View.{view}
use Rattle.node_calls.specs.Told.{AskTold, ReplyTold, Told, ask_told}
use Rattle.drills.specs.Reading.{answer_of, ask_member, reply_member, told_of, words_member}
use Rattle.drills.proofs.line.told_in.Goals as goal

abbrev told_with : AskTold → List ℕ × ReplyTold → Told
told_with ask answer = record { ask = ask; words = answer.0; reply = answer.1 }

answered : (ask : AskTold) (words : Option (List ℕ)) (reply : Option ReplyTold) (w : List ℕ) (r : ReplyTold) →
    Some (w, r) ≡ answer_of words reply →
    Some (record { ask = ask; words = w; reply = r }) ≡ told_of (Some ask) words reply
answered ask None reply w r e = absurd (cc)
answered ask (Some words) None w r e = absurd (cc)
answered ask (Some words) (Some reply) w r e = ap (option_map (told_with ask)) e

unanswered : (ask : AskTold) (words : Option (List ℕ)) (reply : Option ReplyTold) →
    None ≡ answer_of words reply → None ≡ told_of (Some ask) words reply
unanswered ask None reply e = refl
unanswered ask (Some words) None e = refl
unanswered ask (Some words) (Some reply) e = absurd (cc)

pub returns-in-Ok-Some : goal.returns-in-Ok-Some
returns-in-Ok-Some c =
    let d = view c.args.value.now in
    let asked : Some (ask_told c.in-Some.ask) ≡ ask_member d = rw c.in-Some.is at c.in_ok-ask.ensures in
    answered (ask_told c.in-Some.ask) (words_member d) (reply_member d) _ _ (rw c.in-Ok-Some.field-0-is at c.in-Ok-Some.ensures)
    ∙ ap (λ ask. told_of ask (words_member d) (reply_member d)) asked

pub returns-in-Ok-None : goal.returns-in-Ok-None
returns-in-Ok-None c =
    let d = view c.args.value.now in
    let asked : Some (ask_told c.in-Some.ask) ≡ ask_member d = rw c.in-Some.is at c.in_ok-ask.ensures in
    unanswered (ask_told c.in-Some.ask) (words_member d) (reply_member d) (rw c.in-Ok-None.field-0-is at c.in-Ok-None.ensures)
    ∙ ap (λ ask. told_of ask (words_member d) (reply_member d)) asked
