-- A call that was made again.
use Rattle.std.proofs.Common.{◌≡◌, ◌≢◌, ℕ, ◌+◌, List, Some, inl, inr, refl, sym, ap, ◌∙◌}
use Rattle.node_calls.specs.declared.receipt.Receipt.{Receipt}
use Rattle.node_calls.specs.declared.ask.Ask.{Ask}
use Rattle.node_calls.specs.declared.fault.NodeFault.{NodeFault}
use Rattle.node_calls.specs.declared.fault.NodeFault.TheVariants.{OutOfMemory}
use Rattle.node_calls.specs.Asks.{ask_value_first}
use Rattle.node_calls.specs.declared.trace.Entry.{Entry}
use Rattle.node_calls.specs.Told.{AskTold, ReplyTold, Told, ask_told, reply_told, told}
use Rattle.node_steps.specs.declared.config.Config.{Config}
use Rattle.drills.specs.Reading.{entry_in}
use Rattle.node_registry.specs.Receipts.{IsGiven, IsRefused}
use Rattle.part_keeper.specs.Repeated.{IsOtherwise, IsRepeated}

told_by : AskTold → List ℕ → ReplyTold → Told
told_by ask words reply = record { ask = ask; words = words; reply = reply }

pub repeated : (config : Config) (seed : List ℕ) (had has : ℕ) (line : List ℕ) (entry : Entry) (made : Receipt) →
    Some (told entry) ≡ entry_in line → made.entry.ask ≡ entry.ask → made.entry.words.items ≡ entry.words.items
    → reply_told made.entry.reply ≡ reply_told entry.reply → IsGiven config seed made → has ≡ had + 1
    → IsRepeated config seed had has line
unfolding told_by
repeated config seed had has line entry made said asked words replied given counted =
    let same : told entry ≡ told made.entry =
    ap (λ (a : Ask). told_by (ask_told a) entry.words.items (reply_told entry.reply)) (sym asked)
    ∙ ap (λ w. told_by (ask_told made.entry.ask) w (reply_told entry.reply)) (sym words)
    ∙ ap (λ r. told_by (ask_told made.entry.ask) made.entry.words.items r) (sym replied) in
    record { receipt = made; said = sym said ∙ ap (λ t. Some t) same; given = given; counted = counted }

-- a call of a line that is refused
pub refused_again : (config : Config) (seed line : List ℕ) (entry : Entry) (fault : NodeFault) →
    entry_in line ≡ Some (told entry) → IsRefused config seed (ask_value_first config.nodes entry.ask) fault →
    fault ≢ OutOfMemory → IsOtherwise config seed line
refused_again config seed line entry fault said why memory =
    record { said = told entry; read = said; other = inl (entry.ask, fault, refl, why, memory) }

-- one whose draws or reply differ
pub answered_otherwise : (config : Config) (seed line : List ℕ) (entry : Entry) (made : Receipt) →
    entry_in line ≡ Some (told entry) → made.entry.ask ≡ entry.ask → IsGiven config seed made
    → ((made.entry.words.items ≡ entry.words.items) × (reply_told made.entry.reply ≡ reply_told entry.reply) → ⊥)
    → IsOtherwise config seed line
answered_otherwise config seed line entry made said asked given other = record {
  said = told entry;
  read = said;
  other = inr (
    made,
    given,
    ap ask_told asked,
    λ same. other (ap (λ (t : Told). t.words) same, ap (λ (t : Told). t.reply) same),
  );
}
