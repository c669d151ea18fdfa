-- From a call of a node and of its generator to a call of the cell.
use Rattle.std.proofs.Common.{◌≡◌, ℕ, ◌+◌, ◌≤◌, ◌<◌, ◌^◌, Bool, true, false, ◌||◌, List, [], Option, None, Some, refl, sym, ap, ◌∙◌, subst, arith}
use Rattle.std.specs.Prelude.{nat_lt, option_and_then, option_map}
use Rattle.std.proofs.lemmas.Bool.Decides.{nat_tests}
use Rattle.std.proofs.lemmas.Option.{none-some, same_Some}
use Rattle.rand_chacha.specs.ChaCha.{ChaCha, key_of}
use Rattle.node_calls.specs.declared.ask.Ask.{Ask}
use Rattle.node_calls.specs.declared.ask.Ask.TheVariants as asked
use Rattle.node_steps.specs.declared.config.Config.{Config}
use Rattle.node_calls.specs.declared.fault.NodeFault.{NodeFault}
use Rattle.node_calls.specs.declared.reply.Reply.{Reply}
use Rattle.node_calls.specs.declared.reply.Reply.TheVariants as replies
use Rattle.node_calls.specs.declared.trace.Entry.{Entry}
use Rattle.node_core.specs.Applied.{TellsIfEmit}
use Rattle.node_calls.specs.Asks.{Asked, Call, IsPassed, Pass, ask_value, ask_value_first, reply_value}
use Rattle.node_calls.specs.Told.{Passed, ask_told, is_pass}
use Rattle.node_core.specs.Lasts.{passed_in}
use Rattle.node_steps.specs.Nodes.{max_trace_cap}
use Rattle.node_steps.specs.Refusals.{is_bad_config}
use Rattle.node_core.specs.Traces.{Kept, Accepts, IsRefusalOf, Records, after_call, call_of, refusal, reply_to, without_kept}
use Rattle.node_steps.specs.Words.{words_from, words_next, place_after}
use Rattle.node_registry.specs.Words.{words_taken}
use Rattle.node_registry.specs.Cells.{Cell, cell_of, next_words, Enters, Passes, IsRefusedBy, IsLawful, IsWithinBounds}
use Rattle.node_registry.proofs.LawfulCells.{new_lawful, taken_first, lawful_after, bounds_after, stays_lawful, stays_within}

-- a call that takes no words draws none
pub drawn_none : (g : ChaCha) (n : ℕ) → n ≡ 0 → ([] ≡ words_next g n) × (g ≡ place_after g n)
drawn_none g n none =
    let place : g.word_pos ≡ g.word_pos + n = omega arith in (
      sym (ap (words_next g) none),
      (λ i. record { key = g.key; stream = g.stream; word_pos = place i }),
    )

-- only a pass takes words
pub takes_none : (k : Kept) (ask : Ask) → is_pass (ask_told ask) ≡ false →
    words_taken k (ask_value_first k.config.nodes ask) ≡ 0
takes_none k (asked.Pass name) h = absurd (let no : ⊥ = cc in no)
takes_none k (asked.Set name text) h = refl
takes_none k (asked.Remove name) h = refl
takes_none k (asked.Load text) h = refl
takes_none k (asked.Shift name term to amount) h = refl
takes_none k (asked.Grant name term amount) h = refl
takes_none k (asked.Emit to) h = refl
takes_none k (asked.Deliver bytes) h = refl

-- the entry of a call has its words
pub accepted_by : (k new : Kept) (ask : Asked) (e : Entry) (ws : List ℕ) → (call_of k e).ask ≡ ask →
    Records k new (call_of k e) ws → Accepts k new ask ws (reply_value k.config.nodes e.reply) × (e.words.items ≡ ws)
accepted_by k new ask e ws is records = (
  subst (λ a. Accepts k new a ws (reply_value k.config.nodes e.reply)) is
      (records.0, sym (ap (λ (c : Call). c.reply) records.1), records.2),
  ap (λ (c : Call). c.words) records.1,
)

-- a refusal with words that are these
pub refused_by : (k : Kept) (ask : Asked) (ws us : List ℕ) (f : NodeFault) → ws ≡ us → IsRefusalOf k ask ws f →
    IsRefusalOf k ask us f
refused_by k ask ws us f is h = subst (λ xs. IsRefusalOf k ask xs f) is h

-- what a call of a node and its generator comes to
pub record Draws (k new : Kept) (g after : ChaCha) (e : Entry) : Type 0 where
  pub stream : g.stream ≡ k.config.node
  pub accepted : Accepts k new (ask_value k.config.nodes e.ask e.reply) e.words.items
      (reply_value k.config.nodes e.reply)
  pub words : e.words.items ≡ words_next g (words_taken k (ask_value_first k.config.nodes e.ask))
  pub place : after ≡ place_after g (words_taken k (ask_value_first k.config.nodes e.ask))
  pub few : words_taken k (ask_value_first k.config.nodes e.ask) < 2 ^ 8
  pub told : TellsIfEmit k (ask_told e.ask) e.reply

pub entered : (k new : Kept) (g after : ChaCha) (e : Entry) → Draws k new g after e →
    Enters (cell_of k g) (cell_of new after) e
entered k new g after e d =
    let ask = ask_value k.config.nodes e.ask e.reply in
    let taken : words_taken k ask ≡ words_taken k (ask_value_first k.config.nodes e.ask) =
    taken_first k e.ask e.reply in
    let words : e.words.items ≡ next_words (cell_of k g) ask = d.words ∙
    (λ i. words_from g.key (d.stream i) g.word_pos (sym taken i)) in
    let recorded : Records k new (call_of k e) e.words.items =
    (d.accepted.0, (λ i. record { ask = ask; words = e.words.items; reply = sym d.accepted.1 i }), d.accepted.2) in
    record {
      records = subst (λ ws. Records k new (call_of k e) ws) words recorded;
      tells = d.told;
      key = ap (λ (h : ChaCha). h.key) d.place;
      place = ap (λ (h : ChaCha). h.word_pos) d.place ∙ ap (λ n. g.word_pos + n) (sym taken);
    }

-- the invariant of a cell
abbrev pub IsKept : Kept → ChaCha → Type 0
IsKept k g = (g.stream ≡ k.config.node) × IsLawful (cell_of k g) × IsWithinBounds (cell_of k g)

pub stays : (k new : Kept) (g after : ChaCha) (e : Entry) → IsKept k g → Draws k new g after e → IsKept new after
stays k new g after e h d =
    let enters = entered k new g after e d in
    let taken : words_taken k (ask_value k.config.nodes e.ask e.reply) ≡ words_taken k
    (ask_value_first k.config.nodes e.ask) = taken_first k e.ask e.reply in
    let few : words_taken k (ask_value k.config.nodes e.ask e.reply) < 2 ^ 8 = let f = d.few in omega arith in (
      ap (λ (a : ChaCha). a.stream) d.place ∙ d.stream ∙ sym (ap (λ (n : Kept). n.config.node) d.accepted.2),
      stays_lawful (cell_of k g) (cell_of new after) e h.1 enters,
      stays_within (cell_of k g) (cell_of new after) e h.2 few enters,
    )

-- a cell stays one where its node no longer keeps its calls
pub given_stays : (k new : Kept) (g : ChaCha) → new ≡ without_kept k → IsKept k g → IsKept new g
given_stays k new g is h =
    let within = h.2 in
    subst (λ n. IsKept n g) (sym is) (
      h.0,
      record { legal = h.1.legal; drawn = h.1.drawn },
      record { few_words = within.few_words; few_calls = within.few_calls; small_cap = within.small_cap },
    )

-- there are words enough
pub has_words : (c : Cell) → IsWithinBounds c → c.place + 2 ^ 8 < 2 ^ 68
has_words c h = let few = h.few_words in let calls = h.few_calls in let cap = h.small_cap in omega arith

-- a refusal of the cell
pub refused_cell : (k : Kept) (g : ChaCha) (ask : Asked) (f : NodeFault) → g.stream ≡ k.config.node →
    IsRefusalOf k ask (words_next g (words_taken k ask)) f → IsRefusedBy (cell_of k g) ask f
refused_cell k g ask f stream h = subst (λ s. IsRefusalOf k ask (words_from g.key s g.word_pos (words_taken k ask)) f)
    stream h

-- a configuration that is good has a cap that is small enough
last_false : (a b : Bool) → (a || b) ≡ false → b ≡ false
last_false false b h = h
last_false true b h = absurd (let no : ⊥ = cc in no)

pub has_small_cap : (config : Config) → is_bad_config config ≡ false → config.trace_cap ≤ max_trace_cap
has_small_cap config good =
    let last = last_false _ (nat_lt max_trace_cap config.trace_cap) good in
    grind (arith, nat_tests)

-- a new cell
pub new_kept : (config : Config) (seed : List ℕ) (k : Kept) (h : ChaCha) (stream : ℕ) → config.trace_cap ≤ max_trace_cap →
    k ≡ record { config = config; trace = []; from = 0 } → stream ≡ config.node →
    h ≡ record { key = key_of seed; stream = stream; word_pos = 0 } → IsKept k h
new_kept config seed k h stream small new here made =
    let is : h ≡ record { key = key_of seed; stream = config.node; word_pos = 0 } = made ∙
    (λ i. record { key = key_of seed; stream = here i; word_pos = 0 }) in
    subst (λ n. IsKept n h) (sym new)
    (subst (λ a. IsKept (record { config = config; trace = []; from = 0 }) a) (sym is)
    (refl, new_lawful config seed, record { few_words = omega arith; few_calls = omega arith; small_cap = small }))

-- an ask and its copy, before there is a reply
pub same_first : (nodes : ℕ) (copy ask : Ask) → ((n : ℕ) (reply : Reply) →
    ask_value n copy reply ≡ ask_value n ask reply) → ask_value_first nodes copy ≡ ask_value_first nodes ask
same_first nodes copy ask same = same nodes (replies.Deliver false)

-- a pass of a node and its generator is one of the cell
pub passes : (k new : Kept) (g after : ChaCha) (name words : List ℕ) → g.stream ≡ k.config.node →
    Accepts k new (Pass name) words (reply_to k (Pass name) words) →
    words ≡ words_next g (words_taken k (Pass name)) → after ≡ place_after g (words_taken k (Pass name)) →
    Passes (cell_of k g) (cell_of new after) name × (words ≡ next_words (cell_of k g) (Pass name))
passes k new g after name words stream accepted drawn place =
    let next : words ≡ next_words (cell_of k g) (Pass name) =
    drawn ∙ ap (λ s. words_from g.key s g.word_pos (words_taken k (Pass name))) stream in
    let node = accepted.2 ∙ ap (after_call k (Pass name)) next in (
      (
        subst (λ ws. refusal k (Pass name) ws ≡ None) next accepted.0,
        λ i. record { node = node i; key = (place i).key; place = (place i).word_pos },
      ),
      next,
    )

pub passing_stays : (k new : Kept) (g after : ChaCha) (name : List ℕ) → IsKept k g →
    Passes (cell_of k g) (cell_of new after) name → words_taken k (Pass name) < 2 ^ 8 →
    after ≡ place_after g (words_taken k (Pass name)) → IsKept new after
passing_stays k new g after name h p few place =
    let c = cell_of k g in (
      ap (λ (a : ChaCha). a.stream) place ∙ h.0 ∙ sym (ap (λ (d : Cell). d.node.config.node) p.1),
      subst IsLawful (sym p.1) (lawful_after c (Pass name) h.1 p.0 tt),
      subst IsWithinBounds (sym p.1) (bounds_after c (Pass name) h.2 p.0 few),
    )

-- what a pass came to is what it is answered
pub same_passed : (found : Option Passed) (passed answer : Passed) → found ≡ Some passed →
    option_map (λ p. IsPassed p) found ≡ Some (IsPassed answer) → passed ≡ answer
same_passed None passed answer here there = absurd (none-some passed here)
same_passed (Some p) passed answer here there =
    sym (same_Some p passed here) ∙ same_Some p answer (ap (λ o. option_and_then passed_in o) there)
