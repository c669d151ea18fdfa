-- What callers were told: the messages of a schedule are the replies of its emits, and each execution that a reply
-- tells of is of a term of an issued key.
use Rattle.std.proofs.Common.{◌≡◌, ℕ, Bool, true, List, [], ◌∷◌, ◌⊎◌, inl, inr, ◌↔◌, refl, sym, ◌∙◌, ap, subst, ⊎_elim, Option, Some, None, Ok}
use Rattle.std.proofs.lemmas.Bool.{true≢false}
use Rattle.std.specs.Prelude.{slice_get}
use Rattle.actions.specs.Value.{TermValue, TaskValue}
use Rattle.actions.specs.Choice.{choice, triggers_by, word_at}
use Rattle.actions.proofs.ChoiceLemmas.{first_from_choice}
use Rattle.stamp_register.specs.declared.key.Stamp.{Stamp}
use Rattle.stamp_register.specs.Keys.{KeyValue, stamp_of, terms_set}
use Rattle.operations.specs.Operations.{IsIn}
use Rattle.replica_state.specs.States.{State}
use Rattle.operations.proofs.Members.{IsIn-append_left, IsIn-append_right, IsIn-append_cases}
use Rattle.node_calls.specs.Asks.{Asked, Answered, Message, Call, Versions}
use Rattle.node_calls.specs.Told.{Unset, NoTerm, Act}
use Rattle.node_calls.specs.Asks as asks
use Rattle.node_steps.specs.Nodes.{Node, state_shown, setting_of}
use Rattle.node_steps.specs.Passes.{may_run, task_in, triggered_term, reply_of_choice, reply_of_pass}
use Rattle.node_core.specs.Steps.{reply, message_to}
use Rattle.node_steps.proofs.Rights.{setting_parts}
use Rattle.cluster_model.specs.Worlds.{Cluster, World, Event, accepted, trace_after, sent, world}
use Rattle.cluster_model.specs.Schedules.{IsSchedule}
use Rattle.cluster_model.specs.Laws.{IsToldBy, IsExecution}
use Rattle.cluster_model.proofs.Steps.{asked_is}
use Rattle.cluster_model.proofs.Stamps.{carried, under_issued}

-- ---- a call more

abbrev new_call : ℕ → Node → Asked → List ℕ → Call
new_call i n ask words = record { ask = ask; words = words; reply = reply i n ask words }

-- a call of the trace was there, or is the one that is accepted now
pub call_cases : (i : ℕ) (n : Node) (trace : List Call) (a : Option Asked) (words : List ℕ) (call : Call) →
    IsIn call (trace_after i n trace a words) →
    IsIn call trace ⊎ ((ask : Asked) × (a ≡ Some ask) × (call ≡ new_call i n ask words))
call_cases i n trace None words call h = inl h
call_cases i n trace (Some ask) words call h = ⊎_elim (λ k. inl k) (λ k. inr (ask, refl, last k))
    (IsIn-append_cases call trace (new_call i n ask words ∷ []) h)
  where
    last : IsIn call (new_call i n ask words ∷ []) → call ≡ new_call i n ask words
    last (inl e) = e
    last (inr k) = absurd k

call_kept : (i : ℕ) (n : Node) (trace : List Call) (a : Option Asked) (words : List ℕ) (call : Call) → IsIn call trace →
    IsIn call (trace_after i n trace a words)
call_kept i n trace None words call h = h
call_kept i n trace (Some ask) words call h = IsIn-append_left call trace (new_call i n ask words ∷ []) h

-- ---- messages

-- who is told of a message by an ask has sent it, and the other way round
told_is_sent : (i : ℕ) (n : Node) (ask : Asked) (words : List ℕ) (m : Message) →
    reply i n ask words ≡ asks.IsEmitted (Ok m) → IsIn m (sent i n (Some ask)) × (m.from ≡ i)
told_is_sent i n (asks.Set name text) words m e = absurd (cc)
told_is_sent i n (asks.Remove name) words m e = absurd (cc)
told_is_sent i n (asks.Load text) words m e = absurd (cc)
told_is_sent i n (asks.Pass name) words m e = absurd (cc)
told_is_sent i n (asks.Shift name term to amount) words m e = absurd (cc)
told_is_sent i n (asks.Grant name term amount) words m e = absurd (cc)
told_is_sent i n (asks.Emit to versions chosen) words m e =
    let same : message_to i to versions chosen ≡ m = cc in
    (inl (sym same), sym (ap (λ (l : Message). l.from) same))
told_is_sent i n (asks.Deliver read) words m e = absurd (cc)

sent_is_told : (i : ℕ) (n : Node) (ask : Asked) (words : List ℕ) (m : Message) → IsIn m (sent i n (Some ask)) →
    (reply i n ask words ≡ asks.IsEmitted (Ok m)) × (m.from ≡ i)
sent_is_told i n (asks.Set name text) words m h = absurd h
sent_is_told i n (asks.Remove name) words m h = absurd h
sent_is_told i n (asks.Load text) words m h = absurd h
sent_is_told i n (asks.Pass name) words m h = absurd h
sent_is_told i n (asks.Shift name term to amount) words m h = absurd h
sent_is_told i n (asks.Grant name term amount) words m h = absurd h
sent_is_told i n (asks.Emit to versions chosen) words m (inl e) =
    (ap (λ (l : Message). asks.IsEmitted (Ok l)) (sym e), ap (λ (l : Message). l.from) e)
sent_is_told i n (asks.Emit to versions chosen) words m (inr h) = absurd h
sent_is_told i n (asks.Deliver read) words m h = absurd h

module _ (c : Cluster) (es : List Event) (e : Event) (i : ℕ) (m : Message) where
  abbrev w : World
  w = world c es

  abbrev trace_then : List Call
  trace_then = trace_after i (w.node i) (w.trace i) (accepted c w e i) e.words

  told_before : IsToldBy (w.trace i) m → IsToldBy trace_then m
  told_before t = record {
    call = t.call;
    held = call_kept i (w.node i) (w.trace i) (accepted c w e i) e.words t.call
        t.held;
    reply = t.reply;
  }

  -- what is sent now, its sender is told now
  told_now : IsIn m (sent e.node (w.node e.node) (accepted c w e e.node)) → m.from ≡ i → IsToldBy trace_then m
  told_now h from = at (accepted c w e e.node) refl h
    where
      at : (a : Option Asked) → accepted c w e e.node ≡ a → IsIn m (sent e.node (w.node e.node) a) →
          IsToldBy trace_then m
      at None p q = absurd q
      at (Some ask) p q =
          let told = sent_is_told e.node (w.node e.node) ask e.words m q in
          let here : e.node ≡ i = sym told.1 ∙ from in
          subst (λ (j : ℕ). IsToldBy (trace_after j (w.node j) (w.trace j) (accepted c w e j) e.words) m) here
          (subst (λ (a : Option Asked). IsToldBy (trace_after e.node (w.node e.node) (w.trace e.node) a e.words) m)
          (sym p)
          (record {
            call = new_call e.node (w.node e.node) ask e.words;
            held = IsIn-append_right _ (w.trace e.node) (new_call e.node (w.node e.node) ask e.words ∷ []) (inl refl);
            reply = told.0;
          }))

  sent_then : (IsToldBy (w.trace i) m → IsIn m w.messages × (m.from ≡ i)) → IsToldBy trace_then m →
      IsIn m (world c (e ∷ es)).messages × (m.from ≡ i)
  sent_then before t = ⊎_elim
      (λ k. let old = before (record { call = t.call; held = k; reply = t.reply }) in
      (IsIn-append_left m w.messages (sent e.node (w.node e.node) (accepted c w e e.node)) old.0, old.1))
      (λ (k : (ask : Asked) × (accepted c w e i ≡ Some ask) × (t.call ≡ new_call i (w.node i) ask e.words)).
      let now = told_is_sent i (w.node i) k.0 e.words m (sym (ap (λ (call : Call). call.reply) k.2) ∙ t.reply) in
      let here : i ≡ e.node = (asked_is c w e i k.0 k.1).here in (
        IsIn-append_right m w.messages (sent e.node (w.node e.node) (accepted c w e e.node))
            (subst (λ (j : ℕ). IsIn m (sent j (w.node j) (accepted c w e j))) here
            (subst (λ (a : Option Asked). IsIn m (sent i (w.node i) a)) (sym k.1) now.0)),
        now.1,
      ))
      (call_cases i (w.node i) (w.trace i) (accepted c w e i) e.words t.call t.held)

pub messages_are_replies : (c : Cluster) (es : List Event) (i : ℕ) (m : Message) →
    (IsIn m (world c es).messages × (m.from ≡ i)) ↔ IsToldBy ((world c es).trace i) m
messages_are_replies c [] i m = (λ h. absurd h.0, λ t. absurd t.held)
messages_are_replies c (e ∷ es) i m =
    let before = messages_are_replies c es i m in (
      λ h. ⊎_elim
          (λ k. told_before c es e i m (before.0 (k, h.1)))
          (λ k. told_now c es e i m k h.1)
          (IsIn-append_cases m (world c es).messages (sent e.node ((world c es).node e.node)
          (accepted c (world c es) e e.node)) h.0),
      sent_then c es e i m before.1,
    )

-- ---- executions

-- the term that a pass tells of is one of the point's key
record IsTermOf (v : State) (name : List ℕ) (stamp : Stamp) (term : ℕ) (task : TaskValue) : Type 0 where
  pub key : KeyValue
  pub terms : List TermValue
  pub executed : TermValue
  pub under : v.key name ≡ Some key
  pub stamped : stamp_of key ≡ stamp
  pub spelled : terms_set key.body ≡ Some terms
  pub there : slice_get terms term ≡ Some executed
  pub does : executed.task ≡ task

-- the term that is chosen is there
chosen_there : (terms : List TermValue) (words : List ℕ) (may : ℕ → Bool) (k : ℕ) → choice terms words may ≡ Some k →
    (t : TermValue) × (slice_get terms k ≡ Some t)
chosen_there terms words may k h = at (slice_get terms k) refl
  where
    passes : triggers_by (slice_get terms k) (word_at terms words k) (may k) ≡ true
    passes = (first_from_choice terms words may (Some k) (sym h)).1

    at : (o : Option TermValue) → slice_get terms k ≡ o → (t : TermValue) × (slice_get terms k ≡ Some t)
    at None p = absurd (true≢false (sym passes ∙ ap (λ (o : Option TermValue). triggers_by o (word_at terms words k)
        (may k)) p))
    at (Some t) p = (t, p)

passed_term : (i : ℕ) (v : State) (name words : List ℕ) (stamp : Stamp) (term : ℕ) (task : TaskValue) →
    reply_of_pass i v name words (setting_of v name) ≡ Act stamp term task → IsTermOf v name stamp term task
passed_term i v name words stamp term task h = at (setting_of v name) refl h
  where
    chosen : (setting : KeyValue × List TermValue) → setting_of v name ≡ Some setting → (o : Option ℕ) →
        triggered_term i v name words setting ≡ o → reply_of_choice setting o ≡ Act stamp term task →
        IsTermOf v name stamp term task
    chosen setting s None p q = absurd (let impossible : NoTerm (stamp_of setting.0) ≡ Act stamp term task = q in cc)
    chosen setting s (Some k) p q =
        let told : Act (stamp_of setting.0) k (task_in (slice_get setting.1 k)) ≡ Act stamp term task = q in
        let stamps : stamp_of setting.0 ≡ stamp = cc in
        let terms : k ≡ term = cc in
        let tasks : task_in (slice_get setting.1 k) ≡ task = cc in
        let is = setting_parts (v.key name) setting.0 setting.1 s in
        let found = chosen_there setting.1 words (may_run i v name setting.0 setting.1) k p in
        record {
          key = setting.0;
          terms = setting.1;
          executed = found.0;
          under = is.is_key;
          stamped = stamps;
          spelled = is.is_terms;
          there = ap (slice_get setting.1) (sym terms) ∙ found.1;
          does = sym (ap task_in found.1) ∙ tasks;
        }

    at : (o : Option (KeyValue × List TermValue)) → setting_of v name ≡ o →
        reply_of_pass i v name words o ≡ Act stamp term task → IsTermOf v name stamp term task
    at None p q = absurd (let impossible : Unset ≡ Act stamp term task = q in cc)
    at (Some setting) p q = chosen setting p (triggered_term i v name words setting) refl q

-- the pass that is told so
record IsPassOf (n : Node) (ask : Asked) (stamp : Stamp) (term : ℕ) (task : TaskValue) : Type 0 where
  pub name : List ℕ
  pub asked : ask ≡ asks.Pass name
  pub is : IsTermOf (state_shown n) name stamp term task

told_pass : (i : ℕ) (n : Node) (ask : Asked) (words : List ℕ) (stamp : Stamp) (term : ℕ) (task : TaskValue) →
    reply i n ask words ≡ asks.IsPassed (Act stamp term task) → IsPassOf n ask stamp term task
told_pass i n (asks.Set name text) words stamp term task e = absurd (cc)
told_pass i n (asks.Remove name) words stamp term task e = absurd (cc)
told_pass i n (asks.Load text) words stamp term task e = absurd (cc)
told_pass i n (asks.Pass name) words stamp term task e =
    let same : reply_of_pass i (state_shown n) name words (setting_of (state_shown n) name) ≡ Act stamp term task =
    cc in
    record { name = name; asked = refl; is = passed_term i (state_shown n) name words stamp term task same }
told_pass i n (asks.Shift name k to amount) words stamp term task e = absurd (cc)
told_pass i n (asks.Grant name k amount) words stamp term task e = absurd (cc)
told_pass i n (asks.Emit to versions chosen) words stamp term task e = absurd (cc)
told_pass i n (asks.Deliver read) words stamp term task e = absurd (cc)

pub acts_are_issued : (c : Cluster) (es : List Event) → IsSchedule c es →
    (i : ℕ) (call : Call) (stamp : Stamp) (term : ℕ) (task : TaskValue) →
    IsIn call ((world c es).trace i) → call.reply ≡ asks.IsPassed (Act stamp term task) →
    IsExecution c es call.ask stamp term task
acts_are_issued c [] s i call stamp term task h e = absurd h
acts_are_issued c (f ∷ es) s i call stamp term task h e = ⊎_elim
    (λ k. before (acts_are_issued c es s.1 i call stamp term task k e))
    (λ (k : (ask : Asked) × (accepted c (world c es) f i ≡ Some ask) × (call ≡ new_call i ((world c es).node i) ask f.words)).
    now k.0 (ap (λ (l : Call). l.ask) k.2) (told_pass i ((world c es).node i) k.0 f.words stamp term task
    (sym (ap (λ (l : Call). l.reply) k.2) ∙ e)))
    (call_cases i ((world c es).node i) ((world c es).trace i) (accepted c (world c es) f i) f.words call h)
  where
    before : IsExecution c es call.ask stamp term task → IsExecution c (f ∷ es) call.ask stamp term task
    before x =
        record {
          name = x.name;
          key = x.key;
          terms = x.terms;
          executed = x.executed;
          asked = x.asked;
          issued = IsIn-append_right _ _ _ x.issued;
          stamped = x.stamped;
          spelled = x.spelled;
          there = x.there;
          does = x.does;
        }

    now : (ask : Asked) → call.ask ≡ ask → IsPassOf ((world c es).node i) ask stamp term task →
        IsExecution c (f ∷ es) call.ask stamp term task
    now ask same p =
        record {
          name = p.name;
          key = p.is.key;
          terms = p.is.terms;
          executed = p.is.executed;
          asked = same ∙ p.asked;
          issued = IsIn-append_right _ _ _ (under_issued c es (carried c es s.1) i p.name p.is.key p.is.under);
          stamped = p.is.stamped;
          spelled = p.is.spelled;
          there = p.is.there;
          does = p.is.does;
        }
