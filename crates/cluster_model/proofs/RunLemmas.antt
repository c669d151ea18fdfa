-- The answers of a run, and those of one with an event more.
use Rattle.std.proofs.Common.{◌≡◌, ◌≢◌, ℕ, ◌+◌, ◌==◌, arith, cond, ◌⊎◌, inl, inr, List, [], ◌∷◌, ◌++◌, length, refl, sym, ◌∙◌, ap, subst, Option, Some, None, Ok, Err}
use Rattle.std.proofs.lemmas.Bool.{cases_eq, eq-eqb, ne_eqb}
use Rattle.std.proofs.lemmas.List.{length-set}
use Rattle.std.proofs.lemmas.List.Sums.{sum_by_push}
use Rattle.std.specs.Prelude.{count_by, slice_get, option_map}
use Rattle.counters.proofs.SumLemmas.{sum-same, sum-add, sum-at}
use Rattle.operations.specs.Operations.{IsIn}
use Rattle.replica_state.specs.Folds.{fold}
use Rattle.replica_state.proofs.KnownSets.{same_fold}
use Rattle.stamp_register.specs.declared.key.Stamp.{Stamp}
use Rattle.node_calls.specs.declared.fault.NodeFault.{NodeFault}
use Rattle.node_calls.specs.declared.fault.NodeFault.TheVariants.{OutOfMemory}
use Rattle.node_calls.specs.Asks.{Asked, Answered, Message, Call}
use Rattle.node_calls.specs.Asks as asks
use Rattle.node_steps.specs.Nodes.{state_shown}
use Rattle.node_core.specs.Traces.{Kept, after_call, refusal, reply_to, state_known}
use Rattle.cluster_model.specs.declared.fault.WorldFault.TheVariants.{Refused}
use Rattle.cluster_model.specs.Worlds.{Cluster, Event}
use Rattle.cluster_model.specs.Histories.{all_learnt, acts, executions, all_executions}
use Rattle.cluster_model.specs.Laws.{kept, IsOwnReason, EscrowHolds}
use Rattle.cluster_model.specs.Events.{WorldValue, EventValue, calls, delivers, node_asked, words_given, Answer, answer, answer_at, answer_to, refused_or}
use Rattle.cluster_model.specs.Runs.{IsAnswer, Continues, after_answer, AreAnswers, after_answers, happened, happened_after, HasHistory, Afterwards, HoldsWhatItLearnt, tells_act, TellsExecutions, IsOwnAnswer, IsHonestAnswer, AreHonest}
use Rattle.cluster_model.proofs.Lists.{get_below, get_in}
use Rattle.cluster_model.proofs.Closed.{deltas_are_schedules}
use Rattle.cluster_model.proofs.Conserved.{conserved}
use Rattle.cluster_model.proofs.DeltaMessages.{delta_messages}
use Rattle.cluster_model.proofs.Steps.{state_is_fold}
use Rattle.cluster_model.proofs.Replays.{node_is_replay, event_is_call}
use Rattle.cluster_model.proofs.WorldSteps.{IsAccepted, accepts, event_of, accepted_answer, accepted_after, accepted_scheduled, low, kept_is}
use Rattle.cluster_model.proofs.WorldClauses.{answered}

-- ---- one event more

pub answers_more : (w : WorldValue) (es : List EventValue) (answers : List Answer) (e : EventValue) (a : Answer) →
    AreAnswers w es answers → IsAnswer (after_answers w es answers) e a →
    AreAnswers w (es ++ e ∷ []) (answers ++ a ∷ [])
unfolding AreAnswers after_answers
answers_more w [] [] e a so new = (new, tt)
answers_more w (f ∷ es) (b ∷ answers) e a so new = (so.0, answers_more (after_answer w f b) es answers e a so.1 new)
answers_more w [] (b ∷ answers) e a so new = absurd so
answers_more w (f ∷ es) [] e a so new = absurd so

pub after_more : (w : WorldValue) (es : List EventValue) (answers : List Answer) (e : EventValue) (a : Answer) →
    AreAnswers w es answers → after_answers w (es ++ e ∷ []) (answers ++ a ∷ []) ≡ after_answer
    (after_answers w es answers) e a
unfolding AreAnswers after_answers
after_more w [] [] e a so = refl
after_more w (f ∷ es) (b ∷ answers) e a so = after_more (after_answer w f b) es answers e a so.1
after_more w [] (b ∷ answers) e a so = absurd so
after_more w (f ∷ es) [] e a so = absurd so

pub happened_more : (past : List Event) (w : WorldValue) (es : List EventValue) (answers : List Answer) (e : EventValue)
    (a : Answer) → AreAnswers w es answers
    → happened_after past w (es ++ e ∷ []) (answers ++ a ∷ []) ≡ happened (after_answers w es answers) e a ++
    happened_after past w es answers
unfolding AreAnswers after_answers happened_after
happened_more past w [] [] e a so = refl
happened_more past w (f ∷ es) (b ∷ answers) e a so = happened_more (happened w f b ++ past) (after_answer w f b) es
    answers e a so.1
happened_more past w [] (b ∷ answers) e a so = absurd so
happened_more past w (f ∷ es) [] e a so = absurd so

pub honest_more : (w : WorldValue) (es : List EventValue) (answers : List Answer) (e : EventValue) (a : Answer) →
    AreAnswers w es answers → AreHonest es answers → IsHonestAnswer e a → AreHonest (es ++ e ∷ []) (answers ++ a ∷ [])
unfolding AreAnswers AreHonest
honest_more w [] [] e a so honest new = (new, tt)
honest_more w (f ∷ es) (b ∷ answers) e a so honest new = (
  honest.0,
  honest_more (after_answer w f b) es answers e a so.1 honest.1 new,
)
honest_more w [] (b ∷ answers) e a so honest new = absurd so
honest_more w (f ∷ es) [] e a so honest new = absurd so

-- ---- what holds of each world with a history

module _ (c : Cluster) (past : List Event) (w : WorldValue) (has : HasHistory c past w) where
  node_is : (i : ℕ) (k : Kept) → slice_get w.nodes i ≡ Some k → k ≡ kept c past i
  node_is i k there =
      let below = get_below w.nodes i k there in
      let size = has.size in
      let same : ◌≡◌ {A = Option Kept} (Some k) (Some (kept c past i)) = sym there ∙
      has.nodes i (omega (arith, below, size)) in
      cc

  pub escrow_holds : EscrowHolds c past
  escrow_holds = conserved c past has.few (deltas_are_schedules c past has.schedule)

  own_answer : (r : Option NodeFault) (reply : Answered) → IsOwnReason r → IsOwnAnswer (refused_or r reply)
  own_answer None reply own = tt
  own_answer (Some fault) reply own = inr own

  honest_delivery : (i number : ℕ) → IsOwnAnswer (answer w (delivers i number))
  unfolding answer
  honest_delivery i number = at (slice_get w.nodes i) refl
    where
      told : (k : Kept) → slice_get w.nodes i ≡ Some k → (o : Option Message) → slice_get w.messages number ≡ o →
          IsOwnAnswer (answer_to k [] (option_map (λ m. asks.Deliver (Ok m)) o))
      told k there None p = tt
      told k there (Some m) p =
          own_answer (refusal k (asks.Deliver (Ok m)) []) _
          (subst (λ (k : Kept). IsOwnReason (refusal k (asks.Deliver (Ok m)) [])) (sym (node_is i k there))
          (delta_messages c past has.schedule i m (subst (IsIn m) has.messages (get_in w.messages number m p))).1)

      at : (o : Option Kept) → slice_get w.nodes i ≡ o → IsOwnAnswer (answer_at w.messages (delivers i number) o)
      at None p = tt
      at (Some k) p = told k p (slice_get w.messages number) refl

  pub honest_answer : (e : EventValue) (a : Answer) → IsAnswer w e a → IsHonestAnswer e a
  honest_answer (delivers i number) a (inl p) = subst IsOwnAnswer (sym p) (inl refl)
  honest_answer (delivers i number) a (inr p) = subst IsOwnAnswer (sym p) (honest_delivery i number)
  honest_answer (calls node ask words) a p = tt

  pub holds_what_it_learnt : HoldsWhatItLearnt c past w
  holds_what_it_learnt =
      record {
        state = state_is;
        same = λ i j k l here there knows known. state_is i k here ∙ same_fold _ _ knows known ∙
            sym (state_is j l there);
      }
    where
      state_is : (i : ℕ) (k : Kept) → slice_get w.nodes i ≡ Some k → state_known k ≡ fold (all_learnt c past i)
      state_is i k there =
          ap state_known (node_is i k there) ∙ ap state_shown (sym (node_is_replay c past i)) ∙ state_is_fold c past i

  -- ---- executions

  abbrev times : Stamp → ℕ → Answer → ℕ
  times stamp term a = cond (tells_act stamp term a) 1 0

  module _ (stamp : Stamp) (term : ℕ) (e : EventValue) (k : Kept) (ask : Asked) (is : IsAccepted w e k ask) where
    abbrev i : ℕ
    i = node_asked e

    abbrev event : Event
    event = event_of e ask

    abbrev reply : Answered
    reply = reply_to k ask (words_given e)

    at_node : (j : ℕ) → executions c (event ∷ past) stamp term j ≡ executions c past stamp term j + cond (j == i)
        (cond (acts stamp term reply) 1 0) 0
    at_node j = at (cases_eq j i)
      where
        counted : Kept → ℕ
        counted k = count_by (λ (call : Call). acts stamp term call.reply) k.trace

        agreed : refusal (kept c past i) ask event.words ≡ None
        agreed = subst (λ (k : Kept). refusal k ask event.words ≡ None) (kept_is c past w has e k ask is) is.agreed

        here : kept c (event ∷ past) i ≡ after_call k ask event.words
        here = (event_is_call c past event).accepted (low c past w has e k ask is) agreed ∙
            ap (λ (k : Kept). after_call k ask event.words) (sym (kept_is c past w has e k ask is))

        at : (j ≡ i) ⊎ (j ≢ i) → executions c (event ∷ past) stamp term j ≡ executions c past stamp term j + cond
            (j == i) (cond (acts stamp term reply) 1 0) 0
        at (inl same) =
            subst (λ (j : ℕ). executions c (event ∷ past) stamp term j ≡ executions c past stamp term j + cond (j == i)
            (cond (acts stamp term reply) 1 0) 0) (sym same)
            (ap counted here
            ∙ sum_by_push (λ (call : Call). cond (acts stamp term call.reply) 1 0) k.trace _
            ∙ ap (λ n. n + cond (acts stamp term reply) 1 0) (ap counted (kept_is c past w has e k ask is))
            ∙ ap (λ b. executions c past stamp term i + cond b (cond (acts stamp term reply) 1 0) 0)
            (sym (eq-eqb i i refl)))
        at (inr other) =
            ap counted ((event_is_call c past event).others j other)
            ∙ rest (executions c past stamp term j) (cond (acts stamp term reply) 1 0)
          where
            rest : (n m : ℕ) → n ≡ n + cond (j == i) m 0
            rest n m = let no_same = ne_eqb j i other in let zero_more : n ≡ n + 0 = omega arith in
                zero_more ∙ ap (λ b. n + cond b m 0) (sym no_same)

    one_more : all_executions c (event ∷ past) stamp term ≡ all_executions c past stamp term + cond
        (acts stamp term reply) 1 0
    one_more =
        sum-same c.nodes (executions c (event ∷ past) stamp term)
        (λ j. executions c past stamp term j + cond (j == i) (cond (acts stamp term reply) 1 0) 0)
        (λ j below. at_node j)
        ∙ sum-add c.nodes (executions c past stamp term) (λ j. cond (j == i) (cond (acts stamp term reply) 1 0) 0)
        ∙ ap (λ n. all_executions c past stamp term + n) (sum-at c.nodes i (cond (acts stamp term reply) 1 0)
        (low c past w has e k ask is))

  pub executed : (stamp : Stamp) (term : ℕ) (e : EventValue) (a : Answer) → IsAnswer w e a →
      all_executions c (happened w e a ++ past) stamp term ≡ all_executions c past stamp term + times stamp term a
  executed stamp term e (Err fault) p = omega arith
  executed stamp term e (Ok reply) (inl p) = absurd (let impossible :
      ◌≡◌ {A = Answer} (Ok reply) (Err (Refused OutOfMemory)) = p in cc)
  executed stamp term e (Ok reply) (inr p) =
      let by = accepts w e reply (sym p) in
      let is = by.2 in
      let told : ◌≡◌ {A = Answer} (Ok (reply_to by.0 by.1 (words_given e))) (Ok reply) =
      sym (accepted_answer w e by.0 by.1 is) ∙ sym p in
      let same : reply_to by.0 by.1 (words_given e) ≡ reply = cc in
      ap (λ (es : List Event). all_executions c (es ++ past) stamp term) (accepted_scheduled w e by.0 by.1 is)
      ∙ one_more stamp term e by.0 by.1 is
      ∙ ap (λ r. all_executions c past stamp term + cond (acts stamp term r) 1 0) same

-- the same of a run: its answers tell of each execution
pub executions_more : (w : WorldValue) (es : List EventValue) (answers : List Answer) (e : EventValue) (a : Answer) →
    AreAnswers w es answers → IsAnswer (after_answers w es answers) e a
    → Afterwards w es answers (λ c past. HasHistory c past (after_answers w es answers)) →
    TellsExecutions w es answers → TellsExecutions w (es ++ e ∷ []) (answers ++ a ∷ [])
executions_more w es answers e a so new history tells c past has stamp term =
    ap (λ (later : List Event). all_executions c later stamp term) (happened_more past w es answers e a so)
    ∙ executed c (happened_after past w es answers) (after_answers w es answers) (history c past has) stamp term e a new
    ∙ ap (λ n. n + cond (tells_act stamp term a) 1 0) (tells c past has stamp term)
    ∙ counted
  where
    counted : all_executions c past stamp term + count_by (tells_act stamp term) answers + cond (tells_act stamp term a)
        1 0 ≡ all_executions c past stamp term + count_by (tells_act stamp term) (answers ++ a ∷ [])
    counted =
        let more : count_by (tells_act stamp term) (answers ++ a ∷ []) ≡ count_by (tells_act stamp term) answers + cond
        (tells_act stamp term a) 1 0 = sum_by_push (λ b. cond (tells_act stamp term b) 1 0) answers a in
        omega (arith, more)

-- ---- a run of nothing

pub nothing_asked : (w : WorldValue) → AreAnswers w [] []
unfolding AreAnswers
nothing_asked w = tt

pub nothing_changed : (w : WorldValue) → after_answers w [] [] ≡ w
unfolding after_answers
nothing_changed w = refl

pub nothing_happened : (past : List Event) (w : WorldValue) → happened_after past w [] [] ≡ past
unfolding happened_after
nothing_happened past w = refl

pub nothing_refused : AreHonest [] []
unfolding AreHonest
nothing_refused = tt

-- ---- one event after the other

-- the nodes are as many after an event
size_stays : (w : WorldValue) (e : EventValue) (a : Answer) → IsAnswer w e a →
    length (after_answer w e a).nodes ≡ length w.nodes
size_stays w e (Err fault) p = refl
size_stays w e (Ok reply) p =
    let by = accepts w e reply (answered w e reply p) in
    ap (λ (w : WorldValue). length w.nodes) (accepted_after w e by.0 by.1 by.2) ∙ length-set w.nodes (node_asked e) _

-- a world that these answers to these events came to
pub record RunsTo (w : WorldValue) (es : List EventValue) (answers : List Answer) (now : WorldValue) : Type 0 where
  pub size : length now.nodes ≡ length w.nodes
  pub answers_are : AreAnswers w es answers
  pub now_is : now ≡ after_answers w es answers
  pub history : Afterwards w es answers (λ c past. HasHistory c past now)
  pub executions : TellsExecutions w es answers
  pub honest : Afterwards w es answers (λ _ _. AreHonest es answers)

pub begun : (w : WorldValue) → RunsTo w [] [] w
begun w =
    record {
      size = refl;
      answers_are = nothing_asked w;
      now_is = sym (nothing_changed w);
      history = λ c past has. subst (λ (es : List Event). HasHistory c es w) (sym (nothing_happened past w)) has;
      executions = λ c past has stamp term.
          let same = ap (λ (es : List Event). all_executions c es stamp term) (nothing_happened past w) in
          omega (arith, same);
      honest = λ c past has. nothing_refused;
    }

pub one_more_event : (w : WorldValue) (es : List EventValue) (answers : List Answer) (now : WorldValue) →
    RunsTo w es answers now → (e : EventValue) (a : Answer) (new : WorldValue)
    → IsAnswer now e a → new ≡ after_answer now e a → Continues now new (happened now e a) →
    RunsTo w (es ++ e ∷ []) (answers ++ a ∷ []) new
one_more_event w es answers now so e a new told is continues =
    record {
      size = ap (λ (w : WorldValue). length w.nodes) is ∙ size_stays now e a told ∙ so.size;
      answers_are = answers_more w es answers e a so.answers_are told_there;
      now_is = is ∙ ap (λ (w : WorldValue). after_answer w e a) so.now_is ∙
          sym (after_more w es answers e a so.answers_are);
      history = λ c past has.
          subst (λ (later : List Event). HasHistory c later new)
          (sym (happened_more past w es answers e a so.answers_are
          ∙ ap (λ (v : WorldValue). happened v e a ++ happened_after past w es answers) (sym so.now_is)))
          (continues c (happened_after past w es answers) (so.history c past has));
      executions = executions_more w es answers e a so.answers_are told_there
          (λ c past has. subst (λ (v : WorldValue). HasHistory c (happened_after past w es answers) v) so.now_is
          (so.history c past has)) so.executions;
      honest = λ c past has. honest_more w es answers e a so.answers_are (so.honest c past has)
          (honest_answer c (happened_after past w es answers) now (so.history c past has) e a told);
    }
  where
    told_there : IsAnswer (after_answers w es answers) e a
    told_there = subst (λ (w : WorldValue). IsAnswer w e a) so.now_is told
