-- Nodes that restart from their journals live as the laws over lives ask.
use Rattle.std.proofs.Common.{◌≡◌, ◌≢◌, ℕ, ◌<◌, ◌≤◌, ◌==◌, true, false, arith, List, [], ◌∷◌, ◌++◌, length, take, drop, ◌⊎◌, inl, inr, refl, sym, ◌∙◌, ap, subst, ⊎_elim, Option, Some, Result}
use Rattle.std.proofs.lemmas.Bool.Decides.{eqb_tells}
use Rattle.std.proofs.lemmas.List.{append-nil, length-append, take-append-drop}
use Rattle.std.specs.Prelude.{if◌then◌else◌}
use Rattle.operations.specs.Operations.{IsIn}
use Rattle.operations.proofs.Members.{IsIn-append_left}
use Rattle.message_format.specs.declared.fault.WireFault.{WireFault}
use Rattle.node_calls.specs.Asks.{Asked, Call, Message}
use Rattle.node_calls.specs.Asks as asks
use Rattle.node_steps.specs.Refusals.{message_in}
use Rattle.cluster_model.specs.Laws.{IsToldBy}
use Rattle.cluster_model.specs.Lives.{Turn, AreAnsweredAmong, AreDeliveredAmong, IsConsistent, IsLife, life}
use Rattle.cluster_model.specs.Lives as turn
use Rattle.cluster_model.specs.Schedules.{AllowsDelta}
use Rattle.cluster_model.specs.Worlds.{Cluster, Event, World, accepted}
use Rattle.cluster_model.proofs.LostCalls.{one_more}
use Rattle.cluster_model.proofs.Replies.{call_cases}
use Rattle.cluster_model.proofs.Restarts.{restart_goes_on}
use Rattle.cluster_model.proofs.Steps.{asked_is}
use Rattle.part_keeper.specs.Wholes.{Begins, Follows}
use Rattle.part_keeper.proofs.Wholes.{begins_more, first_of, follows}
use Rattle.part_keeper.specs.RecordedLives.{Moment, is_asked, is_written, is_answered, is_ended, journal, turns_of, world_of, IsHandedBack, IsRecordedLife, IsLifeOfJournals}

-- ---- lists

shorter : (calls all : List Call) → Begins calls all → length calls ≤ length all
shorter calls all b =
    let long = ap length b.is ∙ length-append calls b.rest in omega (arith, long)

told_more : (m : Message) (calls all : List Call) → Begins calls all → IsToldBy calls m → IsToldBy all m
told_more m calls all b t = record {
  call = t.call;
  held = subst (λ l. IsIn t.call l) (sym b.is) (IsIn-append_left t.call calls b.rest t.held);
  reply = t.reply;
}

in_first : (call : Call) (k : ℕ) (calls : List Call) → IsIn call (take k calls) → IsIn call calls
in_first call k calls held =
    subst (λ l. IsIn call l) (take-append-drop k calls) (IsIn-append_left call (take k calls) (drop k calls) held)

-- ---- more calls have what fewer have

among_more : (turns : List Turn) (i few many : ℕ) → few ≤ many → AreAnsweredAmong turns i few →
    AreAnsweredAmong turns i many
among_more [] i few many low h = tt
among_more (turn.is_asked e ∷ turns) i few many low h = among_more turns i few many low h
among_more (turn.is_answered j place ∷ turns) i few many low h =
    (λ same. let first = h.0 same in omega (arith, first, low), among_more turns i few many low h.1)
among_more (turn.is_restarted j calls ∷ turns) i few many low h = among_more turns i few many low h

-- ---- what holds after each moment

-- each message that was delivered is one that a call in its sender's journal was answered with
abbrev AreHandedBack : Cluster → List Moment → Type 0
AreHandedBack c moments = (i : ℕ) (call : Call) (read : Result Message WireFault) →
    IsIn call ((world_of c moments).trace i) → call.ask ≡ asks.Deliver read →
    IsToldBy (journal moments (message_in read).from) (message_in read)

record Holds (c : Cluster) (moments : List Moment) : Type 0 where
  lives : IsLife AllowsDelta c (turns_of moments)
  begins : (i : ℕ) → Begins (journal moments i) ((world_of c moments).trace i)
  answered : (i : ℕ) → AreAnsweredAmong (turns_of moments) i (length (journal moments i))
  told : AreHandedBack c moments

consistent : (w : World) (kept : ℕ → List Call) → ((i : ℕ) → Begins (kept i) (w.trace i)) →
    ((i : ℕ) (call : Call) (read : Result Message WireFault) → IsIn call (w.trace i) →
    call.ask ≡ asks.Deliver read → IsToldBy (kept (message_in read).from) (message_in read)) → IsConsistent w
consistent w kept begins told i call read held asked =
    told_more (message_in read) (kept (message_in read).from) (w.trace (message_in read).from)
    (begins (message_in read).from) (told i call read held asked)

module _ (c : Cluster) (moments : List Moment) (h : Holds c moments) where
  abbrev w : World
  w = world_of c moments

  abbrev kept : ℕ → List Call
  kept = journal moments

  -- a node is asked something
  module _ (e : Event) (allowed : AllowsDelta w e.node (accepted c w e e.node))
      (handed : IsHandedBack moments (accepted c w e e.node)) where
    asked_begins : (i : ℕ) → Begins (kept i) ((world_of c (is_asked e ∷ moments)).trace i)
    asked_begins i =
        let grows = one_more i (w.node i) (w.trace i) (accepted c w e i) e.words in
        subst (λ t. Begins (kept i) t) (sym grows.is) (begins_more (kept i) (w.trace i) grows.rest (h.begins i))

    asked_told : AreHandedBack c (is_asked e ∷ moments)
    asked_told i call read held asked =
        ⊎_elim (λ was. h.told i call read was asked)
        (λ now. delivered now.0 now.1 (sym asked ∙ ap (λ (k : Call). k.ask) now.2))
        (call_cases i (w.node i) (w.trace i) (accepted c w e i) e.words call held)
      where
        delivered : (ask : Asked) → accepted c w e i ≡ Some ask → asks.Deliver read ≡ ask →
            IsToldBy (kept (message_in read).from) (message_in read)
        delivered ask is same =
            let here = (asked_is c w e i ask is).here in
            subst (λ (a : Option Asked). IsHandedBack moments a) (is ∙ ap (λ (a : Asked). Some a) (sym same))
            (subst (λ j. IsHandedBack moments (accepted c w e j)) (sym here) handed)

    asked_holds : Holds c (is_asked e ∷ moments)
    asked_holds = record {
      lives = (
        allowed,
        consistent (world_of c (is_asked e ∷ moments)) kept asked_begins asked_told,
        h.lives,
      );
      begins = asked_begins;
      answered = h.answered;
      told = asked_told;
    }

  -- lines are written
  module _ (i : ℕ) (calls : List Call) (next : Follows (w.trace i) (kept i) calls) where
    abbrev more : ℕ → List Call
    more j = if j == i then kept j ++ calls else kept j

    kept_begins : (j : ℕ) → Begins (kept j) (more j)
    kept_begins j = by (eqb_tells j i)
      where
        by : (((j == i) ≡ true) × (j ≡ i)) ⊎ (((j == i) ≡ false) × (j ≢ i)) → Begins (kept j) (more j)
        by (inl here) = record { rest = calls; is = ap (λ b. if b then kept j ++ calls else kept j) here.0 }
        by (inr other) = record {
          rest = [];
          is = ap (λ b. if b then kept j ++ calls else kept j) other.0 ∙ sym (append-nil (kept j));
        }

    written_begins : (j : ℕ) → Begins (more j) (w.trace j)
    written_begins j = by (eqb_tells j i)
      where
        by : (((j == i) ≡ true) × (j ≡ i)) ⊎ (((j == i) ≡ false) × (j ≢ i)) → Begins (more j) (w.trace j)
        by (inl here) =
            subst (λ b. Begins (if b then kept j ++ calls else kept j) (w.trace j)) (sym here.0)
            (follows (w.trace j) (kept j) calls (h.begins j)
            (subst (λ n. Follows (w.trace n) (kept n) calls) (sym here.1) next))
        by (inr other) =
            subst (λ b. Begins (if b then kept j ++ calls else kept j) (w.trace j)) (sym other.0) (h.begins j)

    written_holds : Holds c (is_written i calls ∷ moments)
    written_holds = record {
      lives = h.lives;
      begins = written_begins;
      answered = λ j. among_more (turns_of moments) j (length (kept j)) (length (more j))
          (shorter (kept j) (more j) (kept_begins j)) (h.answered j);
      told = λ j call read held asked. told_more (message_in read) (kept (message_in read).from)
          (more (message_in read).from) (kept_begins (message_in read).from) (h.told j call read held asked);
    }

  -- a caller gets a reply
  answered_holds : (i place : ℕ) → place < length (kept i) → Holds c (is_answered i place ∷ moments)
  answered_holds i place low =
      let long = shorter (kept i) (w.trace i) (h.begins i) in
      record {
        lives = (omega (arith, low, long), consistent w kept h.begins h.told, h.lives);
        begins = h.begins;
        answered = λ j. (λ same. subst (λ n. place < length (kept n)) same low, h.answered j);
        told = h.told;
      }

  -- a node ends
  module _ (i : ℕ) where
    abbrev left : ℕ → List Call
    left j = if j == i then take (length (kept i)) (w.trace i) else w.trace j

    left_begins : (j : ℕ) → Begins (kept j) (left j)
    left_begins j = by (eqb_tells j i)
      where
        by : (((j == i) ≡ true) × (j ≡ i)) ⊎ (((j == i) ≡ false) × (j ≢ i)) → Begins (kept j) (left j)
        by (inl here) = record {
          rest = [];
          is = ap (λ b. if b then take (length (kept i)) (w.trace i) else w.trace j) here.0
              ∙ first_of (kept i) (w.trace i) (h.begins i) ∙ ap kept (sym here.1) ∙ sym (append-nil (kept j));
        }
        by (inr other) =
            subst (λ b. Begins (kept j) (if b then take (length (kept i)) (w.trace i) else w.trace j)) (sym other.0)
            (h.begins j)

    was_there : (j : ℕ) (call : Call) → IsIn call (left j) → IsIn call (w.trace j)
    was_there j call held = by (eqb_tells j i)
      where
        by : (((j == i) ≡ true) × (j ≡ i)) ⊎ (((j == i) ≡ false) × (j ≢ i)) → IsIn call (w.trace j)
        by (inl here) =
            subst (λ n. IsIn call (w.trace n)) (sym here.1)
            (in_first call (length (kept i)) (w.trace i)
            (subst (λ b. IsIn call (if b then take (length (kept i)) (w.trace i) else w.trace j)) here.0 held))
        by (inr other) =
            subst (λ b. IsIn call (if b then take (length (kept i)) (w.trace i) else w.trace j)) other.0 held

    delivered_among : AreDeliveredAmong w i (length (kept i))
    delivered_among j call read held asked from =
        subst (λ l. IsToldBy l (message_in read)) (sym (first_of (kept i) (w.trace i) (h.begins i)))
        (subst (λ n. IsToldBy (kept n) (message_in read)) from (h.told j call read held asked))

    ended_holds : Holds c (is_ended i ∷ moments)
    ended_holds = record {
      lives = restart_goes_on c (turns_of moments) i (length (kept i)) h.lives (h.answered i) delivered_among;
      begins = left_begins;
      answered = h.answered;
      told = λ j call read held asked. h.told j call read (was_there j call held) asked;
    }

holds : (c : Cluster) (moments : List Moment) → IsRecordedLife c moments → Holds c moments
holds c [] r = record {
  lives = tt;
  begins = λ i. record { rest = []; is = refl };
  answered = λ i. tt;
  told = λ i call read held asked. absurd held;
}
holds c (is_asked e ∷ moments) r = asked_holds c moments (holds c moments r.1) e r.0.0 r.0.1
holds c (is_written i calls ∷ moments) r = written_holds c moments (holds c moments r.1) i calls r.0
holds c (is_answered i place ∷ moments) r = answered_holds c moments (holds c moments r.1) i place r.0
holds c (is_ended i ∷ moments) r = ended_holds c moments (holds c moments r.1) i

pub recorded_lives_are_lives : (c : Cluster) (moments : List Moment) → IsRecordedLife c moments →
    IsLifeOfJournals c moments
recorded_lives_are_lives c moments r =
    let h = holds c moments r in
    record {
      lives = h.lives;
      begins = h.begins;
    }
