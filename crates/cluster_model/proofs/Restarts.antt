-- Lives in which no node ends; and where a node may restart from a prefix of its calls.
use Rattle.std.proofs.Common.{◌≡◌, ◌≢◌, ℕ, ◌<◌, ◌≤◌, ◌==◌, true, false, arith, List, [], ◌∷◌, ◌++◌, length, take, drop, map, ◌⊎◌, inl, inr, refl, sym, ◌∙◌, ap, subst, ⊎_elim, Option, Some, None, Result}
use Rattle.std.proofs.lemmas.Bool.Decides.{eqb_tells, leb_tells}
use Rattle.std.proofs.lemmas.List.{length-append, length-take-le, take-append-drop, take_all}
use Rattle.std.specs.Prelude.{nat_le, if◌then◌else◌}
use Rattle.operations.specs.Operations.{IsIn}
use Rattle.operations.proofs.Members.{IsIn-append_left}
use Rattle.message_format.specs.declared.fault.WireFault.{WireFault}
use Rattle.node_calls.specs.Asks.{Asked, Call, Message}
use Rattle.node_calls.specs.Asks as asks
use Rattle.node_steps.specs.Nodes.{Node}
use Rattle.node_steps.specs.Refusals.{message_in}
use Rattle.cluster_model.specs.Laws.{IsToldBy}
use Rattle.cluster_model.specs.Lives.{Turn, is_asked, is_answered, is_restarted, restarted, life, IsConsistent, AreAnsweredAmong, AreDeliveredAmong, IsLife}
use Rattle.cluster_model.specs.Schedules.{Allows, AllowsDelta, IsDeltaSchedule, IsSchedule}
use Rattle.cluster_model.specs.Worlds.{Cluster, Event, World, accepted, happens, sent, trace_after, world}
use Rattle.cluster_model.proofs.Closed.{deltas_are_schedules}
use Rattle.cluster_model.proofs.Steps.{asked_is}
use Rattle.cluster_model.proofs.Replies.{call_cases, messages_are_replies}
use Rattle.cluster_model.proofs.LostCalls.{IsMore, one_more}

-- ---- no node ends

-- what was delivered in a schedule was sent
sent_before : (c : Cluster) (es : List Event) → IsSchedule c es → (i : ℕ) (call : Call)
    (read : Result Message WireFault) → IsIn call ((world c es).trace i) → call.ask ≡ asks.Deliver read →
    IsIn (message_in read) (world c es).messages
sent_before c [] s i call read held asked = absurd held
sent_before c (e ∷ es) s i call read held asked =
    IsIn-append_left (message_in read) w.messages (sent e.node (w.node e.node) (accepted c w e e.node))
    (⊎_elim (λ was. sent_before c es s.1 i call read was asked) (λ now. delivered now.0 now.1 (sym asked ∙ ap (λ (k : Call). k.ask) now.2))
    (call_cases i (w.node i) (w.trace i) (accepted c w e i) e.words call held))
  where
    w : World
    w = world c es

    delivered : (ask : Asked) → accepted c w e i ≡ Some ask → asks.Deliver read ≡ ask →
        IsIn (message_in read) w.messages
    delivered ask is same =
        let here = (asked_is c w e i ask is).here in
        subst (λ (a : Option Asked). Allows w i a) (is ∙ ap (λ (a : Asked). Some a) (sym same))
        (subst (λ j. Allows w j (accepted c w e j)) (sym here) s.0)

consistent : (c : Cluster) (es : List Event) → IsSchedule c es → IsConsistent (world c es)
consistent c es s i call read held asked =
    (messages_are_replies c es (message_in read).from (message_in read)).0
    (sent_before c es s i call read held asked, refl)

life_of_events : (c : Cluster) (es : List Event) → life c (map is_asked es) ≡ world c es
life_of_events c [] = refl
life_of_events c (e ∷ es) = ap (λ (w : World). happens c w e) (life_of_events c es)

pub schedules_are_lives : (c : Cluster) (es : List Event) → IsDeltaSchedule c es →
    IsLife AllowsDelta c (map is_asked es)
schedules_are_lives c [] s = tt
schedules_are_lives c (e ∷ es) s = (
  subst (λ (w : World). AllowsDelta w e.node (accepted c w e e.node)) (sym (life_of_events c es)) s.0,
  subst IsConsistent (sym (life_of_events c (e ∷ es)))
      (consistent c (e ∷ es) (deltas_are_schedules c (e ∷ es) s)),
  schedules_are_lives c es s.1,
)

-- ---- a node restarts

in_taken : (call : Call) (k : ℕ) (calls : List Call) → IsIn call (take k calls) → IsIn call calls
in_taken call k calls held =
    subst (λ l. IsIn call l) (take-append-drop k calls) (IsIn-append_left call (take k calls) (drop k calls) held)

-- more calls have what fewer have
among_more : (turns : List Turn) (i few many : ℕ) → few ≤ many → AreAnsweredAmong turns i few →
    AreAnsweredAmong turns i many
among_more [] i few many low h = tt
among_more (is_asked e ∷ turns) i few many low h = among_more turns i few many low h
among_more (is_answered j place ∷ turns) i few many low h =
    (λ same. let first = h.0 same in omega (arith, first, low), among_more turns i few many low h.1)
among_more (is_restarted j calls ∷ turns) i few many low h = among_more turns i few many low h

-- what is answered is among the calls that a node has once it has restarted, if it is among those that it had
restarted_among : (c : Cluster) (turns : List Turn) (i k j n : ℕ) → AreAnsweredAmong turns j n →
    (length ((life c turns).trace i) ≤ k → AreAnsweredAmong turns i k) →
    length ((life c (is_restarted j n ∷ turns)).trace i) ≤ k → AreAnsweredAmong turns i k
restarted_among c turns i k j n kept before low = by (eqb_tells i j)
  where
    w : World
    w = life c turns

    by : (((i == j) ≡ true) × (i ≡ j)) ⊎ (((i == j) ≡ false) × (i ≢ j)) → AreAnsweredAmong turns i k
    by (inl here) = cut (leb_tells n (length (w.trace j)))
      where
        now : length (take n (w.trace j)) ≤ k
        now = subst (λ b. length (if b then take n (w.trace j) else w.trace i) ≤ k) here.0 low

        cut : ((nat_le n (length (w.trace j)) ≡ true) × (n ≤ length (w.trace j)))
            ⊎ ((nat_le n (length (w.trace j)) ≡ false) × (length (w.trace j) < n)) → AreAnsweredAmong turns i k
        cut (inl less) =
            let long = length-take-le n (w.trace j) less.1 in
            among_more turns i n k (omega (arith, long, now))
            (subst (λ m. AreAnsweredAmong turns m n) (sym here.1) kept)
        cut (inr all) =
            let over = all.1 in
            let same = ap length (take_all n (w.trace j) (omega (arith, over))) in
            let long : length (w.trace j) ≤ k = omega (arith, same, now) in
            before (subst (λ m. length (w.trace m) ≤ k) (sym here.1) long)
    by (inr other) = before (subst (λ b. length (if b then take n (w.trace j) else w.trace i) ≤ k) other.0 low)

pub answered_among : (May : World → ℕ → Option Asked → Type 0) (c : Cluster) (turns : List Turn) (i k : ℕ) →
    IsLife May c turns → length ((life c turns).trace i) ≤ k → AreAnsweredAmong turns i k
answered_among May c [] i k lives low = tt
answered_among May c (is_asked e ∷ turns) i k lives low =
    let w : World = life c turns in
    let grows = one_more i (w.node i) (w.trace i) (accepted c w e i) e.words in
    let long = ap length grows.is ∙ length-append (w.trace i) grows.rest in
    answered_among May c turns i k lives.2 (omega (arith, long, low))
answered_among May c (is_answered j place ∷ turns) i k lives low = (
  λ same. let there = subst (λ n. place < length ((life c turns).trace n)) same lives.0 in omega (arith, there, low),
  answered_among May c turns i k lives.2 low,
)
answered_among May c (is_restarted j n ∷ turns) i k lives low =
    restarted_among c turns i k j n lives.0 (answered_among May c turns i k lives.2) low

consistent_now : (c : Cluster) (turns : List Turn) → IsLife AllowsDelta c turns → IsConsistent (life c turns)
consistent_now c [] lives = λ j call read held asked. absurd held
consistent_now c (turn ∷ turns) lives = lives.1

module _ (w : World) (i k : ℕ) (now : IsConsistent w) (sent : AreDeliveredAmong w i k) where
  abbrev first : List Call
  first = take k (w.trace i)

  -- what a node has was there
  was_there : (j : ℕ) (call : Call) → IsIn call (if j == i then first else w.trace j) → IsIn call (w.trace j)
  was_there j call held = by (eqb_tells j i)
    where
      by : (((j == i) ≡ true) × (j ≡ i)) ⊎ (((j == i) ≡ false) × (j ≢ i)) → IsIn call (w.trace j)
      by (inl here) =
          subst (λ n. IsIn call (w.trace n)) (sym here.1)
          (in_taken call k (w.trace i) (subst (λ b. IsIn call (if b then first else w.trace j)) here.0 held))
      by (inr other) = subst (λ b. IsIn call (if b then first else w.trace j)) other.0 held

  still_told : (m : Message) → IsToldBy (w.trace m.from) m → (m.from ≡ i → IsToldBy first m) →
      IsToldBy (if m.from == i then first else w.trace m.from) m
  still_told m told mine = by (eqb_tells m.from i)
    where
      by : (((m.from == i) ≡ true) × (m.from ≡ i)) ⊎ (((m.from == i) ≡ false) × (m.from ≢ i)) →
          IsToldBy (if m.from == i then first else w.trace m.from) m
      by (inl here) =
          subst (λ b. IsToldBy (if b then first else w.trace m.from) m) (sym here.0) (mine here.1)
      by (inr other) = subst (λ b. IsToldBy (if b then first else w.trace m.from) m) (sym other.0) told

  restart_consistent : IsConsistent (restarted w i first)
  restart_consistent j call read held asked =
      let there = was_there j call held in
      still_told (message_in read) (now j call read there asked) (sent j call read there asked)

pub restart_goes_on : (c : Cluster) (turns : List Turn) (i calls : ℕ) → IsLife AllowsDelta c turns →
    AreAnsweredAmong turns i calls → AreDeliveredAmong (life c turns) i calls →
    IsLife AllowsDelta c (is_restarted i calls ∷ turns)
restart_goes_on c turns i calls lives answered sent =
    (answered, restart_consistent (life c turns) i calls (consistent_now c turns lives) sent, lives)

pub whole_restart_goes_on : (c : Cluster) (turns : List Turn) (i : ℕ) → IsLife AllowsDelta c turns →
    IsLife AllowsDelta c (is_restarted i (length ((life c turns).trace i)) ∷ turns)
whole_restart_goes_on c turns i lives =
    restart_goes_on c turns i (length (w.trace i)) lives
    (answered_among AllowsDelta c turns i (length (w.trace i)) lives (omega arith))
    (λ j call read held asked from. subst (λ t. IsToldBy t (message_in read))
    (sym (take_all (length (w.trace i)) (w.trace i) (omega arith)))
    (subst (λ n. IsToldBy (w.trace n) (message_in read)) from (consistent_now c turns lives j call read held asked)))
  where
    w : World
    w = life c turns
