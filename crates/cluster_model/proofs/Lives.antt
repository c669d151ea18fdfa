-- The life of a cluster is the run without its lost calls.
use Rattle.std.proofs.Common.{◌≡◌, ◌≢◌, ℕ, ◌<◌, zero, suc, ◌==◌, true, false, arith, List, [], ◌∷◌, ◌++◌, take, ◌⊎◌, inl, inr, refl, sym, ◌∙◌, ap, subst, ⊎_elim, Option, Some, None, Result}
use Rattle.std.proofs.lemmas.Bool.Decides.{eqb_tells}
use Rattle.std.proofs.lemmas.List.{append-nil, take_all}
use Rattle.std.specs.Prelude.{slice_get, if◌then◌else◌}
use Rattle.operations.specs.Operations.{IsIn}
use Rattle.operations.proofs.Members.{IsIn-append_left, IsIn-append_right, IsIn-append_cases}
use Rattle.message_format.specs.declared.fault.WireFault.{WireFault}
use Rattle.node_calls.specs.Asks.{Asked, Call, Message}
use Rattle.node_calls.specs.Asks as asks
use Rattle.node_steps.specs.Nodes.{Node}
use Rattle.node_steps.specs.Refusals.{message_in}
use Rattle.node_core.specs.Steps.{reply}
use Rattle.node_core.specs.Traces.{SendsDelta, replay}
use Rattle.cluster_model.specs.Laws.{IsToldBy}
use Rattle.cluster_model.specs.Schedules.{Allows, AllowsDelta, IsDeltaSchedule, IsSchedule, MaySend, MayTell}
use Rattle.cluster_model.specs.Worlds.{Cluster, Event, World, accepted, happens, sent, trace_after, world}
use Rattle.cluster_model.proofs.Replays.{node_is_replay}
use Rattle.cluster_model.proofs.Replies.{messages_are_replies}
use Rattle.cluster_model.proofs.Closed.{delta_allows, deltas_are_schedules}
use Rattle.cluster_model.proofs.Lists.{get_append, get_there}
use Rattle.cluster_model.specs.Lives.{Turn, is_asked, is_answered, is_restarted, restarted, life, IsConsistent, AreAnsweredAmong, IsLife, without_lost, run_of, IsWorldOf}
use Rattle.cluster_model.proofs.LostCalls.{others, own, same_node, messages_left, is_left}

-- ---- worlds that differ in messages alone

abbrev with_messages : World → List Message → World
with_messages w messages = record { node = w.node; trace = w.trace; messages = messages }

same_world : (w v : World) → w.node ≡ v.node → w.trace ≡ v.trace → w ≡ with_messages v w.messages
same_world w v n t = λ r. record { node = n r; trace = t r; messages = w.messages }

module _ (c : Cluster) (v : World) (es : List Event) (was : IsWorldOf c v es) where
  pub but_messages : v ≡ with_messages (world c es) v.messages
  but_messages = same_world v (world c es) was.nodes was.traces

  pub world_asked : (e : Event) → IsWorldOf c (happens c v e) (e ∷ es)
  world_asked e = record {
    nodes = ap (λ (u : World). (happens c u e).node) but_messages;
    traces = ap (λ (u : World). (happens c u e).trace) but_messages;
    messages = λ m h. ⊎_elim
        (λ q. IsIn-append_left m v.messages (sent e.node (v.node e.node) (accepted c v e e.node)) (was.messages m q))
        (λ q. IsIn-append_right m v.messages (sent e.node (v.node e.node) (accepted c v e e.node))
        (subst (λ (l : List Message). IsIn m l) (sym (ap (λ (u : World). sent e.node (u.node e.node)
        (accepted c u e e.node)) but_messages)) q))
        (IsIn-append_cases m (world c es).messages _ h);
  }

  module _ (i k : ℕ) where
    abbrev calls : List Call
    calls = take k (v.trace i)

    abbrev gone : List Event
    gone = without_lost c i k es

    its_calls : calls ≡ (world c gone).trace i
    its_calls = ap (λ (t : ℕ → List Call). take k (t i)) was.traces ∙ sym (own c i k es)

    node_back : (j : ℕ) → (if j == i then replay i calls else v.node j) ≡ (world c gone).node j
    node_back j = by (eqb_tells j i)
      where
        by : (((j == i) ≡ true) × (j ≡ i)) ⊎ (((j == i) ≡ false) × (j ≢ i)) →
            (if j == i then replay i calls else v.node j) ≡ (world c gone).node j
        by (inl here) =
            ap (λ b. if b then replay i calls else v.node j) here.0
            ∙ ap (replay i) its_calls ∙ sym (node_is_replay c gone i)
            ∙ ap (world c gone).node (sym here.1)
        by (inr other) =
            ap (λ b. if b then replay i calls else v.node j) other.0
            ∙ ap (λ (n : ℕ → Node). n j) was.nodes ∙ sym (same_node c i k es j (others c i k es j other.1))

    trace_back : (j : ℕ) → (if j == i then calls else v.trace j) ≡ (world c gone).trace j
    trace_back j = by (eqb_tells j i)
      where
        by : (((j == i) ≡ true) × (j ≡ i)) ⊎ (((j == i) ≡ false) × (j ≢ i)) →
            (if j == i then calls else v.trace j) ≡ (world c gone).trace j
        by (inl here) =
            ap (λ b. if b then calls else v.trace j) here.0 ∙ its_calls ∙ ap (world c gone).trace (sym here.1)
        by (inr other) =
            ap (λ b. if b then calls else v.trace j) other.0
            ∙ ap (λ (t : ℕ → List Call). t j) was.traces ∙ sym (others c i k es j other.1)

    pub world_restarted : IsWorldOf c (restarted v i calls) gone
    world_restarted = record {
      nodes = λ r j. node_back j r;
      traces = λ r j. trace_back j r;
      messages = λ m h. was.messages m (messages_left c i k es m h);
    }

-- what a world has that is made is told by the traces of another with the same calls
pub consistent_there : (w v : World) → w.trace ≡ v.trace → IsConsistent w → IsConsistent v
consistent_there w v same made i call read held asked =
    subst (λ (t : ℕ → List Call). IsToldBy (t (message_in read).from) (message_in read)) same
    (made i call read (subst (λ (t : ℕ → List Call). IsIn call (t i)) (sym same) held) asked)

-- ---- the life is a run

module _ (May : World → ℕ → Option Asked → Type 0) (Are : Cluster → List Event → Type 0)
    (begins : (c : Cluster) → Are c [])
    (first : (c : Cluster) (e : Event) (es : List Event) → Are c (e ∷ es) →
    May (world c es) e.node (accepted c (world c es) e e.node))
    (before : (c : Cluster) (e : Event) (es : List Event) → Are c (e ∷ es) → Are c es)
    (goes_on : (c : Cluster) (e : Event) (es : List Event) →
    May (world c es) e.node (accepted c (world c es) e e.node) → Are c es → Are c (e ∷ es))
    (local : (w v : World) (j : ℕ) (a : Option Asked) → w.node j ≡ v.node j →
    ((read : Result Message WireFault) → a ≡ Some (asks.Deliver read) → IsIn (message_in read) w.messages →
    IsIn (message_in read) v.messages) → May w j a → May v j a) where
  may_there : (c : Cluster) (v : World) (es : List Event) (e : Event) → IsWorldOf c v es → IsConsistent (happens c v e) →
      May v e.node (accepted c v e e.node) → May (world c es) e.node (accepted c (world c es) e e.node)
  may_there c v es e was made may =
      local (with_messages w v.messages) w e.node (accepted c w e e.node) refl sent_before
      (subst (λ (u : World). May u e.node (accepted c u e e.node)) (but_messages c v es was) may)
    where
      w : World
      w = world c es

      made_then : IsConsistent (world c (e ∷ es))
      made_then = consistent_there (happens c v e) (world c (e ∷ es)) (world_asked c v es was e).traces made

      sent_before : (read : Result Message WireFault) → accepted c (world c es) e e.node ≡ Some (asks.Deliver read) →
          IsIn (message_in read) v.messages → IsIn (message_in read) (world c es).messages
      sent_before read is _ =
          let call : Call =
          record {
            ask = asks.Deliver read;
            words = e.words;
            reply = reply e.node ((world c es).node e.node) (asks.Deliver read) e.words;
          } in
          let among : IsIn call ((world c (e ∷ es)).trace e.node) =
          subst (λ (a : Option Asked). IsIn call (trace_after e.node ((world c es).node e.node)
          ((world c es).trace e.node) a e.words)) (sym is)
          (IsIn-append_right call ((world c es).trace e.node) (call ∷ []) (inl refl)) in
          let told = made_then e.node call read among refl in
          let sent_then = (messages_are_replies c (e ∷ es) (message_in read).from (message_in read)).1 told in
          subst (λ (l : List Message). IsIn (message_in read) l)
          (ap (λ (a : Option Asked). (world c es).messages ++ sent e.node ((world c es).node e.node) a) is
          ∙ append-nil (world c es).messages) sent_then.0

  pub life_is_run : (c : Cluster) (turns : List Turn) → IsLife May c turns →
      IsWorldOf c (life c turns) (run_of c turns) × Are c (run_of c turns)
  life_is_run c [] lives = (record { nodes = refl; traces = refl; messages = λ m h. h }, begins c)
  life_is_run c (is_asked e ∷ turns) lives =
      let was = life_is_run c turns lives.2 in (
        world_asked c (life c turns) (run_of c turns) was.0 e,
        goes_on c e (run_of c turns) (may_there c (life c turns) (run_of c turns) e was.0 lives.1 lives.0) was.1,
      )
  life_is_run c (is_answered i place ∷ turns) lives = life_is_run c turns lives.2
  life_is_run c (is_restarted i k ∷ turns) lives =
      let was = life_is_run c turns lives.2 in
      let es : List Event = run_of c turns in
      let now = world_restarted c (life c turns) es was.0 i k in
      let made = consistent_there (life c (is_restarted i k ∷ turns)) (world c (without_lost c i k es)) now.traces lives.1 in (
        now,
        is_left c i k May (Are c) (begins c) (first c) (before c) (goes_on c) local ((world c es).trace i) [] es
            (sym (append-nil ((world c es).trace i)))
            (λ j call read held asked from. subst (λ (t : List Call). IsToldBy t (message_in read)) (own c i k es)
            (subst (λ (n : ℕ). IsToldBy ((world c (without_lost c i k es)).trace n) (message_in read)) from
            (made j call read held asked)))
            was.1,
      )

-- ---- with either rule of what may be sent

allows_local : (w v : World) (j : ℕ) (a : Option Asked) → w.node j ≡ v.node j →
    ((read : Result Message WireFault) → a ≡ Some (asks.Deliver read) → IsIn (message_in read) w.messages →
    IsIn (message_in read) v.messages) → Allows w j a → Allows v j a
allows_local w v j (Some (asks.Emit to versions chosen)) same brings may =
    (subst (λ (n : Node). MayTell n.marks to versions) same may.0, subst (λ (n : Node). MaySend n.ops chosen) same may.1)
allows_local w v j (Some (asks.Deliver read)) same brings may = brings read refl may
allows_local w v j a same brings may = tt

delta_local : (w v : World) (j : ℕ) (a : Option Asked) → w.node j ≡ v.node j →
    ((read : Result Message WireFault) → a ≡ Some (asks.Deliver read) → IsIn (message_in read) w.messages →
    IsIn (message_in read) v.messages) → AllowsDelta w j a → AllowsDelta v j a
delta_local w v j (Some (asks.Emit to versions chosen)) same brings may =
    subst (λ (n : Node). SendsDelta n (asks.Emit to versions chosen)) same may
delta_local w v j (Some (asks.Deliver read)) same brings may = brings read refl may
delta_local w v j a same brings may = tt

pub free_lives : (c : Cluster) (turns : List Turn) → IsLife Allows c turns →
    IsWorldOf c (life c turns) (run_of c turns) × IsSchedule c (run_of c turns)
free_lives = life_is_run Allows IsSchedule (λ c. tt) (λ c e es s. s.0) (λ c e es s. s.1) (λ c e es m s. (m, s))
    allows_local

pub delta_lives : (c : Cluster) (turns : List Turn) → IsLife AllowsDelta c turns →
    IsWorldOf c (life c turns) (run_of c turns) × IsDeltaSchedule c (run_of c turns)
delta_lives = life_is_run AllowsDelta IsDeltaSchedule (λ c. tt) (λ c e es s. s.0) (λ c e es s. s.1)
    (λ c e es m s. (m, s)) delta_local

-- what a life with differences allows is allowed where nodes send what they choose
delta_life_allows : (c : Cluster) (w : World) (es : List Event) → IsWorldOf c w es → IsDeltaSchedule c es → (i : ℕ)
    (a : Option Asked) → AllowsDelta w i a → Allows w i a
delta_life_allows c w es is s i None may = tt
delta_life_allows c w es is s i (Some (asks.Emit to versions chosen)) may =
    subst (λ (n : ℕ → Node). MayTell (n i).marks to versions × MaySend (n i).ops chosen) (sym is.nodes)
    (delta_allows c es (deltas_are_schedules c es s) i (Some (asks.Emit to versions chosen))
    (subst (λ (n : ℕ → Node). SendsDelta (n i) (asks.Emit to versions chosen)) is.nodes may))
delta_life_allows c w es is s i (Some (asks.Deliver read)) may = may
delta_life_allows c w es is s i (Some ask) may = may

pub delta_lives_are_lives : (c : Cluster) (turns : List Turn) → IsLife AllowsDelta c turns → IsLife Allows c turns
delta_lives_are_lives c [] lives = tt
delta_lives_are_lives c (is_asked e ∷ turns) lives =
    let run = delta_lives c turns lives.2 in (
      delta_life_allows c (life c turns) (run_of c turns) run.0 run.1 e.node (accepted c (life c turns) e e.node)
          lives.0,
      lives.1,
      delta_lives_are_lives c turns lives.2,
    )
delta_lives_are_lives c (is_answered i place ∷ turns) lives =
    (lives.0, lives.1, delta_lives_are_lives c turns lives.2)
delta_lives_are_lives c (is_restarted i k ∷ turns) lives =
    (lives.0, lives.1, delta_lives_are_lives c turns lives.2)

-- ---- what was answered

get_take : (xs : List Call) (k place : ℕ) → place < k → slice_get (take k xs) place ≡ slice_get xs place
get_take [] k place low = ap (λ (l : List Call). slice_get l place) (take_all k [] (omega arith))
get_take (x ∷ xs) zero place low = absurd (omega (arith, low))
get_take (x ∷ xs) (suc k) zero low = refl
get_take (x ∷ xs) (suc k) (suc place) low = get_take xs k place (omega (arith, low))

among_first : (later earlier : List Turn) (i place j k : ℕ) → AreAnsweredAmong (later ++ is_answered i place ∷ earlier) j k →
    i ≡ j → place < k
among_first [] earlier i place j k h = h.0
among_first (is_asked e ∷ later) earlier i place j k h = among_first later earlier i place j k h
among_first (is_answered n p ∷ later) earlier i place j k h = among_first later earlier i place j k h.1
among_first (is_restarted n p ∷ later) earlier i place j k h = among_first later earlier i place j k h

still_called : (i : ℕ) (n : Node) (trace : List Call) (a : Option Asked) (words : List ℕ) (place : ℕ) (x : Call) →
    slice_get trace place ≡ Some x → slice_get (trace_after i n trace a words) place ≡ Some x
still_called i n trace None words place x h = h
still_called i n trace (Some ask) words place x h = get_append trace _ place x h

module _ (May : World → ℕ → Option Asked → Type 0) (c : Cluster) (earlier : List Turn) (i place : ℕ) (x : Call)
    (there : slice_get ((life c earlier).trace i) place ≡ Some x) where
  answered_stays : (later : List Turn) → IsLife May c (later ++ is_answered i place ∷ earlier) →
      slice_get ((life c (later ++ is_answered i place ∷ earlier)).trace i) place ≡ Some x
  answered_stays [] lives = there
  answered_stays (is_asked e ∷ later) lives =
      let was = answered_stays later lives.2 in
      let w : World = life c (later ++ is_answered i place ∷ earlier) in
      still_called i (w.node i) (w.trace i) (accepted c w e i) e.words place x was
  answered_stays (is_answered n p ∷ later) lives = answered_stays later lives.2
  answered_stays (is_restarted n k ∷ later) lives = by (answered_stays later lives.2) (eqb_tells i n)
    where
      w : World
      w = life c (later ++ is_answered i place ∷ earlier)

      by : slice_get (w.trace i) place ≡ Some x →
          (((i == n) ≡ true) × (i ≡ n)) ⊎ (((i == n) ≡ false) × (i ≢ n)) →
          slice_get (if i == n then take k (w.trace n) else w.trace i) place ≡ Some x
      by was (inl here) =
          ap (λ b. slice_get (if b then take k (w.trace n) else w.trace i) place) here.0
          ∙ get_take (w.trace n) k place (among_first later earlier i place n k lives.0 here.1)
          ∙ ap (λ (j : ℕ). slice_get (w.trace j) place) (sym here.1) ∙ was
      by was (inr other) =
          ap (λ b. slice_get (if b then take k (w.trace n) else w.trace i) place) other.0 ∙ was

life_then : (May : World → ℕ → Option Asked → Type 0) (c : Cluster) (later earlier : List Turn) →
    IsLife May c (later ++ earlier) → IsLife May c earlier
life_then May c [] earlier lives = lives
life_then May c (turn ∷ later) earlier lives = life_then May c later earlier lives.2

pub answered_is_kept : (c : Cluster) (later earlier : List Turn) (i place : ℕ) →
    IsLife Allows c (later ++ is_answered i place ∷ earlier) →
    slice_get ((world c (run_of c (later ++ is_answered i place ∷ earlier))).trace i) place
    ≡ slice_get ((life c earlier).trace i) place
answered_is_kept c later earlier i place lives =
    let since = life_then Allows c later (is_answered i place ∷ earlier) lives in
    let there = get_there ((life c earlier).trace i) place since.0 in
    let same = (free_lives c (later ++ is_answered i place ∷ earlier) lives).0.traces in
    sym (ap (λ (t : ℕ → List Call). slice_get (t i) place) same)
    ∙ answered_stays Allows c earlier i place there.0 there.1 later lives ∙ sym there.1
