-- What holds of runs holds of lives: a node takes again the calls that it restarts from, and rights are conserved.
use Rattle.std.proofs.Common.{◌≡◌, ℕ, ◌+◌, ◌≤◌, List, ◌∷◌, ◌==◌, map, take, refl, sym, ◌∙◌, ap, subst, count_by}
use Rattle.std.proofs.lemmas.Bool.{eq-eqb}
use Rattle.std.specs.Prelude.{if◌then◌else◌}
use Rattle.counters.specs.Sums.{sum_below}
use Rattle.stamp_register.specs.Keys.{stamp_of}
use Rattle.node_calls.specs.Asks.{Call, call_from}
use Rattle.node_calls.specs.Told.{Told}
use Rattle.node_steps.specs.Nodes.{start}
use Rattle.node_core.specs.Resumed.{IsFirstWrong}
use Rattle.node_core.specs.Traces.{IsLegal}
use Rattle.node_core.proofs.LegalTraces.{legal_prefix}
use Rattle.node_core.proofs.Repeated.{take_map}
use Rattle.cluster_model.specs.Histories.{acts, all_granted}
use Rattle.cluster_model.specs.Lives.{is_restarted, life, run_of, RestartIsTaken, LivesAreConserved}
use Rattle.cluster_model.specs.Schedules.{IsDeltaSchedule}
use Rattle.cluster_model.specs.Worlds.{Cluster, Event, config_of, world}
use Rattle.cluster_model.proofs.Conserved.{conserved}
use Rattle.cluster_model.proofs.Lives.{free_lives, delta_lives}
use Rattle.cluster_model.proofs.Replays.{traces_are_legal}

-- no call of a run is the first that its node answers otherwise
own_calls_taken : (c : Cluster) (es : List Event) → IsDeltaSchedule c es → (i index : ℕ) (entries : List Told) →
    map (call_from c.nodes) entries ≡ (world c es).trace i → IsFirstWrong (config_of c i) entries index → ⊥
own_calls_taken c es schedule i index entries is first =
    let whole = subst (λ t. IsLegal (config_of c i) t) (sym is) (traces_are_legal c es schedule i) in
    let begun = legal_prefix (config_of c i) 0 start (map (call_from c.nodes) entries) (index + 1) whole in
    first.wrong (subst (λ t. IsLegal (config_of c i) t) (take_map (call_from c.nodes) entries (index + 1)) begun)

pub restart_is_taken : RestartIsTaken
restart_is_taken c turns i calls index entries lives are =
    let run = delta_lives c (is_restarted i calls ∷ turns) lives in
    let same = ap (λ (t : ℕ → List Call). t i) run.0.traces in
    let mine = here (life c turns).trace i calls in
    own_calls_taken c (run_of c (is_restarted i calls ∷ turns)) run.1 i index entries (are ∙ sym mine ∙ same)
  where
    here : (t : ℕ → List Call) (i k : ℕ) → (if i == i then take k (t i) else t i) ≡ take k (t i)
    here t i k = ap (λ b. if b then take k (t i) else t i) (eq-eqb i i refl)

pub lives_are_conserved : LivesAreConserved
lives_are_conserved c turns few lives =
    let run = free_lives c turns lives in
    let holds = conserved c (run_of c turns) few run.1 in
    record {
      escrow = holds;
      at_most = λ name key term count issued counted.
          subst (λ (t : ℕ → List Call). sum_below c.nodes (λ i. count_by (λ call. acts (stamp_of key) term call.reply)
          (t i)) ≤ count + all_granted c (run_of c turns) name key term) (sym run.0.traces)
          (holds name key term count issued counted).at_most;
    }
