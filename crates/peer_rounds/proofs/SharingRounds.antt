-- How many calls rounds make where rights stay.
use Rattle.std.proofs.Common.{◌≡◌, ◌≤◌, ℕ, ◌+◌, ◌*◌, Bool, List, [], refl, ap, subst, arith, add-mul}
use Rattle.node_steps.specs.declared.config.Config.{Config}
use Rattle.command_line.specs.declared.reading.Rights.{Rights}
use Rattle.command_line.specs.declared.reading.Rights.TheVariants.{Stay}
use Rattle.node_registry.specs.Seats.{SeatState}
use Rattle.gossip.specs.Traffic.{Traffic}
use Rattle.gossip_pace.specs.declared.news.Pace.{Pace}
use Rattle.sharing.specs.Memory.{Recalled}
use Rattle.peer_rounds.specs.Rounds.{most_calls}
use Rattle.peer_rounds.specs.Sharing.{AreMade, AreRightsOf, IsSharedFirst}
use Rattle.peer_rounds.specs.Sharing as sharing
use Rattle.peer_rounds.specs.declared.round.RightsNow.{RightsNow}
use Rattle.peer_rounds.specs.declared.round.Round.{Round}

module _ (config : Config) (seed : List ℕ) (keeps : Bool) (seats : ℕ) (says : ℕ → Bool → Type 0) where
  unshared : (r : RightsNow) (had has : SeatState) (was now : List Recalled) → AreRightsOf Stay r →
      IsSharedFirst r.rights config seed keeps seats had has was now → has ≡ had
  unshared r had has was now stay first =
      (subst (λ x. IsSharedFirst x config seed keeps seats had has was now) stay first).0

  few_made : (had : SeatState) (before : Traffic) (ps : List Pace) (count : ℕ) (has : SeatState) (now : List Recalled)
      (after : Traffic) (qs : List Pace) (rounds : List Round) (lost : Bool) →
      AreMade config seed keeps seats says Stay had before ps count has now after qs rounds lost →
      has.calls ≤ had.calls + count * most_calls config
  few_made had before ps count has now after qs rounds lost sharing.none = omega arith
  few_made had before ps count has now after qs rounds lost (sharing.more {count = n} {has = between} {now = was}
      {amid = amid} {qs = middle} {rounds = first} {round = r} {lost = l} so_far round) =
      let few = few_made had before ps n between was amid middle first l so_far in
      let same = ap (λ (s : SeatState). s.calls) (unshared r.rights between round.shared was now round.rights round.first) in
      omega (arith, few, round.few, same, add-mul n 1 (most_calls config))

  -- where rights stay a round makes no more calls than it does by itself
  pub few_without : (wanted : Rights) (had : SeatState) (before : Traffic) (ps : List Pace) (count : ℕ) (has : SeatState)
      (now : List Recalled) (after : Traffic) (qs : List Pace) (rounds : List Round) (lost : Bool) →
      AreMade config seed keeps seats says wanted had before ps count has now after qs rounds lost → wanted ≡ Stay →
      has.calls ≤ had.calls + count * most_calls config
  few_without wanted had before ps count has now after qs rounds lost made stay =
      few_made had before ps count has now after qs rounds lost
      (subst (λ r. AreMade config seed keeps seats says r had before ps count has now after qs rounds lost) stay made)
