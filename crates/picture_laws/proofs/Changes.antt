-- What an event changes: of sums over the nodes, and of the rights of each.
use Rattle.std.proofs.Common.{◌≡◌, ◌≢◌, inl, inr, ℕ, ◌+◌, ◌<◌, ◌≤◌, ◌==◌, cond, List, ◌∷◌, ap, subst, arith, Some}
use Rattle.std.proofs.lemmas.Bool.Decides.{eqb_tells}
use Rattle.counters.specs.Sums.{node_numbers, sum_below}
use Rattle.counters.proofs.SumLemmas.{sum-same, sum-add}
use Rattle.stamp_register.specs.Keys.{KeyValue, stamp_of}
use Rattle.operations.specs.Operations.{count_of}
use Rattle.node_calls.specs.Asks.{Asked}
use Rattle.node_steps.specs.Nodes.{Node}
use Rattle.cluster_model.specs.Worlds.{Cluster, Event, accepted, world}
use Rattle.cluster_model.specs.Schedules.{IsSchedule}
use Rattle.cluster_model.specs.Histories.{executions, amount_moved, amount_granted, granted, seen, all_granted, all_executions}
use Rattle.cluster_model.proofs.Stamps.{OneStamp, one_before}
use Rattle.cluster_model.proofs.OwnCells.{acted, executed_more}
use Rattle.picture_laws.proofs.Balanced.{sum_only, not_asked, rights_at, changes, not_changed}
use Rattle.picture_laws.proofs.Parcels.{seen_else}

module _ (c : Cluster) (few : c.nodes ≤ node_numbers) (name : List ℕ) (key : KeyValue) (term count : ℕ)
    (counted : count_of key term ≡ Some count) (e : Event) (es : List Event) (s : IsSchedule c (e ∷ es))
    (one : OneStamp c (e ∷ es) name key) where
  abbrev n : Node
  n = (world c es).node e.node

  abbrev one_then : OneStamp c es name key
  one_then = one_before c e es name key one

  abbrev rights_then : ℕ → ℕ
  rights_then j = rights_at c few name key term count counted es s.1 one_then j

  abbrev rights_now : ℕ → ℕ
  rights_now j = rights_at c few name key term count counted (e ∷ es) s one j

  pub granted_more : (q : Asked) → accepted c (world c es) e e.node ≡ Some q → e.node < c.nodes →
      all_granted c (e ∷ es) name key term ≡ all_granted c es name key term + amount_granted n (Some q) name key term
  granted_more q accepts low =
      let all = sum-add c.nodes (λ j. amount_granted ((world c es).node j) (accepted c (world c es) e j) name key term)
      (granted c es name key term) in
      let one_node = sum_only c.nodes e.node
      (λ j. amount_granted ((world c es).node j) (accepted c (world c es) e j) name key term) low
      (λ j ne. ap (λ a. amount_granted ((world c es).node j) a name key term) (not_asked c (world c es) e j ne)) in
      let here : amount_granted n (accepted c (world c es) e e.node) name key term ≡ amount_granted n (Some q) name key term =
      ap (λ a. amount_granted n a name key term) accepts in
      omega (arith, all, one_node, here)

  pub spent_more : (q : Asked) → accepted c (world c es) e e.node ≡ Some q → e.node < c.nodes →
      all_executions c (e ∷ es) (stamp_of key) term ≡ all_executions c es (stamp_of key) term
      + acted (stamp_of key) term e.node n (Some q) e.words
  spent_more q accepts low =
      let each : all_executions c (e ∷ es) (stamp_of key) term ≡ sum_below c.nodes
      (λ j. acted (stamp_of key) term j ((world c es).node j) (accepted c (world c es) e j) e.words
      + executions c es (stamp_of key) term j) =
      sum-same c.nodes _ _ (λ j l. executed_more (stamp_of key) term j ((world c es).node j) ((world c es).trace j)
      (accepted c (world c es) e j) e.words) in
      let all = sum-add c.nodes (λ j. acted (stamp_of key) term j ((world c es).node j) (accepted c (world c es) e j) e.words)
      (executions c es (stamp_of key) term) in
      let one_node = sum_only c.nodes e.node
      (λ j. acted (stamp_of key) term j ((world c es).node j) (accepted c (world c es) e j) e.words) low
      (λ j ne. ap (λ a. acted (stamp_of key) term j ((world c es).node j) a e.words) (not_asked c (world c es) e j ne)) in
      let here : acted (stamp_of key) term e.node n (accepted c (world c es) e e.node) e.words ≡ acted (stamp_of key) term
      e.node n (Some q) e.words = ap (λ a. acted (stamp_of key) term e.node n a e.words) accepts in
      omega (arith, each, all, one_node, here)

  -- the rights of the others stay
  pub rights_else : (q : Asked) → accepted c (world c es) e e.node ≡ Some q → (j : ℕ) → j ≢ e.node → rights_now j ≡ rights_then j
  rights_else q accepts j ne = not_changed c few name key term count counted e es s one one_then j
      (not_asked c (world c es) e j ne) (λ k. seen_else c name key term e es s q accepts k j ne)

  -- and those of the node that is asked change by what it did
  pub rights_here : (q : Asked) → accepted c (world c es) e e.node ≡ Some q →
      rights_now e.node + (sum_below c.nodes (λ j. amount_moved n (Some q) name key term j)
      + acted (stamp_of key) term e.node n (Some q) e.words) + sum_below c.nodes (λ j. seen c es name key term j e.node)
      ≡ rights_then e.node + amount_granted n (Some q) name key term
      + sum_below c.nodes (λ j. seen c (e ∷ es) name key term j e.node)
  rights_here q accepts = subst (λ a.
      rights_now e.node + (sum_below c.nodes (λ j. amount_moved n a name key term j)
      + acted (stamp_of key) term e.node n a e.words) + sum_below c.nodes (λ j. seen c es name key term j e.node)
      ≡ rights_then e.node + amount_granted n a name key term
      + sum_below c.nodes (λ j. seen c (e ∷ es) name key term j e.node)) accepts
      (changes c few name key term count counted e es s one one_then e.node)

  -- where nothing is delivered
  abbrev pub Stays : Type 0
  Stays = (j k : ℕ) → seen c (e ∷ es) name key term j k ≡ seen c es name key term j k

  pub rights_still : (q : Asked) → accepted c (world c es) e e.node ≡ Some q → Stays →
      rights_now e.node + (sum_below c.nodes (λ j. amount_moved n (Some q) name key term j)
      + acted (stamp_of key) term e.node n (Some q) e.words)
      ≡ rights_then e.node + amount_granted n (Some q) name key term
  rights_still q accepts stays =
      let all = rights_here q accepts in
      let same : sum_below c.nodes (λ j. seen c (e ∷ es) name key term j e.node) ≡ sum_below c.nodes
      (λ j. seen c es name key term j e.node) =
      sum-same c.nodes _ _ (λ j l. stays j e.node) in
      omega (arith, all, same)

  -- what is held with what is moved, by the node
  pub by_node : (amount : ℕ) (f g : ℕ → ℕ) → ((j : ℕ) → j ≢ e.node → f j ≡ g j) → f e.node + amount ≡ g e.node → (j : ℕ) →
      f j + cond (j == e.node) amount 0 ≡ g j
  by_node amount f g else_ here j = elim (eqb_tells j e.node) [
    | inl w ↦
        let a : f j ≡ f e.node = ap f w.1 in
        let d : g j ≡ g e.node = ap g w.1 in
        let t : ◌≡◌ {A = ℕ} (cond (j == e.node) amount 0) amount = ap (λ t. cond t amount 0) w.0 in
        omega (arith, a, d, t, here)
    | inr w ↦
        let a = else_ j w.1 in
        let t : ◌≡◌ {A = ℕ} (cond (j == e.node) amount 0) 0 = ap (λ t. cond t amount 0) w.0 in
        omega (arith, a, t)
  ]
