-- What each node holds, by sums over the nodes of a cluster, and how an event changes it.
use Rattle.std.proofs.Common.{◌≡◌, ◌≢◌, ℕ, ◌+◌, ◌<◌, ◌≤◌, ◌==◌, cond, Bool, true, false, List, ◌∷◌, refl, sym, ◌∙◌, ap, arith, Option, Some, None}
use Rattle.std.proofs.lemmas.Bool.{eqb-true, eqb-false}
use Rattle.std.specs.Prelude.{pos}
use Rattle.counters.specs.Sums.{node_numbers, sum_below, sum_others}
use Rattle.counters.proofs.SumLemmas.{sum-same, sum-add, sum-at, sum-zero, sum_others-is, sum-narrow}
use Rattle.stamp_register.specs.Keys.{KeyValue, stamp_of}
use Rattle.operations.specs.Operations.{count_of}
use Rattle.node_calls.specs.Asks.{Asked}
use Rattle.cluster_model.specs.Worlds.{Cluster, World, Event, accepted, world}
use Rattle.cluster_model.specs.Schedules.{IsSchedule}
use Rattle.cluster_model.specs.Histories.{executions, amount_moved, moved, amount_granted, granted, held, seen}
use Rattle.cluster_model.proofs.Steps.{asked_is}
use Rattle.cluster_model.proofs.Moved.{moved_not_to, moved_to_self, moved_by_none}
use Rattle.cluster_model.proofs.Stamps.{OneStamp}
use Rattle.cluster_model.proofs.OwnCells.{acted, executed_more}
use Rattle.cluster_model.proofs.Rights.{balance}
use Rattle.cluster_model.proofs.Conserved.{seen_moved}
use Rattle.picture_laws.proofs.Seen.{seen_self}

-- a sum of which one term counts
pub sum_only : (n k : ℕ) (f : ℕ → ℕ) → k < n → ((i : ℕ) → i ≢ k → f i ≡ 0) → sum_below n f ≡ f k
sum_only n k f low none = sum-same n f (λ i. cond (i == k) (f k) 0) (λ i l. at i) ∙ sum-at n k (f k) low
  where
    at : (i : ℕ) → f i ≡ cond (i == k) (f k) 0
    at i = by (i == k) refl
      where
        by : (t : Bool) → (i == k) ≡ t → f i ≡ cond t (f k) 0
        by true e = ap f (eqb-true i k e)
        by false e = none i (eqb-false i k e)

-- an event is accepted by no other node than the one that is asked
pub not_asked : (c : Cluster) (w : World) (e : Event) (i : ℕ) → i ≢ e.node → accepted c w e i ≡ None
not_asked c w e i ne = at (accepted c w e i) refl
  where
    at : (a : Option Asked) → accepted c w e i ≡ a → accepted c w e i ≡ None
    at None p = p
    at (Some ask) p = absurd (ne (asked_is c w e i ask p).here)

module _ (c : Cluster) (few : c.nodes ≤ node_numbers) (name : List ℕ) (key : KeyValue) (term count : ℕ)
    (counted : count_of key term ≡ Some count) where
  abbrev m : List Event → ℕ → ℕ → ℕ
  m es i j = moved c es name key term i j

  abbrev v : List Event → ℕ → ℕ → ℕ
  v es i j = seen c es name key term i j

  abbrev x : List Event → ℕ → ℕ
  x es i = executions c es (stamp_of key) term i

  abbrev g : List Event → ℕ → ℕ
  g es i = granted c es name key term i

  not_both : (j : ℕ) → c.nodes ≤ j → j < c.nodes → ⊥
  not_both j l k = omega arith

  seen_by_none : (es : List Event) → IsSchedule c es → (j i : ℕ) → c.nodes ≤ j → v es j i ≡ 0
  seen_by_none es s j i l =
      let upto = seen_moved c es s name key term j i in
      let none = moved_by_none c es name key term j i l in
      omega (arith, upto, none)

  -- the rights of a node
  abbrev pub rights_at : (es : List Event) → IsSchedule c es → OneStamp c es name key → ℕ → ℕ
  rights_at es s one i = (balance c es s name key term count counted one i).rights

  pub held_at : (es : List Event) (s : IsSchedule c es) (one : OneStamp c es name key) (i : ℕ) →
      held c es name key term count i ≡ pos (rights_at es s one i)
  held_at es s one i = (balance c es s name key term count counted one i).is

  pub adds_up : (es : List Event) (s : IsSchedule c es) (one : OneStamp c es name key) (i : ℕ) →
      rights_at es s one i + (sum_below c.nodes (λ j. moved c es name key term i j) + executions c es (stamp_of key) term i)
      ≡ cond (i == key.node) count 0 + granted c es name key term i + sum_below c.nodes (λ j. seen c es name key term j i)
  adds_up es s one i =
      let b = balance c es s name key term count counted one i in
      let out : sum_others node_numbers i (m es i) ≡ sum_below c.nodes (m es i) =
      sum_others-is node_numbers i (m es i) (moved_to_self c es name key term i) ∙
      sum-narrow c.nodes node_numbers (m es i) few (λ j l. moved_not_to c es name key term i j (λ ne k. not_both j l k)) in
      let came : sum_others node_numbers i (λ j. v es j i) ≡ sum_below c.nodes (λ j. v es j i) =
      sum_others-is node_numbers i (λ j. v es j i) (seen_self c name key term es i) ∙
      sum-narrow c.nodes node_numbers (λ j. v es j i) few (λ j l. seen_by_none es s j i l) in
      (λ r. b.rights + (sym out r + x es i)) ∙ b.adds_up ∙ ap (λ y. cond (i == key.node) count 0 + g es i + y) came

  module _ (e : Event) (es : List Event) (s : IsSchedule c (e ∷ es)) (one : OneStamp c (e ∷ es) name key)
      (before : OneStamp c es name key) where
    abbrev asked_at : ℕ → Option Asked
    asked_at i = accepted c (world c es) e i

    -- what an event changes at a node
    pub changes : (i : ℕ) →
        rights_at (e ∷ es) s one i + (sum_below c.nodes (λ j. amount_moved ((world c es).node i) (accepted c (world c es) e i) name key term j)
        + acted (stamp_of key) term i ((world c es).node i) (accepted c (world c es) e i) e.words)
        + sum_below c.nodes (λ j. seen c es name key term j i)
        ≡ rights_at es s.1 before i + amount_granted ((world c es).node i) (accepted c (world c es) e i) name key term
        + sum_below c.nodes (λ j. seen c (e ∷ es) name key term j i)
    changes i =
        let now = adds_up (e ∷ es) s one i in
        let then_ = adds_up es s.1 before i in
        let more = sum-add c.nodes (λ j. amount_moved ((world c es).node i) (asked_at i) name key term j) (m es i) in
        let spent = executed_more (stamp_of key) term i ((world c es).node i) ((world c es).trace i) (asked_at i) e.words in
        omega (arith, now, then_, more, spent)

    -- at a node that isn't asked nothing changes
    abbrev seen_same_at : ℕ → Type 0
    seen_same_at i = (j : ℕ) → seen c (e ∷ es) name key term j i ≡ seen c es name key term j i

    pub not_changed : (i : ℕ) → accepted c (world c es) e i ≡ None → seen_same_at i →
        rights_at (e ∷ es) s one i ≡ rights_at es s.1 before i
    not_changed i none same =
        let all = changes i in
        let moved_none : sum_below c.nodes (λ j. amount_moved ((world c es).node i) (asked_at i) name key term j) ≡ 0 =
        sum-zero c.nodes _ (λ j. ap (λ a. amount_moved ((world c es).node i) a name key term j) none) in
        let spent_none : acted (stamp_of key) term i ((world c es).node i) (asked_at i) e.words ≡ 0 =
        ap (λ a. acted (stamp_of key) term i ((world c es).node i) a e.words) none in
        let granted_none : amount_granted ((world c es).node i) (asked_at i) name key term ≡ 0 =
        ap (λ a. amount_granted ((world c es).node i) a name key term) none in
        let seen_none : sum_below c.nodes (λ j. v (e ∷ es) j i) ≡ sum_below c.nodes (λ j. v es j i) =
        sum-same c.nodes _ _ (λ j l. same j) in
        omega (arith, all, moved_none, spent_none, granted_none, seen_none)
