-- That a chart's story tells of a world, and that it does so before the first call.
use Rattle.std.proofs.Common.{◌≡◌, inl, inr, ℕ, ◌+◌, ◌<◌, ◌≤◌, ◌==◌, cond, Bool, true, false, List, [], length, nat_le, slice_get, refl, sym, ap, arith, Some}
use Rattle.std.proofs.lemmas.Bool.Decides.{leb_tells}
use Rattle.std.proofs.lemmas.List.{length-replicate}
use Rattle.counters.specs.Sums.{node_numbers}
use Rattle.counters.proofs.SumLemmas.{sum-zero}
use Rattle.stamp_register.specs.Keys.{KeyValue, stamp_of}
use Rattle.operations.specs.Operations.{count_of}
use Rattle.replica_state.specs.Folds.{fold as fold_ops}
use Rattle.cluster_model.specs.Worlds.{Cluster, Event, world}
use Rattle.cluster_model.specs.Schedules.{IsSchedule}
use Rattle.cluster_model.specs.Histories.{seen, all_granted, all_executions}
use Rattle.cluster_model.proofs.Stamps.{OneStamp}
use Rattle.drill_picture.specs.Stories.{ParcelTold as Parcel}
use Rattle.drill_picture.specs.Knowing.{knows_nothing}
use Rattle.drill_picture.specs.Rights.{RowTold}
use Rattle.drill_picture.specs.Stories.{StoryTold, first_story}
use Rattle.picture_laws.proofs.Rows.{RowIs}
use Rattle.picture_laws.proofs.Chains.{amounts_to}
use Rattle.picture_laws.proofs.Knows.{known_of}
use Rattle.picture_laws.proofs.Balanced.{rights_at, adds_up}
use Rattle.picture_laws.proofs.Parcels.{HasParcels, nothing_sent}
use Rattle.picture_laws.proofs.Calls.{get_replicate, index_replicate}

module _ (c : Cluster) (few : c.nodes ≤ node_numbers) (name : List ℕ) (key : KeyValue) (term count : ℕ)
    (counted : count_of key term ≡ Some count) where
  -- what is yet to be counted
  abbrev pub yet : List Event → ℕ
  yet es = cond (nat_le key.clock ((world c es).node key.node).marks.clock) 0 count

  abbrev pub HasRow : (es : List Event) (s : IsSchedule c es) → OneStamp c es name key → ℕ → List Parcel → RowTold → Type 0
  HasRow es s one left parcels row =
      RowIs c.nodes key.node left (count + all_granted c es name key term) (all_executions c es (stamp_of key) term)
      (λ i. rights_at c few name key term count counted es s one i) (λ j. amounts_to j parcels) row

  -- the story tells of this world
  pub record Tells (es : List Event) (s : IsSchedule c es) (one : OneStamp c es name key) (t : StoryTold) : Type 0 where
    pub long : length t.known ≡ c.nodes
    pub knows : (i : ℕ) → i < c.nodes → slice_get t.known i ≡ Some (known_of name ((world c es).node i))
    pub rights : HasRow es s one (yet es) t.parcels t.row
    pub parcels : HasParcels c name key term es t.parcels

  -- ---- before the first call

  made_later : 1 ≤ key.clock → yet [] ≡ count
  made_later some = elim (leb_tells key.clock 0) [
    | inl w ↦ (let none = w.1 in absurd (omega (arith, none, some)))
    | inr w ↦ ap (λ t. cond t 0 count) w.0
  ]

  pub first_tells : 1 ≤ key.clock → (s : IsSchedule c []) (one : OneStamp c [] name key) →
      Tells [] s one (first_story c.nodes)
  unfolding fold_ops
  first_tells some s one = record {
    long = length-replicate _ _;
    knows = λ i low. get_replicate c.nodes i knows_nothing low;
    rights = record {
      held_long = length-replicate _ _;
      way_long = length-replicate _ _;
      whole_is =
          let none = sum-zero c.nodes (λ i. 0) (λ i. refl) in
          let all = made_later some in
          omega (arith, none, all);
      spent_is = sym (sum-zero c.nodes (λ i. 0) (λ i. refl));
      held_is = λ i low.
          let none = index_replicate c.nodes i in
          let all : ◌≡◌ {A = ℕ} (cond (i == key.node) (yet []) 0) (cond (i == key.node) count 0) =
          ap (λ k. cond (i == key.node) k 0) (made_later some) in
          let up = adds_up c few name key term count counted [] s one i in
          let out = sum-zero c.nodes (λ j. 0) (λ j. refl) in
          let in_ = sum-zero c.nodes (λ j. seen c [] name key term j i) (λ j. nothing_seen (j == i)) in
          omega (arith, none, all, up, out, in_);
      way_is = λ j low. index_replicate c.nodes j;
    };
    parcels = nothing_sent c name key term;
  }
    where
      nothing_seen : (t : Bool) → ◌≡◌ {A = ℕ} (cond t 0 0) 0
      nothing_seen true = refl
      nothing_seen false = refl
