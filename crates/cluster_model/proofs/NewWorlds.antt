-- A new world, where nothing has happened.
use Rattle.std.proofs.Common.{◌≡◌, ℕ, ◌<◌, ◌≤◌, arith, List, [], length, map, refl, sym, ◌∙◌, ap, subst, Option, Some}
use Rattle.std.specs.Prelude.{slice_get}
use Rattle.std.specs.List.{range_with_len}
use Rattle.std.proofs.lemmas.List.FromFn.{length-map-range_with_len, get_or-map-range_with_len}
use Rattle.std.proofs.lemmas.Option.{slice_get-get_or}
use Rattle.counters.specs.Sums.{node_numbers}
use Rattle.message_format.specs.Limits.{max_nodes}
use Rattle.node_core.specs.Traces.{Kept}
use Rattle.cluster_model.specs.declared.world.Place.{Place}
use Rattle.cluster_model.specs.Worlds.{Cluster}
use Rattle.cluster_model.specs.Events.{WorldValue, new_node, new_world}
use Rattle.cluster_model.specs.Places.{IsWorld, world_of}
use Rattle.cluster_model.specs.Runs.{HasHistory}
use Rattle.cluster_model.proofs.Lists.{get_below}

module _ (c : Cluster) where
  abbrev nodes : List Kept
  nodes = map (new_node c) (range_with_len 0 c.nodes)

  size : length nodes ≡ c.nodes
  size = length-map-range_with_len (new_node c) 0 c.nodes

  there : (i : ℕ) → i < c.nodes → slice_get nodes i ≡ Some (new_node c i)
  there i low =
      let inside : i < length nodes = omega (arith, low, size) in
      slice_get-get_or nodes i (new_node c i) inside ∙ ap (λ (k : Kept). Some k)
      (get_or-map-range_with_len (new_node c) 0 c.nodes i i (new_node c i) low (omega arith))

  is_new : (i : ℕ) (k : Kept) → slice_get nodes i ≡ Some k → k ≡ new_node c i
  is_new i k here =
      let inside = get_below nodes i k here in
      let same : ◌≡◌ {A = Option Kept} (Some k) (Some (new_node c i)) = sym here ∙
      there i (omega (arith, inside, size)) in
      cc

  no_places : IsWorld nodes []
  no_places =
      record {
        sizes = λ i k h. ap (λ (n : Kept). n.config.nodes) (is_new i k h) ∙ sym size;
        numbers = λ i k h. ap (λ (n : Kept). n.config.node) (is_new i k h);
        whole = λ i k h. ap (λ (n : Kept). n.from) (is_new i k h);
        placed = λ n p h. absurd (let low = get_below {A = Place} [] n p h in omega (arith, low));
      }

  nothing_happened : c.nodes ≤ max_nodes → HasHistory c [] (new_world c)
  unfolding node_numbers
  nothing_happened few =
      record {
        few = omega (arith, few);
        size = size;
        nodes = there;
        messages = refl;
        schedule = tt;
      }

  -- as the code makes it
  module _ (items : List Kept) (places : List Place) (made : items ≡ nodes) (none : places ≡ []) where
    pub new_is_world : IsWorld items places
    new_is_world = subst (λ (ns : List Kept). IsWorld ns places) (sym made)
        (subst (λ (ps : List Place). IsWorld nodes ps) (sym none) no_places)

    pub new_is : world_of items places ≡ new_world c
    new_is = ap (λ (ns : List Kept). world_of ns places) made ∙ ap (λ (ps : List Place). world_of nodes ps) none

    pub new_history : c.nodes ≤ max_nodes → HasHistory c [] (world_of items places)
    new_history few = subst (λ (w : WorldValue). HasHistory c [] w) (sym new_is) (nothing_happened few)
