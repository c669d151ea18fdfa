use Rattle.std.proofs.Common.{◌≡◌, [], ◌∷◌, ◌++◌, List, ℕ, map, ap, refl, subst, sym, ◌∙◌}
use Rattle.std.proofs.lemmas.List.{map-append}
use Rattle.std.proofs.lemmas.Map.Keys.{sorted_head, sorted_tail}
use Rattle.std.specs.List.{flat_map}
use Rattle.std.specs.List.Sorted.{IsStrictlySortedBy}
use Rattle.std.specs.Ordering.{nat_cmp}
use Rattle.std.specs.Cmp.Lexicographic.{slice_cmp}
use Rattle.replica_state.proofs.NamesHeld.{names_are_held}
use Rattle.replica_state.specs.Cells.{held_at}
use Rattle.replica_state.specs.States.{State}
use Rattle.sharing.specs.Memory.{recall}
use Rattle.sharing.specs.Remembered.{recalled, recalled_all, recalled_at}
use Rattle.sharing.specs.Shares.{memory_after, point_shifts, recalled_after, shifts_of}
use Rattle.sharing.proofs.Recalling.{recalls_itself, recalls_later}
use Rattle.sharing.proofs.Walks.{added_before}
use Rattle.sharing.proofs.memory.round_of.Goals as goal

pub loop-name-init : goal.loop-name-init
unfolding shifts_of memory_after
loop-name-init g c =
    let v = g.R.Replica.state c.args.replica.now in
    let memory = recalled_all c.args.memory.now in
    let names = c.points-name-items.ensures.names in
    record {
      shifts = rw c.into_iter-name-iterator.ensures.into_iter_gives
          (λ i. c.new-shifts.ensures.items i
          ++ flat_map (λ name. point_shifts v c.args.node c.args.nodes (recall memory name) name)
          (names i));
      after = rw c.into_iter-name-iterator.ensures.into_iter_gives
          (λ i. map recalled (c.list-points.ensures i)
          ++ map (λ name. recalled_after v c.args.node c.args.nodes (recall memory name) name)
          (names i));
      ascending = rw c.into_iter-name-iterator.ensures.into_iter_gives
          (subst (λ (ns : List (List ℕ)). IsStrictlySortedBy (slice_cmp nat_cmp) ns) (sym names)
          (names_are_held v (g.met.R.Replica.reached c.args.replica.now)).ascending);
      recalls = recalls_itself memory _;
      room = c.in_ok-fit.ensures;
      held = rw c.into_iter-name-iterator.ensures.into_iter_gives c.points-name-items.ensures.held;
    }

pub loop-name-preserved : goal.loop-name-preserved
loop-name-preserved g c =
    let v = g.R.Replica.state c.args.replica.now in
    let memory = recalled_all c.args.memory.now in
    let node = c.args.node in
    let nodes = c.args.nodes in
    let name : List ℕ = c.in-Some.name.now in
    let left = map (λ e. e.0) c.next.new.self in
    let before = rw c.in-Some.ensures.steps at c.loop-name.invariant in
    let found : recalled_at c.recall-remembered.result ≡ recall memory name =
    c.recall-remembered.ensures ∙ c.from_name-rest.ensures.here ∙ before.recalls.0 in
    let rec = recalled_at c.recall-remembered.result in
    let same : c.in_ok-entry.entry.name ≡ name = c.in_ok-entry.ensures.entry.name in
    let held = g.R.Point.Stored.held c.in-Some.stored.now in
    let made = subst (λ (n : List ℕ). (w : State) → held ≡ held_at w n → c.push_point.new.shifts.items
    ≡ c.loop-name.shifts.items ++ point_shifts w node nodes rec n) same c.in_ok-after.ensures.shifts v before.held.0 in
    let kept = subst (λ (n : List ℕ). (w : State) → held ≡ held_at w n → recalled c.in_ok-after.after
    ≡ recalled_after w node nodes rec n) same c.in_ok-after.ensures.memory v before.held.0 in
    let shifts = c.loop-name.shifts.items in
    let points = c.loop-name.points.items in
    record {
      shifts = added_before shifts (point_shifts v node nodes (recall memory name) name)
          (flat_map (λ n. point_shifts v node nodes (recall memory n) n) left)
          (made ∙ ap (λ r. shifts ++ point_shifts v node nodes r name) found)
          before.shifts refl;
      after = added_before (recalled_all points) (recalled_after v node nodes (recall memory name) name ∷ [])
          (map (λ n. recalled_after v node nodes (recall memory n) n) left)
          (ap (map recalled) c.in_ok-push.ensures.items ∙ map-append recalled points _
          ∙ ap (λ a. recalled_all points ++ a ∷ [])
          (kept ∙ ap (λ r. recalled_after v node nodes r name) found))
          before.after refl;
      ascending = sorted_tail (slice_cmp nat_cmp) name left before.ascending;
      recalls = recalls_later _ _ memory name left c.from_name-rest.ensures.above
          (sorted_head (slice_cmp nat_cmp) name left before.ascending) before.recalls.1;
      room = c.in_ok-after.ensures.room;
      held = before.held.1;
    }
