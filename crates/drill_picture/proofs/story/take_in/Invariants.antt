use Rattle.std.proofs.Common.{◌≡◌, ◌++◌, drop, filter, fold, map, not}
use Rattle.message_format.specs.Messages.{entry_value}
use Rattle.drill_picture.specs.Budgets.{budget_told}
use Rattle.drill_picture.specs.Rights.{after_arrival, is_brought}
use Rattle.drill_picture.proofs.story.take_in.Given as goal

abbrev pub invariant-loop-parcel : goal.invariant-loop-parcel
invariant-loop-parcel l = record {
  row : fold (λ r p. after_arrival l.node r p.amount) l.row
      (filter (is_brought (budget_told l.budget) l.node (map entry_value l.entries)) (drop l.parcel-index l.parcels))
      ≡ fold (λ r p. after_arrival l.node r p.amount) l.initial.row
      (filter (is_brought (budget_told l.budget) l.node (map entry_value l.entries)) l.parcels);
  left : l.left.items ++ filter (λ p. not (is_brought (budget_told l.budget) l.node (map entry_value l.entries) p))
      (drop l.parcel-index l.parcels)
      ≡ filter (λ p. not (is_brought (budget_told l.budget) l.node (map entry_value l.entries) p)) l.parcels;
}
