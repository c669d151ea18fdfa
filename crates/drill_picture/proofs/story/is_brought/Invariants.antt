use Rattle.std.proofs.Common.{◌≡◌, drop, map}
use Rattle.std.specs.List.{list_any}
use Rattle.message_format.specs.Messages.{entry_value}
use Rattle.drill_picture.specs.Budgets.{budget_told}
use Rattle.drill_picture.specs.Rights.{entry_covers}
use Rattle.drill_picture.proofs.story.is_brought.Given as goal

abbrev pub invariant-loop-entry : goal.invariant-loop-entry
invariant-loop-entry l =
    list_any (entry_covers (budget_told l.budget) l.parcel) (map entry_value (drop l.entry-index l.entries))
    ≡ list_any (entry_covers (budget_told l.budget) l.parcel) (map entry_value l.entries)
