use Rattle.std.proofs.Common.{◌≡◌, drop, fold, map}
use Rattle.message_format.specs.Messages.{entry_value}
use Rattle.drill_picture.specs.Knowing.{heard}
use Rattle.drill_picture.proofs.known.Known.heard_all.Given as goal

abbrev pub invariant-loop-entry : goal.invariant-loop-entry
invariant-loop-entry l = fold (heard l.name) l.known (map entry_value (drop l.entry-index l.entries))
    ≡ fold (heard l.name) l.fn.self (map entry_value l.entries)
