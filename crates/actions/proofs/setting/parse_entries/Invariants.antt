use Rattle.std.proofs.Common.{◌≡◌, drop, map}
use Rattle.actions.specs.SettingReading.{entries_at}
use Rattle.actions.proofs.EntryLemmas.{with_front}
use Rattle.actions.proofs.setting.parse_entries.Given as goal

abbrev pub invariant-loop-index : goal.invariant-loop-index
invariant-loop-index l =
    with_front l.points.items (entries_at l.index (map (λ x. x.now) (drop l.index l.entries))) ≡ entries_at 0
    (map (λ x. x.now) l.entries)
