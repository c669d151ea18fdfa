use Rattle.std.proofs.Common.{◌≡◌, ◌++◌, take, flat_map, string_bytes}
use Rattle.audit.specs.VerdictText.{total_line}
use Rattle.audit.proofs.verdict.push_totals.Given as goal

abbrev pub invariant-loop-total : goal.invariant-loop-total
invariant-loop-total l =
    string_bytes l.text ≡ string_bytes l.initial.text ++ flat_map total_line (take l.total-index l.totals)
