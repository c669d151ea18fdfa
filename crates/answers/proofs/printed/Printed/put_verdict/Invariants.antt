use Rattle.std.proofs.Common.{◌≡◌, ◌++◌, drop, map, flat_map}
use Rattle.audit.specs.declared.total.Total.{Total}
use Rattle.answers.specs.Answers.{budget}
use Rattle.answers.specs.Printing.{written}
use Rattle.answers.proofs.printed.Printed.put_verdict.Given as goal

abbrev pub invariant-loop-total : goal.invariant-loop-total
invariant-loop-total l = record {
  bytes : l.self.bytes ++ flat_map (λ (t : Total). written l.self.format (budget t)) (drop l.total-index l.total-items)
      ≡ l.initial.self.bytes ++ flat_map (λ (t : Total). written l.self.format (budget t)) l.total-items;
  format : l.self.format ≡ l.initial.self.format;
}
