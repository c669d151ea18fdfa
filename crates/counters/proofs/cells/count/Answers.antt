use Rattle.std.specs.Prelude.{◌≡◌, ℕ, Option, Result, Ok, Err, None, IfErr}
use Rattle.std.proofs.Common.{inr, rules}
use Rattle.counters.specs.Refusals.{IsRefusal}
use Rattle.counters.specs.declared.fault.CounterFault.{CounterFault}
use Rattle.counters.specs.declared.fault.CounterFault.TheVariants.{OutOfMemory}
use Rattle.counters.proofs.CellLemmas.{cell-past}
use Rattle.counters.proofs.WriteLemmas.{wrote_cell}
use Rattle.counters.proofs.cells.count.Goals as goal

refused_so : {A : Type 0} (r : Result A CounterFault) (refusal : Option CounterFault) (now : ℕ) → refusal ≡ None →
    now ≡ 0 → IfErr r (λ fault. fault ≡ OutOfMemory) → IfErr r (IsRefusal refusal now)
refused_so (Ok x) refusal now none zero h = tt
refused_so (Err fault) refusal now none zero h = inr (none, zero, h)

pub returns-in_err-put-clause-refused : goal.returns-in_err-put-clause-refused
returns-in_err-put-clause-refused c =
    refused_so c.from_residual.result _ _ (search rules)
    (cell-past c.args.cells.now c.args.node c.in_err-put.ensures.beyond) (search rules)

pub returns-clause-after : goal.returns-clause-after
returns-clause-after c = wrote_cell _ _ _ _ c.in_ok-put.ensures.ok
