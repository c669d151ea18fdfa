use Rattle.std.specs.Prelude.{true}
use Rattle.std.proofs.Common.{arith, refl, sym, ◌∙◌, ⊎_elim}
use Rattle.std.proofs.lemmas.Bool.{cases_lt}
use Rattle.std.proofs.lemmas.List.{get_or-replicate}
use Rattle.counters.proofs.Known.{past-short}
use Rattle.counters.proofs.balances.marked.Goals as goal

pub loop-place-init : goal.loop-place-init
loop-place-init c =
    record {
      len = refl;
      before = λ node low. absurd (omega (arith, low));
      behind = λ node _ low. get_or-replicate 32 node true true low;
    }

pub returns : goal.returns
returns c = λ node low.
    let balances = c.args.balances.now in
    ⊎_elim
    (λ before. c.loop-place.invariant.before node before)
    (λ past. c.loop-place.invariant.behind node past low
    ∙ sym (past-short balances node (omega (arith, past, low, c.loop-place.invariant.len, c.loop-place-test.false, c.min-place-end.ensures))))
    (cases_lt node c.loop-place.place)
