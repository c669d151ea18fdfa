use Rattle.std.proofs.Common.{◌≡◌, ◌∙◌, arith, sym, refl}
use Rattle.std.specs.Vec.Iter.{into_iter_items}
use Rattle.std.proofs.lemmas.List.{nil_from_length}
use Rattle.std.specs.Prelude.{MatchResult}
use Rattle.node_registry.specs.Workers.{IsDone}
use Rattle.node_registry.proofs.WorkersLemmas.{AllZip-next, finished}
use Rattle.node_registry.proofs.workers.join_all.Goals as goal
use Rattle.node_registry.proofs.workers.join_all.Goals.{in-Ok, in-Err}

pub loop-worker-preserved : goal.loop-worker-preserved
loop-worker-preserved g c =
    let was = c.loop-worker.invariant in
    let steps = c.in-Some.ensures.steps in
    let pushed = c.push_reserved.ensures in
    let here : MatchResult c.in-Some.worker (λ h. IsDone g.L.Label.config g.L.Label.seed
    (g.G.Gate.says h.promise.gate.value h.promise.worker) (g.G.Gate.hears h.promise.gate.value h.promise.worker)
    h.promise.was.value h.promise.asks.value.items c.match-worker.done) (λ e. c.match-worker.done ≡ e) =
    elim c.match-worker.branch [
      | in-Ok w ↦ rw (w.in-Ok.is, w.done-is) w.join-done.ensures
      | in-Err w ↦ rw (w.in-Err.is, w.done-is) refl
    ] in record {
      room = omega (arith, steps.1, pushed.len, pushed.capacity);
      each = λ rest h.
          AllZip-next _ (into_iter_items c.loop-worker.worker-iterator) (into_iter_items c.next.new.self)
          c.in-Some.worker c.loop-worker.dones.items rest c.push_reserved.new.self.items c.match-worker.done
          c.args.workers.items was.each steps.0 here pushed.items h;
    }

pub returns : goal.returns
returns g c =
    let was = c.loop-worker.invariant in
    let steps = c.in-None.ensures.steps in
    finished _ (into_iter_items c.loop-worker.worker-iterator) c.args.workers.items c.loop-worker.dones.items was.each
    (nil_from_length (into_iter_items c.loop-worker.worker-iterator)
    (sym c.loop-worker.worker-iterator.rest.ok.0 ∙ steps.0))
