use Rattle.std.proofs.Common.{◌≡◌, ◌∙◌, ◌++◌, ◌∷◌, [], ap, arith, append_assoc, false, map, rules, sym, vec_len}
use Rattle.std.specs.Vec.Iter.{into_iter_items}
use Rattle.std.proofs.lemmas.List.{append-nil, nil_from_length}
use Rattle.std.proofs.lemmas.List.Elements.{All-cons, All-nil, All-tail}
use Rattle.node_registry.specs.Receipts.{AreGivenSince}
use Rattle.node_registry.specs.Seats.{new_seat}
use Rattle.thread_workers.specs.Calls.{lack_memory}
use Rattle.thread_workers.proofs.finished.Finished.with_workers.Goals as goal

pub loop-done-preserved : goal.loop-done-preserved
loop-done-preserved g c =
    let was = c.loop-done.invariant in
    let steps = c.in-Some.ensures.steps in
    let done = c.in-Some.done in
    let rest = into_iter_items c.next.new.self in
    let before = c.loop-done.finished.lists.items in
    let others = map (λ d. d.receipts) rest in
    let enough : lack_memory done.faults.items ≡ false = search rules in
    record {
      len = omega (arith, was.len, steps.1, c.in_ok-finished.ensures.len);
      counted = All-tail (λ d. d.seat.calls ≡ vec_len d.receipts) done rest (rw steps.0 at was.counted);
      given = c.in_ok-finished.ensures.given;
      more = All-tail (λ d. AreGivenSince g.L.Label.config g.L.Label.seed new_seat d.receipts.items) done rest
          (rw steps.0 at was.more);
      lists = ap (λ ls. ls ++ others) c.in_ok-finished.ensures.lists
          ∙ append_assoc before (done.receipts ∷ []) others
          ∙ ap (λ ds. before ++ map (λ d. d.receipts) ds) (sym steps.0) ∙ was.lists;
      memory = λ all. was.memory (rw steps.0 (All-cons (λ d. lack_memory d.faults.items ≡ false) done rest enough all));
    }

pub returns-clause-lists : goal.returns-clause-lists
returns-clause-lists g c =
    let was = c.loop-done.invariant in
    let left = into_iter_items c.loop-done.done-iterator in
    let none : left ≡ [] = nil_from_length left (sym c.loop-done.done-iterator.rest.ok.0 ∙ c.in-None.ensures.steps.0) in
    sym (append-nil c.loop-done.finished.lists.items)
    ∙ ap (λ ds. c.loop-done.finished.lists.items ++ map (λ d. d.receipts) ds) (sym none) ∙ was.lists

pub returns-clause-memory : goal.returns-clause-memory
returns-clause-memory g c =
    let was = c.loop-done.invariant in
    let left = into_iter_items c.loop-done.done-iterator in
    let none : left ≡ [] = nil_from_length left (sym c.loop-done.done-iterator.rest.ok.0 ∙ c.in-None.ensures.steps.0) in
    was.memory (rw none (All-nil (λ d. lack_memory d.faults.items ≡ false)))
