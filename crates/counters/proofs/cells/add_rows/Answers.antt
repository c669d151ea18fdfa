use Rattle.std.specs.Prelude.{◌≡◌, ◌<◌, ◌^◌, [], get_or, pos}
use Rattle.std.proofs.Common.{arith, refl, rules, ◌∙◌}
use Rattle.std.proofs.lemmas.Int.{ints}
use Rattle.counters.specs.Cells.{came_to, went_from}
use Rattle.counters.proofs.CellLemmas.{apart-map, apart-tail, came_to-bound, came_to-empty, went_from-bound, went_from-empty}
use Rattle.counters.proofs.Columns.{bounds-rows, came-entry, went-entry, within-places}
use Rattle.counters.proofs.cells.add_rows.Goals as goal

pub loop-node-init : goal.loop-node-init
loop-node-init c =
    let all : c.into_iter-node-iterator.result ≡ c.args.rows.now = cc in
    rw all (record {
      apart = apart-map c.args.rows.now c.iter-node-items.ensures.is_map.ordered;
      came = λ i. omega arith;
      went = λ i. omega arith;
      len = refl;
      sums = λ i low. refl;
    })

pub add_row-requires : goal.add_row-requires
add_row-requires c = within-places (2 ^ 100) c.loop-node.sums (λ i low. bounds-rows
    (get_or c.args.sums.now i (pos 0)) (get_or c.loop-node.sums i (pos 0))
    (came_to c.loop-node.node-iterator i) (came_to c.args.rows.now i)
    (went_from c.loop-node.node-iterator i) (went_from c.args.rows.now i)
    (c.loop-node.invariant.sums i low) (c.loop-node.invariant.came i) (c.loop-node.invariant.went i)
    (came_to-bound i c.args.rows.now c.iter-node-items.ensures.is_map)
    (went_from-bound i c.args.rows.now c.iter-node-items.ensures.is_map) (c.requires i).0 (c.requires i).1)

pub loop-node-preserved : goal.loop-node-preserved
loop-node-preserved c =
    let k = c.in-Some.node.now in
    let v = c.in-Some.row.now in
    let rest = c.next.new.self in
    let below : k < 256 = omega arith in
    let before = rw c.in-Some.ensures.steps at c.loop-node.invariant in
    let long = c.add_row.ensures.len in
    record {
      apart = apart-tail k v rest before.apart;
      came = λ i. omega (arith, before.came i, came-entry k v rest below before.apart i);
      went = λ i. omega (arith, before.went i, went-entry k v rest before.apart i);
      len = long ∙ c.loop-node.invariant.len;
      sums = λ i low.
          let came = came-entry k v rest below before.apart i in
          let went = went-entry k v rest before.apart i in
          let sum = before.sums i (omega (arith, low, long)) in
          let each = c.add_row.ensures.each i (omega (arith, low, long)) in
          omega (arith, ints);
    }

pub returns-clause-sums : goal.returns-clause-sums
returns-clause-sums c =
    let none : c.loop-node.node-iterator ≡ [] = search rules in
    let before = rw none at c.loop-node.invariant in
    let long = c.loop-node.invariant.len in
    record {
      len = long;
      each = λ i low.
          let sum = before.sums i (omega (arith, low, long)) in
          let came = came_to-empty i in
          let went = went_from-empty i in
          omega (arith, ints);
    }

pub returns-clause-small : goal.returns-clause-small
returns-clause-small c = within-places (2 ^ 100) c.loop-node.sums (λ i low. bounds-rows
    (get_or c.args.sums.now i (pos 0)) (get_or c.loop-node.sums i (pos 0))
    (came_to c.loop-node.node-iterator i) (came_to c.args.rows.now i)
    (went_from c.loop-node.node-iterator i) (went_from c.args.rows.now i)
    (c.loop-node.invariant.sums i low) (c.loop-node.invariant.came i) (c.loop-node.invariant.went i)
    (came_to-bound i c.args.rows.now c.iter-node-items.ensures.is_map)
    (went_from-bound i c.args.rows.now c.iter-node-items.ensures.is_map) (c.requires i).0 (c.requires i).1)
