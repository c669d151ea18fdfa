use Rattle.std.proofs.Common.{◌+◌, ◌==◌, cond, true, sym, ap, ◌∙◌, arith}
use Rattle.drill_picture.specs.Boards.{has_made}
use Rattle.drill_picture.specs.Calls.{call_at, makes}
use Rattle.drill_picture.specs.Placing.{count_at, is_made}
use Rattle.drill_picture.proofs.Growing.{count_more, made_more}
use Rattle.drill_picture.proofs.placing.add_place.Goals as goal

pub returns-clause-kept : goal.returns-clause-kept
returns-clause-kept c =
    let traces = c.args.traces.now in
    let places = c.args.board.now.places.items in
    let place = c.args.place in
    record {
      each = c.in_ok-count_up.ensures.len ∙ c.requires.each;
      reached = λ node within.
          c.in_ok-count_up.ensures.counts node (omega (arith, c.requires.each, within))
          ∙ ap (λ k. k + cond (place.node == node) 1 0) (c.requires.reached node within)
          ∙ sym (count_more node places place) ∙ ap (λ ps. count_at node ps) (sym c.in_ok-push.ensures.items);
      made = λ bytes.
          c.in_ok-add_call.ensures bytes
          ∙ ap (λ call. cond (makes bytes call) true (has_made c.args.board.now.made bytes)) c.call_at.ensures
          ∙ ap (λ t. cond (makes bytes (call_at traces place.node place.index)) true t) (c.requires.made bytes)
          ∙ sym (made_more traces places place bytes)
          ∙ ap (λ ps. is_made traces ps bytes) (sym c.in_ok-push.ensures.items);
    }
