use Rattle.std.proofs.Common.{◌≡◌, length, replicate, slice_index, ap, sym, ◌∙◌, rules}
use Rattle.std.proofs.lemmas.List.{get_or-replicate, length-replicate}
use Rattle.drill_picture.specs.Placing.{count_at, is_made}
use Rattle.drill_picture.proofs.placing.empty_board.Goals as goal

pub returns-clause-kept : goal.returns-clause-kept
unfolding count_at is_made
returns-clause-kept c =
    let zeros : c.in_ok-vec.field-0.items ≡ replicate (length c.args.traces.now) 0 =
    c.in_ok-vec.ensures.items_if_clones_equal (search rules) in
    record {
      each = ap (λ xs. length xs) zeros ∙ length-replicate _ _;
      reached = λ node within. ap (λ xs. slice_index xs node) zeros
          ∙ get_or-replicate (length c.args.traces.now) node 0 0 within
          ∙ ap (λ ps. count_at node ps) (sym c.new.ensures.items);
      made = λ bytes. c.new-2.ensures bytes
          ∙ ap (λ ps. is_made c.args.traces.now ps bytes) (sym c.new.ensures.items);
    }
