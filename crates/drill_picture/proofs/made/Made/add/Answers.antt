use Rattle.std.proofs.Common.{◌∙◌, ap, cond, true}
use Rattle.std.proofs.lemmas.Map.Text.{is_eq-slice_cmp}
use Rattle.drill_picture.specs.Boards.{has_made}
use Rattle.drill_picture.proofs.made.Made.add.Goals as goal

pub returns : goal.returns
unfolding has_made
returns c = λ b.
    c.in_ok-insert.ensures.updates.0 (record { ref_ptr = (0, 0); now = b })
    ∙ ap (λ t. cond t true (has_made c.args.self.now b)) (is_eq-slice_cmp c.args.bytes.now b)
