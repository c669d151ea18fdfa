use Rattle.std.proofs.Common.{◌∙◌, ap, cond, true}
use Rattle.std.proofs.lemmas.Map.Text.{is_eq-slice_cmp}
use Rattle.audit.specs.Boards.{has_sent}
use Rattle.audit.proofs.sent.Sent.add.Goals as goal

pub returns : goal.returns
unfolding has_sent
returns c = λ b.
    c.in_ok-insert.ensures.updates.0 (record { ref_ptr = (0, 0); now = b })
    ∙ ap (λ t. cond t true (has_sent c.args.self.now b)) (is_eq-slice_cmp c.args.bytes.now b)
