use Rattle.std.proofs.Common.{◌≡◌, ◌-◌, ◌++◌, ◌∙◌, take, length, sym, ap, subst, append_assoc}
use Rattle.http_exchange.specs.Checked.{HasChecked}
use Rattle.http_exchange.proofs.Blocks.{three_parts}
use Rattle.http_exchange.proofs.text_check.TextCheck.add.Goals as goal
use Rattle.http_exchange.proofs.text_check.TextCheck.add.Goals.{then-self-eq0, else-self-eq0}

pub returns : goal.returns
returns c came h =
    let one = c.add_bytes.ensures came h in
    let front = c.split_at.result.0.now in
    let back = c.split_at.result.1.now in
    let whole = c.split_at.ensures.by_index.0 in
    elim c.if-self-eq0.branch [
      | then-self-eq0 w ↦
          let blocks = w.add_blocks-rest.ensures in
          let taken = (came ++ front) ++ take (length back - length w.add_blocks-rest.result.now) back in
          subst (HasChecked c.add_bytes-2.new.self)
          (ap (λ r. taken ++ r.now) w.rest-is ∙ ap (λ t. taken ++ t) blocks.rest.1
          ∙ three_parts came front back c.args.piece.now _ whole)
          (c.add_bytes-2.ensures taken
          (subst (λ s. HasChecked s taken) (sym w.self-is) (blocks.all (came ++ front) one)))
      | else-self-eq0 w ↦
          subst (HasChecked c.add_bytes-2.new.self)
          (ap (λ r. (came ++ front) ++ r.now) w.rest-is ∙ append_assoc came front back
          ∙ ap (λ t. came ++ t) (sym whole))
          (c.add_bytes-2.ensures (came ++ front) (subst (λ s. HasChecked s (came ++ front)) (sym w.self-is) one))
    ]
