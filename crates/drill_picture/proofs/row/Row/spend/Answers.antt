use Rattle.std.proofs.Common.{ℕ, ◌<◌, ◌-◌, ◌∙◌, arith, length}
use Rattle.std.proofs.lemmas.List.{get_or_read, length-set}
use Rattle.std.proofs.lemmas.List.Sums.{sum_by-set}
use Rattle.drill_picture.proofs.row.Row.spend.Goals as goal

pub invariant_of-self : goal.invariant_of-self
invariant_of-self c =
    let held = c.self.inside.held in
    let node = c.args.node in
    let within : node < length held.items = omega (arith, held.ok.0) in
    let had = get_or_read held.items _ _ within c.index.ensures 0 in
    let has = get_or_read held.items _ _ within c.index_mut.ensures.value 0 in
    let less = sum_by-set (λ (x : ℕ). x) held.items node (c.index_mut.result.now - 1) 0 within in (
      omega (arith, had, has, less, c.if-index-gt0.true, c.self.invariant.0),
      c.self.invariant.1,
      length-set held.items node _ ∙ c.self.invariant.2,
    )
