use Rattle.std.proofs.Common.{◌≡◌, ◌∙◌}
use Rattle.std.specs.Ordering.{nat_cmp, ordering_then}
use Rattle.stamp_register.proofs.KeyLemmas.{then_assoc}
use Rattle.stamp_register.proofs.key.KeyOrd.cmp.Goals as goal

pub returns : goal.returns
returns c =
    let key = c.args.self.now in
    let other = c.args.other.now in
    let stamps : c.then.result ≡ ordering_then (nat_cmp key.clock other.clock) (nat_cmp key.node other.node) =
    c.then.ensures ∙ (λ i. ordering_then (c.cmp.ensures i) (c.cmp-2.ensures i)) in
    c.then-2.ensures ∙ (λ i. ordering_then (stamps i) (c.cmp-3.ensures i)) ∙
    then_assoc (nat_cmp key.clock other.clock) _ _
