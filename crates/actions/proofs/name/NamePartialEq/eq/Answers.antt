use Rattle.std.proofs.Common.{◌∙◌, ap, arith, bytes_eq, ℕ, List, string_bytes}
use Rattle.actions.proofs.Fronts.{same_so}
use Rattle.actions.proofs.name.NamePartialEq.eq.Goals as goal

pub returns-then-len-le8-2 : goal.returns-then-len-le8-2
returns-then-len-le8-2 c =
    let mine = string_bytes c.self.inside.text in
    let other = string_bytes c.other.inside.text in
    same_so c.self.inside.front c.other.inside.front mine other c.if-self-other.false
    (c.self.invariant, c.self.inside.front_is) (c.other.invariant, c.other.inside.front_is)
    (omega (arith, c.len.ensures, c.if-len-le8.true))
    (omega (arith, c.len-then-len-le8.ensures, c.if-len-le8-2.true)) ∙
    ap (λ (bs : List ℕ). bytes_eq bs other) c.self.view_is ∙
    ap (λ (bs : List ℕ). bytes_eq c.args.self.now bs) c.other.view_is
