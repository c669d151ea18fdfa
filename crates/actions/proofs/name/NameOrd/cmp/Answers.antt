use Rattle.std.proofs.Common.{◌∙◌, ap, arith, ℕ, List, string_bytes}
use Rattle.std.specs.Ordering.{nat_cmp}
use Rattle.std.specs.Cmp.Lexicographic.{slice_cmp}
use Rattle.actions.proofs.Fronts.{equal_so, ordered_so}
use Rattle.actions.proofs.name.NameOrd.cmp.Goals as goal

pub returns-in-Less : goal.returns-in-Less
returns-in-Less c =
    let mine = string_bytes c.self.inside.text in
    let other = string_bytes c.other.inside.text in
    ordered_so c.cmp.result c.self.inside.front c.other.inside.front mine other c.in-Less.is c.cmp.ensures
    (c.self.invariant, c.self.inside.front_is) (c.other.invariant, c.other.inside.front_is) ∙
    ap (λ (bs : List ℕ). slice_cmp nat_cmp bs other) c.self.view_is ∙
    ap (λ (bs : List ℕ). slice_cmp nat_cmp c.args.self.now bs) c.other.view_is

pub returns-in-Equal : goal.returns-in-Equal
returns-in-Equal c =
    let mine = string_bytes c.self.inside.text in
    let other = string_bytes c.other.inside.text in
    equal_so c.cmp.result c.self.inside.front c.other.inside.front mine other c.in-Equal.is c.cmp.ensures
    (c.self.invariant, c.self.inside.front_is) (c.other.invariant, c.other.inside.front_is)
    (omega (arith, c.len.ensures, c.if-len-le8.true))
    (omega (arith, c.len-then-len-le8.ensures, c.if-len-le8-2.true)) ∙
    ap (λ (bs : List ℕ). slice_cmp nat_cmp bs other) c.self.view_is ∙
    ap (λ (bs : List ℕ). slice_cmp nat_cmp c.args.self.now bs) c.other.view_is
