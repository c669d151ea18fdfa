use Rattle.std.proofs.Common.{◌≡◌, ℕ, List, ◌∷◌, ◌++◌, [], length, cond, Some, None, ◌∙◌, ap, sym, rules}
use Rattle.std.specs.Prelude.{bytes_eq}
use Rattle.node_for_c.specs.Points.{number_in}
use Rattle.node_for_c.proofs.NumberedPoints.{got_last, numbered_more, same_name}
use Rattle.node_for_c.proofs.points.Points.number.Goals as goal

is_next : (c : goal.After-push_reserved) → c.in-Ok.number ≡ length c.self.inside.names.items
is_next c = search rules

has_items : (c : goal.After-push_reserved) → c.push_reserved.new.self.items ≡ c.self.inside.names.items ++ c.args.name ∷ []
has_items c = search rules

has_none : (c : goal.After-push_reserved) → number_in c.self.inside.numbers.entries c.args.name ≡ None
has_none c = search rules

put : (c : goal.After-push_reserved) (other : List ℕ) → number_in c.insert.new.self.entries other
    ≡ cond (bytes_eq c.args.name other) (Some (length c.self.inside.names.items)) (number_in c.self.inside.numbers.entries other)
put c other =
    (rw (c.in_ok-copied.ensures, is_next c) at c.in_ok-insert.ensures.updates.0 other)
    ∙ ap (λ t. cond t (Some (length c.self.inside.names.items)) (number_in c.self.inside.numbers.entries other))
    (sym (same_name c.args.name other))

pub invariant_of-self-2 : goal.invariant_of-self-2
invariant_of-self-2 c =
    rw (has_items c) (numbered_more (number_in c.self.inside.numbers.entries) (number_in c.insert.new.self.entries)
    c.self.inside.names.items c.args.name c.self.invariant (has_none c) (put c))

pub returns-clause-ok : goal.returns-clause-ok
returns-clause-ok c = rw (has_items c, is_next c) (got_last c.self.inside.names.items c.args.name)
