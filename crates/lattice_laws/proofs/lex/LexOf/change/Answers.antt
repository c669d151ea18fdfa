use Rattle.std.proofs.Common.{refl, rules, sym}
use Rattle.lattice_laws.proofs.lex.LexOf.change.Goals as goal

pub returns-clause-changed : goal.returns-clause-changed
returns-clause-changed g c =
    record {
      key = c.in_ok-value.field-0.now.0;
      held = c.in_ok-value.field-0.now.1;
      left = c.change-answer.new.arg2;
      found = rw (← c.self.view_is) (sym c.in_ok-value.ensures.value);
      called = search rules;
      put = refl;
    }
