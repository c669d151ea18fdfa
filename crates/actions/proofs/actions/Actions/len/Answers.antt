use Rattle.std.proofs.Common.{◌≡◌, List, length, sym, ap, ◌∙◌}
use Rattle.std.specs.Prelude.{vec_len}
use Rattle.std.proofs.lemmas.List.{length-map}
use Rattle.actions.specs.Value.{TermValue, term_value}
use Rattle.actions.specs.Spelled.{terms_of}
use Rattle.actions.specs.declared.actions.Spelled.{Spelled}
use Rattle.actions.proofs.actions.Actions.len.Goals as goal

counted : (s : Spelled) (ts : List TermValue) → terms_of s ≡ ts → vec_len s.terms ≡ length ts
counted s ts e = s.terms.ok.0 ∙ sym (length-map s.terms.items term_value) ∙ ap length e

pub returns-clause-value : goal.returns-clause-value
returns-clause-value c = c.len.ensures ∙ counted c.spelled.result.now c.args.self.now c.spelled.ensures.terms

pub returns-clause-some : goal.returns-clause-some
returns-clause-some c = rw (c.len.ensures, counted c.spelled.result.now c.args.self.now c.spelled.ensures.terms)
    c.spelled.ensures.spelled.some

pub returns-clause-few : goal.returns-clause-few
returns-clause-few c = rw (c.len.ensures, counted c.spelled.result.now c.args.self.now c.spelled.ensures.terms)
    c.spelled.ensures.spelled.few
