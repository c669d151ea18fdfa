use Rattle.std.proofs.Common.{Bool, cond, sym, ap, ◌∙◌}
use Rattle.message_format.specs.declared.wire.Form.TheVariants.{Plain, WithGrants}
use Rattle.message_format.specs.Spelling.{has_grants}
use Rattle.message_format.proofs.Entries.{any_is}
use Rattle.message_format.proofs.writing.form_of.Goals as goal

pub returns-then-have_grants : goal.returns-then-have_grants
returns-then-have_grants c =
    ap (λ (t : Bool). cond t WithGrants Plain) (sym c.if-have_grants.true ∙ c.have_grants.ensures ∙
    any_is has_grants c.args.entries.now)

pub returns-else-have_grants : goal.returns-else-have_grants
returns-else-have_grants c =
    ap (λ (t : Bool). cond t WithGrants Plain) (sym c.if-have_grants.false ∙ c.have_grants.ensures ∙
    any_is has_grants c.args.entries.now)
