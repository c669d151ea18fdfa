use Rattle.std.proofs.Common.{map, sym, ap, ◌∙◌}
use Rattle.message_format.specs.declared.wire.Form.{Form}
use Rattle.message_format.specs.Messages.{entry_value}
use Rattle.message_format.specs.Spelling.{has_grants}
use Rattle.message_format.specs.Reading.{is_form_of}
use Rattle.message_format.proofs.Entries.{any_is}
use Rattle.message_format.proofs.reading.is_form_of.Goals as goal

pub returns-in-WithGrants : goal.returns-in-WithGrants
returns-in-WithGrants c =
    let es = c.args.entries.now in
    c.have_grants.ensures ∙ any_is has_grants es ∙ ap (λ (form : Form). is_form_of form (map entry_value es))
    (sym c.in-WithGrants.is)
