-- How a script's answers are printed, by the options of the command line.
use Rattle.std.specs.Prelude.{ℕ, List, if◌then◌else◌}
use Rattle.command_line.specs.declared.reading.SimOptions.{SimOptions}
use Rattle.scripts.specs.Warnings.{warned_output}
use Rattle.scripts.specs.Written.{form_text}
use Rattle.scripts.specs.declared.form.Form.{Form}
use Rattle.scripts.specs.declared.form.Form.TheVariants as forms

-- lines aren't echoed before JSON objects
abbrev pub form_of : SimOptions → Form
form_of options = if options.json then forms.Objects else (if options.echo then forms.Echoed else forms.Plain)

-- what is printed of a script that isn't checked
abbrev pub printed_by : SimOptions → List ℕ → List ℕ
printed_by options script =
    if options.quiet then form_text (form_of options) script else warned_output (form_of options) script
