-- How answers are printed, by the options of the command line.
use Rattle.std.specs.Prelude.{Bool, if◌then◌else◌}
use Rattle.answers.specs.declared.printed.Format.{Format}
use Rattle.answers.specs.declared.printed.Format.TheVariants as formats

-- as JSON objects, where these are wanted
abbrev pub answer_format : Bool → Format
answer_format json = if json then formats.Objects else formats.Lines
