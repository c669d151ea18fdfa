-- What is counted line by line stays below the number of the next line.
use Rattle.std.proofs.Common.{◌≡◌, ℕ, ◌+◌, ◌<◌, Bool, true, false, List, None, refl, arith}
use Rattle.streams.specs.Fields.{lines_of}
use Rattle.scripts.specs.declared.form.Form.{Form}
use Rattle.scripts.specs.declared.form.Form.TheVariants as forms
use Rattle.scripts.specs.Script.{echoed_text, script_text, text_from}
use Rattle.scripts.specs.Warnings.{count_one}
use Rattle.scripts.specs.Written.{form_output, form_text, script_objects}

pub fewer : (b : Bool) (n m k next : ℕ) → n < m → k ≡ n + count_one b → next ≡ m + 1 → k < next
fewer true n m k next h e f = omega arith
fewer false n m k next h e f = omega arith

-- what lines print in a form is what a script prints in it
pub told_is : (form : Form) (script : List ℕ) → text_from (form_output form) None (lines_of script) ≡ form_text form script
unfolding echoed_text script_text script_objects
told_is forms.Plain script = refl
told_is forms.Echoed script = refl
told_is forms.Objects script = refl
