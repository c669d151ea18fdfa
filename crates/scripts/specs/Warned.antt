-- What a clause reads of a script that isn't checked.
use Rattle.scripts.specs.declared.warn.Warning.{Warning}
use Rattle.scripts.specs.Warnings.{Warned}

abbrev pub warned_of : Warning → Warned
warned_of w = record { number = w.number; bad = w.bad; unset = w.unset }
