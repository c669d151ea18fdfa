-- What a clause reads of a script that is checked.
use Rattle.scripts.specs.declared.check.Check.{Check}
use Rattle.scripts.specs.Checks.{Checking}

abbrev pub checking_of : Check → Checking
checking_of c = record { number = c.number; asked = c.asked; kind = c.kind; rest = c.rest.items; met = c.met }
