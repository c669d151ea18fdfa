-- What a clause reads of lines that are read in turn.
use Rattle.thread_warnings.specs.declared.unfit.Warning.{Warning}
use Rattle.thread_warnings.specs.Unfit.{Unfit}

abbrev pub unfit_of : Warning → Unfit
unfit_of w = record { number = w.number; unfit = w.unfit }
