use Rattle.std.proofs.Common.{sym, ap, subst}
use Rattle.std.specs.Fmt.{HasWritten}
use Rattle.command_line.specs.Guarded.{unguarded_text}
use Rattle.command_line.proofs.guarding.UnguardedDisplay.fmt.Goals as goal

pub returns-in-Told-clause-writes : goal.returns-in-Told-clause-writes
returns-in-Told-clause-writes g c = λ plain ok.
    subst (λ text. HasWritten {W = g.row.W.Denot} g.W.Write.write_str_gives c.args.f.now text c.write-in-Told.new.self)
    (ap unguarded_text (sym c.in-Told.is)) (c.write-in-Told.ensures.writes plain ok)
