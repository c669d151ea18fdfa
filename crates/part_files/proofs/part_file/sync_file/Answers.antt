use Rattle.std.proofs.KnownBytes.{Keeps-refl}
use Rattle.part_files.proofs.part_file.sync_file.Goals as goal

pub returns-then-not-options : goal.returns-then-not-options
returns-then-not-options g c = Keeps-refl _
