use Rattle.std.proofs.Common.{◌≡◌, ◌<◌, false}
use Rattle.std.specs.Io.Buffered.{reader_inner}
use Rattle.std.specs.Option.{option_map}
use Rattle.streams.specs.Watched.{has_failed}
use Rattle.drills.specs.Parts.{part_of}
use Rattle.drills.specs.Taken.{bytes_left}
use Rattle.drills.proofs.PartsRead.{IfPartGoesOn}
use Rattle.drills.proofs.part_reader.read_part.Given as goal

-- what is left goes on from what was read so far, of which no read failed
abbrev pub invariant-loop-number : goal.invariant-loop-number
invariant-loop-number g l = record {
  goes : IfPartGoesOn (option_map part_of l.so_far) l.number (bytes_left g.I.Read.remaining l.initial.reader)
      (bytes_left g.I.Read.remaining l.reader);
  read : 1 < l.number → has_failed (reader_inner l.reader) ≡ false;
}
