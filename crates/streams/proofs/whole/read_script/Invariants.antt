use Rattle.std.proofs.Common.{◌≡◌, ◌≤◌, ◌-◌, false, vec_len}
use Rattle.std.specs.Io.KnownBytes.{Consumes}
use Rattle.streams.specs.Watched.{has_failed, inner_of}
use Rattle.streams.proofs.whole.read_script.Given as goal

-- what was read is what was taken
abbrev pub invariant-loop-chunk : goal.invariant-loop-chunk
invariant-loop-chunk g l = record {
  taken : Consumes (g.R.Read.remaining (inner_of l.initial.reader)) (g.R.Read.remaining (inner_of l.reader))
      l.script.items;
  short : vec_len l.script ≤ 16777217;
  failed : has_failed l.reader ≡ false;
}

abbrev pub decreases-loop-chunk : goal.decreases-loop-chunk
decreases-loop-chunk g l = 16777217 - vec_len l.script
