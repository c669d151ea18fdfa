use Rattle.std.proofs.Common.{arith, refl, rules}
use Rattle.thread_scripts.specs.Calls.{no_line}
use Rattle.thread_scripts.proofs.StartLines.{lines_more}
use Rattle.thread_scripts.proofs.starts.make_starts.Goals as goal

pub loop-line-init : goal.loop-line-init
loop-line-init g c = record {
  counted = rw c.new-receipts.ensures.items c.requires.fresh;
  given = rw c.new-receipts.ensures.items tt;
  placed = refl;
  done = rw (c.new-receipts.ensures.items, c.new-refusals.ensures, c.new-faults.ensures.items) no_line;
}

pub loop-line-preserved : goal.loop-line-preserved
loop-line-preserved g c =
    let was = c.loop-line.invariant in
    let more = c.in_ok-why.ensures in
    record {
      counted = more.counted;
      given = more.given;
      placed = omega (arith, was.placed);
      done = lines_more g.L.Label.config g.L.Label.seed c.args.starts.now c.loop-line.line-index
          _ c.loop-line-test.true c.loop-line.place was.placed _ _ _ _ _ _ _ was.done more.done
          c.in_ok-push_fault.ensures;
    }
