use Rattle.thread_scripts.proofs.Counted.{counted}
use Rattle.thread_scripts.proofs.beside.do_gossip.Goals as goal

pub invariant_of-result : goal.invariant_of-result
invariant_of-result g c = record {
  counted = counted c.do_rounds-receipts.result c.do_rounds-receipts.new.seat c.do_rounds-receipts.ensures.counted;
}
