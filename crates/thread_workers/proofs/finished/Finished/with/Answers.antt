use Rattle.std.specs.Prelude.{Vec}
use Rattle.std.specs.declared.alloc.Global.{Global}
use Rattle.std.proofs.lemmas.List.Elements.{All-push}
use Rattle.node_calls.specs.declared.receipt.Receipt.{Receipt}
use Rattle.node_registry.specs.Receipts.{AreGivenSince}
use Rattle.node_registry.specs.Seats.{new_seat}
use Rattle.thread_workers.proofs.finished.Finished.with.Goals as goal

pub returns-clause-given : goal.returns-clause-given
returns-clause-given g c =
    let P : Vec Receipt Global → Type 0 = λ list. AreGivenSince g.L.Label.config g.L.Label.seed new_seat list.items in
    rw c.in_ok-push-2.ensures.items
    (All-push P c.args.self.lists.items c.args.receipts c.requires.given c.requires.more)
