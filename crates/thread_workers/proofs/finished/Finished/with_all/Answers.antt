use Rattle.std.proofs.Common.{◌∙◌, ap, arith, length, length-append, vec_len}
use Rattle.std.specs.Prelude.{Vec}
use Rattle.std.specs.declared.alloc.Global.{Global}
use Rattle.std.proofs.lemmas.List.Elements.{All-append}
use Rattle.std.proofs.lemmas.List.Sums.{sum_by-append}
use Rattle.node_calls.specs.declared.receipt.Receipt.{Receipt}
use Rattle.node_registry.specs.Receipts.{AreGivenSince}
use Rattle.node_registry.specs.Seats.{new_seat}
use Rattle.thread_workers.proofs.Seats.{calls_both}
use Rattle.thread_workers.proofs.finished.Finished.with_all.Goals as goal

pub invariant_of-result : goal.invariant_of-result
invariant_of-result g c =
    let seats = calls_both c.args.self.seats.items c.args.others.seats.items in
    let lists = sum_by-append (λ list. vec_len list) c.args.self.lists.items c.args.others.lists.items in
    let was = c.args.self.counted in
    let more = c.args.others.counted in
    let all_seats = ap length c.in_ok-put_behind.ensures ∙ length-append c.args.self.seats.items c.args.others.seats.items in
    let all_lists = ap length c.in_ok-put_behind-2.ensures
    ∙ length-append c.args.self.lists.items c.args.others.lists.items in
    record {
      each = omega (arith, all_seats, all_lists, c.args.self.each, c.args.others.each);
      counted = rw (c.in_ok-put_behind.ensures, c.in_ok-put_behind-2.ensures) (omega (arith, seats, lists, was, more));
    }

pub returns-clause-given : goal.returns-clause-given
returns-clause-given g c =
    let P : Vec Receipt Global → Type 0 = λ list. AreGivenSince g.L.Label.config g.L.Label.seed new_seat list.items in
    rw c.in_ok-put_behind-2.ensures
    (All-append P c.args.self.lists.items c.args.others.lists.items c.requires.given c.requires.more)
