use Rattle.std.proofs.Common.{◌≡◌, ◌∙◌, ◌∷◌, [], Some, ap, arith, length, length-append, subst, sym}
use Rattle.node_calls.specs.declared.receipt.Receipt.{Receipt}
use Rattle.node_calls.specs.Asks.{call_from}
use Rattle.node_calls.specs.Told.{told}
use Rattle.node_core.specs.Traces.{call_kept}
use Rattle.registry_sharing.proofs.Receipted.{calls_more}
use Rattle.registry_sharing.proofs.round.receipts_from.Goals as goal

pub loop-index-preserved : goal.loop-index-preserved
loop-index-preserved c =
    let was = c.loop-index.invariant in
    let k = c.args.node.now in
    let rs = c.loop-index.receipts.items in
    let r : Receipt = record {
      node = c.config-number.result.node;
      index = c.loop-index.index;
      entry = c.in_ok-entry.entry;
    } in
    record {
      placed = omega (arith, was.placed, ap length c.in_ok-push.ensures.items, length-append rs (r ∷ []));
      calls = rw c.in_ok-push.ensures.items
          (calls_more k c.args.from rs r was.calls (ap (λ config. config.node) c.config-number.ensures) (sym was.placed)
          (subst (λ i. call_kept k i ≡ Some (call_from k.config.nodes (told c.in_ok-entry.entry))) (sym was.placed)
          (sym c.in-Some.ensures ∙ ap (λ t. Some (call_from k.config.nodes t)) (sym c.in_ok-entry.ensures))));
    }
