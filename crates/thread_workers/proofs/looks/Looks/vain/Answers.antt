use Rattle.std.proofs.Common.{◌≡◌, ◌∙◌, ◌+◌, ◌<◌, ℕ, List, [], ◌∷◌, ◌++◌, true, false, ap, arith, length, subst, sym, take}
use Rattle.std.specs.Prelude.{◌==◌, slice_index_or}
use Rattle.std.proofs.lemmas.Bool.Decides.{nat_tests}
use Rattle.std.proofs.lemmas.List.{append-nil}
use Rattle.thread_workers.specs.Waits.{AreWaited, IsEnded, IsWaited, no_wait}
use Rattle.thread_workers.proofs.Waited.{in_vain, not_in_vain, of_other, waited_more}
use Rattle.thread_workers.proofs.looks.Looks.vain.Goals as goal
use Rattle.thread_workers.proofs.looks.Looks.vain.Goals.{then-wait-node+then-not-is_satisfied+in_ok-push, else-wait-node, else-wait-node-via-then-wait-node+else-not-is_satisfied, else-wait-node-via-else-wait-node}

pub loop-place-init : goal.loop-place-init
loop-place-init g c = rw c.new-vain.ensures.items no_wait

pub loop-place-preserved : goal.loop-place-preserved
loop-place-preserved g c =
    let config = g.L.Label.config in
    let seed = g.L.Label.seed in
    let waits = g.L.Waiting.waits in
    let receipts = c.args.receipts.now in
    let place = c.loop-place.place in
    let wait = c.wait-item.result in
    let vain = c.loop-place.vain.items in
    let same : c.deref-wait-items.result.now ≡ waits = c.deref-wait-items.ensures.value ∙ c.args.self.now.meant in
    let below : place < length waits = subst (λ ws. place < length ws) same c.loop-place-test.true in
    let here : slice_index_or waits place wait ≡ wait =
    subst (λ ws. slice_index_or ws place wait ≡ wait) same (sym c.wait-item.is) in
    let more : (lines : List ℕ) → IsWaited config seed receipts wait lines → c.if-wait-node.vain.items ≡ vain ++ lines
    → AreWaited config seed receipts (take (place + 1) waits) c.if-wait-node.vain.items =
    λ lines this then. waited_more config seed receipts waits place wait vain lines c.if-wait-node.vain.items below here
    c.loop-place.invariant this then in
    let unchanged : c.if-wait-node.vain ≡ c.loop-place.vain → c.if-wait-node.vain.items ≡ vain ++ [] =
    λ is. ap (λ v. v.items) is ∙ sym (append-nil vain) in
    elim c.if-wait-node.branch [
      | then-wait-node+then-not-is_satisfied+in_ok-push w ↦
          let own : (wait.node == config.node) ≡ true = grind (arith, nat_tests, w.if-wait-node.true, c.requires) in
          more (wait.line ∷ []) (in_vain config seed receipts wait own
          (subst (λ b. IsEnded config seed receipts wait b) w.if-not-is_satisfied.true w.is_satisfied.ensures))
          (ap (λ v. v.items) w.vain-is ∙ w.in_ok-push.ensures.items)
      | else-wait-node w ↦
          elim w.else-wait-node.branch [
            | else-wait-node-via-then-wait-node+else-not-is_satisfied w' ↦
                let own : (wait.node == config.node) ≡ true = grind (arith, nat_tests, w'.if-wait-node.true, c.requires) in
                more [] (not_in_vain config seed receipts wait own
                (subst (λ b. IsEnded config seed receipts wait b) w'.if-not-is_satisfied.false w'.is_satisfied.ensures))
                (unchanged w.vain-is)
            | else-wait-node-via-else-wait-node w' ↦
                let other : (wait.node == config.node) ≡ false =
                grind (arith, nat_tests, w'.if-wait-node.false, c.requires) in
                more [] (of_other config seed receipts wait other) (unchanged w.vain-is)
          ]
    ]
