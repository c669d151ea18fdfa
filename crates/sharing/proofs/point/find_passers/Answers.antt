use Rattle.std.proofs.Common.{◌≡◌, ℕ, [], ◌∷◌, ◌++◌, Bool, false, cond, ap, sym, ◌∙◌}
use Rattle.std.specs.Prelude.{nat_lt, ◌==◌, ◌&&◌, not, slice_index}
use Rattle.std.specs.List.{filter, range_with_len}
use Rattle.std.proofs.lemmas.List.{append-nil}
use Rattle.sharing.specs.Memory.{seen}
use Rattle.sharing.specs.Remembered.{recalled_at}
use Rattle.sharing.proofs.Lines.{has_passed_test, is_itself, is_quiet}
use Rattle.sharing.proofs.Walks.{filter_of_next}
use Rattle.sharing.proofs.point.find_passers.Goals as goal
use Rattle.sharing.proofs.point.find_passers.Goals.{then-other-node+then-number_at+in_ok-push, else-other-node, else-other-node-via-then-other-node+else-number_at, else-other-node-via-else-other-node}

pub loop-other-preserved : goal.loop-other-preserved
loop-other-preserved c =
    let hits = slice_index c.args.hits.now in
    let before = seen (recalled_at c.args.remembered) in
    let node = c.args.node in
    let other = c.loop-other.other in
    let range = range_with_len 0 other in
    let test : ℕ → Bool = λ n. not (n == node) && nat_lt (before n) (hits n) in
    elim c.if-other-node.branch [
      | then-other-node+then-number_at+in_ok-push w ↦
          ap (λ o. o.items) w.others-is ∙ w.in_ok-push.ensures.items
          ∙ ap (λ xs. xs ++ other ∷ []) c.loop-other.invariant
          ∙ ap (λ b. filter test range ++ cond b (other ∷ []) [])
          (sym (has_passed_test other node (before other) (hits other) _ _ w.if-other-node.true (w.number_at.ensures ∙ c.hits_seen-before.ensures other)
          w.number_at-then-other-node.ensures w.if-number_at.true))
          ∙ sym (filter_of_next test other)
      | else-other-node w ↦
          let fails : test other ≡ false = elim w.else-other-node.branch [
            | else-other-node-via-then-other-node+else-number_at w' ↦
                is_quiet other node (before other) (hits other) _ _ (w'.number_at.ensures ∙ c.hits_seen-before.ensures other) w'.number_at-then-other-node.ensures
                w'.if-number_at.false
            | else-other-node-via-else-other-node w' ↦
                is_itself other node (before other) (hits other) w'.if-other-node.false
          ] in
          ap (λ o. o.items) w.others-is ∙ c.loop-other.invariant ∙ sym (append-nil (filter test range))
          ∙ ap (λ b. filter test range ++ cond b (other ∷ []) []) (sym fails) ∙ sym (filter_of_next test other)
    ]
