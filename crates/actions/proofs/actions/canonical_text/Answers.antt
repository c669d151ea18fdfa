use Rattle.std.proofs.Common.{ap, ◌∙◌}
use Rattle.std.specs.Prelude.{string_bytes}
use Rattle.actions.proofs.TextLemmas.{later, first}
use Rattle.actions.proofs.actions.canonical_text.Goals as goal
use Rattle.actions.proofs.actions.canonical_text.Goals.{then-index-gt0+in_ok-push_str, else-index-gt0}

pub loop-index-preserved : goal.loop-index-preserved
loop-index-preserved c =
    let at = c.index-terms-index.is in
    let lt = c.loop-index-test.true in
    let terms = c.args.terms.now in
    let i = c.loop-index.index in
    let t = c.index-terms-index.result in
    let old = string_bytes c.loop-index.text in
    let mid = string_bytes c.if-index-gt0.text in
    let new = string_bytes c.write.new.self in
    elim c.if-index-gt0.branch [
      | then-index-gt0+in_ok-push_str w ↦
          let with_arrow = ap string_bytes w.text-is ∙ w.in_ok-push_str.ensures.bytes in
          later terms i t old mid new lt w.if-index-gt0.true at c.loop-index.invariant with_arrow
          c.in_ok-write.ensures.bytes
      | else-index-gt0 w ↦
          let same = ap string_bytes w.text-is in
          first terms i t old mid new lt w.if-index-gt0.false at c.loop-index.invariant same c.in_ok-write.ensures.bytes
    ]
