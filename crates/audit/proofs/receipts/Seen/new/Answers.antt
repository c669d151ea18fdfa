use Rattle.std.proofs.Common.{◌≡◌, ◌<◌, ℕ, ◌+◌, false, length, take, replicate, cond, get_or, slice_get, sym, ◌∙◌, ap, ◌++◌, ◌∷◌, [], arith}
use Rattle.std.proofs.lemmas.List.{length-take-le, length_push, take_more}
use Rattle.audit.specs.Traces.{trace_of}
use Rattle.audit.specs.Receipts.{marks_in, times_seen}
use Rattle.audit.proofs.Seen.{none_marked, rows_more}
use Rattle.audit.proofs.receipts.Seen.new.Goals as goal

pub loop-trace-preserved : goal.loop-trace-preserved
loop-trace-preserved c =
    let k = c.loop-trace.trace-index in
    let traces = c.args.traces.now in
    let rows = c.loop-trace.rows.items in
    let row = c.in_ok-vec.field-0 in
    let low : k < length traces = omega (arith, c.loop-trace-test.true) in
    let pushed : c.push.new.self.items ≡ rows ++ row ∷ [] = c.in_ok-push.ensures.items in
    let fresh : row.items ≡ replicate (length c.trace-item.result.calls) false =
    c.in_ok-vec.ensures.items_if_clones_equal (λ y h. h) ∙ ap (λ n. replicate n false) c.len.ensures in
    let more : take (k + 1) traces ≡ take k traces ++ c.trace-item.result ∷ [] =
    take_more traces k c.trace-item.result low ∙ ap (λ t. take k traces ++ t ∷ []) (sym c.trace-item.is) in
    let same : length rows ≡ length (take k traces) =
    c.loop-trace.invariant.0 ∙ sym (length-take-le k traces (omega (arith, low))) in (
      ap (λ rs. length rs) pushed ∙ length_push rows row ∙ ap (λ n. n + 1) c.loop-trace.invariant.0,
      λ n. ap (λ rs. marks_in (slice_get rs n)) pushed
          ∙ rows_more rows (take k traces) row c.trace-item.result same c.loop-trace.invariant.1 fresh n
          ∙ sym (ap (λ ts. replicate (length (trace_of ts n)) false) more),
    )

pub returns-clause-none : goal.returns-clause-none
unfolding times_seen
returns-clause-none c = λ n i.
    ap {B = ℕ} (λ b. cond b 1 0) (ap (λ l. get_or l i false) (c.loop-trace.invariant.1 n) ∙
    none_marked (length (trace_of (take c.loop-trace.trace-index c.args.traces.now) n)) i)
