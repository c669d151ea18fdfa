use Rattle.std.proofs.Common.{◌≡◌, ◌≤◌, ◌<◌, ℕ, List, length, slice_index, arith, subst}
use Rattle.audit.specs.Traces.{trace_of}
use Rattle.audit.proofs.Runs.{whole_at_ends, stuck_with, position_read}
use Rattle.audit.proofs.placing.place_all.Goals as goal

pub returns-in-None : goal.returns-in-None
returns-in-None c =
    let same : c.as_slice.result.now ≡ c.settle.new.board.positions.items = c.as_slice.ensures.value in
    let P : List ℕ → Type 0 = λ xs. (n : ℕ) → n < length c.args.traces.now →
    length (trace_of c.args.traces.now n) ≤ slice_index xs n in
    record {
      run = c.in_ok-settle.ensures.kept.run;
      whole = whole_at_ends c.args.traces.now _ c.settle.new.board.positions.items _ c.in_ok-settle.ensures.kept
          (subst P same c.in-None.ensures.none);
    }

pub returns : goal.returns
returns c =
    let same : c.as_slice.result.now ≡ c.settle.new.board.positions.items = c.as_slice.ensures.value in
    let node = c.in-Some.node in
    let P : List ℕ → Type 0 = λ xs. (n : ℕ) → n < c.in-Some.node →
    length (trace_of c.args.traces.now n) ≤ slice_index xs n in
    let Q : List ℕ → Type 0 = λ xs. slice_index xs c.in-Some.node < length
    (trace_of c.args.traces.now c.in-Some.node) in
    let below : c.in-Some.node < length c.args.traces.now = c.in-Some.ensures.left.0 in
    let at = position_read c.settle.new.board.positions.items c.in-Some.node c.index.result.now
    (omega (arith, c.in_ok-settle.ensures.kept.each, below)) c.index.ensures in
    stuck_with c.args.traces.now _ c.settle.new.board.positions.items _ c.in-Some.node c.index.result.now
    c.in_ok-settle.ensures.kept
    c.in_ok-settle.ensures.stuck below at (subst Q same c.in-Some.ensures.left.1) (subst P same c.in-Some.ensures.least)
