use Rattle.std.proofs.Common.{◌≡◌, ℕ, ◌+◌, Err, None, refl, sym, ap, ◌∙◌, subst, rules, arith, List}
use Rattle.std.specs.Prelude.{IfSome}
use Rattle.drills.specs.Reading.{entry_in}
use Rattle.std.specs.Io.Buffered.{reader_inner}
use Rattle.streams.specs.Watched.{has_failed}
use Rattle.drills.specs.Taken.{bytes_left}
use Rattle.part_keeper.specs.declared.fault.LineFault.{LineFault}
use Rattle.part_keeper.specs.declared.fault.PartFault.{PartFault}
use Rattle.part_keeper.specs.declared.repeating.Repeated.{Repeated}
use Rattle.part_keeper.specs.Repeated.{IsOtherwise, IsRepeated, with_line}
use Rattle.part_keeper.specs.Journals.{IsFaultOf}
use Rattle.part_keeper.proofs.Walks.{all_repeated, fault_at, not_failed, so_far_more, so_far_none, too_long}
use Rattle.part_keeper.proofs.repeating.repeat_calls.Goals as goal

pub loop-number-init : goal.loop-number-init
loop-number-init g c = record {
  counted = omega arith;
  numbered = refl;
  goes = so_far_none g.L.Label.config g.L.Label.seed c.args.seat.now.calls
      (bytes_left g.I.Read.remaining c.args.reader.now) (record { calls = 0; bytes = 0 }) refl refl;
  read = λ late. absurd (omega (arith, late));
}

pub returns-in-TooLong-clause-fault : goal.returns-in-TooLong-clause-fault
returns-in-TooLong-clause-fault g c =
    let left = bytes_left g.I.Read.remaining in
    too_long g.L.Label.config g.L.Label.seed c.args.seat.now.calls c.loop-number.seat.calls c.loop-number.number
    (left c.args.reader.now) (left c.loop-number.reader) (left c.take_line.new.reader) c.take_line.new.line.items
    c.loop-number.had c.loop-number.invariant.goes (rw c.in-TooLong.is at c.in_ok-take_line.ensures.taken)
    c.loop-number.invariant.numbered

pub returns-in-Err-clause-fault : goal.returns-in-Err-clause-fault
returns-in-Err-clause-fault g c =
    let left = bytes_left g.I.Read.remaining in
    subst (λ (f : PartFault). IfSome (left c.args.reader.now)
    (λ bytes. IsFaultOf g.L.Label.config g.L.Label.seed c.args.seat.now.calls bytes f)) (sym c.in_line.ensures)
    (fault_at g.L.Label.config g.L.Label.seed c.args.seat.now.calls c.loop-number.seat.calls c.loop-number.number
    (left c.args.reader.now) (left c.loop-number.reader) (left c.take_line.new.reader) c.take_line.new.line.items
    c.loop-number.had c.in-Err.fault c.loop-number.invariant.goes
    (rw c.in-Line.is at c.in_ok-take_line.ensures.taken) c.loop-number.invariant.numbered
    (λ e. subst (λ (l : List ℕ). entry_in l ≡ None) c.as_slice.ensures.value
    (c.in-Err.ensures.no_call (ap (λ (f : LineFault). Err f) e)))
    (λ e. subst (λ (l : List ℕ). IsOtherwise g.L.Label.config g.L.Label.seed l) c.as_slice.ensures.value
    (c.in-Err.ensures.differs (ap (λ (f : LineFault). Err f) e))))

pub loop-number-preserved : goal.loop-number-preserved
loop-number-preserved g c =
    let left = bytes_left g.I.Read.remaining in
    let same : c.if-had-eq0.seat.calls ≡ c.repeat_call.new.seat.calls = search rules in
    let is = subst (λ (n : ℕ). IsRepeated g.L.Label.config g.L.Label.seed c.loop-number.seat.calls n
    c.take_line.new.line.items) (sym same)
    (subst (λ (l : List ℕ). IsRepeated g.L.Label.config g.L.Label.seed c.loop-number.seat.calls c.repeat_call.new.seat.calls l)
    c.as_slice.ensures.value c.in_default.ensures.given) in
    let more : c.with-had.result ≡ with_line c.take_line.new.line.items c.loop-number.had =
    c.with-had.ensures
    ∙ ap (λ (l : List ℕ). with_line l c.loop-number.had) c.as_slice-in-loop-number.ensures.value in
    let calls : c.with-had.result.calls ≡ c.loop-number.had.calls + 1 = ap (λ (r : Repeated). r.calls) more in
    let one = is.counted in
    let before = c.loop-number.invariant.counted in
    let number = c.loop-number.invariant.numbered in
    record {
      counted = omega (arith, calls, one, before);
      numbered = omega (arith, calls, number);
      goes = so_far_more g.L.Label.config g.L.Label.seed c.args.seat.now.calls c.loop-number.seat.calls c.if-had-eq0.seat.calls
          (left c.args.reader.now) (left c.loop-number.reader) (left c.take_line.new.reader)
          c.take_line.new.line.items c.loop-number.had c.with-had.result c.loop-number.invariant.goes
          (rw c.in-Line.is at c.in_ok-take_line.ensures.taken) is more;
      read = λ late. not_failed c.take_line.result (has_failed (reader_inner c.take_line.new.reader))
          c.in_ok-take_line.field-0 c.take_line.ensures.read_failed c.in_ok-take_line.was;
    }

pub returns-in-End-clause-repeated : goal.returns-in-End-clause-repeated
returns-in-End-clause-repeated g c =
    let left = bytes_left g.I.Read.remaining in
    all_repeated g.L.Label.config g.L.Label.seed c.args.seat.now.calls c.loop-number.seat.calls
    (left c.args.reader.now) (left c.loop-number.reader) (left c.take_line.new.reader) c.take_line.new.line.items
    c.loop-number.had c.loop-number.invariant.goes (rw c.in-End.is at c.in_ok-take_line.ensures.taken)
