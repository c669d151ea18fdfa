use Rattle.std.proofs.Common.{◌≡◌, ℕ, Err, sym, ap, ◌∙◌, subst, arith}
use Rattle.std.specs.Prelude.{IfSome}
use Rattle.std.specs.Io.Buffered.{reader_inner}
use Rattle.std.specs.Option.{option_map}
use Rattle.streams.specs.Watched.{has_failed}
use Rattle.drills.specs.Drills.{after_text, drill_in, lines_in, so_far_of}
use Rattle.drills.specs.Grammar.{IsFirstBad}
use Rattle.drills.specs.Taken.{bytes_left}
use Rattle.drills.proofs.Taken.{as_drill, at_end, at_first, bad_line, ends_bad, ends_bad_line, ends_drill, ends_whole, is_first_bad, not_failed, one_more}
use Rattle.drills.proofs.reader.read_drill.Goals as goal

pub loop-number-init : goal.loop-number-init
loop-number-init g c = record {
  goes = at_first (bytes_left g.I.Read.remaining c.args.reader.now);
  read = λ late. absurd (omega (arith, late));
}

pub loop-number-preserved : goal.loop-number-preserved
loop-number-preserved g c =
    let left = bytes_left g.I.Read.remaining in
    record {
      goes = one_more (option_map so_far_of c.loop-number.so_far) (so_far_of c.in-Some.next) c.loop-number.number
          (left c.args.reader.now)
          (left c.loop-number.reader) (left c.next_line.new.reader) c.next_line.new.line.items
          c.loop-number.invariant.goes
          (rw c.if-not-branch.false at c.in_ok-next_line.ensures.taken)
          (ap (after_text (option_map so_far_of c.loop-number.so_far)) (sym c.deref.ensures.value) ∙
          sym c.in_ok-next.ensures ∙ ap (option_map so_far_of) c.in-Some.is);
      read = λ late. not_failed c.next_line.result (has_failed (reader_inner c.next_line.new.reader))
          c.in_ok-next_line.field-0 c.next_line.ensures.read_failed c.in_ok-next_line.was;
    }

pub returns-then-not-branch-clause-drill : goal.returns-then-not-branch-clause-drill
returns-then-not-branch-clause-drill g c =
    let left = bytes_left g.I.Read.remaining in
    ends_drill (left c.args.reader.now) c.whole.result c.loop-number.number c.ok_or.result
    c.ok_or.ensures.value
    (as_drill (left c.args.reader.now) c.loop-number.so_far c.whole.result c.loop-number.number c.whole.ensures
    (at_end (option_map so_far_of c.loop-number.so_far) c.loop-number.number (left c.args.reader.now)
    (left c.loop-number.reader)
    (left c.next_line.new.reader) c.next_line.new.line.items c.loop-number.invariant.goes
    (rw c.if-not-branch.true at c.in_ok-next_line.ensures.taken)))

pub returns-then-not-branch-clause-first_bad : goal.returns-then-not-branch-clause-first_bad
returns-then-not-branch-clause-first_bad g c =
    let left = bytes_left g.I.Read.remaining in
    ends_bad (left c.args.reader.now) c.whole.result c.loop-number.number c.ok_or.result
    c.ok_or.ensures.value
    (as_drill (left c.args.reader.now) c.loop-number.so_far c.whole.result c.loop-number.number c.whole.ensures
    (at_end (option_map so_far_of c.loop-number.so_far) c.loop-number.number (left c.args.reader.now)
    (left c.loop-number.reader)
    (left c.next_line.new.reader) c.next_line.new.line.items c.loop-number.invariant.goes
    (rw c.if-not-branch.true at c.in_ok-next_line.ensures.taken)))

pub returns-in-None-clause-first_bad : goal.returns-in-None-clause-first_bad
returns-in-None-clause-first_bad g c = λ line e.
    let left = bytes_left g.I.Read.remaining in
    let same : c.loop-number.number ≡ line = cc in
    subst (λ (n : ℕ). IfSome (left c.args.reader.now) (λ bytes. IsFirstBad (lines_in bytes) n)) same
    (is_first_bad (left c.args.reader.now) c.loop-number.number
    (bad_line (option_map so_far_of c.loop-number.so_far) c.loop-number.number (left c.args.reader.now)
    (left c.loop-number.reader)
    (left c.next_line.new.reader) c.next_line.new.line.items c.loop-number.invariant.goes
    (rw c.if-not-branch.false at c.in_ok-next_line.ensures.taken)
    (ap (after_text (option_map so_far_of c.loop-number.so_far)) (sym c.deref.ensures.value) ∙ sym c.in_ok-next.ensures ∙
    ap (option_map so_far_of) c.in-None.is)))

pub returns-then-not-branch-clause-ok : goal.returns-then-not-branch-clause-ok
returns-then-not-branch-clause-ok g c =
    let left = bytes_left g.I.Read.remaining in
    ends_whole (left c.args.reader.now) c.whole.result c.loop-number.number c.ok_or.result
    c.ok_or.ensures.value
    (as_drill (left c.args.reader.now) c.loop-number.so_far c.whole.result c.loop-number.number c.whole.ensures
    (at_end (option_map so_far_of c.loop-number.so_far) c.loop-number.number (left c.args.reader.now)
    (left c.loop-number.reader)
    (left c.next_line.new.reader) c.next_line.new.line.items c.loop-number.invariant.goes
    (rw c.if-not-branch.true at c.in_ok-next_line.ensures.taken)))

pub returns-then-not-branch-clause-bad_line : goal.returns-then-not-branch-clause-bad_line
returns-then-not-branch-clause-bad_line g c =
    let left = bytes_left g.I.Read.remaining in
    ends_bad_line (left c.args.reader.now) c.whole.result c.loop-number.number c.ok_or.result
    c.ok_or.ensures.value
    (as_drill (left c.args.reader.now) c.loop-number.so_far c.whole.result c.loop-number.number c.whole.ensures
    (at_end (option_map so_far_of c.loop-number.so_far) c.loop-number.number (left c.args.reader.now)
    (left c.loop-number.reader)
    (left c.next_line.new.reader) c.next_line.new.line.items c.loop-number.invariant.goes
    (rw c.if-not-branch.true at c.in_ok-next_line.ensures.taken)))

pub returns-in-None-clause-bad_line : goal.returns-in-None-clause-bad_line
returns-in-None-clause-bad_line g c = λ line e.
    let left = bytes_left g.I.Read.remaining in
    let same : c.loop-number.number ≡ line = cc in
    subst (λ (n : ℕ). IfSome (left c.args.reader.now) (λ bytes. drill_in bytes ≡ Err n)) same
    (bad_line (option_map so_far_of c.loop-number.so_far) c.loop-number.number (left c.args.reader.now)
    (left c.loop-number.reader)
    (left c.next_line.new.reader) c.next_line.new.line.items c.loop-number.invariant.goes
    (rw c.if-not-branch.false at c.in_ok-next_line.ensures.taken)
    (ap (after_text (option_map so_far_of c.loop-number.so_far)) (sym c.deref.ensures.value) ∙ sym c.in_ok-next.ensures ∙
    ap (option_map so_far_of) c.in-None.is))
