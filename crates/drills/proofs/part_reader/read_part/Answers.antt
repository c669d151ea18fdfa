use Rattle.std.proofs.Common.{◌≡◌, ℕ, Err, sym, ap, ◌∙◌, subst, arith}
use Rattle.std.specs.Prelude.{IfSome}
use Rattle.std.specs.Io.Buffered.{reader_inner}
use Rattle.std.specs.Option.{option_map}
use Rattle.streams.specs.Watched.{has_failed}
use Rattle.drills.specs.Parts.{part_after, part_in, part_of}
use Rattle.drills.specs.Taken.{bytes_left}
use Rattle.drills.proofs.PartsRead.{at_first, at_last, bad_line, ends_bad, ends_part, is_part, one_more}
use Rattle.drills.proofs.Taken.{not_failed}
use Rattle.drills.proofs.part_reader.read_part.Goals as goal

pub loop-number-init : goal.loop-number-init
loop-number-init g c = record {
  goes = at_first (bytes_left g.I.Read.remaining c.args.reader.now);
  read = λ late. absurd (omega (arith, late));
}

pub loop-number-preserved : goal.loop-number-preserved
loop-number-preserved g c =
    let left = bytes_left g.I.Read.remaining in
    record {
      goes = one_more (option_map part_of c.loop-number.so_far) (part_of c.in-Some.next) c.loop-number.number
          (left c.args.reader.now)
          (left c.loop-number.reader) (left c.next_ended.new.reader) c.next_ended.new.line.items
          c.loop-number.invariant.goes
          (rw c.in_default.is at c.in_ok-cut.ensures.taken)
          (ap (part_after (option_map part_of c.loop-number.so_far)) (sym c.deref.ensures.value) ∙
          sym c.in_ok-next.ensures ∙ ap (option_map part_of) c.in-Some.is);
      read = λ late. not_failed c.next_ended.result (has_failed (reader_inner c.next_ended.new.reader))
          c.in_ok-cut.field-0 c.next_ended.ensures.read_failed c.in_ok-cut.was;
    }

pub returns-in-End-clause-part : goal.returns-in-End-clause-part
returns-in-End-clause-part g c =
    let left = bytes_left g.I.Read.remaining in
    is_part (left c.args.reader.now) c.ok_or.result
    (ends_part (left c.args.reader.now) c.ended_part.result c.loop-number.number c.ok_or.result c.ok_or.ensures.value
    (at_last (option_map part_of c.loop-number.so_far) c.ended_part.result c.loop-number.number
    (left c.args.reader.now) (left c.loop-number.reader) (left c.next_ended.new.reader) c.next_ended.new.line.items
    c.in-End.cut c.ended_part.ensures c.loop-number.invariant.goes (rw c.in-End.is at c.in_ok-cut.ensures.taken)))

pub returns-in-End-clause-ok : goal.returns-in-End-clause-ok
returns-in-End-clause-ok g c =
    let left = bytes_left g.I.Read.remaining in
    ends_part (left c.args.reader.now) c.ended_part.result c.loop-number.number c.ok_or.result c.ok_or.ensures.value
    (at_last (option_map part_of c.loop-number.so_far) c.ended_part.result c.loop-number.number
    (left c.args.reader.now) (left c.loop-number.reader) (left c.next_ended.new.reader) c.next_ended.new.line.items
    c.in-End.cut c.ended_part.ensures c.loop-number.invariant.goes (rw c.in-End.is at c.in_ok-cut.ensures.taken))

pub returns-in-End-clause-bad_line : goal.returns-in-End-clause-bad_line
returns-in-End-clause-bad_line g c =
    let left = bytes_left g.I.Read.remaining in
    ends_bad (left c.args.reader.now) c.ended_part.result c.loop-number.number c.ok_or.result c.ok_or.ensures.value
    (at_last (option_map part_of c.loop-number.so_far) c.ended_part.result c.loop-number.number
    (left c.args.reader.now) (left c.loop-number.reader) (left c.next_ended.new.reader) c.next_ended.new.line.items
    c.in-End.cut c.ended_part.ensures c.loop-number.invariant.goes (rw c.in-End.is at c.in_ok-cut.ensures.taken))

pub returns-in-None-clause-bad_line : goal.returns-in-None-clause-bad_line
returns-in-None-clause-bad_line g c = λ line e.
    let left = bytes_left g.I.Read.remaining in
    let same : c.loop-number.number ≡ line = cc in
    subst (λ (n : ℕ). IfSome (left c.args.reader.now) (λ bytes. part_in bytes ≡ Err n)) same
    (bad_line (option_map part_of c.loop-number.so_far) c.loop-number.number (left c.args.reader.now)
    (left c.loop-number.reader) (left c.next_ended.new.reader) c.next_ended.new.line.items
    c.loop-number.invariant.goes (rw c.in_default.is at c.in_ok-cut.ensures.taken)
    (ap (part_after (option_map part_of c.loop-number.so_far)) (sym c.deref.ensures.value) ∙ sym c.in_ok-next.ensures ∙
    ap (option_map part_of) c.in-None.is))
