use Rattle.std.proofs.Common.{◌≡◌, ap, map, refl, sym, ◌∙◌}
use Rattle.std.specs.Prelude.{slice_index, vec_len}
use Rattle.std.specs.List.{range_with_len}
use Rattle.operations.specs.declared.counted.Counted.TheVariants.{Execs}
use Rattle.sharing.specs.Shares.{line_of}
use Rattle.sharing.proofs.Alike.{line_read, on_ok}
use Rattle.sharing.proofs.Lines.{nobody_in}
use Rattle.sharing.proofs.line.line_up_waiting.Goals as goal

pub returns-then-is_empty : goal.returns-then-is_empty
returns-then-is_empty g c = record {
  line = λ v name same. c.clear.ensures.items
      ∙ ap (line_of (v.execs name c.args.term)) (sym (nobody_in c.args.room.now.waiting c.if-is_empty.ensures));
  kept = record { rights = refl; executions = refl; others = refl };
}

pub returns-clause-line : goal.returns-clause-line
returns-clause-line g c = on_ok _ _ c.put_in_line.result
    (λ is v name same.
    let h = g.S.Stored.held c.args.stored.now in
    let m = vec_len c.args.room.now.executions in
    let waiting = c.args.room.now.waiting.items in
    let executions : c.deref.result.now ≡ map (λ node. h.number (Execs c.args.term node)) (range_with_len 0 m) =
    c.deref.ensures.value ∙ c.read_executions.ensures.executions in
    is ∙ ap (line_of (slice_index c.deref.result.now)) (c.deref-2.ensures.value ∙ c.read_executions.ensures.waiting)
    ∙ line_read v name h same c.args.term m c.deref.result.now waiting c.requires.within executions)
    c.put_in_line.ensures
