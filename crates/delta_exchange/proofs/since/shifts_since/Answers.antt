use Rattle.std.proofs.Common.{◌≡◌, ℕ, ◌<◌, ◌^◌, [], ◌∷◌, None, rules, sym, ap, ◌∙◌}
use Rattle.std.specs.List.{cons_option}
use Rattle.replica_state.specs.Stored.{reader_held}
use Rattle.delta_exchange.specs.Since.{shift_of, shifts_since}
use Rattle.message_format.proofs.Lists.{all_and_one}
use Rattle.delta_exchange.proofs.LaterCells.{earlier_more, one_more, other_more}
use Rattle.delta_exchange.proofs.since.shifts_since.Goals as goal
use Rattle.delta_exchange.proofs.since.shifts_since.Goals.{else-change-base-via-else-change-base, else-change-base-via-then-change-base+in-None-1}

pub loop-counted-preserved-in-loop-counted : goal.loop-counted-preserved-in-loop-counted
loop-counted-preserved-in-loop-counted g c =
    let h = reader_held g.S.Stored.held c.args.held in
    let w = c.args.marks.now in
    let cell : ℕ × ℕ × ℕ × ℕ = c.in-Some-shift_of.shift in
    let is : shift_of h c.in-Some.counted.now ≡ cell ∷ [] = sym c.in-Some-shift_of.ensures in
    let so_far = rw c.in-Some.ensures.steps at c.loop-counted.invariant.cells in
    let fits : cell.3 < 2 ^ 64 = search rules in
    record {
      fit = rw c.in_ok-push.ensures.items (all_and_one (λ (x : ℕ × ℕ × ℕ × ℕ). x.3 < 2 ^ 64) c.loop-counted.shifts.items
          cell c.loop-counted.invariant.fit fits);
      cells = rw c.in_ok-push.ensures.items (one_more (shift_of h) w c.args.base c.loop-counted.shifts.items
          (shifts_since h c.args.base w) (c.in-Some.counted.now, c.in-Some.mark.now) c.next.new.self cell
          (rw c.change.ensures at c.if-change-base.true) is so_far);
    }

pub loop-counted-preserved : goal.loop-counted-preserved
loop-counted-preserved g c =
    let h = reader_held g.S.Stored.held c.args.held in
    let w = c.args.marks.now in
    let so_far = rw c.in-Some.ensures.steps at c.loop-counted.invariant.cells in
    elim c.else-change-base.branch [
      | else-change-base-via-else-change-base b ↦ record {
        fit = c.loop-counted.invariant.fit;
        cells = earlier_more (shift_of h) w c.args.base c.loop-counted.shifts.items (shifts_since h c.args.base w)
            (c.in-Some.counted.now, c.in-Some.mark.now) c.next.new.self
            (rw c.change.ensures at b.if-change-base.false) so_far;
      }
      | else-change-base-via-then-change-base+in-None-1 b ↦
          let none : b.shift_of.result ≡ None = cc in
          record {
            fit = c.loop-counted.invariant.fit;
            cells = other_more (shift_of h) w c.args.base c.loop-counted.shifts.items (shifts_since h c.args.base w)
                (c.in-Some.counted.now, c.in-Some.mark.now) c.next.new.self
                (sym b.shift_of.ensures ∙ ap (λ o. cons_option o []) none) so_far;
          }
    ]
