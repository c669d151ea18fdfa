use Rattle.std.proofs.Common.{◌≡◌, ◌<◌, ℕ, length, map, arith, ap, subst, sym, ◌∙◌}
use Rattle.std.specs.Prelude.{◌==◌, pos, slice_index_or, vec_len}
use Rattle.std.specs.Int.{int_gap}
use Rattle.std.specs.List.{All, filter, range_with_len}
use Rattle.std.proofs.lemmas.List.Elements.{All-filter}
use Rattle.replica_state.specs.Points.{rights_of_key}
use Rattle.sharing.specs.Rooms.{AreRights}
use Rattle.sharing.specs.Shares.{line_of, waiting}
use Rattle.sharing.proofs.Alike.{on_ok, waiting_read}
use Rattle.sharing.proofs.line.line_up.Goals as goal

pub line_up_waiting-requires-clause-within : goal.line_up_waiting-requires-clause-within
line_up_waiting-requires-clause-within g c =
    let test = λ (other : ℕ). int_gap (pos 0) (slice_index_or c.deref.result.now other (pos 0)) == 0 in
    let P : ℕ → Type 0 = λ node. node < vec_len c.args.room.now.executions in
    subst (All P) (sym (c.in_ok-find_waiting.ensures ∙ ap (filter test) c.deref-2.ensures.value))
    (All-filter test P c.args.room.now.others.items c.requires.room.executions)

pub returns-clause-line : goal.returns-clause-line
returns-clause-line g c = on_ok _ _ c.line_up_waiting.result
    (λ is v name same.
    let h = g.S.Stored.held c.args.stored.now in
    let term = c.args.term in
    let others = c.args.room.now.others.items in
    let n = length c.deref.result.now in
    let within : All (λ o. o < n) others = λ i d low.
    let here = c.requires.room.rights i d low in
    omega (arith, here, c.deref.ensures.len) in
    let test = λ (other : ℕ). int_gap (pos 0) (slice_index_or c.deref.result.now other (pos 0)) == 0 in
    let rights : c.deref.result.now ≡ map (rights_of_key h.key h.number term) (range_with_len 0 n) =
    subst (AreRights h term) (sym c.deref.ensures.value) c.requires.rights in
    let waits : c.find_waiting.new.waiting.items ≡ waiting v name term others = c.in_ok-find_waiting.ensures
    ∙ ap (filter test) c.deref-2.ensures.value
    ∙ waiting_read v name h same term n c.deref.result.now others within rights in
    is v name same ∙ ap (line_of (v.execs name term)) waits)
    c.line_up_waiting.ensures.line
