use Rattle.std.proofs.Common.{◌≡◌, ◌++◌, ◌<◌, ℕ, cond, map, ap, arith, ◌∙◌}
use Rattle.std.specs.Prelude.{◌==◌, ◌&&◌, ◌+◌, min, nat_lt, not, slice_index}
use Rattle.std.specs.List.{filter, flat_map, range_with_len}
use Rattle.std.proofs.lemmas.List.Elements.{All-filter}
use Rattle.actions.specs.Limits.{max_terms}
use Rattle.operations.specs.declared.counted.Counted.TheVariants.{Hits}
use Rattle.replica_state.specs.Points.{Held}
use Rattle.sharing.specs.Memory.{patience, seen, still_before}
use Rattle.sharing.specs.Remembered.{recalled_at}
use Rattle.sharing.specs.Shares.{passers, point_shifts, still_now, term_shifts}
use Rattle.sharing.proofs.Alike.{passers_read, room_for}
use Rattle.sharing.proofs.Due.{all_below}
use Rattle.sharing.proofs.point.push_point.Goals as goal

pub push_terms-requires : goal.push_terms-requires
push_terms-requires g c =
    let nodes = c.args.nodes in
    let hits = slice_index c.deref.result.now in
    let rec = recalled_at c.args.remembered in
    let test = λ (other : ℕ). not (other == c.args.node) && nat_lt (seen rec other) (hits other) in
    let passed = c.in_ok-find_passers.ensures in
    room_for nodes (filter test (range_with_len 0 nodes)) _ (omega arith)
    (All-filter test (λ other. other < nodes) (range_with_len 0 nodes) (all_below nodes))
    (record { rights = c.requires.room.rights; executions = c.requires.room.executions }) passed

pub returns-clause-shifts : goal.returns-clause-shifts
unfolding point_shifts
returns-clause-shifts g c = λ v same.
    let name = c.args.entry.name in
    let node = c.args.node in
    let nodes = c.args.nodes in
    let rec = recalled_at c.args.remembered in
    let h = g.S.Stored.held c.args.stored.now in
    let items = c.args.shifts.now.items in
    let others = c.in_ok-find_passers.ensures
    ∙ passers_read v name h same rec node nodes c.deref.result.now (c.deref.ensures.value ∙ c.read_hits.ensures) in
    let still : c.still_rounds-still.result ≡ still_now v name rec node = c.still_rounds-still.ensures
    ∙ ap (λ (k : Held). cond (nat_lt (seen rec node) (k.number (Hits node))) 0 (min patience (still_before rec + 1))) same in
    c.in_ok-push_terms.ensures.shifts v same
    ∙ ap (λ o. items ++ flat_map (term_shifts v name node c.still_rounds-still.result o) (range_with_len 0 max_terms))
    others
    ∙ ap (λ s. items ++ flat_map (term_shifts v name node s (passers v name rec node nodes)) (range_with_len 0 max_terms))
    still

pub returns-clause-memory : goal.returns-clause-memory
returns-clause-memory g c = λ v same.
    let name = c.args.entry.name in
    let node = c.args.node in
    let nodes = c.args.nodes in
    let rec = recalled_at c.args.remembered in
    let still : c.still_rounds-still.result ≡ still_now v name rec node = c.still_rounds-still.ensures
    ∙ ap (λ (k : Held). cond (nat_lt (seen rec node) (k.number (Hits node))) 0 (min patience (still_before rec + 1))) same in
    let hits : c.read_hits.new.hits.items ≡ map (v.hits name) (range_with_len 0 nodes) = c.read_hits.ensures
    ∙ ap (λ (k : Held). map (λ other. k.number (Hits other)) (range_with_len 0 nodes)) same in
    λ i. record { name = name; hits = hits i; still = still i }
