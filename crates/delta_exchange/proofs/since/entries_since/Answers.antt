use Rattle.std.proofs.Common.{◌≡◌, ◌++◌, ℕ, ◌<◌, ◌≤◌, List, map, subst, IsSome, arith}
use Rattle.std.specs.BTreeMap.{IsOrdered}
use Rattle.replica_state.specs.Points.{Held}
use Rattle.operations.specs.Counts.{counted_cmp}
use Rattle.std.specs.List.{flat_map}
use Rattle.delta_exchange.specs.declared.marks.NameMarks.{NameMarks}
use Rattle.message_format.specs.Messages.{entry_value}
use Rattle.delta_exchange.specs.Since.{entry_marked, entry_under, entries_since}
use Rattle.delta_exchange.proofs.SinceEntries.{passed_over, looked_at}
use Rattle.delta_exchange.proofs.since.entries_since.Goals as goal

pub loop-name-preserved : goal.loop-name-preserved
loop-name-preserved g c =
    let v = g.R.Replica.state c.args.replica.now in
    let marks = c.args.marks.now in
    let base = c.args.base in
    let n : List ℕ × NameMarks = (c.in-Some.name.now, c.in-Some.marked.now) in
    let le : n.1.latest ≤ base = omega (arith, c.if-latest-base.false, c.latest.ensures) in
    let before = rw c.in-Some.ensures.steps at c.loop-name.invariant in
    record {
      fit = before.fit;
      ordered = λ h. before.ordered (λ lt some. absurd (omega (arith, le, lt)), h);
      cells = passed_over v base marks n (map entry_value c.loop-name.entries.items)
          (flat_map (entry_marked v base) c.next.new.self) (entries_since v base marks) le before.cells;
    }

pub loop-name-preserved-in-Continue-1 : goal.loop-name-preserved-in-Continue-1
loop-name-preserved-in-Continue-1 g c =
    let v = g.R.Replica.state c.args.replica.now in
    let marks = c.args.marks.now in
    let base = c.args.base in
    let n : List ℕ × NameMarks = (c.in-Some.name.now, c.in-Some.marked.now) in
    let lt : base < n.1.latest = omega (arith, c.if-latest-base.true, c.latest.ensures) in
    let before = rw c.in-Some.ensures.steps at c.loop-name.invariant in
    let pushed = c.in_ok-push_entry_since.ensures in
    let told = map entry_value c.loop-name.entries.items in
    let more = map entry_value c.push_entry_since.new.entries.items in
    let entries = subst (λ (h : Held). more ≡ told ++ entry_under h n.0 h.key base n.1) c.point-held.ensures
    pushed.entries in
    let in_order = subst (λ (h : Held). IsSome h.key → IsOrdered counted_cmp n.1.cells) c.point-held.ensures
    pushed.ordered in
    record {
      fit = pushed.fit before.fit;
      ordered = λ h. before.ordered (λ _ some. in_order some, h);
      cells = looked_at v base marks n told more (flat_map (entry_marked v base) c.next.new.self)
          (entries_since v base marks) lt entries before.cells;
    }
