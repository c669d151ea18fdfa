use Rattle.std.proofs.Common.{◌≡◌, ◌≤◌, ◌<◌, ℕ, length, get_or, pos}
use Rattle.std.specs.Prelude.{◌+ℤ◌, ◌-ℤ◌}
use Rattle.counters.specs.Cells.{came_to, went_from}
use Rattle.counters.proofs.CellLemmas.{AreApart}
use Rattle.counters.proofs.cells.add_rows.Given as goal

abbrev pub invariant-loop-node : goal.invariant-loop-node
invariant-loop-node l =
    record {
      apart : AreApart l.node-iterator;
      came : (i : ℕ) → came_to l.node-iterator i ≤ came_to l.rows i;
      went : (i : ℕ) → went_from l.node-iterator i ≤ went_from l.rows i;
      len : length l.sums ≡ length l.initial.sums;
      sums : (i : ℕ) → i < length l.sums → get_or l.sums i (pos 0)
          +ℤ (pos (came_to l.node-iterator i) -ℤ pos (went_from l.node-iterator i))
          ≡ get_or l.initial.sums i (pos 0) +ℤ (pos (came_to l.rows i) -ℤ pos (went_from l.rows i));
    }
