-- What a move of rights makes of the balances.
use Rattle.std.specs.Prelude.{◌≡◌, ◌<◌, ◌≤◌, ◌==◌, ◌+◌, ◌-◌, ◌^◌, ℕ, List, length, get_or, ℤ, pos, ◌+ℤ◌, ◌≤ℤ◌}
use Rattle.std.proofs.Common.{ap, arith, cond, subst, sym, ◌∙◌, ⊎_elim}
use Rattle.std.proofs.lemmas.Bool.{cases_eq, cases_lt}
use Rattle.std.proofs.lemmas.Int.{ints}
use Rattle.std.proofs.lemmas.List.{get_or_past}
use Rattle.counters.specs.Sums.{node_numbers, AreWithin}
use Rattle.counters.specs.Cells.{Rows, Shares, balance_of, came_to, row_cell, spent_cell, went_from, WritesRowCell}
use Rattle.counters.specs.Balances.{AreBalances, MovesBetween, comes_to, goes_from}
use Rattle.counters.proofs.BalanceLemmas.{moved-settled}
use Rattle.counters.proofs.CellLemmas.{below-numbers, chosen-other, chosen-same}
use Rattle.counters.proofs.SumLemmas.{sum-but-one, sum-same}

came-moved : (old new : Rows) (from to total before node : ℕ) → from < 256 → WritesRowCell old new from to total →
    before ≡ row_cell old from to → before ≤ total →
    came_to new node ≡ came_to old node + comes_to to (total - before) node
came-moved old new from to total before node low writes was less = ⊎_elim
    (λ same.
    let comes = chosen-same node to (total - before) 0 same in
    let sums = sum-but-one node_numbers from (λ f. row_cell old f node) (λ f. row_cell new f node) (below-numbers from low)
    (λ f ne. writes.other_cells f node (λ both. ne both.0)) in
    let here = ap (row_cell new from) same ∙ writes.this_cell in
    let there = ap (row_cell old from) same in
    omega arith)
    (λ other.
    let comes = chosen-other node to (total - before) 0 other in
    let sums = sum-same node_numbers (λ f. row_cell new f node) (λ f. row_cell old f node)
    (λ f l. writes.other_cells f node (λ both. other both.1)) in
    omega arith)
    (cases_eq node to)

-- what goes from a node is that of the others
went-same : (old new : Rows) (node : ℕ) → ((j : ℕ) → (j ≡ node → ⊥) → row_cell new node j ≡ row_cell old node j) →
    went_from new node ≡ went_from old node
went-same old new node h = sum-same node_numbers _ _ (λ j l. ⊎_elim
    (λ e. chosen-same j node 0 (row_cell new node j) e ∙ sym (chosen-same j node 0 (row_cell old node j) e))
    (λ ne. chosen-other j node 0 (row_cell new node j) ne ∙ h j ne ∙ sym (chosen-other j node 0 (row_cell old node j) ne))
    (cases_eq j node))

went-moved : (old new : Rows) (from to total before node : ℕ) → to < 256 → WritesRowCell old new from to total →
    before ≡ row_cell old from to → before ≤ total →
    went_from new node ≡ went_from old node + goes_from from to (total - before) node
went-moved old new from to total before node low writes was less = ⊎_elim
    (λ same.
    let none = chosen-same from to 0 (cond (node == from) (total - before) 0) same in
    let sums = went-same old new node (λ j ne. writes.other_cells node j
    (λ both. ne (both.1 ∙ sym same ∙ sym both.0))) in
    omega arith)
    (λ apart.
    let gone = chosen-other from to 0 (cond (node == from) (total - before) 0) apart in
    ⊎_elim
    (λ own.
    let goes = chosen-same node from (total - before) 0 own in
    let far : to ≡ node → ⊥ = λ e. apart (sym own ∙ sym e) in
    let sums = sum-but-one node_numbers to (λ j. cond (j == node) 0 (row_cell old node j))
    (λ j. cond (j == node) 0 (row_cell new node j)) (below-numbers to low)
    (λ j ne. ap (λ x. cond (j == node) 0 x) (writes.other_cells node j (λ both. ne both.1))) in
    let here = chosen-other to node 0 (row_cell new node to) far ∙ ap (λ n. row_cell new n to) own ∙ writes.this_cell in
    let there = chosen-other to node 0 (row_cell old node to) far ∙ ap (λ n. row_cell old n to) own in
    omega arith)
    (λ other.
    let goes = chosen-other node from (total - before) 0 other in
    let sums = went-same old new node (λ j ne. writes.other_cells node j (λ both. other both.0)) in
    omega arith)
    (cases_eq node from))
    (cases_eq from to)

-- ---- so the balances are those of the cells again

pub moved-written : (shares after : Shares) (old new : List ℤ) (from to total before : ℕ) → AreBalances shares old →
    after.first ≡ shares.first → WritesRowCell shares.second after.second from to total →
    before ≡ row_cell shares.second from to → before ≤ total → from < length old → to < length old →
    MovesBetween from to (total - before) old new →
    ((node : ℕ) → (pos 0 ≤ℤ (balance_of after node +ℤ pos (2 ^ 100))) × (balance_of after node ≤ℤ pos (2 ^ 100))) →
    AreBalances after new
moved-written shares after old new from to total before h same writes was less has_from has_to moves small =
    let few = h.few in
    let low : from < 256 = omega (arith, few, has_from) in
    let low_to : to < 256 = omega (arith, few, has_to) in
    let len = moves.len in
    let read : (node : ℕ) → node < length new → get_or new node (pos 0) ≡ balance_of after node =
    λ node inside.
    let each = moves.each node (omega (arith, inside, len)) in
    let balance = h.read node (omega (arith, inside, len)) in
    let came = came-moved shares.second after.second from to total before node low writes was less in
    let went = went-moved shares.second after.second from to total before node low_to writes was less in
    let spent = ap (λ cells. spent_cell (record { first = cells; second = after.second }) node) same in
    omega (arith, ints)
    in
    let within : AreWithin (2 ^ 100) new = λ place. ⊎_elim
    (λ inside. subst (λ (b : ℤ). (pos 0 ≤ℤ (b +ℤ pos (2 ^ 100))) × (b ≤ℤ pos (2 ^ 100))) (sym (read place inside))
    (small place))
    (λ past. subst (λ (b : ℤ). (pos 0 ≤ℤ (b +ℤ pos (2 ^ 100))) × (b ≤ℤ pos (2 ^ 100)))
    (sym (get_or_past new place (pos 0) past)) (omega arith, omega arith))
    (cases_lt place (length new))
    in
    moved-settled shares after old new from to total h same writes has_from has_to len read within
