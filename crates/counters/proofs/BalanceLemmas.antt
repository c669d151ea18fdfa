-- What is kept beside what nodes spent and moved is the balance of each.
use Rattle.std.specs.Prelude.{◌≡◌, ◌<◌, ◌≤◌, ◌^◌, ℕ, List, [], length, get_or, map, slice_set, ℤ, pos, ◌+ℤ◌, ◌≤ℤ◌}
use Rattle.std.specs.List.{range_with_len}
use Rattle.std.proofs.Common.{ap, arith, subst, sym, ◌∙◌, ⊎_elim}
use Rattle.std.proofs.Math.ListN.{length-set}
use Rattle.std.proofs.lemmas.Bool.{cases_eq, cases_lt}
use Rattle.std.proofs.lemmas.Int.{ints}
use Rattle.std.proofs.lemmas.List.{get_or-set_same, get_or-set_other, get_or_past}
use Rattle.std.proofs.lemmas.List.FromFn.{fill_by_all, get_or-map-range_with_len, length-map-range_with_len}
use Rattle.counters.specs.Sums.{node_numbers, AreWithin}
use Rattle.counters.specs.Cells.{Cells, Shares, balance_of, came_to, no_shares, row_cell, spent_cell, went_from, WritesCell, WritesRowCell}
use Rattle.counters.specs.Balances.{AreBalances, AreReadFrom, IsLonger}
use Rattle.counters.specs.Joins.{HasGreaterShares, NoShareGreater}
use Rattle.counters.proofs.CounterJoins.{moved_bottom, spent_bottom}
use Rattle.counters.proofs.Columns.{within-places}
use Rattle.counters.proofs.SumLemmas.{sum-zero, sum_others-zero}

-- a node behind the last place has nothing
pub balance-past : (shares : Shares) (balances : List ℤ) → AreBalances shares balances → (node : ℕ) →
    length balances ≤ node → balance_of shares node ≡ pos 0
balance-past shares balances h node past =
    let came : came_to shares.second node ≡ 0 = sum-zero node_numbers (λ from. row_cell shares.second from node)
    (λ from. h.to from node past) in
    let went : went_from shares.second node ≡ 0 = sum_others-zero node_numbers node (row_cell shares.second node)
    (λ to. h.from node to past) in
    let spent = h.spent node past in
    omega (arith, ints)

-- so what is read of any node is its balance
pub balance-read : (shares : Shares) (balances : List ℤ) → AreBalances shares balances → (node : ℕ) →
    get_or balances node (pos 0) ≡ balance_of shares node
balance-read shares balances h node = ⊎_elim (λ low. h.read node low)
    (λ past. get_or_past balances node (pos 0) past ∙ sym (balance-past shares balances h node past))
    (cases_lt node (length balances))

pub balances-read : (shares : Shares) (balances into : List ℤ) (n : ℕ) → AreBalances shares balances →
    into ≡ map (λ node. get_or balances node (pos 0)) (range_with_len 0 n) →
    into ≡ map (balance_of shares) (range_with_len 0 n)
balances-read shares balances into n h is =
    let read : ℕ → ℤ = λ node. get_or balances node (pos 0) in
    fill_by_all (balance_of shares) into n (pos 0) (ap length is ∙ length-map-range_with_len read 0 n)
    (λ i low. ap (λ xs. get_or xs i (pos 0)) is ∙ get_or-map-range_with_len read 0 n i i (pos 0) low (omega arith)
    ∙ balance-read shares balances h i)

-- nothing was moved or spent
pub no-balances : (balances : List ℤ) → balances ≡ [] → AreBalances no_shares balances
no-balances balances none = subst (λ bs. AreBalances no_shares bs) (sym none) (record {
  few = omega arith;
  read = λ node low. absurd (omega (arith, low));
  small = within-places _ [] (λ i low. absurd (omega (arith, low)));
  spent = λ node past. spent_bottom node;
  from = λ from to past. moved_bottom from to;
  to = λ from to past. moved_bottom from to;
})

-- zeros behind change nothing
pub longer-balances : (shares : Shares) (old new : List ℤ) → AreBalances shares old → IsLonger old new →
    length new ≤ 256 → AreBalances shares new
longer-balances shares old new h longer few =
    let len = longer.len in
    record {
      few = few;
      read = λ node low. longer.each node ∙ balance-read shares old h node;
      small = λ place. subst (λ (b : ℤ). (pos 0 ≤ℤ (b +ℤ pos (2 ^ 100))) × (b ≤ℤ pos (2 ^ 100))) (sym (longer.each place))
          (h.small place);
      spent = λ node past. h.spent node (omega (arith, past, len));
      from = λ from to past. h.from from to (omega (arith, past, len));
      to = λ from to past. h.to from to (omega (arith, past, len));
    }

-- what a node spent is written, and its balance
pub spent-written : (shares : Shares) (first : Cells) (balances : List ℤ) (node number : ℕ) (x : ℤ)
    → AreBalances shares balances → node < length balances → WritesCell shares.first first node number
    → x ≡ balance_of (record { first = first; second = shares.second }) node
    → (pos 0 ≤ℤ (x +ℤ pos (2 ^ 100))) × (x ≤ℤ pos (2 ^ 100))
    → AreBalances (record { first = first; second = shares.second }) (slice_set balances node x)
spent-written shares first balances node number x h inside writes is small =
    let len = length-set balances node x in
    let here : get_or (slice_set balances node x) node (pos 0) ≡ x = get_or-set_same balances node x (pos 0) inside in
    record {
      few = omega (arith, len, h.few);
      read = λ q low. ⊎_elim
          (λ same. subst (λ (p : ℕ). get_or (slice_set balances node x) p (pos 0)
          ≡ balance_of (record { first = first; second = shares.second }) p) (sym same) (here ∙ is))
          (λ ne.
          let other = writes.other_cells q ne in
          let kept = get_or-set_other balances node q x (pos 0) ne in
          let before = h.read q (omega (arith, low, len)) in
          omega (arith, ints))
          (cases_eq q node);
      small = λ place. ⊎_elim
          (λ same. subst (λ (b : ℤ). (pos 0 ≤ℤ (b +ℤ pos (2 ^ 100))) × (b ≤ℤ pos (2 ^ 100)))
          (sym (ap (λ p. get_or (slice_set balances node x) p (pos 0)) same ∙ here)) small)
          (λ ne. subst (λ (b : ℤ). (pos 0 ≤ℤ (b +ℤ pos (2 ^ 100))) × (b ≤ℤ pos (2 ^ 100)))
          (sym (get_or-set_other balances node place x (pos 0) ne)) (h.small place))
          (cases_eq place node);
      spent = λ q past. writes.other_cells q (λ same. omega (arith, same, past, len, inside))
          ∙ h.spent q (omega (arith, past, len));
      from = λ from to past. h.from from to (omega (arith, past, len));
      to = λ from to past. h.to from to (omega (arith, past, len));
    }

-- what a node moved is written, and all balances
pub moved-settled : (shares after : Shares) (old new : List ℤ) (from to number : ℕ) → AreBalances shares old →
    after.first ≡ shares.first → WritesRowCell shares.second after.second from to number →
    from < length old → to < length old → length new ≡ length old → AreReadFrom after new → AreWithin (2 ^ 100) new →
    AreBalances after new
moved-settled shares after old new from to number h same writes has_from has_to len read small = record {
  few = omega (arith, len, h.few);
  read = read;
  small = small;
  spent = λ node past. ap (λ cells. spent_cell (record { first = cells; second = after.second }) node) same
      ∙ h.spent node (omega (arith, past, len));
  from = λ f t past. writes.other_cells f t (λ both. let e = both.0 in omega (arith, e, past, len, has_from))
      ∙ h.from f t (omega (arith, past, len));
  to = λ f t past. writes.other_cells f t (λ both. let e = both.1 in omega (arith, e, past, len, has_to))
      ∙ h.to f t (omega (arith, past, len));
}

-- a node that has nothing on either side has nothing in the join
pub joined-settled : (x y j : Shares) (of_x of_y new : List ℤ) → AreBalances x of_x → AreBalances y of_y →
    HasGreaterShares x y j → length of_x ≤ length new → length of_y ≤ length new → length new ≤ 256 → AreReadFrom j new →
    AreWithin (2 ^ 100) new → AreBalances j new
joined-settled x y j of_x of_y new a b greater long_x long_y few read small = record {
  few = few;
  read = read;
  small = small;
  spent = λ node past.
      let here = greater.0 node in
      let left = a.spent node (omega (arith, past, long_x)) in
      let right = b.spent node (omega (arith, past, long_y)) in
      omega arith;
  from = λ from to past.
      let here = greater.1 from to in
      let left = a.from from to (omega (arith, past, long_x)) in
      let right = b.from from to (omega (arith, past, long_y)) in
      omega arith;
  to = λ from to past.
      let here = greater.1 from to in
      let left = a.to from to (omega (arith, past, long_x)) in
      let right = b.to from to (omega (arith, past, long_y)) in
      omega arith;
}

-- a copy of what a node has is no more
pub copied-settled : (x y : Shares) (old new : List ℤ) → AreBalances x old → NoShareGreater y x →
    length new ≡ length old → AreReadFrom y new → AreWithin (2 ^ 100) new → AreBalances y new
copied-settled x y old new h below len read small = record {
  few = omega (arith, len, h.few);
  read = read;
  small = small;
  spent = λ node past.
      let here = below.0 node in
      let none = h.spent node (omega (arith, past, len)) in
      omega arith;
  from = λ from to past.
      let here = below.1 from to in
      let none = h.from from to (omega (arith, past, len)) in
      omega arith;
  to = λ from to past.
      let here = below.1 from to in
      let none = h.to from to (omega (arith, past, len)) in
      omega arith;
}
