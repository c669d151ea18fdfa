-- The balance of each node, side by side.
use Rattle.std.specs.Prelude.{◌≡◌, ◌<◌, ◌≤◌, ◌^◌, ◌==◌, ℕ, Bool, true, if◌then◌else◌, List, length, get_or, ℤ, pos, int_le, ◌+ℤ◌, ◌-ℤ◌}
use Rattle.counters.specs.Cells.{Shares, balance_of, moved_cell, spent_cell}
use Rattle.counters.specs.Sums.{AreWithin}

-- at each place stands the balance of the node
abbrev pub AreReadFrom : Shares → List ℤ → Type 0
AreReadFrom shares balances =
    (node : ℕ) → node < length balances → get_or balances node (pos 0) ≡ balance_of shares node

-- the balance of each node that has a place; one that has none spent, moved and was given nothing
pub record AreBalances (shares : Shares) (balances : List ℤ) : Type 0 where
  pub few : length balances ≤ 256
  pub read : AreReadFrom shares balances
  pub small : AreWithin (2 ^ 100) balances
  pub spent : (node : ℕ) → length balances ≤ node → spent_cell shares node ≡ 0
  pub from : (from to : ℕ) → length balances ≤ from → moved_cell shares from to ≡ 0
  pub to : (from to : ℕ) → length balances ≤ to → moved_cell shares from to ≡ 0

-- new is old, with zeros behind
pub record IsLonger (old new : List ℤ) : Type 0 where
  pub len : length old ≤ length new
  pub each : (place : ℕ) → get_or new place (pos 0) ≡ get_or old place (pos 0)

-- what comes to a node of so much that is moved, and what goes from it; a grant comes from nobody
abbrev pub comes_to : ℕ → ℕ → ℕ → ℕ
comes_to to amount node = if node == to then amount else 0

abbrev pub goes_from : ℕ → ℕ → ℕ → ℕ → ℕ
goes_from from to amount node = if from == to then 0 else (if node == from then amount else 0)

-- so much is moved from one node to another
pub record MovesBetween (from to amount : ℕ) (old new : List ℤ) : Type 0 where
  pub len : length new ≡ length old
  pub each : (node : ℕ) → node < length old → get_or new node (pos 0)
      ≡ get_or old node (pos 0) +ℤ pos (comes_to to amount node) -ℤ pos (goes_from from to amount node)

-- of each of the first nodes, of as many as there are marks, whether its balance is 0 or less
abbrev pub AreMarked : List Bool → List ℤ → Type 0
AreMarked marks balances = (node : ℕ) → node < length marks
    → get_or marks node true ≡ int_le (get_or balances node (pos 0)) (pos 0)

-- what is known of the balances: who of the first nodes is short, and what one node has; and there are
-- as many as nodes at most
pub record AreKnown (marks : List Bool) (place : ℕ) (balance : ℤ) (balances : List ℤ) : Type 0 where
  pub few : length balances ≤ 256
  pub marked : AreMarked marks balances
  pub one : get_or balances place (pos 0) ≡ balance
