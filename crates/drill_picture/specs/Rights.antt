-- Where the rights of a counted term are: what a column of a chart shows.
use Rattle.std.specs.Prelude.{ℕ, ◌+◌, ◌-◌, ◌==◌, ◌&&◌, Bool, List, length, min, nat_le, nat_lt, replicate, slice_index, slice_set, if◌then◌else◌}
use Rattle.std.specs.List.{list_any}
use Rattle.stamp_register.specs.Keys.{stamp_of}
use Rattle.std.specs.Str.{bytes_eq}
use Rattle.message_format.specs.Messages.{EntryValue}
use Rattle.drill_picture.specs.declared.parcel.Parcel.{Parcel}
use Rattle.drill_picture.specs.Budgets.{BudgetTold, same_stamp}

-- the rights that there are, how many were spent, how many each node holds, and how many are on their way to it
pub record RowTold : Type 0 where
  pub whole : ℕ
  pub spent : ℕ
  pub held : List ℕ
  pub way : List ℕ

-- so many nodes without any
abbrev pub empty_row : ℕ → RowTold
empty_row nodes = record { whole = 0; spent = 0; held = replicate nodes 0; way = replicate nodes 0 }

-- what of some more rights is told: 2^64-1 are, and no more
abbrev pub fitting : RowTold → ℕ → ℕ
fitting row amount = min amount (18446744073709551615 - row.whole)

-- a node gets rights that weren't there before
unfoldable pub after_grant : ℕ → ℕ → RowTold → RowTold
after_grant node amount row =
    if nat_lt node (length row.held) then record {
      whole = row.whole + fitting row amount;
      spent = row.spent;
      held = slice_set row.held node (slice_index row.held node + fitting row amount);
      way = row.way;
    } else row

-- it spends one, if it holds one
unfoldable pub after_spend : ℕ → RowTold → RowTold
after_spend node row =
    if nat_lt 0 (slice_index row.held node) then record {
      whole = row.whole;
      spent = row.spent + 1;
      held = slice_set row.held node (slice_index row.held node - 1);
      way = row.way;
    } else row

-- it sends some of those that it holds to another, where they are on their way
unfoldable pub after_send : ℕ → ℕ → ℕ → RowTold → RowTold
after_send node to amount row =
    if nat_lt node (length row.held) && nat_lt to (length row.way) then record {
      whole = row.whole;
      spent = row.spent;
      held = slice_set row.held node (slice_index row.held node - min amount (slice_index row.held node));
      way = slice_set row.way to (slice_index row.way to + min amount (slice_index row.held node));
    } else row

-- some of those that are on their way to it arrive
unfoldable pub after_arrival : ℕ → RowTold → ℕ → RowTold
after_arrival node row amount =
    if nat_lt node (length row.held) then record {
      whole = row.whole;
      spent = row.spent;
      held = slice_set row.held node (slice_index row.held node + min amount (slice_index row.way node));
      way = slice_set row.way node (slice_index row.way node - min amount (slice_index row.way node));
    } else row

-- ---- which rights a message brings

-- a cell of a message tells of a parcel, or of a later one between the same nodes
abbrev pub cell_covers : ℕ → Parcel → ℕ × ℕ × ℕ × ℕ → Bool
cell_covers term p cell =
    (cell.0 == term) && ((cell.1 == p.from) && ((cell.2 == p.to) && nat_le p.total cell.3))

abbrev pub entry_covers : BudgetTold → Parcel → EntryValue → Bool
entry_covers b p entry =
    bytes_eq entry.name b.name
    && (same_stamp (stamp_of entry.key) b.stamp && list_any (cell_covers b.term p) entry.shifts)

-- one of these entries tells it to the node that it is for
unfoldable pub is_brought : BudgetTold → ℕ → List EntryValue → Parcel → Bool
is_brought b node entries p = (p.to == node) && list_any (entry_covers b p) entries
