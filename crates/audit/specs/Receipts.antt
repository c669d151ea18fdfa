-- Receipts: the entries of the traces, each once and none missing, in the order of each list.
use Rattle.std.specs.Prelude.{◌≡◌, ℕ, ◌<◌, ◌≤◌, ◌==◌, ◌&&◌, if◌then◌else◌, Bool, false, List, [], length, All, Option, Some, None, slice_get, slice_index_or, count_by, sum_by, Vec}
use Rattle.std.specs.declared.alloc.Global.{Global}
use Rattle.node_calls.specs.declared.receipt.Receipt.{Receipt}
use Rattle.audit.specs.declared.receipts.Seen.{Seen}
use Rattle.node_calls.specs.Told.{told}
use Rattle.audit.specs.Traces.{Traces, trace_of, entry_at}

-- each list holds those of one caller, in the order of its calls
abbrev pub Lists : Type 0
Lists = List (Vec Receipt Global)

-- the receipt's place names an entry, which it tells
abbrev pub IsReceiptOf : Traces → Receipt → Type 0
IsReceiptOf traces receipt =
    entry_at traces receipt.node receipt.index ≡ Some (told receipt.entry)

-- each receipt of each list does
abbrev pub AllMatch : Traces → Lists → Type 0
AllMatch traces lists = All (λ list. All (IsReceiptOf traces) list.items) lists

-- how many receipts of a list are of a place
abbrev pub given_count : ℕ → ℕ → List Receipt → ℕ
given_count n i receipts = count_by (λ r. (r.node == n) && (r.index == i)) receipts

-- how many receipts of all lists are
abbrev pub given_all : ℕ → ℕ → Lists → ℕ
given_all n i lists = sum_by (λ list. given_count n i list.items) lists

-- of the entries of a node, which were seen
abbrev pub marks_in : Option (Vec Bool Global) → List Bool
marks_in None = []
marks_in (Some row) = row.items

abbrev pub marks_of : Seen → ℕ → List Bool
marks_of seen n = marks_in (slice_get seen.rows.items n)

-- 1 where the place was seen, else 0
unfoldable pub times_seen : Seen → ℕ → ℕ → ℕ
times_seen seen n i = if slice_index_or (marks_of seen n) i false then 1 else 0

-- there is a place for this receipt
abbrev pub HasPlace : Seen → Receipt → Type 0
HasPlace seen receipt = receipt.index < length (marks_of seen receipt.node)

-- there are as many places as these traces have entries
abbrev pub HasPlaces : Seen → Traces → Type 0
HasPlaces seen traces = (n : ℕ) → length (marks_of seen n) ≡ length (trace_of traces n)

abbrev pub HaveSamePlaces : Seen → Seen → Type 0
HaveSamePlaces seen other = (n : ℕ) → length (marks_of other n) ≡ length (marks_of seen n)

-- no place has two receipts
abbrev pub GivenOnce : Lists → Type 0
GivenOnce lists = (n i : ℕ) → given_all n i lists ≤ 1

abbrev pub GivenTwice : Lists → Type 0
GivenTwice lists = (n : ℕ) × (i : ℕ) × (2 ≤ given_all n i lists)

-- each entry has a receipt
abbrev pub GivenAll : Traces → Lists → Type 0
GivenAll traces lists = (n i : ℕ) → i < length (trace_of traces n) → given_all n i lists ≡ 1

abbrev pub SomeMissing : Traces → Lists → Type 0
SomeMissing traces lists = (n : ℕ) × (i : ℕ) × (i < length (trace_of traces n)) × (given_all n i lists ≡ 0)

-- the receipt at place p of a list isn't above an earlier one of its node
pub record IsLate (receipts : List Receipt) (p : ℕ) : Type 0 where
  pub q : ℕ
  pub earlier : Receipt
  pub late : Receipt
  pub before : q < p
  pub first : slice_get receipts q ≡ Some earlier
  pub second : slice_get receipts p ≡ Some late
  pub node : earlier.node ≡ late.node
  pub falls : late.index ≤ earlier.index

-- the indices of each node ascend
abbrev pub Ascends : List Receipt → Type 0
Ascends receipts = (p : ℕ) → IsLate receipts p → ⊥

abbrev pub AllAscend : Lists → Type 0
AllAscend lists = All (λ list. Ascends list.items) lists

-- p is the first such place of the first such list
pub record IsFirstLate (lists : Lists) (l p : ℕ) : Type 0 where
  pub list : Vec Receipt Global
  pub there : slice_get lists l ≡ Some list
  pub late : IsLate list.items p
  pub least : (k : ℕ) → k < p → IsLate list.items k → ⊥
  pub earlier : (k : ℕ) (d : Vec Receipt Global) → k < l → Ascends (slice_index_or lists k d).items
