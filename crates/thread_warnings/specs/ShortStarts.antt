-- Calls that nodes make before their workers and that weren't accepted, as the receipts tell.
use Rattle.std.specs.Prelude.{ℕ, ◌-◌, ◌==◌, Bool, true, false, ◌&&◌, not, List, [], ◌∷◌, ◌++◌, count_by, nat_lt, slice_get, if◌then◌else◌, codes, decimal}
use Rattle.std.specs.List.{flat_map, range_with_len}
use Rattle.std.specs.Option.{option_map_or}
use Rattle.thread_warnings.specs.Runs.{Lists}
use Rattle.node_calls.specs.Told.{AskTold, ask_told, shifts}
use Rattle.node_calls.specs.declared.receipt.Receipt.{Receipt}
use Rattle.thread_plans.specs.Lines.{StartValue, makes, spreads}
use Rattle.thread_plans.specs.Plans.{PlanValue}
use Rattle.thread_warnings.specs.Short.{first_place}

abbrev pub is_spread : StartValue → Bool
is_spread (makes ask) = false
is_spread (spreads name) = true

-- whether a node spreads its rights
abbrev pub spreads_at : PlanValue → ℕ → Bool
spreads_at plan node = nat_lt 0 (count_by (λ s. s.0 == node && is_spread s.1) plan.starts)

abbrev pub is_shift : AskTold → Bool
is_shift (shifts name term to amount) = true
is_shift _ = false

-- whether a call counts: where a node spreads, shifts don't, since a spread makes some
abbrev pub is_counted : Bool → AskTold → Bool
is_counted spread ask = not (spread && is_shift ask)

abbrev pub is_counted_start : Bool → StartValue → Bool
is_counted_start spread (makes ask) = is_counted spread ask
is_counted_start spread (spreads name) = false

-- the calls of a node before its workers that count, and the receipts of such calls
abbrev pub counted_starts : Bool → ℕ → List (ℕ × StartValue) → ℕ
counted_starts spread node starts = count_by (λ s. s.0 == node && is_counted_start spread s.1) starts

abbrev pub start_calls : PlanValue → ℕ → ℕ
start_calls plan node = counted_starts (spreads_at plan node) node plan.starts

abbrev pub counted_in : Bool → List Receipt → ℕ
counted_in spread receipts = count_by (λ (r : Receipt). is_counted spread (ask_told r.entry.ask)) receipts

abbrev pub start_receipts : PlanValue → Lists → ℕ → ℕ
start_receipts plan lists node =
    option_map_or (λ list. counted_in (spreads_at plan node) list.items) (slice_get lists (first_place plan node)) 0

-- what is said of a node where there are fewer receipts
abbrev pub node_short : ℕ → ℕ → List (List ℕ)
node_short node short =
    (codes "node " ++ (decimal node ++ (codes ": start calls not accepted: " ++ decimal short))) ∷ []

abbrev pub start_said : ℕ → ℕ → ℕ → List (List ℕ)
start_said node calls receipts = if nat_lt receipts calls then node_short node (calls - receipts) else []

abbrev pub node_said : PlanValue → Lists → ℕ → List (List ℕ)
node_said plan lists node = start_said node (start_calls plan node) (start_receipts plan lists node)

-- of all nodes
unfoldable pub starts_lines : PlanValue → Lists → List (List ℕ)
starts_lines plan lists = flat_map (node_said plan lists) (range_with_len 0 plan.nodes)
