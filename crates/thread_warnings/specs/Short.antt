-- Calls of workers that weren't accepted, as the receipts tell.
use Rattle.std.specs.Prelude.{ℕ, ◌+◌, ◌-◌, ◌*◌, ◌==◌, Bool, ◌&&◌, List, [], ◌∷◌, ◌++◌, count_by, nat_lt, slice_get, take, if◌then◌else◌, codes, decimal, vec_len}
use Rattle.std.specs.Option.{is_some, option_map_or}
use Rattle.thread_warnings.specs.Runs.{Lists}
use Rattle.thread_plans.specs.BadLines.{count_one, most_named}
use Rattle.thread_plans.specs.Plans.{BlockValue, PlanValue, calls_in}

-- ---- where the receipts of a worker stand

-- how many lists a node has beside those of its workers: of what it does before them, and of its gossip
abbrev pub lists_beside : PlanValue → ℕ
lists_beside plan = if is_some plan.gossip then 2 else 1

-- the place of a node's first list; and of that of a worker of it, before whose block so many blocks stand
abbrev pub first_place : PlanValue → ℕ → ℕ
first_place plan node = node * lists_beside plan + count_by (λ b. nat_lt b.node node) plan.blocks

abbrev pub worker_place : PlanValue → ℕ → ℕ → ℕ
worker_place plan before node =
    first_place plan node + 1 + count_by (λ b. b.node == node) (take before plan.blocks)

-- how many receipts the list at a place has
abbrev pub receipts_at : Lists → ℕ → ℕ
receipts_at lists place = option_map_or (λ list. vec_len list) (slice_get lists place) 0

-- ---- what is said

-- how many calls of a worker weren't accepted
abbrev pub short_of : PlanValue → Lists → ℕ → BlockValue → ℕ
short_of plan lists before b = calls_in b - receipts_at lists (worker_place plan before b.node)

-- a worker is named where there are some, unless so many are named already
abbrev pub is_named : ℕ → ℕ → Bool
is_named named short = nat_lt 0 short && nat_lt named most_named

-- of the worker that begins in a line of this number
abbrev pub line_short : ℕ → ℕ → List (List ℕ)
line_short number short = (codes "line " ++ (decimal number ++ (codes ": calls not accepted: " ++ decimal short))) ∷ []

abbrev pub short_said : ℕ → ℕ → ℕ → List (List ℕ)
short_said named number short = if is_named named short then line_short number short else []

abbrev pub short_sum : ℕ → List (List ℕ)
short_sum named =
    if nat_lt most_named named then (codes "workers with such calls: " ++ decimal named) ∷ [] else []

abbrev pub number_at : List ℕ → ℕ → ℕ
number_at numbers place = option_map_or (λ n. n) (slice_get numbers place) 0

-- of workers, before the first of which so many blocks stand
abbrev pub shorts_from : PlanValue → Lists → List ℕ → ℕ → ℕ → List BlockValue → List (List ℕ)
shorts_from plan lists numbers before named [] = short_sum named
shorts_from plan lists numbers before named (b ∷ bs) =
    short_said named (number_at numbers before) (short_of plan lists before b)
    ++ shorts_from plan lists numbers (before + 1) (named + count_one (nat_lt 0 (short_of plan lists before b))) bs

-- of all workers of a plan, which begin in lines of these numbers
unfoldable pub shorts_lines : PlanValue → Lists → List ℕ → List (List ℕ)
shorts_lines plan lists numbers = shorts_from plan lists numbers 0 0 plan.blocks
