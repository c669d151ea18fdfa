-- What a block asks, line by line.
use Rattle.std.proofs.Common.{◌≡◌, ◌∙◌, ℕ, suc, ◌+◌, ◌<◌, List, [], ◌∷◌, ◌++◌, ap, arith, length, map, sym, take}
use Rattle.std.specs.Prelude.{slice_index_or}
use Rattle.std.specs.List.{flat_map, sum_by}
use Rattle.std.proofs.Math.Seq.{take-suc}
use Rattle.std.proofs.lemmas.Grind.{flat_map-append}
use Rattle.std.proofs.lemmas.List.{append-nil, map_push, take-map}
use Rattle.std.proofs.lemmas.List.Concat.{flat_map-cons}
use Rattle.std.proofs.lemmas.List.Sums.{sum_by_more}
use Rattle.node_calls.specs.Told.{AskTold}
use Rattle.thread_plans.specs.declared.plan.CallLine.{CallLine}
use Rattle.thread_plans.specs.Plans.{call_line_value}
use Rattle.thread_workers.specs.Asks.{asks_of_line}

-- what the first lines ask
abbrev pub asks_of_first : List CallLine → ℕ → List AskTold
asks_of_first lines i = flat_map asks_of_line (take i (map call_line_value lines))

-- and one line more
pub told_next : (lines : List CallLine) (i : ℕ) (d : CallLine) → i < length lines → (was now : List AskTold) →
    was ≡ asks_of_first lines i → now ≡ was ++ asks_of_line (call_line_value (slice_index_or lines i d)) →
    now ≡ asks_of_first lines (i + 1)
told_next lines i d below was now so_far more =
    let line = call_line_value (slice_index_or lines i d) in
    let first = map call_line_value (take i lines) in
    let alone : flat_map asks_of_line (line ∷ []) ≡ asks_of_line line =
    flat_map-cons asks_of_line line [] ∙ append-nil (asks_of_line line) in
    let both : flat_map asks_of_line (first ++ line ∷ []) ≡ flat_map asks_of_line first ++ asks_of_line line =
    flat_map-append asks_of_line first (line ∷ []) ∙ ap (λ xs. flat_map asks_of_line first ++ xs) alone in
    let one : suc i ≡ i + 1 = omega arith in
    let next : take (suc i) (map call_line_value lines) ≡ first ++ line ∷ [] =
    take-map call_line_value (suc i) lines ∙ ap (map call_line_value) (take-suc lines i d below)
    ∙ map_push call_line_value (take i lines) (slice_index_or lines i d) in
    let here : asks_of_first lines i ≡ flat_map asks_of_line first =
    ap (flat_map asks_of_line) (take-map call_line_value i lines) in
    more ∙ ap (λ xs. xs ++ asks_of_line line) (so_far ∙ here) ∙ sym both ∙ ap (flat_map asks_of_line) (sym next)
    ∙ ap (asks_of_first lines) one

-- and how many they are
pub count_next : (lines : List CallLine) (i : ℕ) (d : CallLine) → i < length lines → (was now : ℕ) →
    was ≡ sum_by (λ x. x.times) (take i lines) → now ≡ was + (slice_index_or lines i d).times →
    now ≡ sum_by (λ x. x.times) (take (i + 1) lines)
count_next lines i d below was now so_far more =
    more ∙ ap (λ n. n + (slice_index_or lines i d).times) so_far ∙ sym (sum_by_more (λ x. x.times) lines i d below)
