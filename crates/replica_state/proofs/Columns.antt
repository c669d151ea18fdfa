-- What is read into places, one for each of the first nodes.
use Rattle.std.proofs.Common.{◌≡◌, ℕ, ◌<◌, ◌≤◌, ◌==◌, cond, List, length, get_or, set, replicate, map, sym, ◌∙◌, ap, arith, ⊎_elim}
use Rattle.std.specs.Prelude.{ℤ, pos, Option, None}
use Rattle.std.specs.Option.{option_map_or}
use Rattle.std.specs.List.{range_with_len}
use Rattle.std.proofs.Math.ListN.{length-set, length-replicate}
use Rattle.std.proofs.lemmas.Bool.{cases_eq}
use Rattle.std.proofs.lemmas.List.{get_or-replicate, get_or-set_same, get_or-set_other}
use Rattle.std.proofs.lemmas.List.FromFn.{fill_by_all}
use Rattle.counters.specs.Budgets.{Budget, rights}
use Rattle.stamp_register.specs.Keys.{KeyValue}
use Rattle.replica_state.specs.Points.{budget_under}
use Rattle.replica_state.specs.declared.slot.Slot.{Slot}
use Rattle.replica_state.specs.Slots.{slot_key, slot_number, slot_rights}
use Rattle.replica_state.proofs.SlotLemmas.{for_others, for_setter}

-- the same at each node is the same in each place
pub map_same : {X : Type 0} (f g : ℕ → X) (ns : List ℕ) → ((n : ℕ) → f n ≡ g n) → map f ns ≡ map g ns
map_same f g ns h = λ i. map (λ n. h n i) ns

pub all_alike : {X : Type 0} (f : ℕ → X) (x : X) (n : ℕ) → ((k : ℕ) → f k ≡ x) →
    replicate n x ≡ map f (range_with_len 0 n)
all_alike f x n h = fill_by_all f (replicate n x) n x (length-replicate n x)
    (λ k low. get_or-replicate n k x x low ∙ sym (h k))

-- the setter has the whole count, if it has a place
pub whole_at : (n setter count : ℕ) → setter < n →
    set (replicate n (pos 0)) setter (pos count) ≡ map (λ k. pos (cond (k == setter) count 0)) (range_with_len 0 n)
whole_at n setter count inside =
    let none : List ℤ = replicate n (pos 0) in
    let long : length none ≡ n = length-replicate n (pos 0) in
    fill_by_all (λ k. pos (cond (k == setter) count 0)) (set none setter (pos count)) n (pos 0)
    (length-set none setter (pos count) ∙ long)
    (λ k low. ⊎_elim
    (λ same. ap (λ j. get_or (set none setter (pos count)) j (pos 0)) same
    ∙ get_or-set_same none setter (pos count) (pos 0) (omega (arith, long, inside))
    ∙ for_setter k setter count same)
    (λ ne. get_or-set_other none setter k (pos count) (pos 0) ne
    ∙ get_or-replicate n k (pos 0) (pos 0) low ∙ for_others k setter count ne)
    (cases_eq k setter))

pub whole_nowhere : (n setter count : ℕ) → n ≤ setter →
    replicate n (pos 0) ≡ map (λ k. pos (cond (k == setter) count 0)) (range_with_len 0 n)
whole_nowhere n setter count past = fill_by_all (λ k. pos (cond (k == setter) count 0)) (replicate n (pos 0)) n (pos 0)
    (length-replicate n (pos 0))
    (λ k low. get_or-replicate n k (pos 0) (pos 0) low ∙ for_others k setter count (λ same. omega (arith, same, low, past)))

-- without a key nobody has rights
pub rights_without_key : (slot : Slot) (term node : ℕ) → slot_key slot ≡ None → slot_rights slot term node ≡ pos 0
rights_without_key slot term node none = ap (λ (o : Option KeyValue). option_map_or (λ (b : Budget). rights b node)
    (budget_under o (slot_number slot) term) (pos 0)) none
