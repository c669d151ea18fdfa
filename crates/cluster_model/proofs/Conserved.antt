-- The balances of the nodes, added up.
use Rattle.std.proofs.Common.{◌≡◌, ◌≢◌, ℕ, ◌+◌, ◌-◌, ◌<◌, ◌≤◌, ◌==◌, Bool, true, false, cond, List, [], ◌∷◌, refl, sym, ◌∙◌, ap, subst, arith, Some}
use Rattle.std.proofs.lemmas.Bool.{eq-eqb, eqb-false}
use Rattle.std.proofs.lemmas.Int.{ints}
use Rattle.std.specs.Prelude.{ℤ, pos, ◌+ℤ◌, ◌≤ℤ◌}
use Rattle.counters.specs.Sums.{node_numbers, sum_below, int_sum_below}
use Rattle.counters.proofs.SumLemmas.{sum-same, sum-add, sum-at, sum-swap, sum_others-is, sum-narrow, int_sum-pos}
use Rattle.stamp_register.specs.Keys.{KeyValue, stamp_of}
use Rattle.operations.specs.Operations.{Shifts, Operation, Count, count_of}
use Rattle.replica_state.specs.Folds.{fold, number_at, at_key}
use Rattle.replica_state.proofs.Sets.{number_at-mono}
use Rattle.cluster_model.specs.Worlds.{Cluster, Event, world}
use Rattle.cluster_model.specs.Schedules.{IsSchedule}
use Rattle.cluster_model.specs.Histories.{state_of, IsIssued, executions, is_under, moved, granted, state_under, held, shifts_under, seen, in_transit, all_in_transit}
use Rattle.cluster_model.specs.Laws.{IsConserved}
use Rattle.cluster_model.proofs.Steps.{known}
use Rattle.cluster_model.proofs.Moved.{moved_not_to, moved_to_self, moved_by_none}
use Rattle.cluster_model.proofs.Stamps.{issued_past, one_stamp}
use Rattle.cluster_model.proofs.OwnCells.{no_more, own_shifts}
use Rattle.cluster_model.proofs.Rights.{Balance, balance, int_less, is_key-of}

-- what a node has seen of a transfer was moved
own_number : (ops : List Operation) (name : List ℕ) (key : KeyValue) (term i j : ℕ) → (fold ops).key name ≡ Some key →
    (fold ops).shifts name term i j ≡ number_at (Shifts name key term i j) ops
unfolding fold
own_number ops name key term i j e = ap (λ k. at_key k (λ key. number_at (Shifts name key term i j) ops)) e

seen_other : (i j x : ℕ) → (i == j) ≡ false → cond (i == j) 0 x ≡ x
seen_other i j x h = ap (λ t. cond t 0 x) h

pub seen_moved : (c : Cluster) (es : List Event) → IsSchedule c es → (name : List ℕ) (key : KeyValue) (term i j : ℕ) →
    seen c es name key term i j ≤ moved c es name key term i j
seen_moved c [] s name key term i j =
    let none = no_more 0 (i == j) in
    omega (arith, none)
seen_moved c (e ∷ es) s name key term i j = of (seen_moved c es s.1 name key term i j) (i == j) refl
  where
    ops : ℕ → List Operation
    ops k = ((world c (e ∷ es)).node k).ops

    at : j ≢ i → (t : Bool) → is_under c (e ∷ es) name key j ≡ t →
        shifts_under (state_under c es name key j) name term i j ≤ moved c es name key term i j →
        shifts_under (cond t (Some (state_of c (e ∷ es) j)) (state_under c es name key j)) name term i j ≤ moved c
        (e ∷ es) name key term i j
    at ne true u before =
        let under = own_number (ops j) name key term i j (is_key-of key ((state_of c (e ∷ es) j).key name) u) in
        let here : number_at (Shifts name key term i j) (ops j) ≤ number_at (Shifts name key term i j) (ops i) =
        number_at-mono (Shifts name key term i j) (ops j) (ops i)
        (λ m h. (known c (e ∷ es) s).held j (Count (Shifts name key term i j) m) h) in
        let own = own_shifts c (e ∷ es) s name key term i j ne in
        omega (arith, under, here, own)
    at ne false u before = omega (arith, before)

    of : seen c es name key term i j ≤ moved c es name key term i j → (t : Bool) → (i == j) ≡ t →
        cond t 0 (shifts_under (state_under c (e ∷ es) name key j) name term i j) ≤ moved c (e ∷ es) name key term i j
    of before true p = omega arith
    of before false p = at (λ k. eqb-false i j p (sym k)) (is_under c (e ∷ es) name key j) refl
        (subst (λ x. x ≤ moved c es name key term i j) (seen_other i j
        (shifts_under (state_under c es name key j) name term i j) p) before)

add_up : (a b c d e f g h k : ℕ) → a + (b + c) ≡ d + k + e → b ≡ f + g → e ≡ g → d ≡ h → a + f + c ≡ h + k
add_up a b c d e f g h k p q r s = omega arith

less_back : (a b : ℕ) → b ≤ a → a ≡ a - b + b
less_back a b h = omega arith

pub conserved : (c : Cluster) (es : List Event) → c.nodes ≤ node_numbers → IsSchedule c es →
    (name : List ℕ) (key : KeyValue) (term count : ℕ) → IsIssued c es name key → count_of key term ≡ Some count →
    IsConserved c es name key term count
conserved c es few s name key term count h counted =
    record {
      none_owed = λ i. subst (λ z. pos 0 ≤ℤ z) (sym (of i).is) (omega (arith, ints));
      none_ahead = λ i j. let most = seen_moved c es s name key term i j in omega (arith, ints, most);
      total = (λ r. int_sum-pos n held_of rights_of (λ i. (of i).is) r +ℤ moving r +ℤ pos spent) ∙ ap pos whole;
      at_most = omega (arith, whole);
    }
  where
    n : ℕ
    n = c.nodes

    of : (i : ℕ) → Balance c es name key term count i
    of = balance c es s name key term count counted (one_stamp c es name key h)

    held_of : ℕ → ℤ
    held_of = held c es name key term count

    rights_of : ℕ → ℕ
    rights_of i = (of i).rights

    m : ℕ → ℕ → ℕ
    m i j = moved c es name key term i j

    v : ℕ → ℕ → ℕ
    v i j = seen c es name key term i j

    x : ℕ → ℕ
    x i = executions c es (stamp_of key) term i

    g : ℕ → ℕ
    g i = granted c es name key term i

    spent : ℕ
    spent = sum_below n x

    transit : ℕ
    transit = sum_below n (λ i. sum_below n (λ j. m i j - v i j))

    moving : all_in_transit c es name key term ≡ pos transit
    moving = int_sum-pos n (λ i. int_sum_below n (in_transit c es name key term i))
        (λ i. sum_below n (λ j. m i j - v i j))
        (λ i. int_sum-pos n (in_transit c es name key term i) (λ j. m i j - v i j)
        (λ j. int_less (m i j) (v i j) (seen_moved c es s name key term i j)))

    no_seen : (i : ℕ) → v i i ≡ 0
    no_seen i = ap (λ t. cond t 0 (shifts_under (state_under c es name key i) name term i i)) (eq-eqb i i refl)

    not_both : (j : ℕ) → n ≤ j → j < n → ⊥
    not_both j l k = omega arith

    seen_by_none : (j i : ℕ) → n ≤ j → v j i ≡ 0
    seen_by_none j i l =
        let upto = seen_moved c es s name key term j i in
        let none = moved_by_none c es name key term j i l in
        omega (arith, upto, none)

    each : (i : ℕ) → rights_of i + (sum_below n (m i) + x i) ≡ cond (i == key.node) count 0 + g i + sum_below n
        (λ j. v j i)
    each i =
        let out = sum_others-is node_numbers i (m i) (moved_to_self c es name key term i) ∙
        sum-narrow n node_numbers (m i) few (λ j l. moved_not_to c es name key term i j (λ ne k. not_both j l k)) in
        let came = sum_others-is node_numbers i (λ j. v j i) (no_seen i) ∙
        sum-narrow n node_numbers (λ j. v j i) few (λ j l. seen_by_none j i l) in
        (λ r. rights_of i + (sym out r + x i)) ∙ (of i).adds_up ∙ ap (λ y. cond (i == key.node) count 0 + g i + y) came

    all : sum_below n rights_of + (sum_below n (λ i. sum_below n (m i)) + spent) ≡ sum_below n
        (λ i. cond (i == key.node) count 0) + sum_below n g + sum_below n (λ i. sum_below n (λ j. v j i))
    all =
        sym (sum-add n rights_of (λ i. sum_below n (m i) + x i) ∙
        ap (λ y. sum_below n rights_of + y) (sum-add n (λ i. sum_below n (m i)) x))
        ∙ sum-same n _ _ (λ i l. each i)
        ∙ sum-add n (λ i. cond (i == key.node) count 0 + g i) (λ i. sum_below n (λ j. v j i))
        ∙ ap (λ y. y + sum_below n (λ i. sum_below n (λ j. v j i))) (sum-add n (λ i. cond (i == key.node) count 0) g)

    split : sum_below n (λ i. sum_below n (m i)) ≡ transit + sum_below n (λ i. sum_below n (λ j. v i j))
    split =
        sum-same n _ _ (λ i l. sum-same n (m i) (λ j. m i j - v i j + v i j)
        (λ j k. less_back (m i j) (v i j) (seen_moved c es s name key term i j)) ∙
        sum-add n (λ j. m i j - v i j) (v i))
        ∙ sum-add n (λ i. sum_below n (λ j. m i j - v i j)) (λ i. sum_below n (v i))

    whole : sum_below n rights_of + transit + spent ≡ count + sum_below n g
    whole = add_up _ _ _ _ _ _ _ _ _ all split (sum-swap n n (λ i j. v j i))
        (sum-at n key.node count (issued_past c es name key h).node)
