-- Faults of workers, one after the other.
use Rattle.std.proofs.Common.{◌≡◌, ◌∙◌, ℕ, suc, ◌+◌, ◌<◌, List, [], ◌∷◌, ◌++◌, ap, append-nil, append_assoc, arith, length, subst, sym, take}
use Rattle.std.specs.Prelude.{slice_index_or}
use Rattle.std.specs.List.{flat_map}
use Rattle.std.proofs.Math.Seq.{take-suc}
use Rattle.std.proofs.lemmas.Grind.{flat_map-append}
use Rattle.std.proofs.lemmas.List.{take-map}
use Rattle.std.proofs.lemmas.List.Concat.{flat_map-cons}
use Rattle.node_calls.specs.declared.fault.NodeFault.{NodeFault}
use Rattle.node_registry.specs.declared.workers.Done.{Done}
use Rattle.thread_workers.specs.Calls.{faults_in, faults_told}
use Rattle.thread_workers.proofs.Made.{take_more_at}

-- the faults of one worker, and one fault more
pub one_fault : (faults : List (ℕ × NodeFault)) (i : ℕ) (d : ℕ × NodeFault) → i < length faults →
    (first out longer : List NodeFault) → out ≡ first ++ faults_in (take i faults) →
    longer ≡ out ++ (slice_index_or faults i d).1 ∷ [] → longer ≡ first ++ faults_in (take (i + 1) faults)
one_fault faults i d below first out longer so_far grown =
    let fault : ℕ × NodeFault → NodeFault = λ f. f.1 in
    let before = faults_in (take i faults) in
    let this = fault (slice_index_or faults i d) in
    let next : faults_in (take (i + 1) faults) ≡ before ++ this ∷ [] =
    sym (take-map fault (i + 1) faults) ∙ take_more_at fault faults i d below
    ∙ ap (λ fs. fs ++ this ∷ []) (take-map fault i faults) in
    grown ∙ ap (λ fs. fs ++ this ∷ []) so_far ∙ append_assoc first before (this ∷ []) ∙ ap (λ fs. first ++ fs) (sym next)

-- and those of one worker more
pub one_worker : {L : Type 0} (dones : List (Done L)) (i : ℕ) (x : Done L) → i < length dones →
    x ≡ slice_index_or dones i x → (out longer : List NodeFault)
    → out ≡ flat_map (λ (d : Done L). faults_told d) (take i dones) → longer ≡ out ++ faults_told x →
    longer ≡ flat_map (λ (d : Done L). faults_told d) (take (i + 1) dones)
one_worker {L = L} dones i x below is out longer so_far grown =
    let told : Done L → List NodeFault = λ d. faults_told d in
    let one : suc i ≡ i + 1 = omega arith in
    let next : take (i + 1) dones ≡ take i dones ++ x ∷ [] =
    subst (λ k. take k dones ≡ take i dones ++ x ∷ []) one
    (take-suc dones i x below ∙ ap (λ y. take i dones ++ y ∷ []) (sym is)) in
    let alone : flat_map told (x ∷ []) ≡ told x = flat_map-cons told x [] ∙ append-nil (told x) in
    grown ∙ ap (λ fs. fs ++ told x) so_far ∙ ap (λ fs. flat_map told (take i dones) ++ fs) (sym alone)
    ∙ sym (flat_map-append told (take i dones) (x ∷ [])) ∙ ap (flat_map told) (sym next)
