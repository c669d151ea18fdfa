-- Operations that are learned one after another, in whatever order.
use Rattle.std.proofs.Common.{◌≡◌, ℕ, ◌+◌, ◌<◌, ◌++◌, ◌∙◌, List, [], ◌∷◌, ⊎_elim, map, take, length, get_or, sym, subst, ap, add-one}
use Rattle.std.specs.List.{flat_map}
use Rattle.std.proofs.lemmas.List.{map-append, append-nil}
use Rattle.std.proofs.lemmas.List.Concat.{flat_map-cons}
use Rattle.std.proofs.lemmas.Grind.{flat_map-append}
use Rattle.std.proofs.Math.Seq.{take-suc}
use Rattle.operations.specs.Operations.{Operation, Set, IsIn}
use Rattle.replica_state.specs.States.{State}
use Rattle.replica_state.specs.Folds.{fold}
use Rattle.operations.proofs.Members.{IsIn-append_left, IsIn-append_right, IsIn-append_cases}
use Rattle.replica_state.proofs.KnownSets.{same_members}
use Rattle.message_format.specs.declared.message.NameEntry.{NameEntry}
use Rattle.message_format.specs.Messages.{EntryValue, entry_value, hits_in, execs_in, shifts_in, grants_in, operations_of}
use Rattle.delta_exchange.specs.Told.{HasLearned}

-- what was learned last may stand behind what was learned before
turned : (a b ops : List Operation) → fold (b ++ (a ++ ops)) ≡ fold ((a ++ b) ++ ops)
turned a b ops = same_members _ _ there back
  where
    there : (op : Operation) → IsIn op (b ++ (a ++ ops)) → IsIn op ((a ++ b) ++ ops)
    there op h = ⊎_elim (λ k. IsIn-append_left op (a ++ b) ops (IsIn-append_right op a b k))
        (λ k. ⊎_elim (λ m. IsIn-append_left op (a ++ b) ops (IsIn-append_left op a b m))
        (λ m. IsIn-append_right op (a ++ b) ops m) (IsIn-append_cases op a ops k)) (IsIn-append_cases op b (a ++ ops) h)

    back : (op : Operation) → IsIn op ((a ++ b) ++ ops) → IsIn op (b ++ (a ++ ops))
    back op h = ⊎_elim (λ k. ⊎_elim (λ m. IsIn-append_right op b (a ++ ops) (IsIn-append_left op a ops m))
        (λ m. IsIn-append_left op b (a ++ ops) m) (IsIn-append_cases op a b k))
        (λ k. IsIn-append_right op b (a ++ ops) (IsIn-append_right op a ops k)) (IsIn-append_cases op (a ++ b) ops h)

pub learned_both : (u v w : State) (a b : List Operation) → HasLearned u v a → HasLearned v w b →
    HasLearned u w (a ++ b)
learned_both u v w a b h k ops e = k (a ++ ops) (h ops e) ∙ turned a b ops

-- one more of a list
module _ {C : Type 0} (told : C → Operation) (cells : List C) where
  pub learned_next : (u v w : State) (i : ℕ) (d : C) → i < length cells → HasLearned u v (map told (take i cells)) →
      ((ops : List Operation) → v ≡ fold ops → w ≡ fold (told (get_or cells i d) ∷ ops)) →
      HasLearned u w (map told (take (i + 1) cells))
  learned_next u v w i d below h k = subst (HasLearned u w) (sym next)
      (learned_both u v w (map told (take i cells)) (told (get_or cells i d) ∷ []) h k)
    where
      next : map told (take (i + 1) cells) ≡ map told (take i cells) ++ (told (get_or cells i d) ∷ [])
      next = ap (λ n. map told (take n cells)) (add-one i) ∙ ap (map told) (take-suc cells i d below) ∙
          map-append told (take i cells) (get_or cells i d ∷ [])

-- all that an entry tells
pub learned_entry : (e : EntryValue) (u v w x y z : State) →
    ((ops : List Operation) → u ≡ fold ops → v ≡ fold (Set e.name e.key ∷ ops)) →
    HasLearned v w (hits_in e.name e.hits) → HasLearned w x (execs_in e.name e.key e.execs)
    → HasLearned x y (shifts_in e.name e.key e.shifts) → HasLearned y z (grants_in e.name e.key e.grants) →
    HasLearned u z (operations_of e)
learned_entry e u v w x y z set hits execs shifts grants =
    let h = hits_in e.name e.hits in
    let k = execs_in e.name e.key e.execs in
    let m = shifts_in e.name e.key e.shifts in
    let g = grants_in e.name e.key e.grants in
    learned_both u v z (Set e.name e.key ∷ []) (h ++ (k ++ (m ++ g))) set
    (learned_both v w z h (k ++ (m ++ g)) hits (learned_both w x z k (m ++ g) execs
    (learned_both x y z m g shifts grants)))

-- what one more entry tells
pub next_entry : (entries : List NameEntry) (i : ℕ) (d : NameEntry) → i < length entries →
    flat_map operations_of (map entry_value (take (i + 1) entries)) ≡ flat_map operations_of
    (map entry_value (take i entries)) ++ operations_of (entry_value (get_or entries i d))
next_entry entries i d below =
    ap (λ n. flat_map operations_of (map entry_value (take n entries))) (add-one i) ∙
    ap (λ es. flat_map operations_of (map entry_value es)) (take-suc entries i d below) ∙
    ap (flat_map operations_of) (map-append entry_value (take i entries) (get_or entries i d ∷ [])) ∙
    flat_map-append operations_of (map entry_value (take i entries)) (entry_value (get_or entries i d) ∷ []) ∙
    ap (λ os. flat_map operations_of (map entry_value (take i entries)) ++ os) (one (entry_value (get_or entries i d)))
  where
    one : (e : EntryValue) → flat_map operations_of (e ∷ []) ≡ operations_of e
    one e = flat_map-cons operations_of e [] ∙ append-nil (operations_of e)

pub learned_next_entry : (entries : List NameEntry) (u v w : State) (i : ℕ) (d : NameEntry) → i < length entries →
    HasLearned u v (flat_map operations_of (map entry_value (take i entries))) →
    HasLearned v w (operations_of (entry_value (get_or entries i d))) →
    HasLearned u w (flat_map operations_of (map entry_value (take (i + 1) entries)))
learned_next_entry entries u v w i d below h k = subst (HasLearned u w) (sym (next_entry entries i d below))
    (learned_both u v w (flat_map operations_of (map entry_value (take i entries)))
    (operations_of (entry_value (get_or entries i d))) h k)
