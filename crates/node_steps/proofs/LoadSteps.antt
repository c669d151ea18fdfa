-- The names of the points of a load, and the operations that set them.
use Rattle.std.proofs.Common.{◌≡◌, ℕ, ◌+◌, ◌<◌, List, [], ◌∷◌, ◌++◌, length, map, take, get_or, Option, refl, sym, ◌∙◌, ap, arith}
use Rattle.std.specs.List.{AllByRecursion}
use Rattle.std.proofs.lemmas.List.{map-append, take_more}
use Rattle.actions.specs.Value.{TermValue}
use Rattle.stamp_register.specs.Keys.{KeyValue, key_value}
use Rattle.operations.specs.declared.op.Op.{Op}
use Rattle.operations.specs.declared.op.Op.TheVariants as kinds
use Rattle.operations.specs.Operations.{Operation, Shifts, Set, Count, IsWellFormed, ShiftsToAnother, operation}
use Rattle.replica_state.specs.States.{State, with_name}
use Rattle.replica_state.specs.Folds.{fold, Learns}
use Rattle.replica_state.specs.Unions.{with_names}
use Rattle.node_steps.specs.Settings.{new_key, operations_issued}

abbrev Settings : Type 0
Settings = List (List ℕ × Option (List ℕ))

-- one setting more at the end
pub issued-more : (i clock last : ℕ) (ss : Settings) (s : List ℕ × Option (List ℕ)) → last ≡ clock + length ss →
    operations_issued i clock (ss ++ s ∷ []) ≡ operations_issued i clock ss ++ Set s.0 (new_key i last s.1) ∷ []
issued-more i clock last [] s at = ap (λ (c : ℕ). Set s.0 (new_key i c s.1) ∷ []) (omega (arith, at))
issued-more i clock last (r ∷ ss) s at = ap (λ (rest : List Operation). Set r.0 (new_key i clock r.1) ∷ rest)
    (issued-more i (clock + 1) last ss s (omega (arith, at)))

-- settings are well-formed
pub issued_formed : (i clock : ℕ) (ss : Settings) → AllByRecursion IsWellFormed (operations_issued i clock ss)
issued_formed i clock [] = tt
issued_formed i clock (s ∷ ss) = (tt, issued_formed i (clock + 1) ss)

-- what tells a setting is no shift
setting_stays : (op : Op) (name : List ℕ) (key : KeyValue) → operation op ≡ Set name key → ShiftsToAnother op
setting_stays (kinds.Set n k) name key e = tt
setting_stays (kinds.Hit n node number) name key e = tt
setting_stays (kinds.Exec n k term node number) name key e = tt
setting_stays (kinds.Grant n k term node total) name key e = tt
setting_stays (kinds.Shift n k term from to total) name key e =
    absurd (let impossible : Count (Shifts n (key_value k) term from to) total ≡ Set name key = e in cc)

-- so settings shift nothing
pub issued_stay : (i clock : ℕ) (ss : Settings) (told : List Op) → map operation told ≡ operations_issued i clock ss →
    AllByRecursion ShiftsToAnother told
issued_stay i clock ss [] e = tt
issued_stay i clock [] (op ∷ told) e =
    absurd (let impossible : ◌≡◌ {A = List Operation} (operation op ∷ map operation told) [] = e in cc)
issued_stay i clock (s ∷ ss) (op ∷ told) e =
    let same : ◌≡◌ {A = List Operation} (operation op ∷ map operation told)
    (Set s.0 (new_key i clock s.1) ∷ operations_issued i (clock + 1) ss) = e in
    let first : operation op ≡ Set s.0 (new_key i clock s.1) = cc in
    let rest : map operation told ≡ operations_issued i (clock + 1) ss = cc in
    (setting_stays op s.0 (new_key i clock s.1) first, issued_stay i (clock + 1) ss told rest)

-- ---- names

names-append : (names : List (List ℕ)) (name : List ℕ) (ns : List (List ℕ)) →
    with_names (names ++ name ∷ []) ns ≡ with_name name (with_names names ns)
names-append [] name ns = refl
names-append (n ∷ names) name ns = names-append names name (with_name n ns)

module _ (v w : State) (name : List ℕ) (key : KeyValue) (known : (ops : List Operation) × (v ≡ fold ops))
    (learned : Learns v w (Set name key)) where
  -- the state is again that of some set, with this name
  pub known_next : (ops : List Operation) × (w ≡ fold ops)
  known_next = (Set name key ∷ known.0, learned known.0 known.1)

  pub names_more : w.names ≡ with_name name v.names
  unfolding fold
  names_more = ap (λ (u : State). u.names) (learned known.0 known.1) ∙
      ap (λ (u : State). with_name name u.names) (sym known.1)

-- the names of points, one point on
pub names_next : (points : List (List ℕ × List TermValue)) (i : ℕ) (d : List ℕ × List TermValue) → i < length points →
    with_names (map (λ point. point.0) (take (i + 1) points)) [] ≡ with_name (get_or points i d).0
    (with_names (map (λ point. point.0) (take i points)) [])
names_next points i d below =
    ap (λ (ps : List (List ℕ × List TermValue)). with_names (map (λ point. point.0) ps) []) (take_more points i d below)
    ∙ ap (λ ns. with_names ns []) (map-append (λ (point : List ℕ × List TermValue). point.0) (take i points)
    (get_or points i d ∷ []))
    ∙ names-append (map (λ point. point.0) (take i points)) (get_or points i d).0 []
