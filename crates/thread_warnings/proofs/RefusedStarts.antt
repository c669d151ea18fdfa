-- What is said of lines whose calls were refused, one after the other.
use Rattle.std.proofs.Common.{◌≡◌, ℕ, ◌+◌, ◌<◌, ◌≤◌, Bool, true, false, cond, List, [], ◌∷◌, ◌++◌, length, drop, take, zero, suc, set, get_or, replicate, sym, ap, refl, subst, ◌∙◌, append_assoc, arith, inl, inr}
use Rattle.std.specs.Prelude.{is_some, slice_index_or, Option, Some, None, option_map}
use Rattle.std.specs.List.{find}
use Rattle.std.proofs.Math.Seq.{take-suc}
use Rattle.std.proofs.lemmas.Bool.Decides.{eqb_tells}
use Rattle.std.proofs.lemmas.List.{at_drop_more, at_drop_all, get_or-set_same, get_or-set_other}
use Rattle.node_calls.specs.declared.fault.NodeFault.{NodeFault}
use Rattle.thread_plans.specs.BadLines.{count_one}
use Rattle.thread_warnings.specs.Runs.{StartFaults}
use Rattle.thread_warnings.specs.RefusedStarts.{AreByPlace, fault_at, held_at, is_at, refused_from, refused_sum, start_refused, with_fault}

-- ---- by the places of lines

-- one fault, or else another
abbrev first_of : Option NodeFault → Option NodeFault → Option NodeFault
first_of None other = other
first_of (Some fault) other = Some fault

first_alone : (fault : Option NodeFault) → first_of fault None ≡ fault
first_alone None = refl
first_alone (Some fault) = refl

abbrev here : ℕ → ℕ × NodeFault → Option NodeFault
here place r = cond (is_at place r) (Some r.1) None

-- with one more at the end
fault_behind : (place : ℕ) (refused : StartFaults) (r : ℕ × NodeFault) →
    fault_at (refused ++ r ∷ []) place ≡ first_of (fault_at refused place) (here place r)
fault_behind place [] r = alone (is_at place r)
  where
    alone : (is : Bool) → option_map (λ (x : ℕ × NodeFault). x.1) (cond is (Some r) None) ≡ cond is (Some r.1) None
    alone true = refl
    alone false = refl
fault_behind place (x ∷ xs) r = by_first (is_at place x) (fault_behind place xs r)
  where
    by_first : (is : Bool) → fault_at (xs ++ r ∷ []) place ≡ first_of (fault_at xs place) (here place r) →
        option_map (λ (y : ℕ × NodeFault). y.1) (cond is (Some x) (find (is_at place) (xs ++ r ∷ [])))
        ≡ first_of (option_map (λ (y : ℕ × NodeFault). y.1) (cond is (Some x) (find (is_at place) xs))) (here place r)
    by_first true rest = refl
    by_first false rest = rest

-- a list with a fault in its place has it there, unless one was
held_with : (faults : List (Option NodeFault)) (r : ℕ × NodeFault) (place : ℕ) → place < length faults →
    held_at (with_fault faults r) place ≡ first_of (held_at faults place) (here place r)
held_with faults r place below = by_held (held_at faults r.0) refl
  where
    by_held : (held : Option NodeFault) → held_at faults r.0 ≡ held →
        held_at (cond (is_some held) faults (set faults r.0 (Some r.1))) place
        ≡ first_of (held_at faults place) (here place r)
    by_held (Some fault) is = elim (eqb_tells r.0 place) [
      | inl e ↦
          let there : held_at faults place ≡ Some fault = subst (λ k. held_at faults k ≡ Some fault) e.1 is in
          rw there refl
      | inr e ↦
          rw e.0 (sym (first_alone (held_at faults place)))
    ]
    by_held None is = elim (eqb_tells r.0 place) [
      | inl e ↦
          let within : r.0 < length faults = subst (λ k. k < length faults) (sym e.1) below in
          let put : get_or (set faults r.0 (Some r.1)) r.0 None ≡ Some r.1 =
          get_or-set_same faults r.0 (Some r.1) None within in
          let there : held_at faults place ≡ None = subst (λ k. held_at faults k ≡ None) e.1 is in
          rw (there, e.0) (subst (λ k. get_or (set faults r.0 (Some r.1)) k None ≡ Some r.1) e.1 put)
      | inr e ↦
          rw e.0 (get_or-set_other faults r.0 place (Some r.1) None (λ same. e.1 (sym same))
          ∙ sym (first_alone (held_at faults place)))
    ]

-- none yet
many : {A : Type 0} (x : A) (n : ℕ) → length (replicate n x) ≡ n
many x zero = refl
many x (suc n) = ap suc (many x n)

all_alike : {A : Type 0} (x : A) (n place : ℕ) → get_or (replicate n x) place x ≡ x
all_alike x zero place = refl
all_alike x (suc n) zero = refl
all_alike x (suc n) (suc place) = all_alike x n place

pub none_placed : (lines : ℕ) (faults : List (Option NodeFault)) → faults ≡ replicate lines None →
    AreByPlace lines [] faults
none_placed lines faults is = rw is (many None lines, λ place below. all_alike None lines place)

-- with one fault more
pub one_placed : (lines : ℕ) (refused : StartFaults) (i : ℕ) (d : ℕ × NodeFault)
    (faults longer : List (Option NodeFault)) → i < length refused →
    AreByPlace lines (take i refused) faults → length longer ≡ length faults →
    longer ≡ with_fault faults (slice_index_or refused i d) → AreByPlace lines (take (i + 1) refused) longer
one_placed lines refused i d faults longer below so_far long grown =
    let r = slice_index_or refused i d in
    let one : suc i ≡ i + 1 = omega arith in
    let next : take (i + 1) refused ≡ take i refused ++ r ∷ [] =
    subst (λ k. take k refused ≡ take i refused ++ r ∷ []) one (take-suc refused i d below) in (
      long ∙ so_far.0,
      λ place within.
          let inside : place < length faults = omega (arith, within, so_far.0) in
          ap (λ fs. held_at fs place) grown ∙ held_with faults r place inside
          ∙ ap (λ f. first_of f (here place r)) (so_far.1 place within)
          ∙ sym (fault_behind place (take i refused) r) ∙ ap (λ rs. fault_at rs place) (sym next),
    )

-- ---- what is said

module _ (refused : StartFaults) (numbers : List ℕ) (i : ℕ) where
  abbrev said_then : ℕ → ℕ → ℕ → List (List ℕ)
  said_then place named number =
      start_refused named number (fault_at refused place)
      ++ refused_from refused (place + 1) (named + count_one (is_some (fault_at refused place))) (drop (i + 1) numbers)

  refused-drop : (place named d : ℕ) → i < length numbers →
      refused_from refused place named (drop i numbers) ≡ said_then place named (slice_index_or numbers i d)
  refused-drop place named d below = at_drop_more (refused_from refused place named) numbers i d below

  -- with one line more
  pub one_start : (place named later after d : ℕ) (out longer all : List (List ℕ)) → i < length numbers →
      out ++ refused_from refused place named (drop i numbers) ≡ all →
      longer ≡ out ++ start_refused named (slice_index_or numbers i d) (fault_at refused place) → later ≡ place + 1 →
      after ≡ named + count_one (is_some (fault_at refused place)) →
      longer ++ refused_from refused later after (drop (i + 1) numbers) ≡ all
  one_start place named later after d out longer all below so_far grown stepped counted =
      let next_one = refused-drop place named d below in
      rw (stepped, counted, grown) (rw append_assoc (ap (λ y. out ++ y) (sym next_one) ∙ so_far))

  -- behind the last
  pub all_starts : (place named : ℕ) (out longer all : List (List ℕ)) → length numbers ≤ i →
      out ++ refused_from refused place named (drop i numbers) ≡ all → longer ≡ out ++ refused_sum named →
      longer ≡ all
  all_starts place named out longer all past so_far grown =
      let none : refused_from refused place named (drop i numbers) ≡ refused_sum named =
      at_drop_all (refused_from refused place named) numbers i past in
      grown ∙ ap (λ x. out ++ x) (sym none) ∙ so_far
