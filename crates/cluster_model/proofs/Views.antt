-- What a set of operations tells, what two sets tell together, and when that is as of one state.
use Rattle.std.proofs.Common.{◌≡◌, ℕ, ◌≤◌, if◌then◌else◌, Bool, true, false, cond, List, ◌++◌, ◌⊎◌, inl, inr, refl, sym, ◌∙◌, ap, subst, arith, ⊎_elim, Some}
use Rattle.std.proofs.lemmas.Bool.{cases_eq}
use Rattle.stamp_register.specs.Keys.{KeyValue}
use Rattle.operations.specs.Operations.{Cell, Hits, Execs, Shifts, Operation, Set, Count, writer_of_cell, writer_of, IsIn}
use Rattle.replica_state.specs.States.{State}
use Rattle.replica_state.specs.Folds.{fold, key_in, key_of, number_at, at_key}
use Rattle.replica_state.specs.StateOrder.{IsBelow, below-refl, below-trans}
use Rattle.replica_state.specs.Deltas.{HasNumber, IsTold, IsDelta}
use Rattle.replica_state.proofs.Sets.{number_at-is_in, number_at-mono, KeyUpto, KeyUpto-antisym, key_of-is_in, key_of-mono, key_of-found}
use Rattle.operations.proofs.Members.{IsIn-append_left, IsIn-append_right, IsIn-append_cases}
use Rattle.replica_state.proofs.KnownSets.{keys_only, own_name}
use Rattle.node_steps.proofs.UptoStates.{upto_below}
use Rattle.cluster_model.specs.Histories.{is_key}
use Rattle.cluster_model.specs.Views.{IsAsOf}
use Rattle.cluster_model.proofs.Rights.{is_key-of, is_key-some}
use Rattle.cluster_model.proofs.Closed.{held_number, delta_key, told_number}

-- ---- what a part of a set tells

module _ (part all : List Operation) (within : (op : Operation) → IsIn op part → IsIn op all) where
  -- a key that the part carries and the whole has
  part_key : (name : List ℕ) (key : KeyValue) (op : Operation) → IsIn op part → key_in name op ≡ Some key →
      key_of name all ≡ Some key → key_of name part ≡ Some key
  part_key name key op h c e = KeyUpto-antisym _ _
      (subst (KeyUpto (key_of name part)) e (key_of-mono name part all within))
      (subst (λ k. KeyUpto k (key_of name part)) c (key_of-is_in name op part h))

  part_number : (cell : Cell) (number : ℕ) → IsIn (Count cell number) part → number_at cell all ≡ number →
      number_at cell part ≡ number
  part_number cell number h e =
      let low = number_at-is_in cell number part h in
      let high = number_at-mono cell part all (λ n. within (Count cell n)) in
      omega (arith, e, low, high)

  -- what the whole tells and the part holds, the part tells
  part_tells : (op : Operation) → IsIn op part → IsTold (fold all) op → IsTold (fold part) op
  unfolding fold
  part_tells (Set name key) h t = part_key name key (Set name key) h (own_name name key) t
  part_tells (Count (Hits name node) number) h t = (part_number (Hits name node) number h t.0, t.1)
  part_tells (Count (Execs name key term node) number) h t =
      let under = part_key name key (Count (Execs name key term node) number) h (own_name name key) t.0.0 in
      let here = part_number (Execs name key term node) number h
      (sym (told_number all (Execs name key term node) number t)) in
      ((under, ap (λ k. at_key k (λ l. number_at (Execs name l term node) part)) under ∙ here), t.1)
  part_tells (Count (Shifts name key term from to) number) h t =
      let under = part_key name key (Count (Shifts name key term from to) number) h (own_name name key) t.0.0 in
      let here = part_number (Shifts name key term from to) number h
      (sym (told_number all (Shifts name key term from to) number t)) in
      ((under, ap (λ k. at_key k (λ l. number_at (Shifts name l term from to) part)) under ∙ here), t.1)

-- what two sets tell together, one of them tells
pub told_union : (a b : List Operation) (op : Operation) → IsTold (fold (a ++ b)) op →
    IsTold (fold a) op ⊎ IsTold (fold b) op
unfolding fold
told_union a b (Set name key) t =
    let found = key_of-found name key (a ++ b) t in
    ⊎_elim
    (λ h. inl (part_key a (a ++ b) (λ op. IsIn-append_left op a b) name key found.op h found.carries t))
    (λ h. inr (part_key b (a ++ b) (λ op. IsIn-append_right op a b) name key found.op h found.carries t))
    (IsIn-append_cases found.op a b found.held)
told_union a b (Count cell number) t =
    ⊎_elim
    (λ h. inl (part_tells a (a ++ b) (λ op. IsIn-append_left op a b) (Count cell number) h t))
    (λ h. inr (part_tells b (a ++ b) (λ op. IsIn-append_right op a b) (Count cell number) h t))
    (IsIn-append_cases (Count cell number) a b (held_number cell (a ++ b) number (told_number (a ++ b) cell number t)
    t.1))

-- what differs tells no more than the later state
pub delta_tells : (v w : State) (ops : List Operation) → IsDelta v w ops → (op : Operation) → IsTold (fold ops) op →
    IsTold w op
unfolding fold
delta_tells v w ops delta (Set name key) t =
    let found = key_of-found name key ops t in
    (delta_key v w found.op name key ((delta found.op).0 found.held) found.carries).0
delta_tells v w ops delta (Count cell number) t = ((delta (Count cell number)).0
    (held_number cell ops number (told_number ops cell number t) t.1)).0

-- ---- what two states tell, each between them tells

key_between : (name : List ℕ) (key : KeyValue) (u v w : State) → IsBelow u v → IsBelow v w → u.key name ≡ Some key →
    w.key name ≡ Some key → v.key name ≡ Some key
key_between name key u v w h k p q = KeyUpto-antisym _ _
    (subst (KeyUpto (v.key name)) q (keys_only name v w (k name)))
    (subst (λ o. KeyUpto o (v.key name)) p (keys_only name u v (h name)))

number_between : (a b c number : ℕ) → a ≤ b → b ≤ c → a ≡ number → c ≡ number → b ≡ number
number_between a b c number h k p q = omega (arith, h, k, p, q)

pub told_between : (u v w : State) → IsBelow u v → IsBelow v w → (op : Operation) → IsTold u op → IsTold w op →
    IsTold v op
told_between u v w h k (Set name key) p q = key_between name key u v w h k p q
told_between u v w h k (Count (Hits name node) number) p q =
    (number_between _ _ _ number ((h name).hits node) ((k name).hits node) p.0 q.0, p.1)
told_between u v w h k (Count (Execs name key term node) number) p q =
    let under = key_between name key u v w h k p.0.0 q.0.0 in
    let low = (upto_below u v name (h name)).execs (p.0.0 ∙ sym under) term node in
    let high = (upto_below v w name (k name)).execs (under ∙ sym q.0.0) term node in
    ((under, number_between _ _ _ number low high p.0.1 q.0.1), p.1)
told_between u v w h k (Count (Shifts name key term from to) number) p q =
    let under = key_between name key u v w h k p.0.0 q.0.0 in
    let low = (upto_below u v name (h name)).shifts (p.0.0 ∙ sym under) term from to in
    let high = (upto_below v w name (k name)).shifts (under ∙ sym q.0.0) term from to in
    ((under, number_between _ _ _ number low high p.0.1 q.0.1), p.1)

-- ---- states as of others

pub as_of_self : (v : State) (j : ℕ) → IsAsOf v v j
as_of_self v j = record { above = below-refl v; no_more = λ op own t. t }

-- a state above another that tells no more of what node j wrote
pub as_of_more : (v a x : State) (j : ℕ) → IsBelow a v → ((op : Operation) → writer_of op ≡ j → IsTold v op →
    IsTold a op) → IsAsOf a x j → IsAsOf v x j
as_of_more v a x j above told of_a =
    record { above = below-trans x a v of_a.above above; no_more = λ op own t. of_a.no_more op own (told op own t) }

-- a state that tells no more of what node j wrote than two that are as of states of which one is later
pub as_of_later : (v a b x y : State) (j : ℕ) → IsBelow b v →
    ((op : Operation) → IsTold v op → IsTold a op ⊎ IsTold b op) → IsAsOf a x j → IsAsOf b y j → IsBelow x y →
    IsAsOf v y j
as_of_later v a b x y j above told of_a of_b later =
    let below = below-trans y b v of_b.above above in
    record {
      above = below;
      no_more = λ op own t. ⊎_elim (λ k. told_between x y v later below op (of_a.no_more op own k) t)
          (λ k. of_b.no_more op own k) (told op t);
    }

-- ---- and their numbers

-- the number of a cell, where the state is under the cell's key; a hit is under none
abbrev pub number_under : State → Cell → ℕ
number_under v (Hits name node) = v.hits name node
number_under v (Execs name key term node) = if is_key key (v.key name) then v.execs name term node else 0
number_under v (Shifts name key term from to) = if is_key key (v.key name) then v.shifts name term from to else 0

has_under : (v : State) (cell : Cell) (number : ℕ) → HasNumber v cell number → number ≡ number_under v cell
has_under v (Hits name node) number h = sym h
has_under v (Execs name key term node) number h = sym (ap (λ t. cond t (v.execs name term node) 0)
    (is_key-some key (v.key name) h.0) ∙ h.1)
has_under v (Shifts name key term from to) number h = sym (ap (λ t. cond t (v.shifts name term from to) 0)
    (is_key-some key (v.key name) h.0) ∙ h.1)

-- below a state that has 0 of a cell there is none
none_under : (v w : State) → IsBelow w v → (cell : Cell) → HasNumber v cell 0 → 0 ≡ number_under w cell
none_under v w below (Hits name node) h =
    let upto = (below name).hits node in
    omega (arith, upto, h)
none_under v w below (Execs name key term node) h = at (is_key key (w.key name)) refl
  where
    at : (t : Bool) → is_key key (w.key name) ≡ t → 0 ≡ cond t (w.execs name term node) 0
    at false e = refl
    at true e =
        let upto = (upto_below w v name (below name)).execs (is_key-of key (w.key name) e ∙ sym h.0) term node in
        let none = h.1 in
        omega (arith, upto, none)
none_under v w below (Shifts name key term from to) h = at (is_key key (w.key name)) refl
  where
    at : (t : Bool) → is_key key (w.key name) ≡ t → 0 ≡ cond t (w.shifts name term from to) 0
    at false e = refl
    at true e =
        let upto = (upto_below w v name (below name)).shifts (is_key-of key (w.key name) e ∙ sym h.0) term from to in
        let none = h.1 in
        omega (arith, upto, none)

-- of each cell that node j writes there is as much
pub same_number : (v w : State) (j : ℕ) → IsAsOf v w j → (cell : Cell) → writer_of_cell cell ≡ j → (number : ℕ) →
    HasNumber v cell number → number ≡ number_under w cell
same_number v w j as_of cell own number h = ⊎_elim
    (λ z. z ∙ none_under v w as_of.above cell (subst (HasNumber v cell) z h))
    (λ ne. has_under w cell number (as_of.no_more (Count cell number) own (h, ne)).0)
    (cases_eq number 0)
