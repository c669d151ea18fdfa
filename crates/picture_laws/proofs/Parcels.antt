-- The parcels of a chart beside the world, event by event.
use Rattle.std.proofs.Common.{◌≡◌, ◌≢◌, ◌⊎◌, inl, inr, ℕ, ◌+◌, ◌<◌, ◌≤◌, ◌==◌, ◌&&◌, max, cond, Bool, true, false, not, List, [], ◌∷◌, ◌++◌, filter, nat_le, refl, sym, ◌∙◌, ap, subst, arith, append-nil, ⊎_elim, Some}
use Rattle.std.proofs.lemmas.Bool.{eqb-true, eq-eqb, cases_eq, and_parts, and_from}
use Rattle.counters.specs.Sums.{sum_below}
use Rattle.counters.proofs.SumLemmas.{sum-same, sum-add}
use Rattle.stamp_register.specs.Keys.{KeyValue}
use Rattle.operations.specs.Operations.{Shifts, Operation, Count, IsIn, writer_of}
use Rattle.replica_state.specs.Folds.{number_at}
use Rattle.replica_state.proofs.Sets.{number_at-is_in, number_held}
use Rattle.node_calls.specs.Asks.{Asked}
use Rattle.node_steps.specs.Nodes.{Node}
use Rattle.cluster_model.specs.Worlds.{Cluster, Event, accepted, node_after, world}
use Rattle.cluster_model.specs.Schedules.{IsSchedule}
use Rattle.cluster_model.specs.Histories.{ops_issued, ops_delivered, is_under, amount_moved, moved, seen}
use Rattle.cluster_model.proofs.Steps.{known, gains, delivered_from}
use Rattle.cluster_model.proofs.Moved.{moved_to_self}
use Rattle.drill_picture.specs.Stories.{ParcelTold as Parcel}
use Rattle.picture_laws.proofs.Chains.{amounts, amounts_to, is_between, between, IsSound, AreSound, none_within, amounts_by, sound_append, sound_filter, filter_append, filter_within, filter_all, IsChain, IsTotalOf, IsReached, chain_sum, chain_more, total_more, total_last, left_by, chain_left, reached_left}
use Rattle.picture_laws.proofs.Seen.{seen_step, seen_self}
use Rattle.picture_laws.proofs.Balanced.{not_asked}

-- either case comes to this
pub cases_to : {A B : Type 0} (C : Type 0) → (A → C) → (B → C) → A ⊎ B → C
cases_to C f g h = ⊎_elim f g h

-- two tables that are the same where both numbers are one
same_at : (f g : ℕ → ℕ → ℕ) (i j : ℕ) → i ≡ j → f i i ≡ g i i → f i j ≡ g i j
same_at f g i j same e = subst (λ k. f i k ≡ g i k) same e

-- and in a row, or in a column
pub same_row : (f g : ℕ → ℕ → ℕ) (i k j : ℕ) → i ≡ k → f k j ≡ g k j → f i j ≡ g i j
same_row f g i k j same e = subst (λ m. f m j ≡ g m j) (sym same) e

same_column : (f g : ℕ → ℕ → ℕ) (i j k : ℕ) → j ≡ k → f i k ≡ g i k → f i j ≡ g i j
same_column f g i j k same e = subst (λ m. f i m ≡ g i m) (sym same) e

module _ (c : Cluster) (name : List ℕ) (key : KeyValue) (term : ℕ) where
  -- the parcels between two nodes are what the one moved and the other hasn't seen, and each total that the one
  -- tells of is that of one of them, or one that the other has seen
  pub record HasParcels (es : List Event) (parcels : List Parcel) : Type 0 where
    pub sound : AreSound c.nodes parcels
    pub chain : (i j : ℕ) → IsChain (seen c es name key term i j) (moved c es name key term i j) (between i j parcels)
    pub reached : (i j number : ℕ) → i ≢ j → IsIn (Count (Shifts name key term i j) number) ((world c es).node i).ops →
        IsReached number (seen c es name key term i j) (between i j parcels)

  pub nothing_sent : HasParcels [] []
  nothing_sent = record {
    sound = tt;
    chain = λ i j. seen_nothing (i == j);
    reached = λ i j number ne h. absurd h;
  }
    where
      seen_nothing : (t : Bool) → ◌≡◌ {A = ℕ} (cond t 0 0) 0
      seen_nothing true = refl
      seen_nothing false = refl

  -- what is on its way to a node and what it has seen are all that was moved to it
  pub way_seen : (es : List Event) (parcels : List Parcel) → HasParcels es parcels → (j : ℕ) →
      amounts_to j parcels + sum_below c.nodes (λ i. seen c es name key term i j) ≡ sum_below c.nodes
      (λ i. moved c es name key term i j)
  way_seen es parcels has j =
      let by = amounts_by c.nodes j parcels has.sound in
      let all = sum-add c.nodes (λ i. amounts (between i j parcels)) (λ i. seen c es name key term i j) in
      let each : sum_below c.nodes (λ i. amounts (between i j parcels) + seen c es name key term i j) ≡ sum_below c.nodes
      (λ i. moved c es name key term i j) = sum-same c.nodes _ _ (λ i l. chain_sum _ _ (between i j parcels) (has.chain i j)) in
      omega (arith, by, all, each)

  module _ (e : Event) (es : List Event) (s : IsSchedule c (e ∷ es)) (q : Asked)
      (accepts : accepted c (world c es) e e.node ≡ Some q) where
    abbrev n : Node
    n = (world c es).node e.node

    -- what was delivered to a node that isn't asked is nothing
    pub delivered_else : (k : ℕ) → k ≢ e.node → ops_delivered (accepted c (world c es) e k) ≡ []
    delivered_else k ne = ap ops_delivered (not_asked c (world c es) e k ne)

    pub moved_else : (i j : ℕ) → i ≢ e.node → moved c (e ∷ es) name key term i j ≡ moved c es name key term i j
    moved_else i j ne =
        let none : amount_moved ((world c es).node i) (accepted c (world c es) e i) name key term j ≡ 0 =
        ap (λ a. amount_moved ((world c es).node i) a name key term j) (not_asked c (world c es) e i ne) in
        omega (arith, none)

    pub moved_here : (j : ℕ) → moved c (e ∷ es) name key term e.node j ≡ amount_moved n (Some q) name key term j + moved c es
        name key term e.node j
    moved_here j = ap (λ a. amount_moved n a name key term j + moved c es name key term e.node j) accepts

    seen_if : (t : Bool) (k : ℕ) → cond t (max 0 k) k ≡ k
    seen_if true k = omega arith
    seen_if false k = refl

    seen_kept : (j : ℕ) → ops_delivered (accepted c (world c es) e j) ≡ [] → (i : ℕ) →
        seen c (e ∷ es) name key term i j ≡ seen c es name key term i j
    seen_kept j none i = ⊎_elim
        (λ same. same_at (seen c (e ∷ es) name key term) (seen c es name key term) i j same
        (seen_self c name key term (e ∷ es) i ∙ sym (seen_self c name key term es i)))
        (λ ne. seen_step c name key term e es i j ne
        ∙ ap (λ ops. cond (is_under c (e ∷ es) name key j) (max (number_at (Shifts name key term i j) ops)
        (seen c es name key term i j)) (seen c es name key term i j)) none
        ∙ seen_if (is_under c (e ∷ es) name key j) (seen c es name key term i j))
        (cases_eq i j)

    pub seen_else : (i j : ℕ) → j ≢ e.node → seen c (e ∷ es) name key term i j ≡ seen c es name key term i j
    seen_else i j ne = seen_kept j (delivered_else j ne) i

    pub seen_same : ops_delivered (Some q) ≡ [] → (i j : ℕ) →
        seen c (e ∷ es) name key term i j ≡ seen c es name key term i j
    seen_same none i j = ⊎_elim
        (λ same. seen_kept j (ap (λ k. ops_delivered (accepted c (world c es) e k)) same ∙ ap ops_delivered accepts ∙ none) i)
        (λ ne. seen_else i j ne)
        (cases_eq j e.node)

    pub seen_not_under : is_under c (e ∷ es) name key e.node ≡ false → (i j : ℕ) →
        seen c (e ∷ es) name key term i j ≡ seen c es name key term i j
    seen_not_under u i j = ⊎_elim
        (λ here. same_column (seen c (e ∷ es) name key term) (seen c es name key term) i j e.node here (⊎_elim
        (λ same. same_at (seen c (e ∷ es) name key term) (seen c es name key term) i e.node same
        (seen_self c name key term (e ∷ es) i ∙ sym (seen_self c name key term es i)))
        (λ ne. seen_step c name key term e es i e.node ne
        ∙ ap (λ t. cond t (max (number_at (Shifts name key term i e.node)
        (ops_delivered (accepted c (world c es) e e.node))) (seen c es name key term i e.node))
        (seen c es name key term i e.node)) u)
        (cases_eq i e.node)))
        (λ ne. seen_else i j ne)
        (cases_eq j e.node)

    -- an operation of a node's own is one that it issues or one that it had
    own_before : (op : Operation) → writer_of op ≡ e.node → IsIn op ((world c (e ∷ es)).node e.node).ops →
        IsIn op (ops_issued e.node n (Some q) e.words) ⊎ IsIn op n.ops
    own_before op own h = ⊎_elim
        (λ k. inl (subst (λ a. IsIn op (ops_issued e.node n a e.words)) accepts k))
        (λ k. inr (⊎_elim
        (λ l. subst (λ j. IsIn op ((world c es).node j).ops) own
        (delivered_from c (world c es) e e.node (λ o. IsIn o ((world c es).node (writer_of o)).ops) s.0 (known c es s.1).sent op l))
        (λ l. l) k))
        (gains e.node n (accepted c (world c es) e e.node) e.words op h)

    -- the operations of a node that isn't asked are as they were
    else_before : (i : ℕ) → i ≢ e.node → (op : Operation) → IsIn op ((world c (e ∷ es)).node i).ops →
        IsIn op ((world c es).node i).ops
    else_before i ne op h = subst (λ a. IsIn op (node_after i ((world c es).node i) a e.words).ops)
        (not_asked c (world c es) e i ne) h

    pub shift_before : (i j number : ℕ) → (i ≡ e.node → IsIn (Count (Shifts name key term e.node j) number)
        (ops_issued e.node n (Some q) e.words) → ⊥) →
        IsIn (Count (Shifts name key term i j) number) ((world c (e ∷ es)).node i).ops →
        IsIn (Count (Shifts name key term i j) number) ((world c es).node i).ops
    shift_before i j number none h = cases_to (IsIn (Count (Shifts name key term i j) number) ((world c es).node i).ops)
        (λ same. subst (λ k. IsIn (Count (Shifts name key term k j) number) ((world c es).node k).ops) (sym same)
        (cases_to (IsIn (Count (Shifts name key term e.node j) number) ((world c es).node e.node).ops)
        (λ k. absurd (none same k)) (λ k. k)
        (own_before (Count (Shifts name key term e.node j) number) refl
        (subst (λ k. IsIn (Count (Shifts name key term k j) number) ((world c (e ∷ es)).node k).ops) same h))))
        (λ ne. else_before i ne (Count (Shifts name key term i j) number) h)
        (cases_eq i e.node)

    -- ---- nothing is moved, and nothing comes

    pub same_parcels : (parcels : List Parcel) → HasParcels es parcels →
        ((i j : ℕ) → seen c (e ∷ es) name key term i j ≡ seen c es name key term i j) →
        ((j : ℕ) → amount_moved n (Some q) name key term j ≡ 0) →
        ((j number : ℕ) → e.node ≢ j → IsIn (Count (Shifts name key term e.node j) number)
        (ops_issued e.node n (Some q) e.words) → ⊥) →
        HasParcels (e ∷ es) parcels
    same_parcels parcels has stays still own = record {
      sound = has.sound;
      chain = λ i j.
          subst (λ k. IsChain k (moved c (e ∷ es) name key term i j) (between i j parcels)) (sym (stays i j))
          (subst (λ k. IsChain (seen c es name key term i j) k (between i j parcels)) (sym (moved_same i j)) (has.chain i j));
      reached = λ i j number ne h.
          subst (λ k. IsReached number k (between i j parcels)) (sym (stays i j))
          (has.reached i j number ne (shift_before i j number
          (λ same k. own j number (λ f. ne (same ∙ f)) k) h));
    }
      where
        moved_same : (i j : ℕ) → moved c (e ∷ es) name key term i j ≡ moved c es name key term i j
        moved_same i j = ⊎_elim
            (λ same. same_row (moved c (e ∷ es) name key term) (moved c es name key term) i e.node j same
            (let here = moved_here j in let zero_ = still j in omega (arith, here, zero_)))
            (λ ne. moved_else i j ne)
            (cases_eq i e.node)

    -- ---- some are sent

    pub one_sent : (parcels : List Parcel) (to amount : ℕ) → HasParcels es parcels → ops_delivered (Some q) ≡ [] →
        e.node < c.nodes → to ≢ e.node → 1 ≤ amount →
        ((j : ℕ) → amount_moved n (Some q) name key term j ≡ cond (to == j) amount 0) →
        ((j number : ℕ) → IsIn (Count (Shifts name key term e.node j) number) (ops_issued e.node n (Some q) e.words) →
        (j ≡ to) × (number ≡ moved c es name key term e.node to + amount)) →
        HasParcels (e ∷ es)
        (parcels ++ record { from = e.node; to = to; total = moved c es name key term e.node to + amount; amount = amount } ∷ [])
    one_sent parcels to amount has none low apart some sends own = record {
      sound = sound_append c.nodes parcels (p ∷ []) has.sound
          (record { from = low; apart = apart; some = omega (arith, some) }, tt);
      chain = λ i j. chain_at i j (is_between i j p) refl;
      reached = λ i j number ne h.
          subst (λ k. IsReached number k (between i j (parcels ++ p ∷ []))) (sym (seen_same none i j))
          (reached_at i j number ne h);
    }
      where
        p : Parcel
        p = record { from = e.node; to = to; total = moved c es name key term e.node to + amount; amount = amount }

        parts : (i j : ℕ) → between i j (parcels ++ p ∷ []) ≡ between i j parcels ++ cond (is_between i j p) (p ∷ []) []
        parts i j = filter_append (is_between i j) parcels (p ∷ [])

        more_to : (j : ℕ) → to ≡ j → moved c (e ∷ es) name key term e.node j ≡ moved c es name key term e.node j + amount
        more_to j same =
            let here = moved_here j in
            let sent : amount_moved n (Some q) name key term j ≡ amount = sends j ∙
            ap (λ t. cond t amount 0) (eq-eqb to j same) in
            omega (arith, here, sent)

        more_else : (i j : ℕ) → is_between i j p ≡ false → moved c (e ∷ es) name key term i j ≡ moved c es name key term i j
        more_else i j f = ⊎_elim
            (λ same. same_row (moved c (e ∷ es) name key term) (moved c es name key term) i e.node j same
            (let here = moved_here j in
            let other : (to == j) ≡ false = sym (ap (λ t. t && (to == j)) (eq-eqb i e.node same)) ∙ f in
            let sent : amount_moved n (Some q) name key term j ≡ 0 = sends j ∙ ap (λ t. cond t amount 0) other in
            omega (arith, here, sent)))
            (λ ne. moved_else i j ne)
            (cases_eq i e.node)

        chain_at : (i j : ℕ) (t : Bool) → is_between i j p ≡ t →
            IsChain (seen c (e ∷ es) name key term i j) (moved c (e ∷ es) name key term i j) (between i j (parcels ++ p ∷ []))
        chain_at i j true f =
            let both = and_parts (i == e.node) (to == j) f in
            let from_is = eqb-true i e.node both.0 in
            let to_is = eqb-true to j both.1 in
            let grown : IsChain (seen c es name key term i j) (moved c es name key term i j + amount) (between i j parcels ++ p ∷ []) =
            chain_more (seen c es name key term i j) (moved c es name key term i j) amount (between i j parcels) p
            (has.chain i j) refl
            (λ r. moved c es name key term (sym from_is r) (to_is r) + amount) some in
            let now : moved c (e ∷ es) name key term i j ≡ moved c es name key term i j + amount =
            subst (λ k. moved c (e ∷ es) name key term k j ≡ moved c es name key term k j + amount) (sym from_is) (more_to j to_is) in
            subst (λ ps. IsChain (seen c (e ∷ es) name key term i j) (moved c (e ∷ es) name key term i j) ps)
            (sym (parts i j ∙ ap (λ t. between i j parcels ++ cond t (p ∷ []) []) f))
            (subst (λ k. IsChain k (moved c (e ∷ es) name key term i j) (between i j parcels ++ p ∷ [])) (sym (seen_same none i j))
            (subst (λ k. IsChain (seen c es name key term i j) k (between i j parcels ++ p ∷ [])) (sym now) grown))
        chain_at i j false f =
            subst (λ ps. IsChain (seen c (e ∷ es) name key term i j) (moved c (e ∷ es) name key term i j) ps)
            (sym (parts i j ∙ ap (λ t. between i j parcels ++ cond t (p ∷ []) []) f ∙ append-nil (between i j parcels)))
            (subst (λ k. IsChain k (moved c (e ∷ es) name key term i j) (between i j parcels)) (sym (seen_same none i j))
            (subst (λ k. IsChain (seen c es name key term i j) k (between i j parcels)) (sym (more_else i j f)) (has.chain i j)))

        still : (i j number low : ℕ) → IsReached number low (between i j parcels) →
            IsReached number low (between i j (parcels ++ p ∷ []))
        still i j number low (inl few) = inl few
        still i j number low (inr h) = inr (at (is_between i j p) refl)
          where
            at : (t : Bool) → is_between i j p ≡ t → IsTotalOf number (between i j (parcels ++ p ∷ []))
            at true f = subst (IsTotalOf number) (sym (parts i j ∙ ap (λ t. between i j parcels ++ cond t (p ∷ []) []) f))
                (total_more number (between i j parcels) p h)
            at false f = subst (IsTotalOf number)
                (sym (parts i j ∙ ap (λ t. between i j parcels ++ cond t (p ∷ []) []) f ∙ append-nil (between i j parcels))) h

        new : (j number : ℕ) → j ≡ to → number ≡ moved c es name key term e.node to + amount →
            IsTotalOf number (between e.node j (parcels ++ p ∷ []))
        new j number to_is number_is =
            let both : is_between e.node j p ≡ true = and_from (e.node == e.node) (to == j) (eq-eqb e.node e.node refl)
            (eq-eqb to j (sym to_is)) in
            subst (IsTotalOf number) (sym (parts e.node j ∙ ap (λ t. between e.node j parcels ++ cond t (p ∷ []) []) both))
            (total_last number (between e.node j parcels) p (sym number_is))

        reached_at : (i j number : ℕ) → i ≢ j → IsIn (Count (Shifts name key term i j) number) ((world c (e ∷ es)).node i).ops →
            IsReached number (seen c es name key term i j) (between i j (parcels ++ p ∷ []))
        reached_at i j number ne h = cases_to (IsReached number (seen c es name key term i j) (between i j (parcels ++ p ∷ [])))
            (λ same. subst (λ k. IsReached number (seen c es name key term k j) (between k j (parcels ++ p ∷ []))) (sym same)
            (cases_to (IsReached number (seen c es name key term e.node j) (between e.node j (parcels ++ p ∷ [])))
            (λ k. let is = own j number k in inr (new j number is.0 is.1))
            (λ k. still e.node j number (seen c es name key term e.node j)
            (has.reached e.node j number (λ f. ne (same ∙ f)) k))
            (own_before (Count (Shifts name key term e.node j) number) refl
            (subst (λ k. IsIn (Count (Shifts name key term k j) number) ((world c (e ∷ es)).node k).ops) same h))))
            (λ apart_. still i j number (seen c es name key term i j)
            (has.reached i j number ne (else_before i apart_ (Count (Shifts name key term i j) number) h)))
            (cases_eq i e.node)

    -- ---- a message comes

    -- what a message tells of what a node moved was reached
    told_reached : (parcels : List Parcel) → HasParcels es parcels → (i j : ℕ) → i ≢ j → (ops : List Operation) →
        ((op : Operation) → IsIn op ops → IsIn op ((world c es).node (writer_of op)).ops) →
        IsReached (number_at (Shifts name key term i j) ops) (seen c es name key term i j) (between i j parcels)
    told_reached parcels has i j ne ops from = cases_to
        (IsReached (number_at (Shifts name key term i j) ops) (seen c es name key term i j) (between i j parcels))
        (λ z. inl (omega (arith, z)))
        (λ some.
        let held = number_held (Shifts name key term i j) ops some in
        let upto = number_at-is_in (Shifts name key term i j) held.0 ops held.1 in
        let more = held.2 in
        let same : held.0 ≡ number_at (Shifts name key term i j) ops = omega (arith, upto, more) in
        subst (λ k. IsReached k (seen c es name key term i j) (between i j parcels)) same
        (has.reached i j held.0 ne (from (Count (Shifts name key term i j) held.0) held.1)))
        (cases_eq (number_at (Shifts name key term i j) ops) 0)

    pub some_arrive : (parcels : List Parcel) (ops : List Operation) (brought : Parcel → Bool) → HasParcels es parcels →
        is_under c (e ∷ es) name key e.node ≡ true →
        ops_delivered (Some q) ≡ ops →
        ((op : Operation) → IsIn op ops → IsIn op ((world c es).node (writer_of op)).ops) →
        ((j : ℕ) → amount_moved n (Some q) name key term j ≡ 0) →
        ((j number : ℕ) → IsIn (Count (Shifts name key term e.node j) number) (ops_issued e.node n (Some q) e.words) → ⊥) →
        ((p : Parcel) → brought p ≡ true → (p.to == e.node) ≡ true) →
        ((p : Parcel) → IsSound c.nodes p → p.to ≡ e.node → brought p ≡ nat_le p.total
        (number_at (Shifts name key term p.from p.to) ops)) →
        HasParcels (e ∷ es) (filter (λ p. not (brought p)) parcels)
    some_arrive parcels ops brought has under brings from still own here tells = record {
      sound = sound_filter c.nodes (λ p. not (brought p)) parcels has.sound;
      chain = λ i j. chain_at i j;
      reached = λ i j number ne h. reached_at i j number ne (shift_before i j number (λ same k. own j number k) h);
    }
      where
        left : List Parcel
        left = filter (λ p. not (brought p)) parcels

        moved_same : (i j : ℕ) → moved c (e ∷ es) name key term i j ≡ moved c es name key term i j
        moved_same i j = ⊎_elim
            (λ same. same_row (moved c (e ∷ es) name key term) (moved c es name key term) i e.node j same
            (let now = moved_here j in let zero_ = still j in omega (arith, now, zero_)))
            (λ ne. moved_else i j ne)
            (cases_eq i e.node)

        -- between others nothing changes
        else_left : (i j : ℕ) → j ≢ e.node → between i j left ≡ between i j parcels
        else_left i j ne =
            filter_within c.nodes (is_between i j) (λ p. not (brought p)) (λ p. not (brought p)) parcels has.sound
            (λ p sound f. refl)
            ∙ filter_all (λ p. not (brought p)) (is_between i j) parcels (λ p f. kept p f (brought p) refl)
          where
            kept : (p : Parcel) → is_between i j p ≡ true → (t : Bool) → brought p ≡ t → not t ≡ true
            kept p f true b =
                let both = and_parts (i == p.from) (p.to == j) f in
                absurd (ne (sym (eqb-true p.to j both.1) ∙ eqb-true p.to e.node (here p b)))
            kept p f false b = refl

        -- and to the node those are left whose totals the message doesn't tell
        here_left : (i : ℕ) → between i e.node left ≡ left_by (number_at (Shifts name key term i e.node) ops)
            (between i e.node parcels)
        here_left i = filter_within c.nodes (is_between i e.node) (λ p. not (brought p))
            (λ p. not (nat_le p.total (number_at (Shifts name key term i e.node) ops))) parcels has.sound
            (λ p sound f.
            let both = and_parts (i == p.from) (p.to == e.node) f in
            let from_is = eqb-true i p.from both.0 in
            let to_is = eqb-true p.to e.node both.1 in
            ap not (tells p sound to_is
            ∙ (λ r. nat_le p.total (number_at (Shifts name key term (sym from_is r) (to_is r)) ops))))

        seen_now : (i : ℕ) → i ≢ e.node → seen c (e ∷ es) name key term i e.node ≡ max
            (number_at (Shifts name key term i e.node) ops) (seen c es name key term i e.node)
        seen_now i ne =
            seen_step c name key term e es i e.node ne
            ∙ ap (λ t. cond t (max (number_at (Shifts name key term i e.node)
            (ops_delivered (accepted c (world c es) e e.node))) (seen c es name key term i e.node))
            (seen c es name key term i e.node)) under
            ∙ ap (λ os. max (number_at (Shifts name key term i e.node) os) (seen c es name key term i e.node))
            (ap ops_delivered accepts ∙ brings)

        chain_here : (i : ℕ) → i ≢ e.node → IsChain (seen c (e ∷ es) name key term i e.node)
            (moved c (e ∷ es) name key term i e.node) (between i e.node left)
        chain_here i ne =
            subst (λ ps. IsChain (seen c (e ∷ es) name key term i e.node) (moved c (e ∷ es) name key term i e.node) ps)
            (sym (here_left i))
            (subst (λ k. IsChain k (moved c (e ∷ es) name key term i e.node)
            (left_by (number_at (Shifts name key term i e.node) ops) (between i e.node parcels))) (sym (seen_now i ne))
            (subst (λ k. IsChain (max (number_at (Shifts name key term i e.node) ops) (seen c es name key term i e.node)) k
            (left_by (number_at (Shifts name key term i e.node) ops) (between i e.node parcels))) (sym (moved_same i e.node))
            (chain_left (seen c es name key term i e.node) (moved c es name key term i e.node)
            (number_at (Shifts name key term i e.node) ops) (between i e.node parcels) (has.chain i e.node)
            (told_reached parcels has i e.node ne ops from))))

        chain_self : (i : ℕ) → IsChain (seen c (e ∷ es) name key term i i) (moved c (e ∷ es) name key term i i) (between i i left)
        chain_self i =
            subst (λ ps. IsChain (seen c (e ∷ es) name key term i i) (moved c (e ∷ es) name key term i i) ps)
            (sym (none_within c.nodes i left (sound_filter c.nodes (λ p. not (brought p)) parcels has.sound)))
            (seen_self c name key term (e ∷ es) i ∙ sym (moved_to_self c (e ∷ es) name key term i))

        chain_at : (i j : ℕ) → IsChain (seen c (e ∷ es) name key term i j) (moved c (e ∷ es) name key term i j) (between i j left)
        chain_at i j = cases_to
            (IsChain (seen c (e ∷ es) name key term i j) (moved c (e ∷ es) name key term i j) (between i j left))
            (λ same. subst (λ k. IsChain (seen c (e ∷ es) name key term i k) (moved c (e ∷ es) name key term i k) (between i k left))
            (sym same) (cases_to (IsChain (seen c (e ∷ es) name key term i e.node) (moved c (e ∷ es) name key term i e.node)
            (between i e.node left))
            (λ self. subst (λ k. IsChain (seen c (e ∷ es) name key term k e.node) (moved c (e ∷ es) name key term k e.node)
            (between k e.node left)) (sym self) (chain_self e.node))
            (λ ne. chain_here i ne) (cases_eq i e.node)))
            (λ ne. subst (λ ps. IsChain (seen c (e ∷ es) name key term i j) (moved c (e ∷ es) name key term i j) ps)
            (sym (else_left i j ne))
            (subst (λ k. IsChain k (moved c (e ∷ es) name key term i j) (between i j parcels)) (sym (seen_else i j ne))
            (subst (λ k. IsChain (seen c es name key term i j) k (between i j parcels)) (sym (moved_same i j)) (has.chain i j))))
            (cases_eq j e.node)

        reached_at : (i j number : ℕ) → i ≢ j → IsIn (Count (Shifts name key term i j) number) ((world c es).node i).ops →
            IsReached number (seen c (e ∷ es) name key term i j) (between i j left)
        reached_at i j number ne h = cases_to (IsReached number (seen c (e ∷ es) name key term i j) (between i j left))
            (λ same. subst (λ k. IsReached number (seen c (e ∷ es) name key term i k) (between i k left)) (sym same)
            (subst (λ ps. IsReached number (seen c (e ∷ es) name key term i e.node) ps) (sym (here_left i))
            (subst (λ k. IsReached number k (left_by (number_at (Shifts name key term i e.node) ops) (between i e.node parcels)))
            (sym (seen_now i (λ f. ne (f ∙ sym same))))
            (reached_left (seen c es name key term i e.node) (number_at (Shifts name key term i e.node) ops) number
            (between i e.node parcels) (has.reached i e.node number (λ f. ne (f ∙ sym same))
            (subst (λ k. IsIn (Count (Shifts name key term i k) number) ((world c es).node i).ops) same h))))))
            (λ apart. subst (λ ps. IsReached number (seen c (e ∷ es) name key term i j) ps) (sym (else_left i j apart))
            (subst (λ k. IsReached number k (between i j parcels)) (sym (seen_else i j apart)) (has.reached i j number ne h)))
            (cases_eq j e.node)
