-- No message of the cluster is refused for what it says, but where executions are known and not yet the grant that paid
-- for them.
use Rattle.std.proofs.Common.{◌≡◌, ℕ, ◌+◌, ◌<◌, ◌≤◌, ◌==◌, ◌&&◌, ◌||◌, zero, suc, Bool, true, false, not, List, [], ◌∷◌, ◌++◌, length, ◌⊎◌, inl, inr, refl, sym, ◌∙◌, ap, subst, arith, nat_lt, ⊎_elim, Option, Some, None, Ok}
use Rattle.std.proofs.lemmas.Bool.{true≢false, eqb-true, eq-eqb, le-ltb, ltb-true}
use Rattle.std.specs.Prelude.{is_none}
use Rattle.std.specs.List.{list_any}
use Rattle.actions.specs.Value.{TermValue}
use Rattle.counters.specs.Sums.{node_numbers, sum_below}
use Rattle.counters.proofs.SumLemmas.{sum-le, sum-narrow}
use Rattle.stamp_register.specs.declared.key.Stamp.{Stamp}
use Rattle.stamp_register.specs.Keys.{KeyValue, stamp_of}
use Rattle.operations.specs.Operations.{Execs, Operation, Count, writer_of, IsIn, count_at, count_of, count_under, name_in}
use Rattle.replica_state.specs.States.{State, granted_in}
use Rattle.replica_state.specs.Folds.{fold, number_at, at_key}
use Rattle.replica_state.specs.Knowledge.{knows}
use Rattle.replica_state.proofs.Sets.{number_at-mono}
use Rattle.operations.proofs.Members.{IsIn-append_cases}
use Rattle.replica_state.proofs.KnownSets.{knows_member}
use Rattle.replica_state.proofs.Changes.{false_any}
use Rattle.replica_state.proofs.Knowing.{set_knows}
use Rattle.node_calls.specs.declared.fault.NodeFault.{NodeFault}
use Rattle.node_calls.specs.declared.fault.NodeFault.TheVariants as faults
use Rattle.node_calls.specs.Asks.{Asked, Message}
use Rattle.node_calls.specs.Asks as asks
use Rattle.node_steps.specs.Nodes.{setting_of, terms_in}
use Rattle.refusals.specs.Refusals.{first_fault}
use Rattle.std.specs.Bool.{then_some}
use Rattle.node_steps.specs.Refusals.{is_full, is_ahead, exceeds_count, any_below, is_overspent, overspends, too_many, faults_of_message, refusal_at}
use Rattle.node_steps.proofs.Rights.{setting_parts}
use Rattle.cluster_model.specs.Worlds.{Cluster, Event, config_of, accepted, world}
use Rattle.cluster_model.specs.Schedules.{IsSchedule}
use Rattle.cluster_model.specs.Histories.{state_of, executions, IsIssued, all_granted}
use Rattle.cluster_model.specs.Laws.{merged, merge_overspends, LacksGrant, IsHonest, IsOwnReason, IsHonestReason}
use Rattle.cluster_model.proofs.Steps.{asked_is, known}
use Rattle.cluster_model.proofs.Versions.{marked}
use Rattle.cluster_model.proofs.Stamps.{carried, held_carrier, one_stamp}
use Rattle.cluster_model.proofs.OwnCells.{is_false, acted, executed_more, own_execs}
use Rattle.cluster_model.proofs.Conserved.{conserved}

-- ---- nothing is ahead of what the node wrote

held_not_ahead : (i : ℕ) (ops : List Operation) (op : Operation) → IsIn op ops → is_ahead i (fold ops) op ≡ false
held_not_ahead i ops op h = at (writer_of op == i)
  where
    at : (t : Bool) → (t && not (knows (fold ops) op)) ≡ false
    at true = ap not (set_knows ops op (knows_member op ops h))
    at false = refl

-- what another node writes is not this node's
other_not_ahead : (i : ℕ) (v : State) (op : Operation) → (writer_of op ≡ i → ⊥) → is_ahead i v op ≡ false
other_not_ahead i v op ne = at (writer_of op == i) (eqb-true (writer_of op) i)
  where
    at : (t : Bool) → (t ≡ true → writer_of op ≡ i) → (t && not (knows v op)) ≡ false
    at true f = absurd (ne (f refl))
    at false f = refl

not_ahead : (c : Cluster) (es : List Event) → IsSchedule c es → (i : ℕ) (m : Message) → IsIn m (world c es).messages →
    (op : Operation) → IsIn op m.ops → is_ahead i (state_of c es i) op ≡ false
not_ahead c es s i m h op k = at (writer_of op == i) (eqb-true (writer_of op) i) (eq-eqb (writer_of op) i)
  where
    at : (t : Bool) → (t ≡ true → writer_of op ≡ i) → (writer_of op ≡ i → t ≡ true) →
        is_ahead i (state_of c es i) op ≡ false
    at true f g = held_not_ahead i ((world c es).node i).ops op
        (subst (λ j. IsIn op ((world c es).node j).ops) (f refl) ((known c es s).sent m h op k))
    at false f g = other_not_ahead i (state_of c es i) op (λ e. true≢false (sym (g e)))

-- ---- where a term is overspent, a grant is not known

executed_by_none : (c : Cluster) (es : List Event) (stamp : Stamp) (term i : ℕ) → c.nodes ≤ i →
    executions c es stamp term i ≡ 0
executed_by_none c [] stamp term i l = refl
executed_by_none c (e ∷ es) stamp term i l =
    let more = executed_more stamp term i ((world c es).node i) ((world c es).trace i) (accepted c (world c es) e i)
    e.words in
    let before = executed_by_none c es stamp term i l in
    let here = at (accepted c (world c es) e i) refl in
    omega (arith, more, before, here)
  where
    at : (a : Option Asked) → accepted c (world c es) e i ≡ a → acted stamp term i ((world c es).node i) a e.words ≡ 0
    at None p = refl
    at (Some ask) p =
        let below = (asked_is c (world c es) e i ask p).below in
        absurd (omega (arith, below, l))

under_execs : (ops : List Operation) (name : List ℕ) (key : KeyValue) (term j : ℕ) → (fold ops).key name ≡ Some key →
    (fold ops).execs name term j ≡ number_at (Execs name key term j) ops
unfolding fold
under_execs ops name key term j e = ap (λ k. at_key k (λ l. number_at (Execs name l term j) ops)) e

-- where one of several tests holds, which
either_true : (a b : Bool) → (a || b) ≡ true → (a ≡ true) ⊎ (b ≡ true)
either_true true b h = inl refl
either_true false b h = inr h

some_below : (n : ℕ) (test : ℕ → Bool) → any_below n test ≡ true → (k : ℕ) × (test k ≡ true)
some_below zero test h = absurd (true≢false (sym h))
some_below (suc n) test h = ⊎_elim (λ e. (n, e)) (λ e. some_below n test e) (either_true (test n) (any_below n test) h)

some_in : (test : Operation → Bool) (ops : List Operation) → list_any test ops ≡ true →
    (op : Operation) × IsIn op ops × (test op ≡ true)
some_in test [] h = absurd (true≢false (sym h))
some_in test (op ∷ ops) h = ⊎_elim
    (λ e. (op, inl refl, e))
    (λ e. let found = some_in test ops e in (found.0, inr found.1, found.2))
    (either_true (test op) (list_any test ops) h)

-- what is overspent is a counted term of the name's key
record IsOverspent (v : State) (name : List ℕ) : Type 0 where
  pub key : KeyValue
  pub term : ℕ
  pub count : ℕ
  pub under : v.key name ≡ Some key
  pub counted : count_of key term ≡ Some count
  pub above : count + sum_below node_numbers (granted_in v name term) < sum_below node_numbers (v.execs name term)

overspent_term : (v : State) (name : List ℕ) → is_overspent v name (terms_in (setting_of v name)) ≡ true →
    IsOverspent v name
overspent_term v name = at (setting_of v name) refl
  where
    at : (o : Option (KeyValue × List TermValue)) → setting_of v name ≡ o → is_overspent v name (terms_in o) ≡ true →
        IsOverspent v name
    at None p h = absurd (true≢false (sym h))
    at (Some setting) p h =
        let found = some_below (length setting.1) _ h in
        of found.0 (count_at setting.1 found.0) refl found.1
      where
        of : (term : ℕ) (o : Option ℕ) → count_at setting.1 term ≡ o →
            exceeds_count o (sum_below node_numbers (granted_in v name term))
            (sum_below node_numbers (v.execs name term)) ≡ true → IsOverspent v name
        of term None q above = absurd (true≢false (sym above))
        of term (Some count) q above =
            let is = setting_parts (v.key name) setting.0 setting.1 p in
            record {
              key = setting.0;
              term = term;
              count = count;
              under = is.is_key;
              counted = ap (λ (o : Option (List TermValue)). count_under o term) is.is_terms ∙ q;
              above = ltb-true _ _ above;
            }

-- where no term is executed more often than it is counted and granted, none is overspent
pub none_overspent : (v : State) → ((name : List ℕ) (key : KeyValue) (term count : ℕ) → v.key name ≡ Some key →
    count_of key term ≡ Some count → sum_below node_numbers (v.execs name term) ≤ count + sum_below node_numbers
    (granted_in v name term)) →
    (name : List ℕ) → is_overspent v name (terms_in (setting_of v name)) ≡ false
none_overspent v at_most name = is_false _ (λ h.
    let is = overspent_term v name h in
    let above = is.above in
    let most = at_most name is.key is.term is.count is.under is.counted in
    omega (arith, above, most))

-- a key that a message brings, or finds, was issued
pub merged_issued : (c : Cluster) (es : List Event) → IsSchedule c es → (i : ℕ) (m : Message) →
    IsIn m (world c es).messages → (name : List ℕ) (key : KeyValue) →
    (fold (m.ops ++ ((world c es).node i).ops)).key name ≡ Some key → IsIssued c es name key
merged_issued c es s i m sent_then name key p =
    let found = held_carrier (m.ops ++ ((world c es).node i).ops) name key p in
    ⊎_elim (λ l. (carried c es s).sent m sent_then found.op l name key found.carries)
    (λ l. (carried c es s).held i found.op l name key found.carries) (IsIn-append_cases found.op _ _ found.held)

-- the refusal of a message, by what applies
abbrev first_of : Bool → Bool → Bool → Bool → Bool → Bool → Option NodeFault
first_of full many other ahead above over =
    first_fault (then_some full faults.TraceFull ∷ then_some many faults.TooManyPoints ∷ None ∷ None ∷
    then_some other faults.NotForMe ∷ then_some ahead faults.OwnAhead ∷ then_some above faults.AckAhead ∷
    then_some over faults.Overspent ∷ [])

-- it overspends a term, at the node that it is for, and that is the refusal
record IsOverspending (other over : Bool) (fault : Option NodeFault) : Type 0 where
  pub over_is : over ≡ true
  pub other_is : other ≡ false
  pub fault_is : fault ≡ Some faults.Overspent

first_is : (full many other ahead above over : Bool) → (other ≡ false → above ≡ false) → ahead ≡ false →
    IsOwnReason (first_of full many other ahead above over) ⊎ IsOverspending other over
    (first_of full many other ahead above over)
first_is true many other ahead above over p q = inl tt
first_is false true other ahead above over p q = inl tt
first_is false false true ahead above over p q = inl tt
first_is false false false true above over p q = absurd (true≢false q)
first_is false false false false true over p q = absurd (true≢false (p refl))
first_is false false false false false true p q = inr (record { over_is = refl; other_is = refl; fault_is = refl })
first_is false false false false false false p q = inl tt

module _ (c : Cluster) (es : List Event) (s : IsSchedule c es) (i : ℕ) (m : Message)
    (sent_then : IsIn m (world c es).messages) where
  abbrev ops_then : List Operation
  ops_then = m.ops ++ ((world c es).node i).ops

  abbrev fault : Option NodeFault
  fault = refusal_at (config_of c i) (length ((world c es).trace i)) ((world c es).node i) (asks.Deliver (Ok m)) []

  with_writer : (op : Operation) → IsIn op ops_then → IsIn op ((world c es).node (writer_of op)).ops
  with_writer op l = ⊎_elim (λ k. (known c es s).sent m sent_then op k) (λ k. (known c es s).held i op k)
      (IsIn-append_cases op _ _ l)

  at_most : c.nodes ≤ node_numbers → (name : List ℕ) (key : KeyValue) (term count : ℕ) →
      (merged c es i m).key name ≡ Some key → count_of key term ≡ Some count →
      sum_below node_numbers ((merged c es i m).execs name term) ≤ count + all_granted c es name key term
  at_most few name key term count p q =
      let issued = merged_issued c es s i m sent_then name key p in
      let each = sum-le node_numbers ((merged c es i m).execs name term) (executions c es (stamp_of key) term) (λ j.
      let here = under_execs ops_then name key term j p in
      let own = own_execs c es s name key term count q (one_stamp c es name key issued) j in
      let upto : number_at (Execs name key term j) ops_then ≤ number_at (Execs name key term j)
      ((world c es).node j).ops = number_at-mono (Execs name key term j) _ _
      (λ k. with_writer (Count (Execs name key term j) k)) in
      omega (arith, here, own, upto)) in
      let narrow = sum-narrow c.nodes node_numbers (executions c es (stamp_of key) term) few
      (λ j l. executed_by_none c es (stamp_of key) term j l) in
      let most = (conserved c es few s name key term count issued q).at_most in
      omega (arith, each, narrow, most)

  lacks : c.nodes ≤ node_numbers → (op : Operation) → overspends (merged c es i m) op ≡ true →
      LacksGrant c es (merged c es i m) (name_in op)
  lacks few op h =
      let is = overspent_term (merged c es i m) (name_in op) h in
      record {
        key = is.key;
        term = is.term;
        count = is.count;
        under = is.under;
        counted = is.counted;
        overspent = is.above;
        paid = at_most few (name_in op) is.key is.term is.count is.under is.counted;
      }

  pub honest_message : c.nodes ≤ node_numbers → IsHonest c es i m
  honest_message few =
      record {
        not_ahead = false_any _ m.ops (not_ahead c es s i m sent_then);
        acked = λ e. subst (λ j. m.ack ≤ ((world c es).node j).marks.version) e ((marked c es s).ack m sent_then);
        not_overspent = λ op h over. lacks few op over;
      }

  for_me : not (m.to == i) ≡ false → m.to ≡ i
  for_me = at (m.to == i) (eqb-true m.to i)
    where
      at : (t : Bool) → (t ≡ true → m.to ≡ i) → not t ≡ false → m.to ≡ i
      at true f e = f refl
      at false f e = absurd (true≢false e)

  found : IsOwnReason fault ⊎ IsOverspending (not (m.to == i)) (merge_overspends c es i m) fault
  found = first_is (is_full (config_of c i) (length ((world c es).trace i)))
      (is_none (first_fault (faults_of_message (config_of c i) ((world c es).node i) (Ok m))) && too_many
      (merged c es i m).names)
      (not (m.to == i)) (list_any (is_ahead i (state_of c es i)) m.ops)
      (nat_lt ((world c es).node i).marks.version m.ack) (merge_overspends c es i m)
      (λ e. le-ltb _ _ (subst (λ j. m.ack ≤ ((world c es).node j).marks.version) (for_me e)
      ((marked c es s).ack m sent_then)))
      (false_any _ m.ops (not_ahead c es s i m sent_then))

  -- so it is refused for what it says only where a grant isn't known yet
  pub honest_reason : c.nodes ≤ node_numbers → IsHonestReason c es i m fault
  honest_reason few = ⊎_elim inl (λ is. inr (
      let some = some_in (overspends (merged c es i m)) m.ops is.over_is in
      record { refused = is.fault_is; op = some.0; carried = some.1; lacks = lacks few some.0 some.2 })) found

  -- and where it overspends no term, for nothing that it says
  pub own_reason : (m.to ≡ i → merge_overspends c es i m ≡ false) → IsOwnReason fault
  own_reason none = ⊎_elim (λ own. own) (λ is. absurd (true≢false (sym is.over_is ∙ none (for_me is.other_is)))) found
