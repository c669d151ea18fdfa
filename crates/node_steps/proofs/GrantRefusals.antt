-- The refusals of a grant.
use Rattle.std.proofs.Common.{◌≡◌, ℕ, ◌+◌, ◌<◌, true, false, ◌==◌, List, [], ◌∷◌, length, Option, Some, None, refl, ◌∙◌, ap, arith, nat_lt}
use Rattle.std.proofs.lemmas.Bool.Decides.{nat_tests}
use Rattle.std.specs.Prelude.{slice_get, nat_le}
use Rattle.std.specs.Bool.{then_some}
use Rattle.actions.specs.Value.{TermValue}
use Rattle.counters.specs.Cells.{most}
use Rattle.stamp_register.specs.Keys.{KeyValue}
use Rattle.operations.specs.Operations.{count_at, count_in}
use Rattle.replica_state.specs.States.{State, granted_in}
use Rattle.refusals.specs.Refusals.{first_fault}
use Rattle.node_steps.specs.declared.config.Config.{Config}
use Rattle.node_calls.specs.declared.fault.NodeFault.{NodeFault}
use Rattle.node_calls.specs.declared.fault.NodeFault.TheVariants as faults
use Rattle.node_steps.specs.Nodes.{setting_of}
use Rattle.node_steps.specs.Refusals.{faults_of_grant_under, faults_of_grant}
use Rattle.node_steps.proofs.ShiftRefusals.{below_length, past_length}

module _ (config : Config) (v : State) (name : List ℕ) (term amount : ℕ) where
  abbrev refusal_under : Option (KeyValue × List TermValue) → Option NodeFault
  refusal_under setting = first_fault (faults_of_grant_under config v name term amount setting)

  pub not_set : setting_of v name ≡ None → first_fault (faults_of_grant config v name term amount) ≡ Some faults.NotSet
  not_set e = ap refusal_under e

  module _ (key : KeyValue) (terms : List TermValue) (set : setting_of v name ≡ Some (key, terms)) where
    pub no_such_term : None ≡ slice_get terms term → first_fault (faults_of_grant config v name term amount) ≡ Some
        faults.NoSuchTerm
    no_such_term none =
        let past = past_length terms term none in
        let is : nat_le (length terms) term ≡ true = grind (arith, nat_tests, past) in
        ap refusal_under set ∙ rw is refl

    module _ (t : TermValue) (here : slice_get terms term ≡ Some t) where
      is_below : nat_le (length terms) term ≡ false
      is_below = let low = below_length terms term t here in grind (arith, nat_tests, low)

      pub not_counted : t.count ≡ None → first_fault (faults_of_grant config v name term amount) ≡ Some
          faults.NotCounted
      not_counted none =
          let count : count_at terms term ≡ None = ap count_in here ∙ none in
          ap refusal_under set ∙ rw (is_below, count) refl

      module _ (n : ℕ) (counted : t.count ≡ Some n) where
        count_here : count_at terms term ≡ Some n
        count_here = ap count_in here ∙ counted

        same : first_fault (faults_of_grant config v name term amount) ≡ first_fault
            (then_some (amount == 0) faults.ZeroAmount ∷ then_some
            (nat_lt most (granted_in v name term config.node + amount)) faults.CellFull ∷ [])
        same = ap refusal_under set ∙ rw (is_below, count_here) refl

        pub zero_amount : amount ≡ 0 → first_fault (faults_of_grant config v name term amount) ≡ Some faults.ZeroAmount
        zero_amount z = same ∙ rw z refl

        some_amount : (m : ℕ) → 0 < m → (m == 0) ≡ false
        some_amount m low = grind (arith, nat_tests, low)

        pub cell_full : 0 < amount → nat_lt most (granted_in v name term config.node + amount) ≡ true →
            first_fault (faults_of_grant config v name term amount) ≡ Some faults.CellFull
        cell_full some full = same ∙ rw (some_amount amount some, full) refl

        pub no_refusal : 0 < amount → nat_lt most (granted_in v name term config.node + amount) ≡ false →
            first_fault (faults_of_grant config v name term amount) ≡ None
        no_refusal some fits = same ∙ rw (some_amount amount some, fits) refl
