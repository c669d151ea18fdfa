-- The refusals of a shift of a term that is counted.
use Rattle.std.proofs.Common.{◌≡◌, ℕ, ◌+◌, ◌-◌, ◌<◌, ◌≤◌, ◌^◌, ◌⊎◌, inl, inr, true, false, ◌==◌, List, [], ◌∷◌, length, Option, Some, None, refl, sym, ◌∙◌, ap, subst, arith, zero, suc, nat_lt}
use Rattle.std.proofs.lemmas.Bool.Decides.{nat_tests}
use Rattle.std.proofs.lemmas.Int.{ints}
use Rattle.std.specs.Prelude.{slice_get, nat_le, not, pos, ◌≤ℤ◌, ℤ}
use Rattle.actions.specs.Value.{TermValue}
use Rattle.counters.specs.Budgets.{Budget, has_rights, given_to, gone_from, rights}
use Rattle.stamp_register.specs.Keys.{KeyValue}
use Rattle.operations.specs.Operations.{count_at, count_in}
use Rattle.replica_state.specs.States.{State, budget, rights_of}
use Rattle.std.specs.Option.{option_map_or, SomeIff}
use Rattle.std.specs.Prelude.{option_map}
use Rattle.node_steps.specs.declared.config.Config.{Config}
use Rattle.node_calls.specs.declared.fault.NodeFault.{NodeFault}
use Rattle.node_calls.specs.declared.fault.NodeFault.TheVariants as faults
use Rattle.node_steps.specs.Nodes.{setting_of}
use Rattle.refusals.specs.Refusals.{first_fault}
use Rattle.counters.specs.Cells.{most}
use Rattle.std.specs.Bool.{then_some}
use Rattle.node_steps.specs.Refusals.{is_bad_node, faults_of_shift_under, faults_of_shift}
use Rattle.node_steps.proofs.Rights.{counted_rights}

-- a term that is there has a number below that of the terms
pub below_length : {A : Type 0} (xs : List A) (i : ℕ) (x : A) → slice_get xs i ≡ Some x → i < length xs
below_length {A} [] i x h = absurd (let impossible : ◌≡◌ {A = Option A} None (Some x) = h in cc)
below_length (y ∷ xs) zero x h = omega arith
below_length (y ∷ xs) (suc i) x h = let rest = below_length xs i x h in omega (arith, rest)

-- a number past those of the terms
pub past_length : {A : Type 0} (xs : List A) (i : ℕ) → None ≡ slice_get xs i → length xs ≤ i
past_length [] i h = omega arith
past_length {A} (y ∷ xs) zero h = absurd (let impossible : ◌≡◌ {A = Option A} None (Some y) = h in cc)
past_length (y ∷ xs) (suc i) h = let rest = past_length xs i h in omega (arith, rest)

-- an amount that isn't 0
pub some : (n : ℕ) → (n ≡ 0 → ⊥) → 0 < n
some n not = omega (arith, not)

-- a sum that isn't there doesn't fit
pub no_sum : (o : Option ℕ) (P : Type 0) (n : ℕ) → o ≡ None → SomeIff o P n → P → ⊥
no_sum None P n e h = h
no_sum (Some m) P n e h = absurd (let impossible : ◌≡◌ {A = Option ℕ} (Some m) None = e in cc)

-- which nodes are others of the cluster
pub is_other : (config : Config) (to : ℕ) → to < config.nodes → (to ≡ config.node → ⊥) → is_bad_node config to ≡ false
is_other config to low apart = grind (arith, nat_tests, low, apart)

pub is_none_other : (config : Config) (to : ℕ) → (config.nodes ≤ to) ⊎ ((to < config.nodes) × (to ≡ config.node)) →
    is_bad_node config to ≡ true
is_none_other config to (inl high) = grind (arith, nat_tests, high)
is_none_other config to (inr both) = let same = both.1 in grind (arith, nat_tests, same)

pub past_most : (n m : ℕ) → m ≡ n → (m < 2 ^ 64 → ⊥) → nat_lt most n ≡ true
past_most n m same not = let high : 2 ^ 64 ≤ m = omega (arith, not) in grind (arith, nat_tests, same, high)

pub upto_most : (n m : ℕ) → m ≡ n → m < 2 ^ 64 → nat_lt most n ≡ false
upto_most n m same low = grind (arith, nat_tests, same, low)

-- where the point isn't set, or has no such term that is counted
module _ (config : Config) (v : State) (name : List ℕ) (term to amount : ℕ) where
  abbrev refusal_under : Option (KeyValue × List TermValue) → Option NodeFault
  refusal_under setting = first_fault (faults_of_shift_under config v name term to amount setting)

  pub not_set : setting_of v name ≡ None → first_fault (faults_of_shift config v name term to amount) ≡ Some
      faults.NotSet
  not_set e = ap refusal_under e

  pub no_such_term : (key : KeyValue) (terms : List TermValue) → setting_of v name ≡ Some (key, terms) →
      None ≡ slice_get terms term → first_fault (faults_of_shift config v name term to amount) ≡ Some faults.NoSuchTerm
  no_such_term key terms set none =
      let past = past_length terms term none in
      let is : nat_le (length terms) term ≡ true = grind (arith, nat_tests, past) in
      ap refusal_under set ∙ rw is refl

  pub not_counted : (key : KeyValue) (terms : List TermValue) → setting_of v name ≡ Some (key, terms) →
      (t : TermValue) → slice_get terms term ≡ Some t → t.count ≡ None →
      first_fault (faults_of_shift config v name term to amount) ≡ Some faults.NotCounted
  not_counted key terms set t here none =
      let low = below_length terms term t here in
      let is : nat_le (length terms) term ≡ false = grind (arith, nat_tests, low) in
      let count : count_at terms term ≡ None = ap count_in here ∙ none in
      ap refusal_under set ∙ rw (is, count) refl

module _ (config : Config) (v : State) (name : List ℕ) (term to amount : ℕ) (key : KeyValue) (terms : List TermValue)
    (t : TermValue) (n : ℕ)
    (set : setting_of v name ≡ Some (key, terms)) (here : slice_get terms term ≡ Some t) (counted : t.count ≡ Some n)
  where
    abbrev b : Budget
    b = budget v name term key.node n

    abbrev i : ℕ
    i = config.node

    abbrev refusals : List (Option NodeFault)
    refusals = then_some (is_bad_node config to) faults.BadNode ∷ then_some (amount == 0) faults.ZeroAmount ∷
        then_some (not (has_rights b i amount)) (faults.TooFewRights (given_to b i - gone_from b i)) ∷
        then_some (nat_lt most (v.shifts name term i to + amount)) faults.CellFull ∷ []

    count_here : count_at terms term ≡ Some n
    count_here = ap count_in here ∙ counted

    is_below : nat_le (length terms) term ≡ false
    is_below = let low = below_length terms term t here in grind (arith, nat_tests, low)

    same : first_fault (faults_of_shift config v name term to amount) ≡ first_fault refusals
    same = ap (λ s. first_fault (faults_of_shift_under config v name term to amount s)) set ∙
        rw (is_below, count_here) refl

    pub bad_node : is_bad_node config to ≡ true → first_fault (faults_of_shift config v name term to amount) ≡ Some
        faults.BadNode
    bad_node h = same ∙ rw h refl

    pub zero_amount : is_bad_node config to ≡ false → amount ≡ 0 →
        first_fault (faults_of_shift config v name term to amount) ≡ Some faults.ZeroAmount
    zero_amount h z = same ∙ rw (h, z) refl

    amounts : rights_of v name term i ≡ rights b i
    amounts = counted_rights i v name key terms term set ∙ ap (λ (o : Option ℕ). option_map_or
        (λ (x : Budget). rights x i) (option_map (λ m. budget v name term key.node m) o) (pos 0)) count_here

    some_amount : (m : ℕ) → 0 < m → (m == 0) ≡ false
    some_amount m low = grind (arith, nat_tests, low)

    pub too_few_rights : is_bad_node config to ≡ false → 0 < amount → (have : ℕ) → rights_of v name term i ≡ pos have →
        have < amount → first_fault (faults_of_shift config v name term to amount) ≡ Some (faults.TooFewRights have)
    too_few_rights h some have is few =
        let balance : rights b i ≡ pos have = sym amounts ∙ is in
        let few_there : has_rights b i amount ≡ false = (let less :
        given_to b i < gone_from b i + amount = omega (arith, ints, balance, few) in
        grind (arith, nat_tests, less)) in
        let left : given_to b i - gone_from b i ≡ have = omega (arith, ints, balance) in
        same ∙ rw (h, some_amount amount some, few_there, left) refl

    enough_there : pos amount ≤ℤ rights_of v name term i → has_rights b i amount ≡ true
    enough_there enough =
        let balance : pos amount ≤ℤ rights b i = subst (λ (z : ℤ). pos amount ≤ℤ z) amounts enough in
        let most : gone_from b i + amount ≤ given_to b i = omega (arith, ints, balance) in
        grind (arith, nat_tests, most)

    pub cell_full : is_bad_node config to ≡ false → 0 < amount → pos amount ≤ℤ rights_of v name term i →
        nat_lt most (v.shifts name term i to + amount) ≡ true →
        first_fault (faults_of_shift config v name term to amount) ≡ Some faults.CellFull
    cell_full h some enough full = same ∙ rw (h, some_amount amount some, enough_there enough, full) refl

    pub no_refusal : is_bad_node config to ≡ false → 0 < amount → pos amount ≤ℤ rights_of v name term i →
        nat_lt most (v.shifts name term i to + amount) ≡ false →
        first_fault (faults_of_shift config v name term to amount) ≡ None
    no_refusal h some enough fits = same ∙ rw (h, some_amount amount some, enough_there enough, fits) refl
