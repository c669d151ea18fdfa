-- What it means that a pass triggered a term, and that a shift was accepted.
use Rattle.std.proofs.Common.{◌≡◌, ◌≢◌, ℕ, ◌<◌, ◌==◌, Bool, true, false, not, List, [], ◌∷◌, ◌++◌, refl, sym, ◌∙◌, ap, subst, nat_lt, Option, Some, None}
use Rattle.std.proofs.lemmas.Bool.{or_parts, not-false, eqb-false, ltb-true}
use Rattle.std.specs.Prelude.{slice_get}
use Rattle.actions.specs.Value.{TaskValue, TermValue}
use Rattle.stamp_register.specs.Keys.{KeyValue, stamp_of}
use Rattle.operations.specs.Operations.{Operation, count_at, count_of, count_under}
use Rattle.replica_state.specs.States.{State}
use Rattle.node_steps.specs.declared.config.Config.{Config}
use Rattle.node_calls.specs.declared.fault.NodeFault.{NodeFault}
use Rattle.node_calls.specs.Told.{Passed, Unset, NoTerm, Act}
use Rattle.node_calls.specs.Asks as asks
use Rattle.node_steps.specs.Nodes.{Node, state_shown, setting_of}
use Rattle.node_steps.specs.Passes.{has_rights_of, may_run, task_in, triggered_term, next_hit, next_exec, execs_of_choice, execs_of_term, reply_of_choice, ops_of_pass, reply_of_pass}
use Rattle.refusals.specs.Refusals.{first_fault}
use Rattle.std.specs.Bool.{then_some}
use Rattle.node_steps.specs.Refusals.{too_few, faults_of_shift, faults_of, refusal_at}
use Rattle.node_steps.proofs.Rights.{IsSetting, setting_parts, chosen_may}

-- ---- passes

-- how a pass comes out
pub data Outcome : Type 0 where
  NotSet : Outcome
  Nothing : (key : KeyValue) → Outcome
  Triggered : (key : KeyValue) (term : ℕ) (count : Option ℕ) (task : TaskValue) → Outcome

-- the term is one of the key that the node holds, and where it is counted the node has a right of it
pub record IsTriggered (i : ℕ) (v : State) (name : List ℕ) (key : KeyValue) (term : ℕ) (count : Option ℕ) : Type 0 where
  pub under : v.key name ≡ Some key
  pub counted : count_of key term ≡ count
  pub may : (c : ℕ) → count ≡ Some c → has_rights_of i v name key term 1 (Some c) ≡ true

abbrev pub IsOutcome : ℕ → State → List ℕ → Outcome → Type 0
IsOutcome i v name NotSet = Unit {0}
IsOutcome i v name (Nothing key) = v.key name ≡ Some key
IsOutcome i v name (Triggered key term count task) = IsTriggered i v name key term count

abbrev pub ops_of : ℕ → State → List ℕ → Outcome → List Operation
ops_of i v name NotSet = []
ops_of i v name (Nothing key) = next_hit i v name ∷ []
ops_of i v name (Triggered key term None task) = next_hit i v name ∷ []
ops_of i v name (Triggered key term (Some count) task) = next_exec i v name key term ∷ next_hit i v name ∷ []

abbrev pub passed_as : Outcome → Passed
passed_as NotSet = Unset
passed_as (Nothing key) = NoTerm (stamp_of key)
passed_as (Triggered key term count task) = Act (stamp_of key) term task

pub record HasOutcome (i : ℕ) (v : State) (name words : List ℕ) (setting : Option (KeyValue × List TermValue)) :
    Type 0 where
  pub outcome : Outcome
  pub ops : ops_of_pass i v name words setting ≡ ops_of i v name outcome
  pub reply : reply_of_pass i v name words setting ≡ passed_as outcome
  pub is : IsOutcome i v name outcome

pub outcome_of : (i : ℕ) (v : State) (name words : List ℕ) → HasOutcome i v name words (setting_of v name)
outcome_of i v name words = at (setting_of v name) refl
  where
    counted : (key : KeyValue) (terms : List TermValue) (term : ℕ) (count : Option ℕ) →
        IsSetting (v.key name) key terms → triggered_term i v name words (key, terms) ≡ Some term →
        count_at terms term ≡ count → HasOutcome i v name words (Some (key, terms))
    counted key terms term count s p q =
        record {
          outcome = Triggered key term count (task_in (slice_get terms term));
          ops = ap (λ (o : Option ℕ). execs_of_choice i v name (key, terms) o ++ next_hit i v name ∷ []) p ∙
              ap (λ (o : Option ℕ). execs_of_term i v name key term o ++ next_hit i v name ∷ []) q ∙ ends count;
          reply = ap (λ (o : Option ℕ). reply_of_choice (key, terms) o) p;
          is = record {
            under = s.is_key;
            counted = ap (λ (o : Option (List TermValue)). count_under o term) s.is_terms ∙ q;
            may = λ c e. subst (λ (o : Option ℕ). has_rights_of i v name key term 1 o ≡ true) (q ∙ e)
                (chosen_may terms words (may_run i v name key terms) term c (sym p) (q ∙ e));
          };
        }
      where
        ends : (o : Option ℕ) → execs_of_term i v name key term o ++ next_hit i v name ∷
            [] ≡ ops_of i v name (Triggered key term o (task_in (slice_get terms term)))
        ends None = refl
        ends (Some n) = refl

    chosen : (key : KeyValue) (terms : List TermValue) (o : Option ℕ) → IsSetting (v.key name) key terms →
        triggered_term i v name words (key, terms) ≡ o → HasOutcome i v name words (Some (key, terms))
    chosen key terms None s p =
        record {
          outcome = Nothing key;
          ops = ap (λ (o : Option ℕ). execs_of_choice i v name (key, terms) o ++ next_hit i v name ∷ []) p;
          reply = ap (λ (o : Option ℕ). reply_of_choice (key, terms) o) p;
          is = s.is_key;
        }
    chosen key terms (Some term) s p = counted key terms term (count_at terms term) s p refl

    at : (o : Option (KeyValue × List TermValue)) → setting_of v name ≡ o → HasOutcome i v name words o
    at None p = record { outcome = NotSet; ops = refl; reply = refl; is = tt }
    at (Some setting) p = chosen setting.0 setting.1 (triggered_term i v name words setting)
        (setting_parts (v.key name) setting.0 setting.1 p) refl

-- ---- refusals

abbrev pub NoneApplies : List (Option NodeFault) → Type 0
NoneApplies [] = Unit {0}
NoneApplies (fault ∷ rest) = (fault ≡ None) × NoneApplies rest

pub none_applies : (faults : List (Option NodeFault)) → first_fault faults ≡ None → NoneApplies faults
none_applies [] h = tt
none_applies (None ∷ rest) h = (refl, none_applies rest h)
none_applies (Some fault ∷ rest) h = absurd (let impossible : ◌≡◌ {A = Option NodeFault} (Some fault) None = h in cc)

pub not_true : (test : Bool) (fault : NodeFault) → then_some test fault ≡ None → test ≡ false
not_true false fault h = refl
not_true true fault h = absurd (let impossible : ◌≡◌ {A = Option NodeFault} (Some fault) None = h in cc)

-- a shift goes to another node of the cluster, and the node has the rights
pub record IsShifted (config : Config) (v : State) (name : List ℕ) (term to amount : ℕ) : Type 0 where
  pub other : to ≢ config.node
  pub below : to < config.nodes
  pub may : (key : KeyValue) → v.key name ≡ Some key → has_rights_of config.node v name key term amount
      (count_of key term) ≡ true

pub shifted_is : (config : Config) (entries : ℕ) (n : Node) (name : List ℕ) (term to amount : ℕ) (words : List ℕ) →
    refusal_at config entries n (asks.Shift name term to amount) words ≡ None →
    IsShifted config (state_shown n) name term to amount
shifted_is config entries n name term to amount words h =
    let all = none_applies (faults_of config entries n (asks.Shift name term to amount) words) h in
    let places = (none_applies (faults_of_shift config (state_shown n) name term to amount) all.1.1.0).1.1.1 in
    let where_to = or_parts (not (nat_lt to config.nodes)) (to == config.node) (not_true _ _ places.0) in
    let enough = not_true _ _ places.1.1.0 in
    record {
      other = eqb-false to config.node where_to.1;
      below = ltb-true to config.nodes (not-false _ where_to.0);
      may = λ key e. at key e (setting_of v name) refl enough;
    }
  where
    v : State
    v = state_shown n

    at : (key : KeyValue) → v.key name ≡ Some key → (o : Option (KeyValue × List TermValue)) → setting_of v name ≡ o →
        too_few config.node v name term amount o ≡ false → has_rights_of config.node v name key term amount
        (count_of key term) ≡ true
    at key e None p q = absurd (let impossible : true ≡ false = q in cc)
    at key e (Some setting) p q =
        let s = setting_parts (v.key name) setting.0 setting.1 p in
        let keys : Some setting.0 ≡ Some key = sym s.is_key ∙ e in
        let same : setting.0 ≡ key = cc in
        let counts : count_at setting.1 term ≡ count_of setting.0 term =
        sym (ap (λ (o : Option (List TermValue)). count_under o term) s.is_terms) in
        subst (λ (k : KeyValue). has_rights_of config.node v name k term amount (count_of k term) ≡ true) same
        (subst (λ (o : Option ℕ). has_rights_of config.node v name setting.0 term amount o ≡ true) counts
        (not-false _ q))
