use Rattle.std.proofs.Common.{◌≡◌, ℕ, List, Option, Some, None, sym, ◌∙◌, ap, refl, subst}
use Rattle.std.proofs.lemmas.Bool.{true≢false}
use Rattle.std.specs.Prelude.{is_some, option_map}
use Rattle.std.specs.Option.{IsSome}
use Rattle.stamp_register.specs.Keys.{KeyValue, key_value}
use Rattle.operations.specs.Operations.{count_of}
use Rattle.replica_state.specs.States.{State, budget_of, budget_under}
use Rattle.replica_state.proofs.replica.Replica.is_counted.Goals as goal

-- a key counts a term where the state has a budget of it under that key
budget_there : (v : State) (name : List ℕ) (term : ℕ) (key : KeyValue) → Some key ≡ v.key name →
    is_some (count_of key term) ≡ is_some (budget_of v name term)
budget_there v name term key e = by_count _ (count_of key term) ∙ ap (λ o. is_some (budget_under v name term o)) e
  where
    by_count : {A B : Type 0} (f : A → B) (o : Option A) → is_some o ≡ is_some (option_map f o)
    by_count f None = refl
    by_count f (Some n) = refl

-- where there is no key it has none
no_budget : (v : State) (name : List ℕ) (term : ℕ) → None ≡ v.key name → IsSome (budget_of v name term) → ⊥
no_budget v name term e h = true≢false (sym (subst (λ o. IsSome (budget_under v name term o)) (sym e) h))

pub returns-in-Some : goal.returns-in-Some
returns-in-Some g c =
    let same : c.is_some.result ≡ is_some (budget_of (g.Self.Replica.state c.args.self.now) c.args.name.now
    c.args.term) = c.is_some.ensures ∙ ap is_some c.count_of.ensures
    ∙ budget_there (g.Self.Replica.state c.args.self.now) c.args.name.now c.args.term (key_value c.in-Some.key.now)
    c.in-Some.ensures.value in
    (λ h. sym same ∙ h, λ h. same ∙ h)

pub returns-in-None : goal.returns-in-None
returns-in-None g c = (
  λ h. absurd (true≢false (sym h)),
  λ h. absurd (no_budget (g.Self.Replica.state c.args.self.now) c.args.name.now c.args.term c.in-None.ensures.value h),
)
