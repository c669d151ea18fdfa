-- Keys can be told apart; and the order of states with no cases: keys at most, and cells at most where the keys are
-- one.
use Rattle.std.proofs.Common.{◌≡◌, ℕ, ◌≤◌, Bool, true, false, List, ◌⊎◌, inl, inr, refl, sym, ◌∙◌, ap, subst, ⊎_elim, Option, Some, None}
use Rattle.std.proofs.lemmas.Bool.{true≢false}
use Rattle.stamp_register.specs.Keys.{KeyValue, same_key}
use Rattle.replica_state.specs.States.{State}
use Rattle.replica_state.specs.StateOrder.{IsBelowAt}
use Rattle.replica_state.proofs.Orders.{same_key-true, same_key-refl}
use Rattle.replica_state.proofs.Sets.{KeyUpto, KeyUpto-same}
use Rattle.replica_state.proofs.KnownSets.{upto_cases, keys_only, below_not_above}

-- keys, where there are any, can be told apart
pub cases_key : (a b : Option KeyValue) → (a ≡ b) ⊎ (a ≡ b → ⊥)
cases_key None None = inl refl
cases_key None (Some b) = inr (λ e. cc)
cases_key (Some a) None = inr (λ e. cc)
cases_key (Some a) (Some b) = at (same_key a b) refl
  where
    at : (t : Bool) → same_key a b ≡ t → (◌≡◌ {A = Option KeyValue} (Some a) (Some b)) ⊎
        (◌≡◌ {A = Option KeyValue} (Some a) (Some b) → ⊥)
    at true e = inl (ap Some (same_key-true a b e))
    at false e = inr (λ (s : ◌≡◌ {A = Option KeyValue} (Some a) (Some b)).
        let same : a ≡ b = cc in
        true≢false (sym (subst (λ k. same_key a k ≡ true) same (same_key-refl a)) ∙ e))

pub record IsUptoAt (v w : State) (name : List ℕ) : Type 0 where
  pub key : KeyUpto (v.key name) (w.key name)
  pub hits : (node : ℕ) → v.hits name node ≤ w.hits name node
  pub execs : v.key name ≡ w.key name → (term node : ℕ) → v.execs name term node ≤ w.execs name term node
  pub shifts : v.key name ≡ w.key name → (term from to : ℕ) → v.shifts name term from to ≤ w.shifts name term from to

pub upto_below : (v w : State) (name : List ℕ) → IsBelowAt v w name → IsUptoAt v w name
upto_below v w name h =
    record {
      key = keys_only name v w h;
      hits = h.hits;
      execs = λ e. ⊎_elim (λ k. absurd (below_not_above _ _ k (KeyUpto-same _ _ (sym e)))) (λ k. k.1) h.cells;
      shifts = λ e. ⊎_elim (λ k. absurd (below_not_above _ _ k (KeyUpto-same _ _ (sym e)))) (λ k. k.2) h.cells;
    }

pub below_upto : (v w : State) (name : List ℕ) → IsUptoAt v w name → IsBelowAt v w name
below_upto v w name h =
    record {
      hits = h.hits;
      cells = ⊎_elim (λ k. inl k) (λ e. inr (e, h.execs e, h.shifts e)) (upto_cases (v.key name) (w.key name) h.key);
    }
