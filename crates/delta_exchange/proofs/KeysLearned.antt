-- Which key a state has of a name, while it learns a message.
use Rattle.std.proofs.Common.{◌≡◌, ℕ, ◌<◌, ◌++◌, ◌∙◌, List, [], ◌∷◌, Bool, true, false, cond, Option, Some, None, map, length, get_or, refl, sym, ap}
use Rattle.std.proofs.lemmas.List.Elements.{All-from_recursion}
use Rattle.std.specs.List.{AllByRecursion}
use Rattle.std.specs.Str.{bytes_eq}
use Rattle.stamp_register.specs.Keys.{KeyValue, key_le}
use Rattle.operations.specs.Operations.{Operation, Set, IsWellFormed}
use Rattle.replica_state.specs.States.{State}
use Rattle.replica_state.specs.Folds.{fold, greater, key_in, key_of, Learns}
use Rattle.replica_state.proofs.KnownSets.{own_name}
use Rattle.delta_exchange.specs.Told.{HasKeyOf, HasLearned}

-- ---- a key that stays

same_twice : (key : KeyValue) → greater (Some key) (Some key) ≡ Some key
same_twice key = at (key_le key key)
  where
    at : (b : Bool) → Some (cond b key key) ≡ Some key
    at true = refl
    at false = refl

pub by_its_key : (name : List ℕ) (key : KeyValue) → greater (cond (bytes_eq name name) (Some key) None) (Some key) ≡
    Some key
by_its_key name key = ap (λ (o : Option KeyValue). greater o (Some key)) (own_name name key) ∙ same_twice key

module _ {C : Type 0} (told : C → Operation) (name : List ℕ) (key : KeyValue)
    (keeps : (c : C) → greater (key_in name (told c)) (Some key) ≡ Some key) where
  stays : (cells : List C) (ops : List Operation) → key_of name ops ≡ Some key →
      key_of name (map told cells ++ ops) ≡ Some key
  stays [] ops e = e
  stays (c ∷ cells) ops e = ap (λ (o : Option KeyValue). greater (key_in name (told c)) o) (stays cells ops e) ∙ keeps c

  pub has_still : (u v : State) (cells : List C) → HasKeyOf u name (Some key) → HasLearned u v (map told cells) →
      HasKeyOf v name (Some key)
  unfolding fold
  has_still u v cells (ops, is, k) learned =
      let after = learned ops is in (
        map told cells ++ ops,
        after,
        ap (λ (s : State). s.key name) after ∙
            stays cells ops (sym (ap (λ (s : State). s.key name) is) ∙ k),
      )

-- a state that knows nothing has no key
pub nothing_held : (name : List ℕ) (v : State) → v ≡ fold [] → HasKeyOf v name None
unfolding fold
nothing_held name v is = ([], is, ap (λ (s : State). s.key name) is)

-- a key that is told where there was none
pub has_now : (u v : State) (name : List ℕ) (key : KeyValue) → HasKeyOf u name None → Learns u v (Set name key) →
    HasKeyOf v name (Some key)
unfolding fold
has_now u v name key (ops, is, k) learned =
    let after = learned ops is in (
      Set name key ∷ ops,
      after,
      ap (λ (s : State). s.key name) after
          ∙ ap (λ (o : Option KeyValue). greater o (key_of name ops)) (own_name name key)
          ∙ ap (λ (o : Option KeyValue). greater (Some key) o) (sym (ap (λ (s : State). s.key name) is) ∙ k),
    )

-- ---- one of a list

pub formed_at : {C : Type 0} {Is : C → Type 0} (told : C → Operation) → ((c : C) → Is c → IsWellFormed (told c)) →
    (cs : List C) → AllByRecursion Is cs → (i : ℕ) (d : C) → i < length cs → IsWellFormed (told (get_or cs i d))
formed_at {Is = Is} told one cs all i d below = one (get_or cs i d) (All-from_recursion Is cs all i d below)
