-- Of which nodes a wire has heard that they have forgotten what they did.
use Rattle.std.specs.Prelude.{◌≡◌, ◌⊎◌, ◌==◌, ◌++◌, ◌∷◌, ℕ, Bool, false, List, [], Option, Some}
use Rattle.std.specs.List.{list_any}
use Rattle.http_posts.specs.declared.forgetting.Forgetting.{Forgetting}
use Rattle.http_wire.specs.declared.forgetful.Forgetful.{Forgetful}

-- it was heard of this node already
abbrev pub is_heard : List Forgetful → ℕ → Bool
is_heard forgetful node = list_any (λ other. other.node == node) forgetful

-- after an answer of a node that says so: nothing more was heard, or what it says, of a node of which it wasn't heard before
abbrev pub HasHeard : ℕ → Option Forgetting → List Forgetful → List Forgetful → Type 0
HasHeard node says old new =
    (new ≡ old) ⊎ ((fault : Forgetting) × (says ≡ Some fault) × (is_heard old node ≡ false)
    × (new ≡ old ++ record { node = node; fault = fault } ∷ []))

-- nothing more was heard, or that this node answered so, of which it wasn't heard before
abbrev pub HasHeardOf : ℕ → List Forgetful → List Forgetful → Type 0
HasHeardOf node old new =
    (new ≡ old) ⊎ ((fault : Forgetting) × (is_heard old node ≡ false)
    × (new ≡ old ++ record { node = node; fault = fault } ∷ []))
