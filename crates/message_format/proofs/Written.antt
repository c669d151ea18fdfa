-- What is written one after the other.
use Rattle.std.proofs.Common.{◌≡◌, ℕ, ◌+◌, ◌<◌, List, [], ◌∷◌, ◌++◌, length, get_or, map, take, sym, ap, ◌∙◌, append_assoc}
use Rattle.std.specs.List.{flat_map}
use Rattle.std.proofs.lemmas.Grind.{flat_map-append}
use Rattle.std.proofs.lemmas.List.{append-nil, map-append, take_more}

-- two steps
pub and_then : {A : Type 0} {y z : List A} (x a b : List A) → y ≡ x ++ a → z ≡ y ++ b → z ≡ x ++ (a ++ b)
and_then x a b first second = second ∙ ap (λ text. text ++ b) first ∙ append_assoc x a b

-- a step for one item more, where the text of items grows with each
grows : {X : Type 0} (text : List X → List ℕ) (spell : X → List ℕ) (xs : List X) (i : ℕ) (d : X)
    (start before after : List ℕ) → ((ys : List X) (x : X) → text (ys ++ x ∷ []) ≡ text ys ++ spell x) →
    i < length xs → before ≡ start ++ text (take i xs) → after ≡ before ++ spell (get_or xs i d) →
    after ≡ start ++ text (take (i + 1) xs)
grows text spell xs i d start before after with_one within so_far step =
    and_then start (text (take i xs)) (spell (get_or xs i d)) so_far step
    ∙ ap (λ all. start ++ all) (sym (ap text (take_more xs i d within) ∙ with_one (take i xs) (get_or xs i d)))

with_one : {X : Type 0} (spell : X → List ℕ) (ys : List X) (x : X) →
    flat_map spell (ys ++ x ∷ []) ≡ flat_map spell ys ++ spell x
with_one spell ys x =
    flat_map-append spell ys (x ∷ []) ∙ ap (λ text. flat_map spell ys ++ text) (append-nil (spell x))

pub written_more : {X : Type 0} (spell : X → List ℕ) (xs : List X) (i : ℕ) (d : X) (start before after : List ℕ) →
    i < length xs → before ≡ start ++ flat_map spell (take i xs) → after ≡ before ++ spell (get_or xs i d) →
    after ≡ start ++ flat_map spell (take (i + 1) xs)
written_more spell xs i d start before after =
    grows (flat_map spell) spell xs i d start before after (with_one spell)

-- the same of items seen by a view
pub viewed_more : {X Y : Type 0} (view : X → Y) (spell : Y → List ℕ) (xs : List X) (i : ℕ) (d : X)
    (start before after : List ℕ) → i < length xs → before ≡ start ++ flat_map spell (map view (take i xs)) →
    after ≡ before ++ spell (view (get_or xs i d)) → after ≡ start ++ flat_map spell (map view (take (i + 1) xs))
viewed_more view spell xs i d start before after =
    grows (λ ys. flat_map spell (map view ys)) (λ x. spell (view x)) xs i d start before after
    (λ ys x. ap (flat_map spell) (map-append view ys (x ∷ [])) ∙ with_one spell (map view ys) (view x))
