-- Writing the canonical text term by term.
use Rattle.std.proofs.Common.{◌≡◌, ℕ, ◌+◌, ◌<◌, ◌≤◌, List, [], ◌∷◌, ◌++◌, length, get_or, take, map, sym, ap, ◌∙◌, arith, append_assoc, length-take}
use Rattle.std.proofs.lemmas.List.{map_more, length-map}
use Rattle.actions.specs.declared.task.Term.{Term}
use Rattle.actions.specs.Value.{TermValue, term_value}
use Rattle.actions.specs.Grammar.{arrow}
use Rattle.actions.specs.Canonical.{term_text, canonical}

canonical_push : (ts : List TermValue) (t : TermValue) → 0 < length ts
    → canonical (ts ++ t ∷ []) ≡ (canonical ts ++ arrow) ++ term_text t
canonical_push [] t some = absurd (omega arith)
canonical_push (u ∷ []) t some = sym (append_assoc (term_text u) arrow (term_text t))
canonical_push (u ∷ v ∷ ts) t some =
    ap (λ (x : List ℕ). term_text u ++ (arrow ++ x)) (canonical_push (v ∷ ts) t (omega arith))
    ∙ ap (λ (x : List ℕ). term_text u ++ x) (sym (append_assoc arrow (canonical (v ∷ ts) ++ arrow) (term_text t)))
    ∙ sym (append_assoc (term_text u) (arrow ++ (canonical (v ∷ ts) ++ arrow)) (term_text t))
    ∙ ap (λ (x : List ℕ). x ++ term_text t)
    (ap (λ (x : List ℕ). term_text u ++ x) (sym (append_assoc arrow (canonical (v ∷ ts)) arrow)) ∙ sym
    (append_assoc (term_text u) (arrow ++ canonical (v ∷ ts)) arrow))

abbrev so_far : List Term → ℕ → List TermValue
so_far terms i = map term_value (take i terms)

pub later : (terms : List Term) (i : ℕ) (t : Term) (old mid new : List ℕ) → i < length terms → 0 < i
    → t ≡ get_or terms i t → old ≡ canonical (so_far terms i) → mid ≡ old ++ arrow
    → new ≡ mid ++ term_text (term_value t)
    → new ≡ canonical (so_far terms (i + 1))
later terms i t old mid new lt some at e1 e2 e3 =
    let n : 0 < length (so_far terms i) = omega (arith, length-map (take i terms) term_value, length-take i terms) in
    let pushed =
    ap canonical (map_more term_value terms i t lt)
    ∙ canonical_push (so_far terms i) (term_value (get_or terms i t)) n in
    e3 ∙ ap (λ (u : Term). mid ++ term_text (term_value u)) at
    ∙ ap (λ (x : List ℕ). x ++ term_text (term_value (get_or terms i t))) (e2 ∙ ap (λ (x : List ℕ). x ++ arrow) e1)
    ∙ sym pushed

pub first : (terms : List Term) (i : ℕ) (t : Term) (old mid new : List ℕ) → i < length terms → i ≤ 0
    → t ≡ get_or terms i t → old ≡ canonical (so_far terms i) → mid ≡ old → new ≡ mid ++ term_text (term_value t)
    → new ≡ canonical (so_far terms (i + 1))
first terms i t old mid new lt none at e1 e2 e3 =
    let zero_is : i ≡ 0 = omega arith in
    let nothing : canonical (so_far terms i) ≡ [] = ap (λ (k : ℕ). canonical (so_far terms k)) zero_is in
    let one : canonical (so_far terms (i + 1)) ≡ term_text (term_value (get_or terms i t)) =
    ap canonical (map_more term_value terms i t lt)
    ∙ ap (λ (k : ℕ). canonical (so_far terms k ++ term_value (get_or terms i t) ∷ [])) zero_is in
    e3 ∙ ap (λ (u : Term). mid ++ term_text (term_value u)) at
    ∙ ap (λ (x : List ℕ). x ++ term_text (term_value (get_or terms i t))) (e2 ∙ e1 ∙ nothing) ∙ sym one
