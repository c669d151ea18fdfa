-- Rights are moved from a node of the cluster to another one, and from none to itself.
use Rattle.std.proofs.Common.{◌≡◌, ◌≢◌, ℕ, ◌<◌, ◌≤◌, ◌==◌, ◌&&◌, Bool, true, false, cond, List, [], ◌∷◌, refl, ◌∙◌, subst, arith, Option, Some, None}
use Rattle.std.proofs.lemmas.Bool.{eqb-true, eqb-false, and_parts}
use Rattle.std.specs.Str.{bytes_eq}
use Rattle.counters.specs.Sums.{sum_others}
use Rattle.counters.proofs.SumLemmas.{sum-same}
use Rattle.stamp_register.specs.Keys.{KeyValue}
use Rattle.node_calls.specs.Asks.{Asked}
use Rattle.node_calls.specs.Asks as asks
use Rattle.node_steps.specs.Nodes.{state_shown}
use Rattle.cluster_model.specs.Worlds.{Cluster, World, Event, accepted, world}
use Rattle.cluster_model.specs.Histories.{is_key, amount_moved, moved}
use Rattle.cluster_model.proofs.Steps.{IsAgreed, agreed, asked_is}
use Rattle.cluster_model.proofs.Passes.{shifted_is}

-- the sum over the others takes nothing of the number itself
pub sum_others-but : (n i : ℕ) (f g : ℕ → ℕ) → ((j : ℕ) → j ≢ i → f j ≡ g j) → sum_others n i f ≡ sum_others n i g
sum_others-but n i f g h = sum-same n _ _ (λ j below. at j (j == i) (eqb-false j i))
  where
    at : (j : ℕ) (t : Bool) → (t ≡ false → j ≢ i) → cond t 0 (f j) ≡ cond t 0 (g j)
    at j true ne = refl
    at j false ne = h j (ne refl)

-- nothing is moved to oneself, nor to a number that is no node
not_to : (c : Cluster) (w : World) (e : Event) (i j : ℕ) → (j ≢ i → j < c.nodes → ⊥) → (a : Option Asked) →
    IsAgreed c w e i a → (name : List ℕ) (key : KeyValue) (term : ℕ) → amount_moved (w.node i) a name key term j ≡ 0
not_to c w e i j bad None g name key term = refl
not_to c w e i j bad (Some (asks.Shift other t to amount)) g name key term =
    at (bytes_eq other name && (t == term && (to == j && is_key key ((state_shown (w.node i)).key other)))) refl
  where
    at : (b : Bool) → (bytes_eq other name && (t == term && (to == j && is_key key
        ((state_shown (w.node i)).key other)))) ≡ b → ◌≡◌ {A = ℕ} (cond b amount 0) 0
    at false f = refl
    at true f =
        let p = and_parts (bytes_eq other name) _ f in
        let q = and_parts (t == term) _ p.1 in
        let r = and_parts (to == j) _ q.1 in
        let same = eqb-true to j r.0 in
        let is = shifted_is _ _ (w.node i) other t to amount e.words g in
        absurd (bad (λ e. is.other (same ∙ e)) (subst (λ k. k < c.nodes) same is.below))
not_to c w e i j bad (Some ask) g name key term = refl

pub moved_not_to : (c : Cluster) (es : List Event) (name : List ℕ) (key : KeyValue) (term i j : ℕ) →
    (j ≢ i → j < c.nodes → ⊥) → moved c es name key term i j ≡ 0
moved_not_to c [] name key term i j bad = refl
moved_not_to c (e ∷ es) name key term i j bad =
    let before = moved_not_to c es name key term i j bad in
    let here = not_to c (world c es) e i j bad (accepted c (world c es) e i) (agreed c (world c es) e i) name key
    term in
    omega (arith, before, here)

pub moved_to_self : (c : Cluster) (es : List Event) (name : List ℕ) (key : KeyValue) (term i : ℕ) →
    moved c es name key term i i ≡ 0
moved_to_self c es name key term i = moved_not_to c es name key term i i (λ ne l. ne refl)

-- a number that is no node moves nothing
pub moved_by_none : (c : Cluster) (es : List Event) (name : List ℕ) (key : KeyValue) (term i j : ℕ) → c.nodes ≤ i →
    moved c es name key term i j ≡ 0
moved_by_none c [] name key term i j l = refl
moved_by_none c (e ∷ es) name key term i j l =
    let before = moved_by_none c es name key term i j l in
    let here = at (accepted c (world c es) e i) refl in
    omega (arith, before, here)
  where
    at : (a : Option Asked) → accepted c (world c es) e i ≡ a → amount_moved ((world c es).node i) a name key term j ≡ 0
    at None p = refl
    at (Some ask) p =
        let below = (asked_is c (world c es) e i ask p).below in
        absurd (omega (arith, below, l))
