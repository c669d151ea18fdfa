-- Where each other node was heard, none is waited for again.
use Rattle.std.proofs.Common.{◌≡◌, ℕ, ◌⊎◌, inl, inr, Bool, true, false, cond, List, [], ◌∷◌, length, get_or, set, Option, Some, None, refl, sym, ap, ◌∙◌}
use Rattle.std.specs.Prelude.{eqb, ltb, find, is_none}
use Rattle.std.specs.List.{range_with_len}
use Rattle.std.proofs.lemmas.Bool.{eqb-true, eqb-false, ltb-true, ltb-false, and_cases, and_left, and_right}
use Rattle.std.proofs.lemmas.List.{get_or-set_same, get_or-set_other, set_past}
use Rattle.std.proofs.lemmas.Option.{unwrap_or-slice_get}
use Rattle.peers.specs.declared.code.Outcome.{Outcome}
use Rattle.peers.specs.declared.code.Outcome.TheVariants.{Accepted, Refused, Untold}
use Rattle.peers.specs.declared.heard.Cluster.{Cluster}
use Rattle.peers.specs.declared.heard.Row.{Row}
use Rattle.peers.specs.Heard.{first_unheard, fresh_row, is_peer, is_unheard, noted, row_at, row_noted}

-- a test that passes no more than another one finds nothing where that one finds nothing
one_more : {X : Type 0} (x : X) (rest other : Option X) (b c : Bool) → (b ≡ false → c ≡ false) →
    (rest ≡ None → other ≡ None) → cond b (Some x) rest ≡ None → cond c (Some x) other ≡ None
one_more x rest other true c fewer more none = let no : ⊥ = cc in absurd no
one_more x rest other false c fewer more none = ap (λ d. cond d (Some x) other) (fewer refl) ∙ more none

find_none : {X : Type 0} (p q : X → Bool) → ((x : X) → p x ≡ false → q x ≡ false) → (xs : List X) →
    find p xs ≡ None → find q xs ≡ None
find_none p q fewer [] none = refl
find_none p q fewer (x ∷ xs) none =
    one_more x (find p xs) (find q xs) (p x) (q x) (fewer x) (find_none p q fewer xs) none

heard_stays : (row : Row) (outcome : Outcome) (now : ℕ) → is_none row.heard ≡ false →
    is_none (row_noted row outcome now).heard ≡ false
heard_stays row Accepted now heard = refl
heard_stays row (Refused code) now heard = heard
heard_stays row Untold now heard = heard

module _ (rows : List Row) (node x : ℕ) (new : Row) where
  there : (rs : List Row) → row_at rs x ≡ get_or rs x fresh_row
  there rs = unwrap_or-slice_get rs x fresh_row

  -- a write of one row
  written_there : (b : Bool) → ltb node (length rows) ≡ b → x ≡ node →
      ((row_at (set rows node new) x ≡ new) × (x ≡ node)) ⊎ (row_at (set rows node new) x ≡ row_at rows x)
  written_there true within same =
      inl (
        there (set rows node new) ∙ ap (λ i. get_or (set rows node new) i fresh_row) same
            ∙ get_or-set_same rows node new fresh_row (ltb-true node (length rows) within),
        same,
      )
  written_there false past same =
      inr (ap (λ rs. row_at rs x) (set_past rows node new (ltb-false node (length rows) past)))

  written_by : (b : Bool) → eqb x node ≡ b →
      ((row_at (set rows node new) x ≡ new) × (x ≡ node)) ⊎ (row_at (set rows node new) x ≡ row_at rows x)
  written_by true same = written_there (ltb node (length rows)) refl (eqb-true x node same)
  written_by false other =
      inr (there (set rows node new) ∙ get_or-set_other rows node x new fresh_row (eqb-false x node other)
      ∙ sym (there rows))

  written : ((row_at (set rows node new) x ≡ new) × (x ≡ node)) ⊎ (row_at (set rows node new) x ≡ row_at rows x)
  written = written_by (eqb x node) refl

row_stays : (rows : List Row) (node : ℕ) (outcome : Outcome) (now x : ℕ) → is_none (row_at rows x).heard ≡ false →
    is_none (row_at (set rows node (row_noted (row_at rows node) outcome now)) x).heard ≡ false
row_stays rows node outcome now x heard =
    let new = row_noted (row_at rows node) outcome now in
    elim (written rows node x new) [
      | inl w ↦
          ap (λ r. is_none r.heard) w.0
          ∙ heard_stays (row_at rows node) outcome now (ap (λ i. is_none (row_at rows i).heard) (sym w.1) ∙ heard)
      | inr same ↦ ap (λ r. is_none r.heard) same ∙ heard
    ]

module _ (cluster : Cluster) (rows : List Row) (node : ℕ) (outcome : Outcome) (now : ℕ) where
  fewer : (x : ℕ) → is_unheard cluster rows x ≡ false
      → is_unheard cluster (set rows node (row_noted (row_at rows node) outcome now)) x ≡ false
  fewer x isnt =
      elim (and_cases (is_peer cluster x) (is_none (row_at rows x).heard) isnt) [
        | inl nobody ↦ and_left (is_peer cluster x) _ nobody
        | inr heard ↦ and_right (is_peer cluster x) _ (row_stays rows node outcome now x heard)
      ]

  from_peer : (b : Bool) → first_unheard cluster rows ≡ None
      → first_unheard cluster (cond b (set rows node (row_noted (row_at rows node) outcome now)) rows) ≡ None
  from_peer true none =
      find_none (is_unheard cluster rows)
      (is_unheard cluster (set rows node (row_noted (row_at rows node) outcome now))) fewer
      (range_with_len 0 cluster.nodes) none
  from_peer false none = none

pub lasts : (cluster : Cluster) (rows : List Row) (sender : Option ℕ) (outcome : Outcome) (now : ℕ) →
    first_unheard cluster rows ≡ None → first_unheard cluster (noted cluster rows sender outcome now) ≡ None
lasts cluster rows None outcome now none = none
lasts cluster rows (Some node) outcome now none = from_peer cluster rows node outcome now (is_peer cluster node) none
