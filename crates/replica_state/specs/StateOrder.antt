-- Which of two states knows at least as much.
use Rattle.std.proofs.Common.{inl, inr, refl, sym, ◌∙◌, subst, arith}
use Rattle.std.specs.Prelude.{◌≡◌, ◌≢◌, ℕ, ◌≤◌, true, List, ◌⊎◌, ◌↔◌, Option, Some, None}
use Rattle.stamp_register.specs.Keys.{KeyValue, key_le}
use Rattle.stamp_register.proofs.KeyLemmas.{key_le-trans, key_le-antisym}
use Rattle.replica_state.specs.States.{State}

-- a smaller key; no key is the smallest
abbrev pub IsKeyBelow : Option KeyValue → Option KeyValue → Type 0
IsKeyBelow None None = ⊥
IsKeyBelow None (Some b) = Unit {0}
IsKeyBelow (Some a) None = ⊥
IsKeyBelow (Some a) (Some b) = (key_le a b ≡ true) × (a ≢ b)

-- a smaller key; or the same one, under which no execution and no shift is greater
abbrev pub AreCellsBelow : Option KeyValue → Option KeyValue → (ℕ → ℕ → ℕ) → (ℕ → ℕ → ℕ) →
    (ℕ → ℕ → ℕ → ℕ) → (ℕ → ℕ → ℕ → ℕ) → Type 0
AreCellsBelow a b execs other_execs shifts other_shifts = IsKeyBelow a b ⊎ ((a ≡ b)
    × ((term node : ℕ) → execs term node ≤ other_execs term node)
    × ((term from to : ℕ) → shifts term from to ≤ other_shifts term from to))

-- of one name: no hit cell is greater, and no cell under its key
pub record IsBelowAt (v w : State) (name : List ℕ) : Type 0 where
  pub hits : (node : ℕ) → v.hits name node ≤ w.hits name node
  pub cells : AreCellsBelow (v.key name) (w.key name) (v.execs name) (w.execs name) (v.shifts name) (w.shifts name)

abbrev pub IsBelow : State → State → Type 0
IsBelow v w = (name : List ℕ) → IsBelowAt v w name

-- values are ordered as their states are
abbrev pub OrdersByState : {R : Type 0} → (R → Type 0) → (R → R → Type 0) → (R → State) → Type 0
OrdersByState {R} admitted order state = (v w : R) → admitted v → admitted w → (order v w ↔ IsBelow (state v) (state w))

-- ---- it is an order

pub key_below-trans : (a b c : Option KeyValue) → IsKeyBelow a b → IsKeyBelow b c → IsKeyBelow a c
key_below-trans None None c h k = absurd h
key_below-trans None (Some b) None h k = absurd k
key_below-trans None (Some b) (Some c) h k = tt
key_below-trans (Some a) None c h k = absurd h
key_below-trans (Some a) (Some b) None h k = absurd k
key_below-trans (Some a) (Some b) (Some c) h k = (
  key_le-trans a b c h.0 k.0,
  λ e. h.1 (key_le-antisym a b h.0 (subst (λ x. key_le b x ≡ true) (sym e) k.0)),
)

pub key_below-irrefl : (a : Option KeyValue) → IsKeyBelow a a → ⊥
key_below-irrefl None h = h
key_below-irrefl (Some a) h = h.1 refl

pub below-refl : (v : State) → IsBelow v v
below-refl v name = record {
  hits = λ node. omega arith;
  cells = inr (refl, λ term node. omega arith, λ term from to. omega arith);
}

-- what `IsBelowAt` says of the cells
abbrev pub Cells : List ℕ → State → State → Type 0
Cells name x y = AreCellsBelow (x.key name) (y.key name) (x.execs name) (y.execs name) (x.shifts name) (y.shifts name)

pub below-trans : (u v w : State) → IsBelow u v → IsBelow v w → IsBelow u w
below-trans u v w h k name =
    record {
      hits = λ node. let a = (h name).hits node in let b = (k name).hits node in omega arith;
      cells = cases (h name).cells (k name).cells;
    }
  where
    cases : Cells name u v → Cells name v w → Cells name u w
    cases (inl a) (inl b) = inl (key_below-trans (u.key name) (v.key name) (w.key name) a b)
    cases (inl a) (inr b) = inl (subst (IsKeyBelow (u.key name)) b.0 a)
    cases (inr a) (inl b) = inl (subst (λ o. IsKeyBelow o (w.key name)) (sym a.0) b)
    cases (inr a) (inr b) = inr (
      a.0 ∙ b.0,
      λ term node. let p = a.1 term node in let q = b.1 term node in omega arith,
      λ term from to. let p = a.2 term from to in let q = b.2 term from to in omega arith,
    )
