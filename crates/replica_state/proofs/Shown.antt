-- What a state is after what it holds of one name was written.
use Rattle.std.proofs.Common.{arith, ◌≡◌, ℕ, ◌+◌, ◌≤◌, max, Bool, true, false, cond, List, ◌&&◌, eqb, Option, Some, None, refl, ap}
use Rattle.std.specs.Str.{bytes_eq}
use Rattle.std.proofs.lemmas.Bool.{eqb-true}
use Rattle.stamp_register.specs.Keys.{KeyValue}
use Rattle.replica_state.specs.States.{State, with_name, with_key, with_hits, with_execs, with_shifts, with_pass}
use Rattle.replica_state.specs.Points.{held_after_key, held_after_pass, held_after_count, held_after_shift}
use Rattle.replica_state.specs.Cells.{held_at, with_held}
use Rattle.replica_state.proofs.Orders.{bytes_eq-true}

-- what stays at a name stays everywhere
same_at : {A : Type 0} (name : List ℕ) (old : List ℕ → A) (q : List ℕ) (b : Bool) → bytes_eq name q ≡ b →
    cond b (old name) (old q) ≡ old q
same_at name old q true e = ap old (bytes_eq-true name q e)
same_at name old q false e = refl

pub with_held-same : (name : List ℕ) (v : State) → with_name name v.names ≡ v.names →
    with_held name (held_at v name) v ≡ v
unfolding with_held
with_held-same name v kept = λ i. record {
  names = kept i;
  key = λ q. same_at name v.key q (bytes_eq name q) refl i;
  hits = λ q n. same_at name (λ p. v.hits p n) q (bytes_eq name q) refl i;
  execs = λ q t n. same_at name (λ p. v.execs p t n) q (bytes_eq name q) refl i;
  shifts = λ q t m n. same_at name (λ p. v.shifts p t m n) q (bytes_eq name q) refl i;
}

-- what holds a key newly
pub took : (name : List ℕ) (key : KeyValue) (v : State) → with_held name (held_after_key key (held_at v name)) v ≡
    with_key name key v
unfolding with_held held_after_key with_key
took name key v = λ i. record {
  names = with_name name v.names;
  key = λ q. cond (bytes_eq name q) (Some key) (v.key q);
  hits = λ q n. same_at name (λ p. v.hits p n) q (bytes_eq name q) refl i;
  execs = λ q t n. cond (bytes_eq name q) 0 (v.execs q t n);
  shifts = λ q t m n. cond (bytes_eq name q) 0 (v.shifts q t m n);
}

-- one number more at a cell
module _ (name : List ℕ) where
  counted : (old : List ℕ → ℕ) (cell : ℕ) (s : Bool) (q : List ℕ) → (s ≡ true → cell ≡ old name) → (b : Bool) →
      bytes_eq name q ≡ b → cond b (cond s (max (cell + 1) (old name)) (old name)) (old q) ≡ cond (b && s) (cell + 1)
      (old q)
  counted old cell true q at true e = let same : cell ≡ old name = at refl in omega arith
  counted old cell false q at true e = ap old (bytes_eq-true name q e)
  counted old cell s q at false e = refl

pub passed_hits : (name : List ℕ) (node : ℕ) (v : State) (q : List ℕ) (j : ℕ) →
    cond (bytes_eq name q) (cond (eqb node j) (max (v.hits name node + 1) (v.hits name j)) (v.hits name j))
    (v.hits q j) ≡ cond (bytes_eq name q && eqb node j) (v.hits name node + 1) (v.hits q j)
passed_hits name node v q j = counted name (λ p. v.hits p j) (v.hits name node) (eqb node j) q
    (λ e. ap (λ k. v.hits name k) (eqb-true node j e)) (bytes_eq name q) refl

pub passed_execs : (name : List ℕ) (term node : ℕ) (v : State) (q : List ℕ) (t j : ℕ) →
    cond (bytes_eq name q) (cond (eqb term t && eqb node j) (max (v.execs name term node + 1) (v.execs name t j))
    (v.execs name t j)) (v.execs q t j) ≡ cond (bytes_eq name q && (eqb term t && eqb node j))
    (v.execs name term node + 1) (v.execs q t j)
passed_execs name term node v q t j = counted name (λ p. v.execs p t j) (v.execs name term node)
    (eqb term t && eqb node j) q at (bytes_eq name q) refl
  where
    both : (a b : Bool) → eqb term t ≡ a → eqb node j ≡ b → a && b ≡ true → v.execs name term node ≡ v.execs name t j
    both true true e f h = λ i. v.execs name (eqb-true term t e i) (eqb-true node j f i)
    both true false e f h = cc
    both false b e f h = cc

    at : eqb term t && eqb node j ≡ true → v.execs name term node ≡ v.execs name t j
    at h = both (eqb term t) (eqb node j) refl refl h

pub pass_seen : (name : List ℕ) (node : ℕ) (spent : Option ℕ) (v : State) → with_name name v.names ≡ v.names →
    with_held name (held_after_pass node spent (held_at v name)) v ≡ with_pass name node spent v
unfolding with_held held_after_pass with_hits with_execs
pass_seen name node None v kept = λ i. record {
  names = kept i;
  key = λ q. same_at name v.key q (bytes_eq name q) refl i;
  hits = λ q j. passed_hits name node v q j i;
  execs = λ q t n. same_at name (λ p. v.execs p t n) q (bytes_eq name q) refl i;
  shifts = λ q t m n. same_at name (λ p. v.shifts p t m n) q (bytes_eq name q) refl i;
}
pass_seen name node (Some term) v kept = λ i. record {
  names = kept i;
  key = λ q. same_at name v.key q (bytes_eq name q) refl i;
  hits = λ q j. passed_hits name node v q j i;
  execs = λ q t j. passed_execs name term node v q t j i;
  shifts = λ q t m n. same_at name (λ p. v.shifts p t m n) q (bytes_eq name q) refl i;
}

-- a number no less at a cell
module _ (name : List ℕ) (term from to total : ℕ) (v : State) (low : v.shifts name term from to ≤ total) where
  at_cell : (old : List ℕ → ℕ) (s : Bool) (q : List ℕ) → (s ≡ true → old name ≤ total) → (b : Bool) →
      bytes_eq name q ≡ b → cond b (cond s (max total (old name)) (old name)) (old q) ≡ cond (b && s) total (old q)
  at_cell old true q least true e = let below = least refl in omega (arith, below)
  at_cell old false q least true e = ap old (bytes_eq-true name q e)
  at_cell old s q least false e = refl

  same_shift : (t m n : ℕ) (a b c : Bool) → eqb term t ≡ a → eqb from m ≡ b → eqb to n ≡ c → a && (b && c) ≡ true →
      v.shifts name term from to ≡ v.shifts name t m n
  same_shift t m n true true true e f g h = λ i. v.shifts name (eqb-true term t e i) (eqb-true from m f i)
      (eqb-true to n g i)
  same_shift t m n true true false e f g h = cc
  same_shift t m n true false c e f g h = cc
  same_shift t m n false b c e f g h = cc

  pub shift_seen : with_name name v.names ≡ v.names → with_held name
      (held_after_shift term from to total (held_at v name)) v ≡ with_shifts name term from to total v
  unfolding with_held held_after_count with_shifts
  shift_seen kept = λ i. record {
    names = kept i;
    key = λ q. same_at name v.key q (bytes_eq name q) refl i;
    hits = λ q j. same_at name (λ p. v.hits p j) q (bytes_eq name q) refl i;
    execs = λ q t j. same_at name (λ p. v.execs p t j) q (bytes_eq name q) refl i;
    shifts = λ q t m n. at_cell (λ p. v.shifts p t m n) (eqb term t && (eqb from m && eqb to n)) q
        (λ h. let same = same_shift t m n (eqb term t) (eqb from m) (eqb to n) refl refl refl h in
        omega (arith, low, same)) (bytes_eq name q) refl i;
  }
