-- What a pass, a shift and a key set in place change.
use Rattle.std.proofs.Common.{◌≡◌, ℕ, ◌<◌, ◌+◌, Bool, true, false, cond, ◌&&◌, ◌||◌, List, eqb, Option, Some, None, option_map, refl, sym, ◌∙◌, ap, subst, arith}
use Rattle.std.proofs.lemmas.Bool.{true≢false, and_parts, eqb-true}
use Rattle.std.specs.Str.{bytes_eq}
use Rattle.stamp_register.specs.Keys.{KeyValue}
use Rattle.operations.specs.declared.counted.Counted.{Counted}
use Rattle.operations.specs.declared.counted.Counted.TheVariants.{Hits, Execs, Shifts}
use Rattle.operations.specs.Counts.{same_counted, is_hits}
use Rattle.replica_state.specs.Knowledge.{is_upto}
use Rattle.replica_state.specs.States.{State, with_key, with_hits, with_execs, with_shifts, with_pass}
use Rattle.replica_state.specs.Cells.{cell_of}
use Rattle.replica_state.proofs.Orders.{bytes_eq-true, key_le-refl}
use Rattle.delta_exchange.specs.Changes.{IsSameKey, IsSameCell}
use Rattle.delta_exchange.specs.Marks.{is_of}
use Rattle.delta_exchange.proofs.ChangeLemmas.{Tells}

-- cells are greater where a test says so, and nothing else changes
record Grows (v w : State) (cells : List ℕ → Counted → Bool) : Type 0 where
  key : (name : List ℕ) → v.key name ≡ w.key name
  stays : (name : List ℕ) (c : Counted) → cells name c ≡ false → cell_of v name c ≡ cell_of w name c
  grows : (name : List ℕ) (c : Counted) → cells name c ≡ true → cell_of v name c < cell_of w name c

grown_tells : (v w : State) (cells : List ℕ → Counted → Bool) → Grows v w cells → Tells v w (λ name. false) cells
grown_tells v w cells h = record {
  key_differs = λ name e. absurd (true≢false (sym e));
  key_stays = λ name e. h.key name;
  cell_differs = λ name c some e same.
      let more = h.grows name c e in
      let less = same.1 in
      absurd (omega (arith, more, less));
  cell_stays = λ name c some e k. (λ _. h.key name, h.stays name c e);
  cell_new = λ name c hits e. absurd (true≢false (sym e));
}

stay : (s : Bool) (x y : ℕ) → s ≡ false → y ≡ cond s x y
stay true x y e = absurd (true≢false e)
stay false x y e = refl

grow : (s : Bool) (x y : ℕ) → (s ≡ true → y < x) → s ≡ true → y < cond s x y
grow true x y h e = h refl
grow false x y h e = absurd (true≢false (sym e))

or_false : (t : Bool) → (t || false) ≡ t
or_false true = refl
or_false false = refl

never : (b : Bool) → (b && false) ≡ true → {A : Type 0} → A
never true e = absurd (true≢false (sym e))
never false e = absurd (true≢false (sym e))

-- the cells of a name that are counted so, or so
abbrev pub counts : List ℕ → Option Counted → Option Counted → List ℕ → Counted → Bool
counts name one other n c = bytes_eq name n && (is_of other c || is_of one c)

module _ (name : List ℕ) (node : ℕ) (v : State) where
  hits_here : (n : List ℕ) (i : ℕ) → (bytes_eq name n && eqb node i) ≡ true → v.hits n i < v.hits name node + 1
  hits_here n i e =
      let parts = and_parts (bytes_eq name n) (eqb node i) e in
      let same : v.hits name node ≡ v.hits n i = λ k. v.hits (bytes_eq-true name n parts.0 k)
      (eqb-true node i parts.1 k) in
      omega (arith, same)

  execs_here : (term : ℕ) (n : List ℕ) (t i : ℕ) → (bytes_eq name n && (eqb term t && eqb node i)) ≡ true →
      v.execs n t i < v.execs name term node + 1
  execs_here term n t i e =
      let parts = and_parts (bytes_eq name n) (eqb term t && eqb node i) e in
      let more = and_parts (eqb term t) (eqb node i) parts.1 in
      let same : v.execs name term node ≡ v.execs n t i = λ k. v.execs (bytes_eq-true name n parts.0 k)
      (eqb-true term t more.0 k) (eqb-true node i more.1 k) in
      omega (arith, same)

  pass_grows : (spent : Option ℕ) → Grows v (with_pass name node spent v)
      (counts name (Some (Hits node)) (option_map (λ term. Execs term node) spent))
  unfolding with_hits with_execs
  pass_grows None = record {
    key = λ n. refl;
    stays = λ n c e. stays n c e;
    grows = λ n c e. grows n c e;
  }
    where
      stays : (n : List ℕ) (c : Counted) → counts name (Some (Hits node)) None n c ≡ false →
          cell_of v n c ≡ cell_of (with_pass name node None v) n c
      stays n (Hits i) e = stay (bytes_eq name n && eqb node i) _ _ e
      stays n (Execs t i) e = refl
      stays n (Shifts t i j) e = refl

      grows : (n : List ℕ) (c : Counted) → counts name (Some (Hits node)) None n c ≡ true →
          cell_of v n c < cell_of (with_pass name node None v) n c
      grows n (Hits i) e = grow (bytes_eq name n && eqb node i) _ _ (hits_here n i) e
      grows n (Execs t i) e = never (bytes_eq name n) e
      grows n (Shifts t i j) e = never (bytes_eq name n) e
  pass_grows (Some term) = record {
    key = λ n. refl;
    stays = λ n c e. stays n c e;
    grows = λ n c e. grows n c e;
  }
    where
      stays : (n : List ℕ) (c : Counted) → counts name (Some (Hits node)) (Some (Execs term node)) n c ≡ false →
          cell_of v n c ≡ cell_of (with_pass name node (Some term) v) n c
      stays n (Hits i) e = stay (bytes_eq name n && eqb node i) _ _ e
      stays n (Execs t i) e = stay (bytes_eq name n && (eqb term t && eqb node i)) _ _
          (ap (λ s. bytes_eq name n && s) (sym (or_false (eqb term t && eqb node i))) ∙ e)
      stays n (Shifts t i j) e = refl

      grows : (n : List ℕ) (c : Counted) → counts name (Some (Hits node)) (Some (Execs term node)) n c ≡ true →
          cell_of v n c < cell_of (with_pass name node (Some term) v) n c
      grows n (Hits i) e = grow (bytes_eq name n && eqb node i) _ _ (hits_here n i) e
      grows n (Execs t i) e = grow (bytes_eq name n && (eqb term t && eqb node i)) _ _ (execs_here term n t i)
          (ap (λ s. bytes_eq name n && s) (sym (or_false (eqb term t && eqb node i))) ∙ e)
      grows n (Shifts t i j) e = never (bytes_eq name n) e

  pub pass_tells : (spent : Option ℕ) → Tells v (with_pass name node spent v) (λ n. false)
      (counts name (Some (Hits node)) (option_map (λ term. Execs term node) spent))
  pass_tells spent = grown_tells v (with_pass name node spent v) _ (pass_grows spent)

module _ (name : List ℕ) (term from to total : ℕ) (v : State) (less : v.shifts name term from to < total) where
  shifts_here : (n : List ℕ) (t i j : ℕ) → (bytes_eq name n && (eqb term t && (eqb from i && eqb to j))) ≡ true →
      v.shifts n t i j < total
  shifts_here n t i j e =
      let one = and_parts (bytes_eq name n) (eqb term t && (eqb from i && eqb to j)) e in
      let two = and_parts (eqb term t) (eqb from i && eqb to j) one.1 in
      let three = and_parts (eqb from i) (eqb to j) two.1 in
      let same : v.shifts name term from to ≡ v.shifts n t i j =
      λ k. v.shifts (bytes_eq-true name n one.0 k) (eqb-true term t two.0 k) (eqb-true from i three.0 k)
      (eqb-true to j three.1 k) in
      omega (arith, same, less)

  pub shift_tells : Tells v (with_shifts name term from to total v) (λ n. false)
      (λ n c. bytes_eq name n && same_counted (Shifts term from to) c)
  unfolding with_shifts
  shift_tells = grown_tells v (with_shifts name term from to total v) _
      (record { key = same_key; stays = stays; grows = grows })
    where
      same_key : (n : List ℕ) → v.key n ≡ (with_shifts name term from to total v).key n
      same_key n = refl

      stays : (n : List ℕ) (c : Counted) → (bytes_eq name n && same_counted (Shifts term from to) c) ≡ false →
          cell_of v n c ≡ cell_of (with_shifts name term from to total v) n c
      stays n (Hits i) e = refl
      stays n (Execs t i) e = refl
      stays n (Shifts t i j) e = stay (bytes_eq name n && (eqb term t && (eqb from i && eqb to j))) _ _ e

      grows : (n : List ℕ) (c : Counted) → (bytes_eq name n && same_counted (Shifts term from to) c) ≡ true →
          cell_of v n c < cell_of (with_shifts name term from to total v) n c
      grows n (Hits i) e = never (bytes_eq name n) e
      grows n (Execs t i) e = never (bytes_eq name n) e
      grows n (Shifts t i j) e = grow (bytes_eq name n && (eqb term t && (eqb from i && eqb to j))) _ _
          (shifts_here n t i j) e

-- a key above the one that is held
module _ (name : List ℕ) (key : KeyValue) (v : State) (above : is_upto (Some key) (v.key name) ≡ false) where
  other_key : v.key name ≡ Some key → ⊥
  other_key e = true≢false (sym (ap (λ o. is_upto (Some key) o) e ∙ key_le-refl key) ∙ above)

  key_changes : (n : List ℕ) → bytes_eq name n ≡ true → IsSameKey v (with_key name key v) n → ⊥
  unfolding with_key
  key_changes n e same = other_key (subst (λ q. v.key q ≡ Some key) (sym (bytes_eq-true name n e))
      (same ∙ ap (λ b. cond b (Some key) (v.key n)) e))

  pub key_tells : Tells v (with_key name key v) (λ n. bytes_eq name n) (λ n c. false)
  unfolding with_key
  key_tells = record {
    key_differs = key_changes;
    key_stays = keeps;
    cell_differs = λ n c some e. absurd (true≢false (sym e));
    cell_stays = λ n c some e k. stays n c k;
    cell_new = λ n c h k e. none n c h k;
  }
    where
      keeps : (n : List ℕ) → bytes_eq name n ≡ false → IsSameKey v (with_key name key v) n
      keeps n e = sym (ap (λ b. cond b (Some key) (v.key n)) e)

      stays : (n : List ℕ) (c : Counted) → (is_hits c ≡ false → bytes_eq name n ≡ false) →
          IsSameCell v (with_key name key v) n c
      stays n (Hits i) k = (λ h. absurd (true≢false h), refl)
      stays n (Execs t i) k = (λ _. keeps n (k refl), sym (ap (λ b. cond b 0 (v.execs n t i)) (k refl)))
      stays n (Shifts t i j) k = (λ _. keeps n (k refl), sym (ap (λ b. cond b 0 (v.shifts n t i j)) (k refl)))

      none : (n : List ℕ) (c : Counted) → is_hits c ≡ false → bytes_eq name n ≡ true →
          cell_of (with_key name key v) n c ≡ 0
      none n (Hits i) h k = absurd (true≢false h)
      none n (Execs t i) h k = ap (λ b. cond b 0 (v.execs n t i)) k
      none n (Shifts t i j) h k = ap (λ b. cond b 0 (v.shifts n t i j)) k
