-- What marks say after a change of the state, by a test of what changed.
use Rattle.std.proofs.Common.{◌≡◌, ◌≢◌, ℕ, ◌≤◌, ◌<◌, ◌==◌, max, Bool, true, false, cond, not, ◌&&◌, ◌||◌, List, Option, refl, sym, ◌∙◌, ap, arith}
use Rattle.std.proofs.lemmas.Bool.{true≢false, eqb-true}
use Rattle.std.specs.Str.{bytes_eq}
use Rattle.operations.specs.declared.counted.Counted.{Counted}
use Rattle.operations.specs.Counts.{is_hits}
use Rattle.replica_state.specs.States.{State}
use Rattle.replica_state.specs.Cells.{cell_of}
use Rattle.delta_exchange.specs.Changes.{IsSameKey, IsSameCell, IsChangedAt, ChangesAt}
use Rattle.delta_exchange.specs.Marks.{MarksValue, AreUpto, is_of, with_mark, with_new_key, cell_change, last_changes}
use Rattle.delta_exchange.specs.Versions.{no_changes}

-- tests tell which keys differ, and which cells do besides by what was counted; of cells that are 0
-- then they tell nothing, and under a new key others are 0
pub record Tells (v w : State) (keys : List ℕ → Bool) (cells : List ℕ → Counted → Bool) : Type 0 where
  pub key_differs : (name : List ℕ) → keys name ≡ true → IsSameKey v w name → ⊥
  pub key_stays : (name : List ℕ) → keys name ≡ false → IsSameKey v w name
  pub cell_differs : (name : List ℕ) (c : Counted) → cell_of w name c ≢ 0 → cells name c ≡ true →
      IsSameCell v w name c → ⊥
  pub cell_stays : (name : List ℕ) (c : Counted) → cell_of w name c ≢ 0 → cells name c ≡ false →
      (is_hits c ≡ false → keys name ≡ false) → IsSameCell v w name c
  pub cell_new : (name : List ℕ) (c : Counted) → is_hits c ≡ false → keys name ≡ true → cells name c ≡ false →
      cell_of w name c ≡ 0

changed_at : {Same : Type 0} (version before now : ℕ) (t : Bool) → now ≡ cond t version before → (t ≡ true → Same → ⊥) →
    (t ≡ false → Same) → IsChangedAt Same version before now
changed_at version before now true e differs stays = (λ same. absurd (differs refl same), λ _. e)
changed_at version before now false e differs stays = (λ _. e, λ other. absurd (other (stays refl)))

-- a cell that is marked
change_is : (hits : Bool) (version own key : ℕ) → 1 ≤ version → own ≡ version → key ≤ version →
    cell_change hits own key ≡ version
change_is true version own key some e low = e
change_is false version own key some e low = by_test (own == 0) refl
  where
    by_test : (t : Bool) → (own == 0) ≡ t → cond t 0 (max own key) ≡ version
    by_test true f = let zero = eqb-true own 0 f in absurd (omega (arith, some, e, zero))
    by_test false f = omega (arith, e, low)

module _ (v w : State) (keys : List ℕ → Bool) (cells : List ℕ → Counted → Bool) (tells : Tells v w keys cells)
    (version : ℕ) (some : 1 ≤ version) (m n : MarksValue) (upto : AreUpto n version)
    (k : (name : List ℕ) → n.key name ≡ cond (keys name) version (m.key name))
    (h : (name : List ℕ) (c : Counted) → cell_of w name c ≢ 0 →
    n.cell name c ≡ cond (cells name c) version (m.cell name c)) where
  cell_told : (name : List ℕ) (c : Counted) → cell_of w name c ≢ 0 → (t new hits : Bool) → cells name c ≡ t →
      keys name ≡ new → is_hits c ≡ hits → IsChangedAt (IsSameCell v w name c) version
      (cell_change hits (m.cell name c) (m.key name)) (cell_change hits (n.cell name c) (n.key name))
  cell_told name c there true new hits e f g =
      let low = upto.key name in
      let high = upto.latest name in (
        λ same. absurd (tells.cell_differs name c there e same),
        λ _. change_is hits version (n.cell name c) (n.key name) some
            (h name c there ∙ ap (λ t. cond t version (m.cell name c)) e) (omega (arith, low, high)),
      )
  cell_told name c there false new true e f g =
      let same = tells.cell_stays name c there e (λ other. absurd (true≢false (sym g ∙ other))) in
      (λ _. h name c there ∙ ap (λ t. cond t version (m.cell name c)) e, λ other. absurd (other same))
  cell_told name c there false true false e f g = absurd (there (tells.cell_new name c g f e))
  cell_told name c there false false false e f g =
      let same = tells.cell_stays name c there e (λ _. f) in (
        λ _ i. cell_change false ((h name c there ∙ ap (λ t. cond t version (m.cell name c)) e) i)
            ((k name ∙ ap (λ t. cond t version (m.key name)) f) i),
        λ other. absurd (other same),
      )

  pub changes_told : ChangesAt v w version (last_changes m) (last_changes n)
  unfolding last_changes
  changes_told = record {
    key = λ name. changed_at version (m.key name) (n.key name) (keys name) (k name) (tells.key_differs name)
        (tells.key_stays name);
    cell = λ name c there. cell_told name c there (cells name c) (keys name) (is_hits c) refl refl refl;
  }

-- ---- a mark more

module _ (m : MarksValue) (name : List ℕ) (new_key : Bool) (counted : Option Counted) (u version : ℕ)
    (low : u ≤ version) (upto : AreUpto m u) where
  pub upto_marked : AreUpto (with_mark name new_key counted version m) version
  unfolding with_mark
  upto_marked = record {
    key = λ n. below_key (bytes_eq name n) new_key (m.key n) (m.latest n) (upto.key n) (upto.latest n);
    cell = λ n c. below_key (bytes_eq name n) (is_of counted c) (m.cell n c) (m.latest n) (upto.cell n c)
        (upto.latest n);
    latest = λ n. below_latest (bytes_eq name n) (m.latest n) (upto.latest n);
  }
    where
      below_key : (b t : Bool) (x l : ℕ) → x ≤ l → l ≤ u → cond (b && t) version x ≤ cond b version l
      below_key true true x l h k = omega arith
      below_key true false x l h k = omega (arith, low, h, k)
      below_key false t x l h k = h

      below_latest : (b : Bool) (l : ℕ) → l ≤ u → cond b version l ≤ version
      below_latest true l h = omega arith
      below_latest false l h = omega (arith, low, h)

-- a first mark, and another one
pub changes_marked : (v w : State) (keys : List ℕ → Bool) (cells : List ℕ → Counted → Bool) → Tells v w keys cells →
    (m : MarksValue) (name : List ℕ) (new_key : Bool) (counted : Option Counted) (u version : ℕ) → u < version →
    AreUpto m u → ((n : List ℕ) → keys n ≡ (bytes_eq name n && new_key)) →
    ((n : List ℕ) (c : Counted) → cells n c ≡ (bytes_eq name n && is_of counted c)) →
    ChangesAt v w version (last_changes m) (last_changes (with_mark name new_key counted version m))
unfolding with_mark
changes_marked v w keys cells tells m name new_key counted u version low upto k h =
    changes_told v w keys cells tells version (omega (arith, low)) m (with_mark name new_key counted version m)
    (upto_marked m name new_key counted u version (omega (arith, low)) upto)
    (λ n. ap (λ t. cond t version (m.key n)) (sym (k n)))
    (λ n c _. ap (λ t. cond t version (m.cell n c)) (sym (h n c)))

pub changes_marked_twice : (v w : State) (cells : List ℕ → Counted → Bool) → Tells v w (λ n. false) cells →
    (m : MarksValue) (name : List ℕ) (one other : Option Counted) (u version : ℕ) → u < version → AreUpto m u →
    ((n : List ℕ) (c : Counted) → cells n c ≡ (bytes_eq name n && (is_of other c || is_of one c))) →
    ChangesAt v w version (last_changes m) (last_changes (with_mark name false other version
    (with_mark name false one version m)))
unfolding with_mark
changes_marked_twice v w cells tells m name one other u version low upto h =
    changes_told v w (λ n. false) cells tells version (omega (arith, low)) m
    (with_mark name false other version (with_mark name false one version m))
    (upto_marked (with_mark name false one version m) name false other version version (omega arith)
    (upto_marked m name false one u version (omega (arith, low)) upto))
    (λ n. none (bytes_eq name n) _ ∙ none (bytes_eq name n) _)
    (λ n c _. both (bytes_eq name n) (is_of other c) (is_of one c) _ ∙
    ap (λ t. cond t version (m.cell n c)) (sym (h n c)))
  where
    none : (b : Bool) (x : ℕ) → cond (b && false) version x ≡ x
    none true x = refl
    none false x = refl

    both : (b s t : Bool) (x : ℕ) → cond (b && s) version (cond (b && t) version x) ≡ cond (b && (s || t)) version x
    both true true t x = refl
    both true false t x = refl
    both false s t x = refl

-- a new key, under which all cells are 0
module _ (m : MarksValue) (name : List ℕ) (u version : ℕ) (low : u < version) (upto : AreUpto m u) where
  pub upto_new_key : AreUpto (with_new_key name version m) version
  unfolding with_new_key
  upto_new_key = record {
    key = λ n. below_key (bytes_eq name n) (m.key n) (m.latest n) (upto.key n);
    cell = λ n c. below_cell (bytes_eq name n) (is_hits c) (m.cell n c) (m.latest n) (upto.cell n c) (upto.latest n);
    latest = λ n. below_latest (bytes_eq name n) (m.latest n) (upto.latest n);
  }
    where
      below_key : (b : Bool) (x l : ℕ) → x ≤ l → cond b version x ≤ cond b version l
      below_key true x l h = omega arith
      below_key false x l h = h

      below_cell : (b t : Bool) (x l : ℕ) → x ≤ l → l ≤ u → cond (b && not t) 0 x ≤ cond b version l
      below_cell true true x l h k = omega (arith, low, h, k)
      below_cell true false x l h k = omega arith
      below_cell false t x l h k = h

      below_latest : (b : Bool) (l : ℕ) → l ≤ u → cond b version l ≤ version
      below_latest true l h = omega arith
      below_latest false l h = omega (arith, low, h)

  pub changes_new_key : (v w : State) → Tells v w (λ n. bytes_eq name n) (λ n c. false) →
      ChangesAt v w version (last_changes m) (last_changes (with_new_key name version m))
  unfolding with_new_key
  changes_new_key v w tells = changes_told v w (λ n. bytes_eq name n) (λ n c. false) tells version (omega (arith, low))
      m (with_new_key name version m) upto_new_key (λ n. refl)
      (λ n c there. kept n c there (bytes_eq name n) (is_hits c) refl refl)
    where
      kept : (n : List ℕ) (c : Counted) → cell_of w n c ≢ 0 → (b t : Bool) → bytes_eq name n ≡ b → is_hits c ≡ t →
          cond (b && not t) 0 (m.cell n c) ≡ m.cell n c
      kept n c there true true e f = refl
      kept n c there true false e f = absurd (there (tells.cell_new n c f e refl))
      kept n c there false t e f = refl

-- how the test of a mark of no key computes
pub no_key : (name n : List ℕ) → false ≡ (bytes_eq name n && false)
no_key name n = by_test (bytes_eq name n)
  where
    by_test : (b : Bool) → false ≡ (b && false)
    by_test true = refl
    by_test false = refl

pub no_marks : (m : MarksValue) → ((name : List ℕ) → m.key name ≡ 0) →
    ((name : List ℕ) (c : Counted) → m.cell name c ≡ 0) → last_changes m ≡ no_changes
unfolding last_changes
no_marks m k h = λ i. record { key = λ name. k name i; cell = λ name c. none name c i }
  where
    by_test : (t : Bool) → cell_change t 0 0 ≡ 0
    by_test true = refl
    by_test false = refl

    none : (name : List ℕ) (c : Counted) → cell_change (is_hits c) (m.cell name c) (m.key name) ≡ 0
    none name c = (λ i. cell_change (is_hits c) (h name c i) (k name i)) ∙ by_test (is_hits c)
