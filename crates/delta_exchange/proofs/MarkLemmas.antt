-- The marks after those of one name were written.
use Rattle.std.proofs.Common.{◌≡◌, ◌≢◌, ℕ, Bool, true, false, cond, not, List, ◌&&◌, IsTrue, Option, Some, None, refl, sym, ◌∙◌, ap, subst}
use Rattle.std.specs.Str.{bytes_eq}
use Rattle.std.specs.BTreeMap.{BTreeMap, WritesThrough, is_at}
use Rattle.std.specs.Option.{IsSome, unwrap_or}
use Rattle.std.specs.Ordering.{nat_cmp}
use Rattle.std.specs.Cmp.Lexicographic.{slice_cmp}
use Rattle.std.proofs.lemmas.Map.Text.{is_eq-slice_cmp}
use Rattle.operations.specs.declared.counted.Counted.{Counted}
use Rattle.operations.specs.Counts.{is_hits}
use Rattle.replica_state.proofs.Orders.{bytes_eq-true}
use Rattle.delta_exchange.specs.declared.marks.NameMarks.{NameMarks}
use Rattle.delta_exchange.specs.declared.marks.Marks.{Marks}
use Rattle.delta_exchange.specs.Marks.{marks_at, latest_of, key_of, cell_of, is_room, is_of, has_cell, marks_value, has_room, KeepsRoom, with_mark, with_new_key, cell_in, cell_change, last_changes}

-- what a name has is what all have it at
at_name : {A : Type 0} (name : List ℕ) (old : List ℕ → A) (x : A) → x ≡ old name → (q : List ℕ) (b : Bool) →
    bytes_eq name q ≡ b → cond b x (old q) ≡ old q
at_name name old x here q true e = here ∙ ap old (bytes_eq-true name q e)
at_name name old x here q false e = refl

module _ (m n : Marks) (name : List ℕ) (w : NameMarks) (at : (q : List ℕ) →
    marks_at n.names.entries q ≡ cond (is_at (slice_cmp nat_cmp name) q) (Some w) (marks_at m.names.entries q)) where
  part : {A : Type 0} (f : Option NameMarks → A) (q : List ℕ) →
      f (marks_at n.names.entries q) ≡ cond (bytes_eq name q) (f (Some w)) (f (marks_at m.names.entries q))
  part {A} f q = ap f (at q ∙ ap (λ t. cond t (Some w) (marks_at m.names.entries q)) (is_eq-slice_cmp name q)) ∙
      by_test (bytes_eq name q)
    where
      by_test : (b : Bool) → f (cond b (Some w) (marks_at m.names.entries q)) ≡ cond b (f (Some w))
          (f (marks_at m.names.entries q))
      by_test true = refl
      by_test false = refl

  abbrev old : {A : Type 0} (f : Option NameMarks → A) → List ℕ → A
  old f q = f (marks_at m.names.entries q)

  pub same_marks : latest_of (Some w) ≡ latest_of (marks_at m.names.entries name) →
      key_of (Some w) ≡ key_of (marks_at m.names.entries name) →
      ((c : Counted) → cell_of (Some w) c ≡ cell_of (marks_at m.names.entries name) c) → marks_value n ≡ marks_value m
  unfolding marks_value
  same_marks l k h = λ i. record {
    latest = λ q. (part latest_of q ∙ at_name name (old latest_of) (latest_of (Some w)) l q (bytes_eq name q) refl) i;
    key = λ q. (part key_of q ∙ at_name name (old key_of) (key_of (Some w)) k q (bytes_eq name q) refl) i;
    cell = λ q c. (part (λ o. cell_of o c) q ∙ at_name name (old (λ o. cell_of o c)) (cell_of (Some w) c) (h c) q
        (bytes_eq name q) refl) i;
  }

  pub kept_room : ((c : Option Counted) → IsTrue (is_room (marks_at m.names.entries name) c) → IsTrue (has_cell w c)) →
      KeepsRoom m n
  unfolding has_room
  kept_room keeps q c room = subst IsTrue (sym (part (λ o. is_room o c) q)) (by_name (bytes_eq name q) refl)
    where
      by_name : (b : Bool) → bytes_eq name q ≡ b → IsTrue (cond b (has_cell w c)
          (is_room (marks_at m.names.entries q) c))
      by_name true e = keeps c (subst (λ p. IsTrue (is_room (marks_at m.names.entries p) c))
          (sym (bytes_eq-true name q e)) room)
      by_name false e = room

  -- a mark more
  pub marked : (new_key : Bool) (counted : Option Counted) (version : ℕ) → w.latest ≡ version →
      w.key ≡ cond new_key version (key_of (marks_at m.names.entries name)) →
      ((c : Counted) → cell_of (Some w) c ≡ cond (is_of counted c) version
      (cell_of (marks_at m.names.entries name) c)) → marks_value n ≡ with_mark name new_key counted version
      (marks_value m)
  unfolding marks_value with_mark
  marked new_key counted version l k h = λ i. record {
    latest = λ q. (part latest_of q ∙ ap (λ x. cond (bytes_eq name q) x (old latest_of q)) l) i;
    key = λ q. (part key_of q ∙ one new_key (old key_of) (key_of (Some w)) k q (bytes_eq name q) refl) i;
    cell = λ q c. (part (λ o. cell_of o c) q ∙ one (is_of counted c) (old (λ o. cell_of o c)) (cell_of (Some w) c) (h c)
        q (bytes_eq name q) refl) i;
  }
    where
      one : (t : Bool) (f : List ℕ → ℕ) (x : ℕ) → x ≡ cond t version (f name) → (q : List ℕ) (b : Bool) →
          bytes_eq name q ≡ b → cond b x (f q) ≡ cond (b && t) version (f q)
      one t f x e q true s = e ∙ ap (λ p. cond t version (f p)) (bytes_eq-true name q s)
      one t f x e q false s = refl

  -- a new key
  pub renewed : (version : ℕ) → w.latest ≡ version → w.key ≡ version →
      ((c : Counted) → cell_of (Some w) c ≡ cond (is_hits c) (cell_of (marks_at m.names.entries name) c) 0) →
      marks_value n ≡ with_new_key name version (marks_value m)
  unfolding marks_value with_new_key
  renewed version l k h = λ i. record {
    latest = λ q. (part latest_of q ∙ ap (λ x. cond (bytes_eq name q) x (old latest_of q)) l) i;
    key = λ q. (part key_of q ∙ ap (λ x. cond (bytes_eq name q) x (old key_of q)) k) i;
    cell = λ q c. (part (λ o. cell_of o c) q ∙ one (is_hits c) (old (λ o. cell_of o c)) (cell_of (Some w) c) (h c) q
        (bytes_eq name q) refl) i;
  }
    where
      one : (t : Bool) (f : List ℕ → ℕ) (x : ℕ) → x ≡ cond t (f name) 0 → (q : List ℕ) (b : Bool) →
          bytes_eq name q ≡ b → cond b x (f q) ≡ cond (b && not t) 0 (f q)
      one true f x e q true s = e ∙ ap f (bytes_eq-true name q s)
      one false f x e q true s = e
      one t f x e q false s = refl

-- what the marks are once w was written through what they lent at the name
abbrev pub Lent : BTreeMap (List ℕ) NameMarks → (NameMarks → BTreeMap (List ℕ) NameMarks) → List ℕ → Type 0
Lent m lend name = (w : NameMarks) → WritesThrough (slice_cmp nat_cmp) (slice_cmp nat_cmp name) m w (lend w)

pub lent_at : (m : BTreeMap (List ℕ) NameMarks) (lend : NameMarks → BTreeMap (List ℕ) NameMarks) (name : List ℕ)
    (p w : NameMarks) → Lent m lend name → marks_at m.entries name ≡ Some p → (q : List ℕ) →
    marks_at (lend w).entries q ≡ cond (is_at (slice_cmp nat_cmp name) q) (Some w) (marks_at m.entries q)
lent_at m lend name p w lent here = ((lent w).3 (subst (λ (o : Option NameMarks). IsSome o) (sym here) refl)).0

-- the marks after w was written through what they lent at a name
module _ (m : Marks) (lend : NameMarks → BTreeMap (List ℕ) NameMarks) (name : List ℕ) (p w : NameMarks)
    (lent : Lent m.names lend name) (here : marks_at m.names.entries name ≡ Some p) where
  pub lent_same : w.latest ≡ p.latest → w.key ≡ p.key → ((c : Counted) → cell_of (Some w) c ≡ cell_of (Some p) c) →
      marks_value (record { names = lend w }) ≡ marks_value m
  lent_same l k h = same_marks m (record { names = lend w }) name w (lent_at m.names lend name p w lent here)
      (l ∙ ap (λ (o : Option NameMarks). latest_of o) (sym here))
      (k ∙ ap (λ (o : Option NameMarks). key_of o) (sym here))
      (λ c. h c ∙ ap (λ (o : Option NameMarks). cell_of o c) (sym here))

  -- two marks more
  pub lent_marked : (one other : Option Counted) (version : ℕ) → w.latest ≡ version → w.key ≡ p.key →
      ((c : Counted) → cell_of (Some w) c ≡ cond (is_of other c) version
      (cond (is_of one c) version (cell_of (Some p) c))) → marks_value (record { names = lend w }) ≡ with_mark name
      false other version (with_mark name false one version (marks_value m))
  unfolding marks_value with_mark
  lent_marked one other version l k h = λ i. record {
    latest = λ q. (part m (record { names = lend w }) name w at latest_of q ∙
        twice (bytes_eq name q) (latest_of (marks_at m.names.entries q))) i;
    key = λ q. (part m (record { names = lend w }) name w at key_of q ∙ key (bytes_eq name q) q refl) i;
    cell = λ q c. (part m (record { names = lend w }) name w at (λ o. cell_of o c) q ∙ cell c (bytes_eq name q) q refl)
        i;
  }
    where
      at : (q : List ℕ) → marks_at (lend w).entries q ≡ cond (is_at (slice_cmp nat_cmp name) q) (Some w)
          (marks_at m.names.entries q)
      at = lent_at m.names lend name p w lent here

      twice : (b : Bool) (x : ℕ) → cond b w.latest x ≡ cond b version (cond b version x)
      twice true x = l
      twice false x = refl

      there : {A : Type 0} (f : Option NameMarks → A) (q : List ℕ) → bytes_eq name q ≡ true →
          f (Some p) ≡ f (marks_at m.names.entries q)
      there f q e = ap f (sym here) ∙ ap (λ n. f (marks_at m.names.entries n)) (bytes_eq-true name q e)

      key : (b : Bool) (q : List ℕ) → bytes_eq name q ≡ b → cond b w.key (key_of (marks_at m.names.entries q)) ≡ cond
          (b && false) version (cond (b && false) version (key_of (marks_at m.names.entries q)))
      key true q e = k ∙ there key_of q e
      key false q e = refl

      cell : (c : Counted) (b : Bool) (q : List ℕ) → bytes_eq name q ≡ b →
          cond b (cell_of (Some w) c) (cell_of (marks_at m.names.entries q) c) ≡ cond (b && is_of other c) version
          (cond (b && is_of one c) version (cell_of (marks_at m.names.entries q) c))
      cell c true q e = h c ∙ ap (λ x. cond (is_of other c) version (cond (is_of one c) version x))
          (there (λ o. cell_of o c) q e)
      cell c false q e = refl

-- ---- what changed has a mark

pub record HasMark (marks : Marks) (name : List ℕ) (c : Counted) : Type 0 where
  pub of_name : NameMarks
  pub at : marks_at marks.names.entries name ≡ Some of_name
  pub mark : ℕ
  pub here : cell_in of_name c ≡ Some mark
  pub change : (last_changes (marks_value marks)).cell name c ≡ cell_change (is_hits c) mark of_name.key

pub changed_has_mark : (marks : Marks) (name : List ℕ) (c : Counted) →
    (last_changes (marks_value marks)).cell name c ≢ 0 → HasMark marks name c
unfolding last_changes marks_value
changed_has_mark marks name c some = by_name (marks_at marks.names.entries name) refl
  where
    nothing : (hits : Bool) (key : ℕ) → cell_change hits 0 key ≡ 0
    nothing true key = refl
    nothing false key = refl

    by_cell : (nm : NameMarks) → marks_at marks.names.entries name ≡ Some nm → (o : Option ℕ) → cell_in nm c ≡ o →
        HasMark marks name c
    by_cell nm e None f = absurd (some ((λ i. cell_change (is_hits c) (cell_of (e i) c) (key_of (e i))) ∙
        ap (λ (o : Option ℕ). cell_change (is_hits c) (unwrap_or o 0) nm.key) f ∙ nothing (is_hits c) nm.key))
    by_cell nm e (Some mark) f = record {
      of_name = nm;
      at = e;
      mark = mark;
      here = f;
      change = (λ i. cell_change (is_hits c) (cell_of (e i) c) (key_of (e i))) ∙
          ap (λ (o : Option ℕ). cell_change (is_hits c) (unwrap_or o 0) nm.key) f;
    }

    by_name : (o : Option NameMarks) → marks_at marks.names.entries name ≡ o → HasMark marks name c
    by_name None e = absurd (some ((λ i. cell_change (is_hits c) (cell_of (e i) c) (key_of (e i))) ∙
        nothing (is_hits c) 0))
    by_name (Some nm) e = by_cell nm e (cell_in nm c) refl
