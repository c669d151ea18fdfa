-- What the plain replica shows after what it holds of one name was written.
use Rattle.std.proofs.Common.{arith, ◌≡◌, ℕ, ◌+◌, Bool, true, false, cond, List, [], ◌∷◌, Option, Some, None, option_map, length, zero, suc, refl, sym, ◌∙◌, ap, subst}
use Rattle.std.specs.Str.{bytes_eq}
use Rattle.std.specs.Map.{keys_of}
use Rattle.std.specs.BTreeMap.{BTreeMap, WritesThrough, is_at, insert_entry}
use Rattle.std.specs.Option.{IsSome}
use Rattle.std.specs.Ordering.{nat_cmp, match_ordering, is_eq}
use Rattle.std.specs.declared.cmp.Ordering.{Ordering}
use Rattle.std.specs.declared.cmp.Ordering.TheVariants.{Less, Equal, Greater}
use Rattle.std.specs.Cmp.Lexicographic.{slice_cmp}
use Rattle.std.specs.List.{AllByRecursion}
use Rattle.std.specs.List.Sorted.{IsStrictlySortedBy}
use Rattle.std.proofs.lemmas.Map.Text.{is_eq-slice_cmp}
use Rattle.std.proofs.lemmas.Cmp.{nat_list_cmp_total}
use Rattle.std.proofs.lemmas.Map.{lookup-none}
use Rattle.std.proofs.lemmas.Map.Entries.{none_below_head, lookup_head, lookup_tail}
use Rattle.std.proofs.lemmas.Map.Keys.{sorted_tail}
use Rattle.counters.specs.Sums.{sum_below}
use Rattle.stamp_register.specs.Keys.{KeyValue, key_value}
use Rattle.operations.specs.declared.counted.Counted.{Counted}
use Rattle.operations.specs.declared.counted.Counted.TheVariants.{Hits, Execs, Shifts}
use Rattle.op_set.specs.declared.point.Point.{Point}
use Rattle.replica_state.specs.States.{State, with_name, with_key, with_hits, with_execs, with_shifts, with_pass, budget_of}
use Rattle.replica_state.specs.States as states
use Rattle.replica_state.specs.Folds.{fold}
use Rattle.replica_state.specs.Points.{Held, empty_held, budget_under}
use Rattle.replica_state.proofs.Shown.{with_held-same}
use Rattle.replica_state.proofs.Listed.{all_stored}
use Rattle.op_set.specs.Counts.{held_of, number_of}
use Rattle.op_set.specs.Shown.{shown, point_at, key_at, number_at}
use Rattle.replica_state.specs.Cells.{cell_of, held_at, with_held}
use Rattle.replica_state.specs.Stored.{stored_held}
use Rattle.std.specs.Borrow.{Bor}
use Rattle.std.specs.Option.{option_copied}

-- the names after an insertion
pub names_inserted : (es : List (List ℕ × Point)) (name : List ℕ) (w : Point) →
    keys_of (insert_entry (slice_cmp nat_cmp) es name w) ≡ with_name name (keys_of es)
names_inserted [] name w = refl
names_inserted (e ∷ es) name w = by_order (slice_cmp nat_cmp name e.0) (names_inserted es name w)
  where
    by_order : (o : Ordering) → keys_of (insert_entry (slice_cmp nat_cmp) es name w) ≡ with_name name (keys_of es) →
        keys_of (match_ordering o ((name, w) ∷ e ∷ es) ((e.0, w) ∷ es)
        (e ∷ insert_entry (slice_cmp nat_cmp) es name w)) ≡ match_ordering o (name ∷ e.0 ∷ keys_of es)
        (e.0 ∷ keys_of es) (e.0 ∷ with_name name (keys_of es))
    by_order Less rest = refl
    by_order Equal rest = refl
    by_order Greater rest = ap (λ ns. e.0 ∷ ns) rest

-- a name that is held adds none
pub names_kept : (es : List (List ℕ × Point)) (name : List ℕ) (p : Point) →
    IsStrictlySortedBy (slice_cmp nat_cmp) (keys_of es) → point_at es name ≡ Some p →
    with_name name (keys_of es) ≡ keys_of es
names_kept [] name p sorted here = cc
names_kept (e ∷ es) name p sorted here = by_order (slice_cmp nat_cmp name e.0) refl
    (names_kept es name p (sorted_tail (slice_cmp nat_cmp) e.0 (keys_of es) sorted))
  where
    by_order : (o : Ordering) → slice_cmp nat_cmp name e.0 ≡ o →
        (point_at es name ≡ Some p → with_name name (keys_of es) ≡ keys_of es) →
        match_ordering o (name ∷ e.0 ∷ keys_of es) (e.0 ∷ keys_of es) (e.0 ∷ with_name name (keys_of es)) ≡ e.0 ∷
        keys_of es
    by_order Less o rest = let gone : point_at (e ∷ es) name ≡ None =
        lookup-none (is_at (slice_cmp nat_cmp name)) (e ∷ es) (none_below_head nat_list_cmp_total name e es sorted o) in
        cc
    by_order Equal o rest = refl
    by_order Greater o rest = ap (λ ns. e.0 ∷ ns) (rest (sym
        (lookup_tail (is_at (slice_cmp nat_cmp name)) e es (ap is_eq o)) ∙ here))

-- a name that isn't held adds one
pub names_added : (es : List (List ℕ × Point)) (name : List ℕ) → point_at es name ≡ None →
    length (with_name name (keys_of es)) ≡ length (keys_of es) + 1
names_added [] name none = refl
names_added (e ∷ es) name none = by_order (slice_cmp nat_cmp name e.0) refl (names_added es name)
  where
    by_order : (o : Ordering) → slice_cmp nat_cmp name e.0 ≡ o →
        (point_at es name ≡ None → length (with_name name (keys_of es)) ≡ length (keys_of es) + 1) →
        length (match_ordering o (name ∷ e.0 ∷ keys_of es) (e.0 ∷ keys_of es) (e.0 ∷ with_name name (keys_of es))) ≡
        length (e.0 ∷ keys_of es) + 1
    by_order Less o rest = omega arith
    by_order Equal o rest = let some : point_at (e ∷ es) name ≡ Some e.1 =
        lookup_head (is_at (slice_cmp nat_cmp name)) e es (ap is_eq o) in cc
    by_order Greater o rest = let r = rest (sym (lookup_tail (is_at (slice_cmp nat_cmp name)) e es (ap is_eq o)) ∙
        none) in omega (arith, r)

-- a map in which a name holds another point
module _ (es fs : List (List ℕ × Point)) (name : List ℕ) (w : Point)
    (at : (q : List ℕ) → point_at fs q ≡ cond (is_at (slice_cmp nat_cmp name) q) (Some w) (point_at es q)) where
  part : {A : Type 0} (f : Option Point → A) (q : List ℕ) → f (point_at fs q) ≡ cond (bytes_eq name q) (f (Some w))
      (f (point_at es q))
  part {A} f q = ap f (at q ∙ ap (λ t. cond t (Some w) (point_at es q)) (is_eq-slice_cmp name q)) ∙
      by_test (bytes_eq name q)
    where
      by_test : (b : Bool) → f (cond b (Some w) (point_at es q)) ≡ cond b (f (Some w)) (f (point_at es q))
      by_test true = refl
      by_test false = refl

  pub written : keys_of fs ≡ with_name name (keys_of es) → shown fs ≡ with_held name (held_of w) (shown es)
  unfolding shown with_held held_of
  written k = λ i. record {
    names = k i;
    key = λ q. part key_at q i;
    hits = λ q n. part (λ o. number_at o (Hits n)) q i;
    execs = λ q t n. part (λ o. number_at o (Execs t n)) q i;
    shifts = λ q t m n. part (λ o. number_at o (Shifts t m n)) q i;
  }

-- what a name holds is what its point holds
pub held_seen : (es : List (List ℕ × Point)) (name : List ℕ) (p : Point) → point_at es name ≡ Some p →
    held_of p ≡ held_at (shown es) name
unfolding shown held_of
held_seen es name p here = λ i. record { key = keys i; number = λ d. numbers d i }
  where
    keys : key_at (Some p) ≡ key_at (point_at es name)
    keys = ap key_at (sym here)

    numbers : (d : Counted) → number_of p.counts.items d ≡ (held_at (shown es) name).number d
    numbers (Hits n) = ap (λ (o : Option Point). number_at o (Hits n)) (sym here)
    numbers (Execs t n) = ap (λ (o : Option Point). number_at o (Execs t n)) (sym here)
    numbers (Shifts t m n) = ap (λ (o : Option Point). number_at o (Shifts t m n)) (sym here)

pub nothing_seen : (es : List (List ℕ × Point)) (name : List ℕ) → point_at es name ≡ None →
    empty_held ≡ held_at (shown es) name
unfolding shown empty_held
nothing_seen es name none = λ i. record { key = keys i; number = λ d. numbers d i }
  where
    keys : key_at None ≡ key_at (point_at es name)
    keys = ap key_at (sym none)

    numbers : (d : Counted) → 0 ≡ (held_at (shown es) name).number d
    numbers (Hits n) = ap (λ (o : Option Point). number_at o (Hits n)) (sym none)
    numbers (Execs t n) = ap (λ (o : Option Point). number_at o (Execs t n)) (sym none)
    numbers (Shifts t m n) = ap (λ (o : Option Point). number_at o (Shifts t m n)) (sym none)

-- what a map is once w was written through what it lent at the name
abbrev pub Lent : BTreeMap (List ℕ) Point → (Point → BTreeMap (List ℕ) Point) → List ℕ → Type 0
Lent m lend name = (w : Point) → WritesThrough (slice_cmp nat_cmp) (slice_cmp nat_cmp name) m w (lend w)

module _ (m : BTreeMap (List ℕ) Point) (lend : Point → BTreeMap (List ℕ) Point) (name : List ℕ) (p w : Point)
    (lent : Lent m lend name) (sorted : IsStrictlySortedBy (slice_cmp nat_cmp) (keys_of m.entries))
    (here : point_at m.entries name ≡ Some p) where
  through : shown (lend w).entries ≡ with_held name (held_of w) (shown m.entries)
  through = written m.entries (lend w).entries name w (((lent w).3
      (subst (λ (o : Option Point). IsSome o) (sym here) refl)).0)
      ((lent w).1 ∙ sym (names_kept m.entries name p sorted here))

  pub lent_step : (f : Held → Held) → held_of w ≡ f (held_of p) →
      shown (lend w).entries ≡ with_held name (f (held_at (shown m.entries) name)) (shown m.entries)
  lent_step f e = through ∙ ap (λ (h : Held). with_held name h (shown m.entries))
      (e ∙ ap f (held_seen m.entries name p here))

  pub kept_step : held_of w ≡ held_of p → shown (lend w).entries ≡ shown m.entries
  unfolding shown
  kept_step e = lent_step (λ h. h) e ∙ with_held-same name (shown m.entries) (names_kept m.entries name p sorted here)

pub added_step : (m n : BTreeMap (List ℕ) Point) (name : List ℕ) (w : Point) →
    n.entries ≡ insert_entry (slice_cmp nat_cmp) m.entries name w →
    ((q : List ℕ) → point_at n.entries q ≡ cond (is_at (slice_cmp nat_cmp name) q) (Some w) (point_at m.entries q)) →
    point_at m.entries name ≡ None → (f : Held → Held) → held_of w ≡ f empty_held →
    shown n.entries ≡ with_held name (f (held_at (shown m.entries) name)) (shown m.entries)
added_step m n name w e at none f h = written m.entries n.entries name w at
    (ap (λ es. keys_of es) e ∙ names_inserted m.entries name w) ∙
    ap (λ (x : Held). with_held name x (shown m.entries)) (h ∙ ap f (nothing_seen m.entries name none))

-- the budgets of a name, in what its point holds
pub budget_seen : (es : List (List ℕ × Point)) (name : List ℕ) (term : ℕ) →
    budget_of (shown es) name term ≡ budget_under (key_at (point_at es name)) (number_at (point_at es name)) term
unfolding shown
budget_seen es name term = by_key (key_at (point_at es name))
  where
    by_key : (k : Option KeyValue) → states.budget_under (shown es) name term k ≡ budget_under k
        (number_at (point_at es name)) term
    by_key None = refl
    by_key (Some key) = refl

pub budget_held : (es : List (List ℕ × Point)) (name : List ℕ) (term : ℕ) (p : Point) → Some p ≡ point_at es name →
    budget_under (option_map key_value p.key) (number_of p.counts.items) term ≡ budget_of (shown es) name term
budget_held es name term p here = ap (λ (o : Option Point). budget_under (key_at o) (number_at o) term) here ∙
    sym (budget_seen es name term)

pub no_hits : (es : List (List ℕ × Point)) (name : List ℕ) → None ≡ point_at es name → (n : ℕ) →
    0 ≡ sum_below n (λ i. number_at (point_at es name) (Hits i))
no_hits es name none zero = refl
no_hits es name none (suc n) =
    let rest = no_hits es name none n in
    let here : 0 ≡ number_at (point_at es name) (Hits n) = ap (λ (o : Option Point). number_at o (Hits n)) none in
    omega arith

pub no_grants : (es : List (List ℕ × Point)) (name : List ℕ) (term : ℕ) → None ≡ point_at es name → (n : ℕ)
    → 0 ≡ sum_below n (λ i. number_at (point_at es name) (Shifts term i i))
no_grants es name term none zero = refl
no_grants es name term none (suc n) =
    let rest = no_grants es name term none n in
    let here : 0 ≡ number_at (point_at es name) (Shifts term n n) =
    ap (λ (o : Option Point). number_at o (Shifts term n n)) none in
    omega arith

pub shown_none : shown [] ≡ fold []
unfolding shown fold
shown_none = refl

numbers_shown : (points : List (List ℕ × Point)) (name : List ℕ) (o : Option Point) → o ≡ point_at points name →
    (c : Counted) → number_at o c ≡ cell_of (shown points) name c
unfolding shown
numbers_shown points name o e (Hits node) = ap (λ x. number_at x (Hits node)) e
numbers_shown points name o e (Execs term node) = ap (λ x. number_at x (Execs term node)) e
numbers_shown points name o e (Shifts term from to) = ap (λ x. number_at x (Shifts term from to)) e

-- what is kept of a name is what is shown of it
kept_at : (points : List (List ℕ × Point)) (name : List ℕ) (p : Point) → Some p ≡ point_at points name →
    held_of p ≡ held_at (shown points) name
unfolding shown held_of
kept_at points name p e = λ i. record { key = key_at (e i); number = λ c. numbers_shown points name (Some p) e c i }

pub kept_is_shown : (points : List (List ℕ × Point)) (name : List ℕ) (o : Option (Bor Point)) →
    option_copied o ≡ point_at points name → stored_held held_of o ≡ held_at (shown points) name
unfolding shown empty_held
kept_is_shown points name None e = λ i. record {
  key = key_at (e i);
  number =
      λ c. numbers_shown points name None e c i;
}
kept_is_shown points name (Some p) e = kept_at points name p.now e

-- of each point that is kept what it holds is what is shown of its name
pub points_listed : (points : List (List ℕ × Point)) → IsStrictlySortedBy (slice_cmp nat_cmp) (keys_of points) →
    AllByRecursion (λ e. held_of e.1 ≡ held_at (shown points) e.0) points
points_listed points sorted = each points (all_stored points sorted)
  where
    each : (xs : List (List ℕ × Point)) → AllByRecursion (λ e. point_at points e.0 ≡ Some e.1) xs →
        AllByRecursion (λ e. held_of e.1 ≡ held_at (shown points) e.0) xs
    each [] h = tt
    each (x ∷ xs) h = (kept_at points x.0 x.1 (sym h.0), each xs h.1)
