use Rattle.std.proofs.Common.{◌≡◌, ℕ, ◌<◌, ◌==◌, ◌&&◌, Bool, true, false, cond, List, length, get_or, set, Option, Some, None, slice_get, refl, sym, ◌∙◌, ap, subst, rules, arith}
use Rattle.std.specs.Prelude.{nat_lt}
use Rattle.std.specs.Option.{unwrap_or}
use Rattle.std.proofs.lemmas.Bool.{true≢false, eqb-true, eq-eqb}
use Rattle.std.proofs.lemmas.Bool.Decides.{nat_tests}
use Rattle.std.proofs.lemmas.List.{get_or-set_same, get_or-set_other}
use Rattle.std.proofs.lemmas.Option.{unwrap_or-slice_get}
use Rattle.operations.specs.Counts.{same_counted}
use Rattle.operations.specs.declared.counted.Counted.{Counted}
use Rattle.operations.specs.declared.counted.Counted.TheVariants.{Hits, Execs, Shifts}
use Rattle.delta_exchange.specs.declared.pass_marks.PassMarks.{PassMarks}
use Rattle.delta_exchange.specs.PassMarks.{is_node, pass_mark, has_place}
use Rattle.delta_exchange.proofs.pass_marks.PassMarks.mark.Goals as goal

-- an element after one was written
after_set : (xs : List ℕ) (i j v : ℕ) → i < length xs →
    unwrap_or (slice_get (set xs i v) j) 0 ≡ cond (i == j) v (unwrap_or (slice_get xs j) 0)
after_set xs i j v below = unwrap_or-slice_get (set xs i v) j 0 ∙ by_test (i == j) refl ∙
    ap (λ n. cond (i == j) v n) (sym (unwrap_or-slice_get xs j 0))
  where
    by_test : (b : Bool) → (i == j) ≡ b → get_or (set xs i v) j 0 ≡ cond b v (get_or xs j 0)
    by_test true e = subst (λ k. get_or (set xs i v) k 0 ≡ v) (eqb-true i j e) (get_or-set_same xs i v 0 below)
    by_test false e = get_or-set_other xs i j v 0 (λ same. absurd (true≢false (sym (eq-eqb i j (sym same)) ∙ e)))

-- there is one node at most
one_node : (o : Option ℕ) (n m : ℕ) → is_node o n ≡ true → is_node o m ≡ true → (n == m) ≡ true
one_node None n m e f = absurd (true≢false (sym e))
one_node (Some own) n m e f = eq-eqb n m (sym (eqb-true own n e) ∙ eqb-true own m f)

-- the marks after that of an execution was written
module _ (p : PassMarks) (t n version : ℕ) (is : is_node p.node n ≡ true) (below : t < length p.execs) where
  exec_marked : (d : Counted) → pass_mark (record { node = p.node; hits = p.hits; execs = set p.execs t version }) d ≡
      cond (same_counted (Execs t n) d) version (pass_mark p d)
  exec_marked (Hits m) = refl
  exec_marked (Shifts s i j) = refl
  exec_marked (Execs s m) = ap (λ x. cond (is_node p.node m) x 0) (after_set p.execs t s version below) ∙
      by_test (t == s) (n == m) (is_node p.node m) refl refl
    where
      old : ℕ
      old = unwrap_or (slice_get p.execs s) 0

      by_test : (a b o : Bool) → (n == m) ≡ b → is_node p.node m ≡ o →
          cond o (cond a version old) 0 ≡ cond (a && b) version (cond o old 0)
      by_test true true true e f = refl
      by_test false true true e f = refl
      by_test a true false e f = absurd (true≢false
          (sym (subst (λ k. is_node p.node k ≡ true) (eqb-true n m e) is) ∙ f))
      by_test a false true e f = absurd (true≢false (sym (one_node p.node n m is f) ∙ e))
      by_test true false false e f = refl
      by_test false false false e f = refl

pub returns-in-Execs : goal.returns-in-Execs
returns-in-Execs c d =
    let p = c.args.self.now in
    let t = c.in-Execs.term in
    let n = c.in-Execs.node in
    let version = c.args.version in
    let few : length p.execs ≡ 16 = search rules in
    let low = c.if-term-lt-MAX_TERMS.true in
    let below : t < length p.execs = omega (arith, few, low) in
    let is : is_node p.node n ≡ true = sym c.if-is_of-2.ensures in
    let small : nat_lt t 16 ≡ true = grind (arith, nat_tests) in
    let place : has_place p (Execs t n) ≡ true = ap (λ b. b && nat_lt t 16) is ∙ small in
    ap (λ k. pass_mark (record { node = p.node; hits = p.hits; execs = set p.execs k version }) d) c.from.ensures ∙
    exec_marked p t n version is below d ∙
    ap (λ b. cond (b && same_counted (Execs t n) d) version (pass_mark p d)) (sym place) ∙
    ap (λ (k : Counted). cond (has_place p k && same_counted k d) version (pass_mark p d)) (sym c.in-Execs.is)
