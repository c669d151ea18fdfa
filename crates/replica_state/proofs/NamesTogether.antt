-- How many names two replicas hold together: those of both, less those that both hold.
use Rattle.std.proofs.Common.{◌≡◌, ℕ, ◌+◌, Bool, true, false, cond, List, [], ◌∷◌, length, inl, inr, ⊎_elim, refl, sym, ◌∙◌, ap, subst, arith}
use Rattle.std.proofs.lemmas.Bool.{true≢false}
use Rattle.std.specs.Map.{keys_of}
use Rattle.std.specs.Ordering.{nat_cmp}
use Rattle.std.specs.Cmp.Lexicographic.{slice_cmp}
use Rattle.operations.specs.Operations.{IsIn}
use Rattle.replica_state.specs.States.{with_name}
use Rattle.replica_state.specs.Unions.{with_names}
use Rattle.replica_state.proofs.Names.{IsAscending, with_name-cases, with_name-old, with_name-ascending, same_ascending}
use Rattle.operations.proofs.Order.{never_less}
use Rattle.replica_state.proofs.Slots.{name_added, stored_name, name_missing}
use Rattle.lattice_laws.specs.Map.{stored_at}
use Rattle.std.specs.Prelude.{is_some, Option, Some, None}

-- how many names pass a test
pub shared : (List ℕ → Bool) → List (List ℕ) → ℕ
shared p [] = 0
shared p (k ∷ ks) = cond (p k) (shared p ks + 1) (shared p ks)

pub shared-found : (p : List ℕ → Bool) (k : List ℕ) (ks : List (List ℕ)) → p k ≡ true →
    shared p (k ∷ ks) ≡ shared p ks + 1
unfolding shared
shared-found p k ks e = ap (λ b. cond b (shared p ks + 1) (shared p ks)) e

pub shared-missing : (p : List ℕ → Bool) (k : List ℕ) (ks : List (List ℕ)) → p k ≡ false →
    shared p (k ∷ ks) ≡ shared p ks
unfolding shared
shared-missing p k ks e = ap (λ b. cond b (shared p ks + 1) (shared p ks)) e

pub shared-none : (p : List ℕ → Bool) → shared p [] ≡ 0
unfolding shared
shared-none p = refl

-- a name that is there adds none
pub name_there : (name : List ℕ) (ns : List (List ℕ)) → IsAscending ns → IsIn name ns → with_name name ns ≡ ns
name_there name ns up here = same_ascending (with_name name ns) ns (with_name-ascending name ns up) up
    (λ q h. ⊎_elim (λ e. subst (λ n. IsIn n ns) (sym e) here) (λ k. k) (with_name-cases name q ns h))
    (λ q h. with_name-old name q ns h)

-- of names of another list, the test says which are there
pub record Tells (p : List ℕ → Bool) (ks ns : List (List ℕ)) : Type 0 where
  pub there : (q : List ℕ) → IsIn q ks → p q ≡ true → IsIn q ns
  pub missing : (q : List ℕ) → IsIn q ks → p q ≡ false → IsIn q ns → ⊥

pub names_together : (p : List ℕ → Bool) (ks ns : List (List ℕ)) → IsAscending ks → IsAscending ns → Tells p ks ns →
    length ns + length ks ≡ length (with_names ks ns) + shared p ks
unfolding shared
names_together p [] ns low up tells = refl
names_together p (k ∷ ks) ns low up tells = by_test (p k) refl (names_together p ks ns low.1 up rest)
    (names_together p ks (with_name k ns) low.1 (with_name-ascending k ns up) rest_with)
  where
    later : (q : List ℕ) → IsIn q ks → q ≡ k → ⊥
    later q h e = never_less k (ap (λ r. slice_cmp nat_cmp k r) (sym e) ∙ low.0 q h)

    rest : Tells p ks ns
    rest = record { there = λ q h. tells.there q (inr h); missing = λ q h. tells.missing q (inr h) }

    rest_with : Tells p ks (with_name k ns)
    rest_with = record {
      there = λ q h e. with_name-old k q ns (tells.there q (inr h) e);
      missing = λ q h e m. ⊎_elim (λ s. later q h s) (λ n. tells.missing q (inr h) e n) (with_name-cases k q ns m);
    }

    by_test : (b : Bool) → p k ≡ b → length ns + length ks ≡ length (with_names ks ns) + shared p ks →
        length (with_name k ns) + length ks ≡ length (with_names ks (with_name k ns)) + shared p ks →
        length ns + length (k ∷ ks) ≡ length (with_names ks (with_name k ns)) + cond b (shared p ks + 1) (shared p ks)
    by_test true e same more =
        let kept : length (with_names ks (with_name k ns)) ≡ length (with_names ks ns) =
        ap (λ (m : List (List ℕ)). length (with_names ks m)) (name_there k ns up (tells.there k (inl refl) e)) in
        omega (arith, same, kept)
    by_test false e same more =
        let longer = name_added ns k (tells.missing k (inl refl) e) in
        omega (arith, longer, more)

-- whether a map has a value at a name tells whether it is there
pub stored_tells : {X : Type 0} (entries : List (List ℕ × X)) (ks : List (List ℕ)) →
    Tells (λ q. is_some (stored_at (slice_cmp nat_cmp) entries q)) ks (keys_of entries)
stored_tells {X} entries ks = record {
  there = λ q h e. stored_name entries q e;
  missing = λ q h e. name_missing entries q (no_value (stored_at (slice_cmp nat_cmp) entries q) e);
}
  where
    no_value : (o : Option X) → is_some o ≡ false → o ≡ None
    no_value None e = refl
    no_value (Some value) e = absurd (true≢false e)
