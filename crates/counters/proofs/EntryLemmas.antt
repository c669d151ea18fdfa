-- What a look-up by node finds among the entries of a map.
use Rattle.std.specs.Prelude.{◌≡◌, ◌≢◌, ℕ, Bool, true, false, cond, Some, List, ◌∷◌}
use Rattle.std.specs.Ordering.{nat_cmp, is_eq}
use Rattle.std.specs.BTreeMap.{is_at}
use Rattle.std.proofs.Common.{ap}
use Rattle.std.proofs.lemmas.Cmp.{nat_cmp_total, tied_itself}
use Rattle.std.proofs.lemmas.Map.Lookups.{exact_unsigned}
use Rattle.lattice_laws.specs.Map.{stored_at}
use Rattle.lattice_laws.proofs.Entries.{is_eq-false}

-- a look-up of a node stops at that node alone
pub at_itself : (k : ℕ) → is_at (nat_cmp k) k ≡ true
at_itself k = ap is_eq (tied_itself nat_cmp_total k)

at_other : (q k : ℕ) → q ≢ k → is_at (nat_cmp q) k ≡ false
at_other q k ne = is_eq-false (nat_cmp q k) (λ e. ne (exact_unsigned q k e))

module _ {J : Type 0} where
  -- with an entry more there is its value at its node
  pub stored_at-head : (k : ℕ) (v : J) (rest : List (ℕ × J)) → stored_at nat_cmp ((k, v) ∷ rest) k ≡ Some v
  stored_at-head k v rest = ap (λ (t : Bool). cond t (Some v) (stored_at nat_cmp rest k)) (at_itself k)

  -- and at the others what there is without it
  pub stored_at-tail : (k : ℕ) (v : J) (rest : List (ℕ × J)) (q : ℕ) → q ≢ k →
      stored_at nat_cmp ((k, v) ∷ rest) q ≡ stored_at nat_cmp rest q
  stored_at-tail k v rest q ne = ap (λ (t : Bool). cond t (Some v) (stored_at nat_cmp rest q)) (at_other q k ne)
