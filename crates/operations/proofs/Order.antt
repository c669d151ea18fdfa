-- Names by their bytes: none is below itself.
use Rattle.std.proofs.Common.{◌≡◌, ℕ, List}
use Rattle.std.proofs.lemmas.Cmp.{nat_list_cmp_total, tied_itself}
use Rattle.std.specs.Ordering.{nat_cmp}
use Rattle.std.specs.Cmp.Lexicographic.{slice_cmp}
use Rattle.std.specs.declared.cmp.Ordering.TheVariants.{Less, Equal}

pub never_less : (a : List ℕ) → slice_cmp nat_cmp a a ≡ Less → ⊥
never_less a e = let same : slice_cmp nat_cmp a a ≡ Equal = tied_itself nat_list_cmp_total a in cc
