-- What is recalled of a name where what stands below it is left out.
use Rattle.std.proofs.Common.{◌≡◌, ℕ, zero, suc, Bool, true, false, cond, List, [], ◌∷◌, take, drop, Some, refl, sym, ◌∙◌, ap}
use Rattle.std.proofs.lemmas.Cmp.{nat_list_cmp_total, tied_itself}
use Rattle.std.proofs.lemmas.List.Elements.{All-head, All-tail}
use Rattle.std.specs.List.{All, AllByRecursion}
use Rattle.std.specs.Str.{bytes_eq}
use Rattle.std.specs.Ordering.{nat_cmp}
use Rattle.std.specs.Cmp.Lexicographic.{bytes_decides, slice_cmp}
use Rattle.std.specs.declared.cmp.Ordering.TheVariants.{Less, Equal}
use Rattle.sharing.specs.declared.remembered.Remembered.{Remembered}
use Rattle.sharing.specs.Memory.{Recalled, recall}
use Rattle.sharing.specs.Remembered.{recalled, recalled_all}

-- a name below another is another
pub other_name : (a b : List ℕ) → slice_cmp nat_cmp a b ≡ Less → bytes_eq a b ≡ false
other_name a b low = by (bytes_eq a b) refl
  where
    by : (t : Bool) → bytes_eq a b ≡ t → bytes_eq a b ≡ false
    by true e =
        let same : a ≡ b = (bytes_decides a b).0 e in
        let tied : slice_cmp nat_cmp a b ≡ Equal =
        ap (slice_cmp nat_cmp a) (sym same) ∙ tied_itself nat_list_cmp_total a in
        let no : Equal ≡ Less = sym tied ∙ low in
        absurd cc
    by false e = e

pub below_both : (a b c : List ℕ) → slice_cmp nat_cmp a b ≡ Less → slice_cmp nat_cmp b c ≡ Less → bytes_eq a c ≡ false
below_both a b c h k = other_name a c (nat_list_cmp_total.trans a b c h k)

-- what is left out are other names
pub recall_from : (place : ℕ) (kept : List Remembered) (name other : List ℕ)
    → All (λ (k : Remembered). slice_cmp nat_cmp k.name name ≡ Less) (take place kept)
    → ((a : List ℕ) → slice_cmp nat_cmp a name ≡ Less → bytes_eq a other ≡ false)
    → recall (recalled_all (drop place kept)) other ≡ recall (recalled_all kept) other
recall_from zero kept name other low apart = refl
recall_from (suc n) [] name other low apart = refl
recall_from (suc n) (k ∷ ks) name other low apart =
    let P : Remembered → Type 0 = λ r. slice_cmp nat_cmp r.name name ≡ Less in
    recall_from n ks name other (All-tail P k (take n ks) low) apart
    ∙ ap (λ b. cond b (Some (recalled k)) (recall (recalled_all ks) other))
    (sym (apart k.name (All-head P k (take n ks) low)))

-- of each of these names what the rest of the memory has is what the memory has
abbrev pub RecallsAll : List Recalled → List Recalled → List (List ℕ) → Type 0
RecallsAll rest memory names = AllByRecursion (λ name. recall rest name ≡ recall memory name) names

pub recalls_itself : (memory : List Recalled) (names : List (List ℕ)) → RecallsAll memory memory names
recalls_itself memory [] = tt
recalls_itself memory (name ∷ names) = (refl, recalls_itself memory names)

-- and so where what stands below a name is left out that is below each of these
pub recalls_later : (less rest memory : List Recalled) (name : List ℕ) (names : List (List ℕ))
    → ((other : List ℕ) → slice_cmp nat_cmp name other ≡ Less → recall less other ≡ recall rest other)
    → AllByRecursion (λ other. slice_cmp nat_cmp name other ≡ Less) names
    → RecallsAll rest memory names → RecallsAll less memory names
recalls_later less rest memory name [] above low h = tt
recalls_later less rest memory name (other ∷ others) above low h =
    (above other low.0 ∙ h.0, recalls_later less rest memory name others above low.1 h.1)
