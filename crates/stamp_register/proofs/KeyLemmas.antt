-- Keys by their places in the order, which is total.
use Rattle.std.proofs.Common.{◌≡◌, ℕ, List, [], ◌∷◌, true, false, Option, Some, None, refl, sym, ◌∙◌, ap}
use Rattle.std.proofs.lemmas.Bool.{true≢false}
use Rattle.std.proofs.lemmas.Slice.Eq.{bytes_eq-Decides}
use Rattle.std.proofs.lemmas.Map.Text.{is_eq-slice_cmp}
use Rattle.std.proofs.lemmas.Cmp.{nat_list_cmp_total, upto}
use Rattle.std.specs.Ordering.{nat_cmp, ordering_then, is_le, is_eq, is_gt, ordering_reverse}
use Rattle.std.specs.Cmp.Lexicographic.{slice_cmp}
use Rattle.std.specs.declared.cmp.Ordering.{Ordering}
use Rattle.std.specs.declared.cmp.Ordering.TheVariants.{Less, Equal, Greater}
use Rattle.stamp_register.specs.Keys.{KeyValue, key_rank, body_rank, key_le, same_key}

same_body : (a b : Option (List ℕ)) → body_rank a ≡ body_rank b → a ≡ b
same_body None None h = refl
same_body None (Some text) h = absurd (let impossible : ◌≡◌ {A = List ℕ} [] (1 ∷ text) = h in cc)
same_body (Some text) None h = absurd (let impossible : ◌≡◌ {A = List ℕ} (1 ∷ text) [] = h in cc)
same_body (Some text) (Some other) h = let texts : text ≡ other = cc in ap (λ t. Some t) texts

pub same_rank : (a b : KeyValue) → key_rank a ≡ key_rank b → a ≡ b
same_rank a b h =
    let clocks : a.clock ≡ b.clock = cc in
    let nodes : a.node ≡ b.node = cc in
    let bodies : body_rank a.body ≡ body_rank b.body = cc in
    let texts = same_body a.body b.body bodies in
    λ i. record { clock = clocks i; node = nodes i; body = texts i }

pub same_key-true : (a b : KeyValue) → same_key a b ≡ true → a ≡ b
same_key-true a b h = same_rank a b ((bytes_eq-Decides (key_rank a) (key_rank b)).0 h)

pub true-same_key : (a b : KeyValue) → a ≡ b → same_key a b ≡ true
true-same_key a b h = (bytes_eq-Decides (key_rank a) (key_rank b)).1 (ap key_rank h)

pub same_key-refl : (a : KeyValue) → same_key a a ≡ true
same_key-refl a = (bytes_eq-Decides (key_rank a) (key_rank a)).1 refl

-- a key stands as its ranks compare
pub same_key-cmp : (a b : KeyValue) → same_key a b ≡ is_eq (slice_cmp nat_cmp (key_rank a) (key_rank b))
same_key-cmp a b = sym (is_eq-slice_cmp (key_rank a) (key_rank b))

le_not_gt : (o : Ordering) → is_le o ≡ true → is_gt o ≡ false
le_not_gt Less h = refl
le_not_gt Equal h = refl
le_not_gt Greater h = absurd (true≢false (sym h))

not_gt_le : (o : Ordering) → is_gt o ≡ false → is_le o ≡ true
not_gt_le Less h = refl
not_gt_le Equal h = refl
not_gt_le Greater h = absurd (true≢false h)

both_le : (o p : Ordering) → o ≡ ordering_reverse p → is_le o ≡ true → is_le p ≡ true → is_eq o ≡ true
both_le Equal p e h k = refl
both_le Greater p e h k = absurd (true≢false (sym h))
both_le Less Less e h k = cc
both_le Less Equal e h k = cc
both_le Less Greater e h k = absurd (true≢false (sym k))

one_le : (o p : Ordering) → o ≡ ordering_reverse p → is_le o ≡ false → is_le p ≡ true
one_le Less p e h = absurd (true≢false h)
one_le Equal p e h = absurd (true≢false h)
one_le Greater Less e h = refl
one_le Greater Equal e h = refl
one_le Greater Greater e h = cc

pub key_le-refl : (a : KeyValue) → key_le a a ≡ true
key_le-refl a = at (slice_cmp nat_cmp (key_rank a) (key_rank a)) (sym (same_key-cmp a a) ∙ same_key-refl a)
  where
    at : (o : Ordering) → is_eq o ≡ true → is_le o ≡ true
    at Less h = refl
    at Equal h = refl
    at Greater h = absurd (true≢false (sym h))

pub key_le-trans : (a b c : KeyValue) → key_le a b ≡ true → key_le b c ≡ true → key_le a c ≡ true
key_le-trans a b c h k = not_gt_le _ (upto nat_list_cmp_total (key_rank a) (key_rank b) (key_rank c) (le_not_gt _ h)
    (le_not_gt _ k))

pub key_le-antisym : (a b : KeyValue) → key_le a b ≡ true → key_le b a ≡ true → a ≡ b
key_le-antisym a b h k = same_key-true a b (same_key-cmp a b ∙
    both_le _ _ (nat_list_cmp_total.antisymm (key_rank a) (key_rank b)) h k)

pub key_le-other : (a b : KeyValue) → key_le a b ≡ false → key_le b a ≡ true
key_le-other a b h = one_le _ _ (nat_list_cmp_total.antisymm (key_rank a) (key_rank b)) h

-- three answers of `cmp`, of which the first that isn't Equal decides
pub then_assoc : (a b c : Ordering) → ordering_then (ordering_then a b) c ≡ ordering_then a (ordering_then b c)
then_assoc Less b c = refl
then_assoc Equal b c = refl
then_assoc Greater b c = refl
