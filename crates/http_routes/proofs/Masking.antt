-- One more byte of a block is masked.
use Rattle.std.proofs.Common.{◌≡◌, ℕ, ◌+◌, ◌<◌, List, [], ◌∷◌, ◌++◌, length, take, drop, get_or, set, map, ap, sym, refl, ◌∙◌, bit_xor, arith}
use Rattle.std.proofs.lemmas.Grind.{take-set_at, take_at_read}
use Rattle.std.proofs.lemmas.List.{map-append, get_or-drop}
use Rattle.http_routes.specs.Digests.{masked}

front_of : (zs : List ℕ) (i : ℕ) → get_or (drop i zs) 0 0 ≡ get_or zs i 0
front_of zs i = get_or-drop i zs 0 0 ∙ ap (λ n. get_or zs n 0) (omega arith)

same_there : (xs ys : List ℕ) (i : ℕ) → drop i xs ≡ drop i ys → get_or xs i 0 ≡ get_or ys i 0
same_there xs ys i same = sym (front_of xs i) ∙ (ap (λ zs. get_or zs 0 0) same ∙ front_of ys i)

pub one_more : (mask : ℕ) (xs ys : List ℕ) (i : ℕ) → i < length xs → i < length ys
    → take i xs ≡ masked mask (take i ys) → drop i xs ≡ drop i ys
    → take (i + 1) (set xs i (bit_xor (get_or xs i 0) mask)) ≡ masked mask (take (i + 1) ys)
one_more mask xs ys i in_xs in_ys before behind =
    take-set_at xs i (i + 1) _ refl in_xs ∙ (ap (λ zs. zs ++ (bit_xor (get_or xs i 0) mask ∷ [])) before
    ∙ (ap (λ y. masked mask (take i ys) ++ (bit_xor y mask ∷ [])) (same_there xs ys i behind)
    ∙ (sym (map-append (λ byte. bit_xor byte mask) (take i ys) (get_or ys i 0 ∷ []))
    ∙ sym (ap (masked mask) (take_at_read ys i 0 in_ys).1))))
