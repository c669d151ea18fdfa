-- Dropping the spaces at both ends.
use Rattle.std.proofs.Common.{◌≡◌, ◌≢◌, ℕ, zero, suc, ◌-◌, List, [], ◌∷◌, ◌++◌, length, take, drop, replicate, append_assoc, Option, Some, None, refl, sym, ap, ◌∙◌, arith, inl, inr}
use Rattle.std.specs.Prelude.{IfSome}
use Rattle.std.specs.Str.Pattern.{FindsCharPrefix, FindsCharSuffix, CutsPrefixes, CutsSuffixes, IsTrimStartMatches, IsTrimEndMatches}
use Rattle.std.proofs.lemmas.Bool.{cases_eq, eq-eqb, ne_eqb}
use Rattle.std.proofs.lemmas.List.{take-append-drop, drop_all, append-nil}
use lib.Utf8.{encode}
use Rattle.actions.specs.Bytes.{onto_kept, without_end, space}
use Rattle.actions.specs.Reading.{front_trimmed_text, trimmed_text}

-- ---- at the front

pub front_same : (s : List ℕ) (ns : List ℕ) (r : List ℕ) → CutsPrefixes (FindsCharPrefix space) s ns r
    → front_trimmed_text s ≡ front_trimmed_text r
unfolding encode
front_same s [] r h = ap front_trimmed_text (sym h)
front_same s (n ∷ ns) r h =
    let m = h.0 in
    let whole : m ≡ space ∷ drop n m = h.2.split in
    front_same s ns m h.1 ∙ ap front_trimmed_text whole ∙ ap front_trimmed_text (sym h.3)

pub front_kept : (r : List ℕ) → ((rest : List ℕ) → r ≢ space ∷ rest) → front_trimmed_text r ≡ r
front_kept [] h = refl
front_kept (b ∷ bs) h = rw (ne_eqb b space (λ e. h bs (ap (λ (c : ℕ). c ∷ bs) e))) refl

front_left : (r : List ℕ) (o : Option ℕ) → FindsCharPrefix space r o → IfSome o (λ n. n ≡ 0) → (rest : List ℕ)
    → r ≢ space ∷ rest
unfolding encode
front_left r None h z = h
front_left r (Some n) h z = λ rest e. omega (arith, h.ends, z)

pub front_is : (s r : List ℕ) → IsTrimStartMatches (FindsCharPrefix space) s r → front_trimmed_text s ≡ r
front_is s r h = front_same s h.0.0 r h.0.1 ∙ front_kept r (front_left r h.1.0 h.1.1 h.1.2)

-- ---- at the end

end_one : (c : ℕ) (r : List ℕ) → without_end c (r ++ c ∷ []) ≡ without_end c r
end_one c [] = rw (eq-eqb c c refl) refl
end_one c (b ∷ bs) = ap (onto_kept c b) (end_one c bs)

end_same : (s : List ℕ) (ns : List ℕ) (r : List ℕ) → CutsSuffixes (FindsCharSuffix space) s ns r
    → without_end space s ≡ without_end space r
unfolding encode
end_same s [] r h = ap (without_end space) (sym h)
end_same s (n ∷ ns) r h =
    let m = h.0 in
    let last : drop (length m - n) m ≡ space ∷ [] =
    h.2.1.split ∙ ap (λ (x : List ℕ). space ∷ x) (drop_all (length m) m (omega arith)) in
    let whole : m ≡ r ++ space ∷ [] =
    sym (take-append-drop (length m - n) m) ∙ ap (λ (x : List ℕ). take (length m - n) m ++ x) last
    ∙ ap (λ (x : List ℕ). x ++ space ∷ []) (sym h.3) in
    end_same s ns m h.1 ∙ ap (without_end space) whole ∙ end_one space r

kept_more : (c b x : ℕ) (xs ys : List ℕ) → ys ≡ x ∷ xs → onto_kept c b ys ≡ b ∷ x ∷ xs
kept_more c b x xs ys e = rw e refl

pub end_kept : (c : ℕ) (r : List ℕ) → ((front : List ℕ) → r ≢ front ++ c ∷ []) → without_end c r ≡ r
end_kept c [] h = refl
end_kept c (b ∷ []) h = rw (ne_eqb b c (λ e. h [] (ap (λ (x : ℕ). x ∷ []) e))) refl
end_kept c (b ∷ x ∷ xs) h =
    kept_more c b x xs (without_end c (x ∷ xs))
    (end_kept c (x ∷ xs) (λ front e. h (b ∷ front) (ap (λ (y : List ℕ). b ∷ y) e)))

end_left : (r : List ℕ) (o : Option ℕ) → FindsCharSuffix space r o → IfSome o (λ n. n ≡ 0) → (front : List ℕ)
    → r ≢ front ++ space ∷ []
unfolding encode
end_left r None h z = h
end_left r (Some n) h z = λ front e. omega (arith, h.0, z)

pub end_is : (s r : List ℕ) → IsTrimEndMatches (FindsCharSuffix space) s r → without_end space s ≡ r
end_is s r h = end_same s h.0.0 r h.0.1 ∙ end_kept space r (end_left r h.1.0 h.1.1 h.1.2)

pub trimmed_is : (s m r : List ℕ) → IsTrimStartMatches (FindsCharPrefix space) s m
    → IsTrimEndMatches (FindsCharSuffix space) m r → r ≡ trimmed_text s
unfolding trimmed_text
trimmed_is s m r h k = sym (ap (without_end space) (front_is s m h) ∙ end_is m r k)

-- ---- what trimming leaves out

front_parts : (s : List ℕ) → (n : ℕ) × (s ≡ replicate n space ++ front_trimmed_text s)
front_parts [] = (0, refl)
front_parts (b ∷ bs) =
    elim (cases_eq b space) [
      | inl e ↦ let r = front_parts bs in
          (suc r.0, rw (eq-eqb b space e) (ap (λ (c : ℕ). c ∷ bs) e ∙ ap (λ (x : List ℕ). space ∷ x) r.1))
      | inr ne ↦ (0, rw (ne_eqb b space ne) refl)
    ]

kept_parts : (c b : ℕ) (kept : List ℕ) (n : ℕ)
    → (m : ℕ) × (b ∷ (kept ++ replicate n c) ≡ onto_kept c b kept ++ replicate m c)
kept_parts c b [] n =
    elim (cases_eq b c) [
      | inl e ↦ (suc n, rw (eq-eqb b c e) (ap (λ (x : ℕ). x ∷ replicate n c) e))
      | inr ne ↦ (n, rw (ne_eqb b c ne) refl)
    ]
kept_parts c b (x ∷ xs) n = (n, refl)

pub end_parts : (c : ℕ) (s : List ℕ) → (n : ℕ) × (s ≡ without_end c s ++ replicate n c)
end_parts c [] = (0, refl)
end_parts c (b ∷ bs) =
    let r =
    end_parts c bs in let k = kept_parts c b (without_end c bs) r.0 in (k.0, ap (λ (x : List ℕ). b ∷ x) r.1 ∙ k.1)

-- a text is spaces, what trimming leaves, and spaces
pub trimmed_parts : (s : List ℕ) → (m : ℕ) × (n : ℕ) × (s ≡ replicate m space ++ (trimmed_text s ++ replicate n space))
unfolding trimmed_text
trimmed_parts s =
    let a =
    front_parts s in let b = end_parts space (front_trimmed_text s) in
    (a.0, b.0, a.1 ∙ ap (λ (x : List ℕ). replicate a.0 space ++ x) b.1)

-- ---- what trimming leaves of a text between spaces

front_dropped : (n : ℕ) (s : List ℕ) → front_trimmed_text (replicate n space ++ s) ≡ front_trimmed_text s
front_dropped zero s = refl
front_dropped (suc n) s = front_dropped n s

pub end_dropped : (c : ℕ) (s : List ℕ) (n : ℕ) → without_end c (s ++ replicate n c) ≡ without_end c s
end_dropped c s zero = ap (without_end c) (append-nil s)
end_dropped c s (suc n) =
    ap (without_end c) (sym (append_assoc s (c ∷ []) (replicate n c))) ∙ end_dropped c (s ++ c ∷ []) n ∙ end_one c s

pub trimmed_between : (m n : ℕ) (s : List ℕ) → ((rest : List ℕ) → s ++ replicate n space ≢ space ∷ rest)
    → ((front : List ℕ) → s ≢ front ++ space ∷ []) → trimmed_text (replicate m space ++ (s ++ replicate n space)) ≡ s
unfolding trimmed_text
trimmed_between m n s begins ends =
    ap (without_end space) (front_dropped m (s ++ replicate n space) ∙ front_kept (s ++ replicate n space) begins)
    ∙ end_dropped space s n ∙ end_kept space s ends
