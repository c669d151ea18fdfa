-- Several reads, and several writes, in a row.
use Rattle.std.proofs.Common.{◌≡◌, ℕ, ◌+◌, ◌≤◌, List, ◌++◌, length, take, drop, Option, Some, None, sym, ap, ◌∙◌, append_assoc, take-append-drop, arith, length-append, length-take}
use Rattle.std.specs.Io.KnownBytes.{Appends, Consumes}
use Rattle.streams.specs.Streams.{GivesBefore, TakesUpTo}

-- two appends are one
pub Appends-then : (a b c : Option (List ℕ)) (xs ys : List ℕ) → Appends a b xs → Appends b c ys → Appends a c (xs ++ ys)
Appends-then None b c xs ys h k = tt
Appends-then (Some us) None c xs ys h k = absurd h
Appends-then (Some us) (Some vs) None xs ys h k = absurd k
Appends-then (Some us) (Some vs) (Some ws) xs ys h k = k ∙ ap (λ z. z ++ ys) h ∙ append_assoc us xs ys

-- two takes are one
pub Consumes-then : (a b c : Option (List ℕ)) (xs ys : List ℕ) → Consumes a b xs → Consumes b c ys →
    Consumes a c (xs ++ ys)
Consumes-then None b c xs ys h k = tt
Consumes-then (Some us) None c xs ys h k = absurd h
Consumes-then (Some us) (Some vs) None xs ys h k = absurd k
Consumes-then (Some us) (Some vs) (Some ws) xs ys h k = h ∙ ap (λ z. xs ++ z) k ∙ sym (append_assoc xs ys ws)

-- a write of the front of what is left
pub GivesBefore-then : (n : ℕ) (rest next text : List ℕ) (old mid new : Option (List ℕ)) →
    GivesBefore rest text old mid → Appends mid new (take n rest) → next ≡ drop n rest →
    GivesBefore next text old new
GivesBefore-then n rest next text old mid new h k e = (
  h.0 ++ take n rest,
  h.1 ∙ ap (λ z. h.0 ++ z) (sym (take-append-drop n rest)) ∙ sym (append_assoc h.0 (take n rest) (drop n rest)) ∙
      ap (λ z. (h.0 ++ take n rest) ++ z) (sym e),
  Appends-then old mid new h.0 (take n rest) h.2 k,
)

-- a read after others
pub TakesUpTo-then : (most n : ℕ) (old mid new : Option (List ℕ)) (taken chunk : List ℕ) →
    Consumes old mid taken → Consumes mid new (take n chunk) → length taken + n ≤ most →
    TakesUpTo most old new
TakesUpTo-then most n old mid new taken chunk h k fits = (
  taken ++ take n chunk,
  Consumes-then old mid new taken (take n chunk) h k,
  simp (length-append, length-take) (omega arith),
)
