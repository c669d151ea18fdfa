-- Parts that are written one after the other.
use Rattle.std.proofs.Common.{◌≡◌, ℕ, ◌+◌, ◌<◌, ◌≤◌, false, List, length, set, get_or, Option, sym, ◌∙◌, subst, arith, inl, inr}
use Rattle.std.proofs.lemmas.Bool.Decides.{eqb_tells}
use Rattle.std.proofs.lemmas.List.{get_or-set_same, get_or-set_other, get_or_default}
use Rattle.streams.specs.Streams.{Writes}
use Rattle.streams.specs.Watched.{has_unflushed}
use Rattle.streams.specs.declared.watched.Watched.{Watched}
use Rattle.packed_trace.specs.Packed.{Packed}
use Rattle.drills.specs.Parts.{part_text}
use Rattle.drill_files.specs.Kept.{KeepsPart, head_at}

-- the parts of the first nodes were written, and that of the next one is
pub one_more : {D : Type 0} (kept : D → Option (List ℕ)) (nodes cap : ℕ) (traces : List Packed)
    (old now : List (Watched D)) (n : ℕ) (x file : Watched D) (trace : Packed) → n < length now → n < length traces →
    trace ≡ get_or traces n trace →
    ((i : ℕ) → i < n → KeepsPart kept nodes cap traces old now i) →
    ((i : ℕ) (w : Watched D) → n ≤ i → get_or now i w ≡ get_or old i w) →
    Writes kept (get_or now n x) file (part_text (head_at nodes cap n) trace.calls) →
    has_unflushed file ≡ false → (i : ℕ) → i < n + 1 →
    KeepsPart kept nodes cap traces old (set now n file) i
one_more {D = D} kept nodes cap traces old now n x file trace inside within its below rest writes flushed i less w t =
    elim (eqb_tells n i) [
      | inl e ↦
          let from : get_or now n x ≡ get_or old n w = get_or_default now n x w inside ∙ rest n w (omega arith) in
          let to : get_or (set now n file) n w ≡ file = get_or-set_same now n file w inside in
          let of : trace ≡ get_or traces n t = its ∙ get_or_default traces n trace t within in
          let said : (x : Packed) → Watched D → Watched D → Type 0 =
          λ y a b. Writes kept a b (part_text (head_at nodes cap n) y.calls) × (has_unflushed b ≡ false) in
          let here : said (get_or traces n t) (get_or old n w) (get_or (set now n file) n w) =
          subst (λ a. said (get_or traces n t) a (get_or (set now n file) n w)) from
          (subst (λ b. said (get_or traces n t) (get_or now n x) b) (sym to)
          (subst (λ y. said y (get_or now n x) file) of (writes, flushed))) in
          subst (λ k. Writes kept (get_or old k w) (get_or (set now n file) k w)
          (part_text (head_at nodes cap k) (get_or traces k t).calls)
          × (has_unflushed (get_or (set now n file) k w) ≡ false)) e.1 here
      | inr e ↦
          let there : get_or (set now n file) i w ≡ get_or now i w = get_or-set_other now n i file w (λ same. e.1 (sym same)) in
          subst (λ b. Writes kept (get_or old i w) b (part_text (head_at nodes cap i) (get_or traces i t).calls)
          × (has_unflushed b ≡ false)) (sym there) (below i (omega (arith, less, e.1)) w t)
    ]

-- the writers behind it are as they were
pub rest_more : {D : Type 0} (old now : List (Watched D)) (n : ℕ) (file : Watched D) →
    ((i : ℕ) (w : Watched D) → n ≤ i → get_or now i w ≡ get_or old i w) → (i : ℕ) (w : Watched D) → n + 1 ≤ i →
    get_or (set now n file) i w ≡ get_or old i w
rest_more old now n file rest i w past =
    get_or-set_other now n i file w (λ same. omega (arith, past, same)) ∙ rest i w (omega (arith, past))
