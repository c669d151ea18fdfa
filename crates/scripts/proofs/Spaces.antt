-- What stands before the first space of a text.
use Rattle.std.proofs.Common.{◌≡◌, ℕ, ◌<◌, Bool, true, false, List, [], length, get_or, take, Option, Some, None, if◌then◌else◌, arith, ap, ◌∙◌, length-take, refl}
use Rattle.std.specs.List.{position_or_len}
use Rattle.std.proofs.lemmas.Bool.Decides.{nat_tests}
use Rattle.std.proofs.lemmas.List.{get_or-take}
use Rattle.std.proofs.lemmas.List.Sums.{position_or_len_is, fails_before_first}
use Rattle.streams.specs.Fields.{is_space, has_space, before_space, after_space, cut_of}

none_before : (text : List ℕ) (n i : ℕ) → n ≡ position_or_len is_space text → i < n →
    is_space (get_or (take n text) i 0) ≡ false
none_before text n i e h = ap is_space (get_or-take n text i 0 h) ∙ fails_before_first is_space text i 0 (omega arith)

-- it has no space
has_space-before_space : (text : List ℕ) → has_space text ≡ true → has_space (before_space text) ≡ false
has_space-before_space text h =
    let n = position_or_len is_space text in
    let fits : n < length text = grind (arith, nat_tests) in
    let long : length (take n text) ≡ n = simp length-take (omega arith) in
    let first : position_or_len is_space (take n text) ≡ n =
    position_or_len_is is_space (take n text) n 0 (omega arith) (λ i. none_before text n i refl)
    (λ k. absurd (omega arith)) in
    grind (arith, nat_tests)

abbrev front_of : Option (List ℕ × List ℕ) → List ℕ
front_of None = []
front_of (Some parts) = parts.0

has_space-front_at : (text front rest : List ℕ) (b : Bool) → has_space text ≡ b →
    ◌≡◌ {A = Option (List ℕ × List ℕ)} (Some (front, rest)) (if b then Some (before_space text, after_space text) else
    None) → has_space front ≡ false
has_space-front_at text front rest true h e =
    let same : front ≡ before_space text = ap front_of e in
    rw same (has_space-before_space text h)
has_space-front_at text front rest false h e = cc

pub has_space-front : (text front rest : List ℕ) → ◌≡◌ {A = Option (List ℕ × List ℕ)} (Some (front, rest))
    (cut_of text) → has_space front ≡ false
has_space-front text front rest e = has_space-front_at text front rest (has_space text) refl e
