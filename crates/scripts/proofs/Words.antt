-- A list of numbers, read one by one.
use Rattle.std.proofs.Common.{◌≡◌, ℕ, ◌+◌, ◌<◌, List, [], ◌∷◌, ◌++◌, length, get_or, drop, Option, Some, None, sym, ap, ◌∙◌, append_assoc, append-nil, arith, refl}
use Rattle.std.specs.Option.{option_map}
use Rattle.std.proofs.lemmas.List.{at_drop_more, at_drop_all}
use Rattle.decimals.specs.Decimals.{word_of}
use Rattle.streams.specs.Lines.{◌>>=◌}
use Rattle.scripts.specs.Commands.{words_of}

-- a number in front of others
onto : ℕ → Option (List ℕ) → Option (List ℕ)
onto number numbers = numbers >>= (λ more. Some (number ∷ more))

-- a field, and those after it
words_of-drop : (fields : List (List ℕ)) (n : ℕ) (field : List ℕ) → n < length fields →
    field ≡ get_or fields n field →
    words_of (drop n fields) ≡ (word_of field >>= (λ number. onto number (words_of (drop (n + 1) fields))))
unfolding onto
words_of-drop fields n field h e =
    at_drop_more (words_of) fields n field h
    ∙ ap (λ f. word_of f >>= (λ number. onto number (words_of (drop (n + 1) fields)))) (sym e)

option_map-onto : (items : List ℕ) (number : ℕ) (o : Option (List ℕ)) →
    option_map (λ more. items ++ more) (onto number o) ≡ option_map (λ more. (items ++ number ∷ []) ++ more) o
unfolding onto
option_map-onto items number None = refl
option_map-onto items number (Some more) = ap (λ z. Some z) (sym (append_assoc items (number ∷ []) more))

-- a field that is no number
pub none_from_field : (fields : List (List ℕ)) (n : ℕ) (field items : List ℕ) → n < length fields →
    field ≡ get_or fields n field →
    option_map (λ more. items ++ more) (words_of (drop n fields)) ≡ words_of fields → word_of field ≡ None →
    None ≡ words_of fields
none_from_field fields n field items h e so_far bad =
    let next_one = words_of-drop fields n field h e in
    rw (next_one, bad) at so_far

-- a field that is one
pub one_more_number : (fields : List (List ℕ)) (n m number : ℕ) (field items longer : List ℕ) →
    n < length fields → field ≡ get_or fields n field →
    option_map (λ more. items ++ more) (words_of (drop n fields)) ≡ words_of fields →
    word_of field ≡ Some number → m ≡ n + 1 → longer ≡ items ++ number ∷ [] →
    option_map (λ more. longer ++ more) (words_of (drop m fields)) ≡ words_of fields
one_more_number fields n m number field items longer h e so_far good last grown =
    let next_one = words_of-drop fields n field h e in
    let before = rw (next_one, good) at so_far in
    rw (last, grown) (sym (option_map-onto items number (words_of (drop (n + 1) fields))) ∙ before)

-- after the last
pub all_numbers : (fields : List (List ℕ)) (n : ℕ) (items : List ℕ) → n ≡ length fields →
    option_map (λ more. items ++ more) (words_of (drop n fields)) ≡ words_of fields →
    Some items ≡ words_of fields
all_numbers fields n items last so_far =
    ap (λ z. Some z) (sym (append-nil items))
    ∙ ap (option_map (λ more. items ++ more)) (sym (at_drop_all (words_of) fields n (omega arith)))
    ∙ so_far
