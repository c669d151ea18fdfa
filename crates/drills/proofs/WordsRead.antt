-- A list of words, read one by one.
use Rattle.std.proofs.Common.{◌≡◌, ℕ, ◌+◌, ◌<◌, ◌≤◌, List, [], ◌∷◌, ◌++◌, length, get_or, drop, Option, Some, None, sym, ap, ◌∙◌, append_assoc, append-nil, refl}
use Rattle.std.specs.Option.{option_map}
use Rattle.std.proofs.lemmas.List.{at_drop_more, at_drop_all}
use Rattle.serde_json.specs.declared.value.Value.{Value}
use Rattle.serde_json.specs.View.{items_view, view}
use Rattle.streams.specs.Lines.{◌>>=◌}
use Rattle.drills.specs.Reading.{word_in, words_from}

-- the words of values
abbrev pub words_of : List Value → Option (List ℕ)
words_of values = words_from (items_view values)

-- a word in front of others
onto : ℕ → Option (List ℕ) → Option (List ℕ)
onto word words = words >>= (λ more. Some (word ∷ more))

-- a value, and those after it
words_of-drop : (values : List Value) (n : ℕ) (value : Value) → n < length values → value ≡ get_or values n value
    → words_of (drop n values) ≡ (word_in (view value) >>= (λ word. onto word (words_of (drop (n + 1) values))))
unfolding onto
words_of-drop values n value h e =
    at_drop_more words_of values n value h ∙ ap (λ v. word_in (view v) >>=
    (λ word. onto word (words_of (drop (n + 1) values)))) (sym e)

option_map-onto : (items : List ℕ) (word : ℕ) (o : Option (List ℕ))
    → option_map (λ more. items ++ more) (onto word o) ≡ option_map (λ more. (items ++ word ∷ []) ++ more) o
unfolding onto
option_map-onto items word None = refl
option_map-onto items word (Some more) = ap (λ z. Some z) (sym (append_assoc items (word ∷ []) more))

-- before the first
pub at_first : (items : List ℕ) (o : Option (List ℕ)) → items ≡ [] → option_map (λ more. items ++ more) o ≡ o
at_first items None e = refl
at_first items (Some more) e = ap (λ xs. Some (xs ++ more)) e

-- a value that is no word
pub none_from : (values : List Value) (n : ℕ) (value : Value) (items : List ℕ) → n < length values →
    value ≡ get_or values n value
    → option_map (λ more. items ++ more) (words_of (drop n values)) ≡ words_of values → word_in (view value) ≡ None →
    None ≡ words_of values
none_from values n value items h e so_far bad =
    let next_one = words_of-drop values n value h e in
    rw (next_one, bad) at so_far

-- a value that is one
pub one_more : (values : List Value) (n word : ℕ) (value : Value) (items longer : List ℕ) → n < length values →
    value ≡ get_or values n value
    → option_map (λ more. items ++ more) (words_of (drop n values)) ≡ words_of values →
    word_in (view value) ≡ Some word → longer ≡ items ++ word ∷ []
    → option_map (λ more. longer ++ more) (words_of (drop (n + 1) values)) ≡ words_of values
one_more values n word value items longer h e so_far good grown =
    let next_one = words_of-drop values n value h e in
    let before = rw (next_one, good) at so_far in
    rw grown (sym (option_map-onto items word (words_of (drop (n + 1) values))) ∙ before)

-- after the last
pub all_words : (values : List Value) (n : ℕ) (items : List ℕ) → length values ≤ n
    → option_map (λ more. items ++ more) (words_of (drop n values)) ≡ words_of values → Some items ≡ words_of values
all_words values n items last so_far =
    ap (λ z. Some z) (sym (append-nil items)) ∙ ap (option_map (λ more. items ++ more))
    (sym (at_drop_all words_of values n last)) ∙ so_far
