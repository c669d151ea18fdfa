-- Which term of an action text is triggered.
use Rattle.std.specs.Prelude.{◌≡◌, ℕ, zero, suc, ◌*◌, ◌^◌, ◌<◌, Bool, true, false, ◌&&◌, ◌||◌, not, List, length, take, Option, Some, None, option_map, is_some, count_by, slice_get, slice_index, nat_lt, if◌then◌else◌, MatchOption}
use Rattle.actions.specs.Limits.{all_parts}
use Rattle.actions.specs.Value.{TermValue}

-- a term that isn't certain takes a word
abbrev pub takes_word : TermValue → Bool
takes_word t = nat_lt t.ppm all_parts

abbrev pub words_needed : List TermValue → ℕ
words_needed ts = count_by takes_word ts

-- the word of term k: each term below it that takes one has taken one
abbrev pub word_at : List TermValue → List ℕ → ℕ → ℕ
word_at ts words k = slice_index words (words_needed (take k ts))

-- a certain term passes, and another one where its word is below its share of the words
abbrev pub passes : TermValue → ℕ → Bool
passes t word = not (takes_word t) || nat_lt (word * all_parts) (t.ppm * 2 ^ 32)

-- it passes, and is uncounted or may run
abbrev pub can_trigger : TermValue → ℕ → Bool → Bool
can_trigger t word may = passes t word && (not (is_some t.count) || may)

abbrev pub triggers_by : Option TermValue → ℕ → Bool → Bool
triggers_by None word may = false
triggers_by (Some t) word may = can_trigger t word may

-- there is a term k, and it can trigger by its word
abbrev pub triggers : List TermValue → List ℕ → (ℕ → Bool) → ℕ → Bool
triggers ts words may k = triggers_by (slice_get ts k) (word_at ts words k) (may k)

-- the least number below a limit that passes a test
abbrev pub first_below : ℕ → (ℕ → Bool) → Option ℕ
first_below zero test = None
first_below (suc limit) test =
    if test 0 then Some 0 else option_map suc (first_below limit (λ k. test (suc k)))

-- the term that is triggered: the first that can, where `may` says which counted terms may run
unfoldable pub choice : List TermValue → List ℕ → (ℕ → Bool) → Option ℕ
choice ts words may = first_below (length ts) (triggers ts words may)

-- the chosen term can trigger and none before it can, or no term can
abbrev pub IsFirstTriggered : List TermValue → List ℕ → (ℕ → Bool) → Option ℕ → Type 0
IsFirstTriggered ts words may chosen = MatchOption chosen
    ((j : ℕ) → j < length ts → triggers ts words may j ≡ false)
    (λ k.
    (k < length ts)
    × (triggers ts words may k ≡ true)
    × ((j : ℕ) → j < k → triggers ts words may j ≡ false))
