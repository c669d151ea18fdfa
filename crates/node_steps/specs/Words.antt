-- The random draws of a node's generator: the words of ChaCha with 8 rounds, one after the other.
use Rattle.std.specs.Prelude.{ℕ, zero, suc, ◌+◌, List, [], ◌∷◌}
use Rattle.rand_chacha.specs.ChaCha.{ChaCha, word_at}

-- the word at a place of a stream
unfoldable pub word : List ℕ → ℕ → ℕ → ℕ
word key stream place = word_at 4 key stream place

-- the words of a stream from a place on, so many
abbrev pub words_from : List ℕ → ℕ → ℕ → ℕ → List ℕ
words_from key stream place zero = []
words_from key stream place (suc count) = word key stream place ∷ words_from key stream (place + 1) count

-- a generator's next words, so many, and the generator after them
abbrev pub words_next : ChaCha → ℕ → List ℕ
words_next g count = words_from g.key g.stream g.word_pos count

abbrev pub place_after : ChaCha → ℕ → ChaCha
place_after g count = record g { word_pos = g.word_pos + count }
