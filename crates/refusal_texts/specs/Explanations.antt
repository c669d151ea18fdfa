-- A table of entries, each of which explains the code that it begins with.
use Rattle.std.specs.Prelude.{ℕ, ◌==◌, List, [], ◌∷◌, Option, unwrap_or}
use Rattle.std.specs.List.{before_first, find, flat_map, slice_split}
use Rattle.std.specs.Str.{bytes_eq}
use Rattle.streams.specs.Fields.{before_space, fields_of, newline, output_line, space}

abbrev pub bar : ℕ
bar = 124

-- the entries of a table: what stands between its bars
abbrev pub entries_of : List ℕ → List (List ℕ)
entries_of table = slice_split (λ byte. byte == bar) table

-- the title of an entry: its first line
abbrev pub title_of : List ℕ → List ℕ
title_of entry = before_first (λ byte. byte == newline) entry

-- the code of an entry: the first word of its title
abbrev pub code_of : List ℕ → List ℕ
code_of entry = before_space (title_of entry)

-- the first entry of a code
abbrev pub entry_in : List ℕ → List ℕ → Option (List ℕ)
entry_in table code = find (λ entry. bytes_eq (code_of entry) code) (entries_of table)

-- what explains a word: the entry that it is the code of, or nothing
abbrev pub word_explained : List ℕ → List ℕ → List ℕ
word_explained table word = unwrap_or (entry_in table word) []

-- what explains a text: the entries of those of its words that are codes, in the order of the words
abbrev pub explained_text : List ℕ → List ℕ → List ℕ
explained_text table text = flat_map (word_explained table) (fields_of text)

-- each title, as a line
abbrev pub titles_text : List ℕ → List ℕ
titles_text table = flat_map (λ entry. output_line (title_of entry)) (entries_of table)

-- each code, behind a space
abbrev pub codes_text : List ℕ → List ℕ
codes_text table = flat_map (λ entry. space ∷ code_of entry) (entries_of table)
