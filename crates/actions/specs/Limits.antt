-- The limits on action texts and names.
use Rattle.std.specs.Prelude.{ℕ}

-- the most bytes of an action text, as it is given
abbrev pub max_text : ℕ
max_text = 1024

abbrev pub max_terms : ℕ
max_terms = 16

-- the most bytes of a setting text
abbrev pub max_setting : ℕ
max_setting = 65536

-- the most bytes of a name
abbrev pub max_name : ℕ
max_name = 128

-- a chance of all parts per million, which is certain
abbrev pub all_parts : ℕ
all_parts = 1000000

-- the parts per million of one per cent
abbrev pub parts_per_cent : ℕ
parts_per_cent = 10000
