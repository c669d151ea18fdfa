-- What is counted of one name, what is held of it, and what becomes of that with an operation more.
use Rattle.std.specs.Prelude.{◌≡◌, ℕ, ◌+◌, max, if◌then◌else◌, Option, Some, None, option_map, ℤ, pos}
use Rattle.std.specs.Option.{option_map_or}
use Rattle.std.specs.Ordering.{nat_cmp, match_ordering}
use Rattle.std.specs.declared.cmp.Ordering.{Ordering}
use Rattle.std.specs.declared.cmp.Ordering.TheVariants.{Greater}
use Rattle.std.specs.Cmp.Lexicographic.{slice_cmp}
use Rattle.stamp_register.specs.Keys.{KeyValue, key_rank}
use Rattle.counters.specs.Budgets.{Budget, rights, total_spent}
use Rattle.operations.specs.Operations.{count_of}
use Rattle.operations.specs.declared.counted.Counted.{Counted}
use Rattle.operations.specs.declared.counted.Counted.TheVariants.{Hits, Execs, Shifts}
use Rattle.operations.specs.declared.counted.Count.{Count}
use Rattle.operations.specs.Counts.{same_counted}
use Rattle.replica_state.specs.Folds.{greater}

-- the budget of a term in a name's numbers, if there is a key that counts it
abbrev pub budget_in : (Counted → ℕ) → ℕ → ℕ → ℕ → Budget
budget_in f term setter count =
    record {
      setter = setter;
      count = count;
      shifted = λ from to. f (Shifts term from to);
      spent = λ node. f (Execs term node);
    }

abbrev pub budget_under : Option KeyValue → (Counted → ℕ) → ℕ → Option Budget
budget_under None f term = None
budget_under (Some key) f term = option_map (λ count. budget_in f term key.node count) (count_of key term)

-- the rights of a node to a term under a key or none, and what all nodes spent; 0 where it isn't counted
abbrev pub rights_of_key : Option KeyValue → (Counted → ℕ) → ℕ → ℕ → ℤ
rights_of_key key f term node = option_map_or (λ b. rights b node) (budget_under key f term) (pos 0)

abbrev pub spent_of_key : Option KeyValue → (Counted → ℕ) → ℕ → ℕ
spent_of_key key f term = option_map_or total_spent (budget_under key f term) 0

-- a key or none, and the number of each thing that is counted
pub record Held : Type 0 where
  pub key : Option KeyValue
  pub number : Counted → ℕ

unfoldable pub empty_held : Held
empty_held = record { key = None; number = λ counted. 0 }

-- how a key stands to the one that is held
abbrev pub order_to_held : KeyValue → Option KeyValue → Ordering
order_to_held key None = Greater
order_to_held key (Some held) = slice_cmp nat_cmp (key_rank key) (key_rank held)

-- with a count more, or none
abbrev pub raised_numbers : Option Count → (Counted → ℕ) → Counted → ℕ
raised_numbers None f c = f c
raised_numbers (Some count) f c = if same_counted count.counted c then max count.number (f c) else f c

abbrev pub Raises : (Counted → ℕ) → (Counted → ℕ) → Option Count → Type 0
Raises f g count = (c : Counted) → g c ≡ raised_numbers count f c

-- under a new key: hits go on
abbrev pub only_hits : (Counted → ℕ) → Counted → ℕ
only_hits f (Hits node) = f (Hits node)
only_hits f (Execs term node) = 0
only_hits f (Shifts term from to) = 0

-- with what an operation says that has this key or none, and this count or none
abbrev pub number_after_learning : Option KeyValue → Option Count → Held → Counted → ℕ
number_after_learning None count h c = raised_numbers count h.number c
number_after_learning (Some key) count h c =
    match_ordering (order_to_held key h.key)
    (h.number c) (raised_numbers count h.number c) (raised_numbers count (only_hits h.number) c)

unfoldable pub held_after_learning : Option KeyValue → Option Count → Held → Held
held_after_learning key count h = record { key = greater key h.key; number = number_after_learning key count h }

-- with another key
unfoldable pub held_after_key : KeyValue → Held → Held
held_after_key key h = record { key = Some key; number = only_hits h.number }

-- with one hit more at a node and, where a term was triggered, one execution more of it there
abbrev pub spending : ℕ → Option ℕ → Held → Option Count
spending node None h = None
spending node (Some term) h = Some (record { counted = Execs term node; number = h.number (Execs term node) + 1 })

unfoldable pub held_after_pass : ℕ → Option ℕ → Held → Held
held_after_pass node spent h =
    record {
      key = h.key;
      number = raised_numbers (spending node spent h)
          (raised_numbers (Some (record { counted = Hits node; number = h.number (Hits node) + 1 })) h.number);
    }

-- with so much counted, under the same key
unfoldable pub held_after_count : Count → Held → Held
held_after_count count h = record { key = h.key; number = raised_numbers (Some count) h.number }

-- with so many rights to a term moved in all from one node to another
abbrev pub held_after_shift : ℕ → ℕ → ℕ → ℕ → Held → Held
held_after_shift term from to total = held_after_count (record { counted = Shifts term from to; number = total })
