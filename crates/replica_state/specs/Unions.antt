-- What two states know together.
use Rattle.std.specs.Prelude.{ℕ, ◌≤◌, max, Bool, ◌||◌, List, [], ◌∷◌, if◌then◌else◌, Option, Some, None}
use Rattle.std.specs.Ordering.{match_ordering}
use Rattle.std.specs.declared.cmp.Ordering.{Ordering}
use Rattle.std.specs.declared.cmp.Ordering.TheVariants.{Less, Equal}
use Rattle.stamp_register.specs.Keys.{KeyValue}
use Rattle.operations.specs.declared.counted.Counted.{Counted}
use Rattle.operations.specs.declared.counted.Counted.TheVariants.{Hits, Execs, Shifts}
use Rattle.replica_state.specs.States.{State, with_name}
use Rattle.replica_state.specs.Folds.{greater}
use Rattle.replica_state.specs.StateOrder.{AreCellsBelow}
use Rattle.replica_state.specs.Points.{Held, order_to_held}
use Rattle.operations.specs.Counts.{is_hits}

-- names more, each in its place
abbrev pub with_names : List (List ℕ) → List (List ℕ) → List (List ℕ)
with_names [] ns = ns
with_names (name ∷ names) ns = with_names names (with_name name ns)

-- how no key stands to a key or none that is held
abbrev pub no_key_order : Option KeyValue → Ordering
no_key_order None = Equal
no_key_order (Some held) = Less

-- how a key or none stands to one that is held; no key is below each
abbrev pub key_order : Option KeyValue → Option KeyValue → Ordering
key_order None held = no_key_order held
key_order (Some key) held = order_to_held key held

-- of a number that is held and another, what the greater key has, where the other's key stands so
-- to the one that is held
abbrev pub number_both : Ordering → ℕ → ℕ → ℕ
number_both order held other = match_ordering order held (max held other) other

-- the state that knows what either knows
unfoldable pub union_of : State → State → State
union_of v w =
    record {
      names = with_names w.names v.names;
      key = λ name. greater (v.key name) (w.key name);
      hits = λ name node. max (v.hits name node) (w.hits name node);
      execs = λ name term node. number_both (key_order (w.key name) (v.key name))
          (v.execs name term node) (w.execs name term node);
      shifts = λ name term from to. number_both (key_order (w.key name) (v.key name))
          (v.shifts name term from to) (w.shifts name term from to);
    }

-- the same of one name
abbrev pub numbers_both : Ordering → (Counted → ℕ) → (Counted → ℕ) → Counted → ℕ
numbers_both order f g (Hits node) = max (f (Hits node)) (g (Hits node))
numbers_both order f g (Execs term node) = number_both order (f (Execs term node)) (g (Execs term node))
numbers_both order f g (Shifts term from to) = number_both order (f (Shifts term from to)) (g (Shifts term from to))

unfoldable pub both_held : Held → Held → Held
both_held h g = record { key = greater h.key g.key; number = numbers_both (key_order g.key h.key) h.number g.number }

-- a number that counts beside another key: under the same one all do, and else hits
abbrev pub if_counts : Bool → Counted → ℕ → ℕ
if_counts same c number = if same || is_hits c then number else 0

-- what is held of one name knows no more than what is held elsewhere
pub record IsHeldBelow (h g : Held) : Type 0 where
  pub hits : (node : ℕ) → h.number (Hits node) ≤ g.number (Hits node)
  pub cells : AreCellsBelow h.key g.key
      (λ term node. h.number (Execs term node)) (λ term node. g.number (Execs term node))
      (λ term from to. h.number (Shifts term from to)) (λ term from to. g.number (Shifts term from to))
