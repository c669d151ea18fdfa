-- What the plain replica holds of a name after it learned something.
use Rattle.std.proofs.Common.{◌≡◌, ℕ, ◌+◌, List, Option, Some, None, option_map, sym, ◌∙◌, ap}
use Rattle.std.specs.Prelude.{pos}
use Rattle.std.specs.Option.{option_map_or}
use Rattle.counters.specs.Budgets.{rights}
use Rattle.operations.specs.Operations.{count_of}
use Rattle.std.specs.declared.cmp.Ordering.TheVariants.{Less, Equal, Greater}
use Rattle.stamp_register.specs.Keys.{KeyValue, key_value}
use Rattle.stamp_register.specs.declared.key.Key.{Key}
use Rattle.operations.specs.declared.counted.Counted.{Counted}
use Rattle.operations.specs.declared.counted.Counted.TheVariants.{Hits}
use Rattle.operations.specs.declared.counted.Count.{Count}
use Rattle.op_set.specs.declared.point.Point.{Point}
use Rattle.replica_state.specs.Points.{order_to_held, raised_numbers, only_hits, held_after_learning, held_after_key, spending, held_after_pass, budget_in, budget_under}
use Rattle.replica_state.proofs.Learned.{held_none, held_less, held_equal, held_greater}
use Rattle.op_set.specs.Counts.{held_of, number_of}

-- what is held after an operation was learned, by how its key stands
module _ (p w : Point) (ko : Option KeyValue) (count : Option Count) where
  pub learned_none : ko ≡ None → w.key ≡ p.key → ((d : Counted) →
      number_of w.counts.items d ≡ raised_numbers count (number_of p.counts.items) d) →
      held_of w ≡ held_after_learning ko count (held_of p)
  unfolding held_of
  learned_none e k f = held_none (held_of p) (held_of w) ko count e (ap (λ (o : Option Key). option_map key_value o) k)
      f

  module _ (key : KeyValue) (e : ko ≡ Some key) where
    pub learned_less : order_to_held key (option_map key_value p.key) ≡ Less →
        held_of p ≡ held_after_learning ko count (held_of p)
    unfolding held_of
    learned_less s = held_less (held_of p) (held_of p) ko count key e s

    pub learned_equal : order_to_held key (option_map key_value p.key) ≡ Equal → w.key ≡ p.key →
        ((d : Counted) → number_of w.counts.items d ≡ raised_numbers count (number_of p.counts.items) d) →
        held_of w ≡ held_after_learning ko count (held_of p)
    unfolding held_of
    learned_equal s k f = held_equal (held_of p) (held_of w) ko count key e s
        (ap (λ (o : Option Key). option_map key_value o) k) f

    pub learned_greater : order_to_held key (option_map key_value p.key) ≡ Greater → (k : Key) → key_value k ≡ key →
        w.key ≡ Some k → ((d : Counted) → number_of w.counts.items d ≡ raised_numbers count
        (only_hits (number_of p.counts.items)) d) → held_of w ≡ held_after_learning ko count (held_of p)
    unfolding held_of
    learned_greater s k copy took f = held_greater (held_of p) (held_of w) ko count key e s
        (ap (λ (o : Option Key). option_map key_value o) took ∙ ap (λ (a : KeyValue). Some a) copy) f

-- a point that took a key
pub held_taken : (p w : Point) (key : Key) → w.key ≡ Some key →
    ((d : Counted) → number_of w.counts.items d ≡ only_hits (number_of p.counts.items) d) →
    held_of w ≡ held_after_key (key_value key) (held_of p)
unfolding held_of held_after_key
held_taken p w key k h = λ i. record { key = option_map key_value (k i); number = λ d. h d i }

-- a point with the same key and the same counts holds the same
pub same_held : (p w : Point) → w.key ≡ p.key → w.counts.items ≡ p.counts.items → held_of w ≡ held_of p
unfolding held_of
same_held p w k e = λ i. record { key = option_map key_value (k i); number = number_of (e i) }

-- two counts, one after the other
raised_twice : (f g : Counted → ℕ) (one : Count) → ((d : Counted) → g d ≡ raised_numbers (Some one) f d) →
    (o : Option Count) (d : Counted) → raised_numbers o g d ≡ raised_numbers o (raised_numbers (Some one) f) d
raised_twice f g one h None d = h d
raised_twice f g one h (Some c) d = ap (λ n. raised_numbers (Some c) (λ _. n) d) (h d)

pub passed_held : (p w : Point) (node : ℕ) (spent : Option ℕ) (hits : Count) (execs : Option Count)
    (room between : List Count) → room ≡ p.counts.items → w.key ≡ p.key →
    hits ≡ record { counted = Hits node; number = number_of p.counts.items (Hits node) + 1 } →
    execs ≡ spending node spent (held_of p) → ((d : Counted) →
    number_of between d ≡ raised_numbers (Some hits) (number_of room) d) →
    ((d : Counted) → number_of w.counts.items d ≡ raised_numbers execs (number_of between) d) →
    held_of w ≡ held_after_pass node spent (held_of p)
unfolding held_of held_after_pass
passed_held p w node spent hits execs room between er k eh ee one two =
    λ i. record { key = option_map key_value (k i); number = λ d. numbers d i }
  where
    numbers : (d : Counted) → number_of w.counts.items d ≡ raised_numbers (spending node spent (held_of p))
        (raised_numbers (Some (record { counted = Hits node; number = number_of p.counts.items (Hits node) + 1 }))
        (number_of p.counts.items)) d
    numbers d =
        two d ∙ raised_twice (number_of room) (number_of between) hits one execs d ∙
        ap (λ cs. raised_numbers execs (raised_numbers (Some hits) (number_of cs)) d) er ∙
        ap (λ (o : Option Count). raised_numbers o (raised_numbers (Some hits) (number_of p.counts.items)) d) ee ∙
        ap (λ (c : Count). raised_numbers (spending node spent (held_of p))
        (raised_numbers (Some c) (number_of p.counts.items)) d) eh

-- the rights that a key counts
pub rights_counted : (o : Option Key) (key : Key) (f : Counted → ℕ) (term node count : ℕ) → o ≡ Some key →
    Some count ≡ count_of (key_value key) term → rights (budget_in f term key.node count) node ≡ option_map_or
    (λ b. rights b node) (budget_under (option_map key_value o) f term) (pos 0)
rights_counted o key f term node count held counted =
    ap (λ (n : Option ℕ). option_map_or (λ b. rights b node) (option_map (λ m. budget_in f term key.node m) n) (pos 0))
    counted ∙
    ap (λ (k : Option Key). option_map_or (λ b. rights b node) (budget_under (option_map key_value k) f term) (pos 0))
    (sym held)
