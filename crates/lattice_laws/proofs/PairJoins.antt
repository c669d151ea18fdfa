-- Joins of pairs.
use Rattle.lattice_laws.specs.Order.{IsJoin}
use Rattle.lattice_laws.specs.Pair.{AreBoth, PairOrder, pair_of}
use Rattle.lattice_laws.specs.declared.pair.PairOf.{PairOf}

-- the joins of both parts are the join
pub pair_join : {A B : Type 0} {admitted_a : A → Type 0} {order_a : A → A → Type 0} {admitted_b : B → Type 0}
    {order_b : B → B → Type 0} {x y : PairOf A B} {a : A} {b : B} → IsJoin admitted_a order_a x.first y.first a
    → IsJoin admitted_b order_b x.second y.second b
    → IsJoin (AreBoth admitted_a admitted_b) (PairOrder order_a order_b) x y (pair_of a b)
pair_join first second = record {
  admitted_first = (first.admitted_first, second.admitted_first);
  admitted_second = (first.admitted_second, second.admitted_second);
  admitted_join = (first.admitted_join, second.admitted_join);
  above_first = (first.above_first, second.above_first);
  above_second = (first.above_second, second.above_second);
  least = λ u h l m. (first.least u.first h.0 l.0 m.0, second.least u.second h.1 l.1 m.1);
}
