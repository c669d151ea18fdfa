-- What follows from the order for joins, and what means a join.
use Rattle.std.specs.Prelude.{Result, Ok, Err, IfOk}
use Rattle.lattice_laws.specs.Order.{IsCopy, IsJoin, IsJoinOrder, Same}

module _ {J : Type 0} {admitted : J → Type 0} {order : J → J → Type 0} {bottom : J}
    (laws : IsJoinOrder admitted order bottom) where
  -- the order is passed on
  through : {x y z : J} → admitted x → admitted y → admitted z → order x y → order y z → order x z
  through {x} {y} {z} a b c p q = laws.transitive x y z a b c p q

  pub join-assoc : (x y z xy yz left right : J) → IsJoin admitted order x y xy → IsJoin admitted order xy z left
      → IsJoin admitted order y z yz → IsJoin admitted order x yz right → Same order left right
  join-assoc x y z xy yz left right first_two outer last_two other =
      let la = outer.admitted_join in
      let ra = other.admitted_join in (
        outer.least right ra
            (first_two.least right ra other.above_first (through last_two.admitted_first last_two.admitted_join ra
            last_two.above_first other.above_second))
            (through last_two.admitted_second last_two.admitted_join ra last_two.above_second other.above_second),
        other.least left la
            (through first_two.admitted_first first_two.admitted_join la first_two.above_first outer.above_first)
            (last_two.least left la (through first_two.admitted_second first_two.admitted_join la first_two.above_second
            outer.above_first) outer.above_second),
      )

  -- where x is below y, a copy of y joins them
  pub copy_joins_second : (x y k : J) → admitted x → order x y → IsCopy admitted order y k → IsJoin admitted order x y k
  copy_joins_second x y k a p copy = record {
    admitted_first = a;
    admitted_second = copy.admitted_source;
    admitted_join = copy.admitted_copy;
    above_first = through a copy.admitted_source copy.admitted_copy p copy.above;
    above_second = copy.above;
    least = λ u d l m. through copy.admitted_copy copy.admitted_source d copy.below m;
  }

  -- where y is below x, a copy of x joins them
  pub copy_joins_first : (x y k : J) → admitted y → order y x → IsCopy admitted order x k → IsJoin admitted order x y k
  copy_joins_first x y k b p copy = record {
    admitted_first = copy.admitted_source;
    admitted_second = b;
    admitted_join = copy.admitted_copy;
    above_first = copy.above;
    above_second = through b copy.admitted_source copy.admitted_copy p copy.above;
    least = λ u d l m. through copy.admitted_copy copy.admitted_source d copy.below l;
  }

  -- the same of copies that may have failed
  pub may_join_second : {E : Type 0} (x y : J) (r : Result J E) → admitted x → order x y →
      IfOk r (IsCopy admitted order y) → IfOk r (IsJoin admitted order x y)
  may_join_second x y (Ok k) a p copy = copy_joins_second x y k a p copy
  may_join_second x y (Err e) a p copy = tt

  pub may_join_first : {E : Type 0} (x y : J) (r : Result J E) → admitted y → order y x →
      IfOk r (IsCopy admitted order x) → IfOk r (IsJoin admitted order x y)
  may_join_first x y (Ok k) b p copy = copy_joins_first x y k b p copy
  may_join_first x y (Err e) b p copy = tt

  -- a value is a copy of itself
  pub copy_of_itself : (x : J) → admitted x → IsCopy admitted order x x
  copy_of_itself x a = record {
    admitted_source = a;
    admitted_copy = a;
    above = laws.reflexive x a;
    below =
        laws.reflexive x a;
  }

  -- what joins a value with a copy joins it with the source
  pub join_with_copy : (x y k j : J) → IsCopy admitted order y k → IsJoin admitted order x k j →
      IsJoin admitted order x y j
  join_with_copy x y k j copy join = record {
    admitted_first = join.admitted_first;
    admitted_second = copy.admitted_source;
    admitted_join = join.admitted_join;
    above_first = join.above_first;
    above_second = through copy.admitted_source copy.admitted_copy join.admitted_join copy.above join.above_second;
    least = λ u d l m. join.least u d l (through copy.admitted_copy copy.admitted_source d copy.below m);
  }

  -- a value joined with the bottom is a copy of it, and with a copy of another the join of both
  pub copy_from_bottom : (x j : J) → IsJoin admitted order bottom x j → IsCopy admitted order x j
  copy_from_bottom x j join = record {
    admitted_source = join.admitted_second;
    admitted_copy = join.admitted_join;
    above = join.above_second;
    below = join.least x join.admitted_second (laws.bottom_least x join.admitted_second)
        (laws.reflexive x join.admitted_second);
  }

  pub join_from_copy : (x k y j : J) → IsCopy admitted order x k → IsJoin admitted order k y j →
      IsJoin admitted order x y j
  join_from_copy x k y j copy join = record {
    admitted_first = copy.admitted_source;
    admitted_second = join.admitted_second;
    admitted_join = join.admitted_join;
    above_first = through copy.admitted_source copy.admitted_copy join.admitted_join copy.above join.above_first;
    above_second = join.above_second;
    least = λ u d l m. join.least u d (through copy.admitted_copy copy.admitted_source d copy.below l) m;
  }

-- what joins a value with the bottom joins it with all that is below
pub join_with_below : {J : Type 0} {admitted : J → Type 0} {order : J → J → Type 0} {bottom : J}
    → IsJoinOrder admitted order bottom → (x y j : J) → admitted y → order y x → IsJoin admitted order x bottom j
    → IsJoin admitted order x y j
join_with_below laws x y j a below join = record {
  admitted_first = join.admitted_first;
  admitted_second = a;
  admitted_join = join.admitted_join;
  above_first = join.above_first;
  above_second = laws.transitive y x j a join.admitted_first join.admitted_join below join.above_first;
  least = λ u b l m. join.least u b l (laws.bottom_least u b);
}

-- the order of two values does not matter
pub join_swapped : {J : Type 0} {admitted : J → Type 0} {order : J → J → Type 0} {x y j : J} →
    IsJoin admitted order x y j → IsJoin admitted order y x j
join_swapped join = record {
  admitted_first = join.admitted_second;
  admitted_second = join.admitted_first;
  admitted_join = join.admitted_join;
  above_first = join.above_second;
  above_second = join.above_first;
  least = λ u a l m. join.least u a m l;
}
