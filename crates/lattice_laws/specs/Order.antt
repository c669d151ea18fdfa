-- What the order of a lattice says of its values. `admitted` holds of the values that the type has.
use Rattle.std.specs.Prelude.{◌↔◌, Result, Ok, Err, OnOk}

-- x and y mean the same
abbrev pub Same : {J : Type 0} → (J → J → Type 0) → J → J → Type 0
Same order x y = order x y × order y x

module _ {J : Type 0} (admitted : J → Type 0) (order : J → J → Type 0) where
  -- x, y and j are values, and j means the least value above both x and y
  pub record IsJoin (x y j : J) : Type 0 where
    pub admitted_first : admitted x
    pub admitted_second : admitted y
    pub admitted_join : admitted j
    pub above_first : order x j
    pub above_second : order y j
    pub least : (u : J) → admitted u → order x u → order y u → order j u

  -- x and y are values that mean the same
  pub record IsCopy (x y : J) : Type 0 where
    pub admitted_source : admitted x
    pub admitted_copy : admitted y
    pub above : order x y
    pub below : order y x

  -- the order is one on meanings, and the bottom is below all
  pub record IsJoinOrder (bottom : J) : Type 0 where
    pub reflexive : (x : J) → admitted x → order x x
    pub transitive : (x y z : J) → admitted x → admitted y → admitted z → order x y → order y z → order x z
    pub bottom_admitted : admitted bottom
    pub bottom_least : (x : J) → admitted x → order bottom x

  -- a value joined with itself means the same
  abbrev pub IsIdempotent : Type 0
  IsIdempotent = (x j : J) → IsJoin x x j → Same order j x

  -- the order of two values does not matter
  abbrev pub IsCommutative : Type 0
  IsCommutative = (x y j k : J) → IsJoin x y j → IsJoin y x k → Same order j k

  -- nor does the grouping of three
  abbrev pub IsAssociative : Type 0
  IsAssociative =
      (x y z xy yz left right : J) → IsJoin x y xy → IsJoin xy z left → IsJoin y z yz → IsJoin x yz right
      → Same order left right

  -- a join is below exactly the values that are above both
  abbrev pub IsLeastAbove : Type 0
  IsLeastAbove = (x y j u : J) → IsJoin x y j → admitted u → ((order j u) ↔ (order x u × order y u))

-- the order of a part, by which a value that is known by that part alone is ordered
pub order_through : {J M : Type 0} {admitted : J → Type 0} {order : J → J → Type 0} (part : M → J) (bottom : M)
    → IsJoinOrder admitted order (part bottom)
    → IsJoinOrder (λ m. admitted (part m)) (λ m n. order (part m) (part n)) bottom
order_through part bottom laws = record {
  reflexive = λ x a. laws.reflexive (part x) a;
  transitive = λ x y z a b c p q. laws.transitive (part x) (part y) (part z) a b c p q;
  bottom_admitted = laws.bottom_admitted;
  bottom_least = λ x a. laws.bottom_least (part x) a;
}

-- and whose joins are those of the part
pub join_through : {J M : Type 0} {admitted : J → Type 0} {order : J → J → Type 0} (part : M → J) (x y j : M)
    → IsJoin admitted order (part x) (part y) (part j)
    → IsJoin (λ m. admitted (part m)) (λ m n. order (part m) (part n)) x y j
join_through part x y j join = record {
  admitted_first = join.admitted_first;
  admitted_second = join.admitted_second;
  admitted_join = join.admitted_join;
  above_first = join.above_first;
  above_second = join.above_second;
  least = λ u a l m. join.least (part u) a l m;
}

-- the same of a join that may have been refused
pub may_join_through : {J M A E : Type 0} (admitted : J → Type 0) (order : J → J → Type 0) (part : M → J) (x y j : M)
    (r : Result A E)
    → OnOk r (IsJoin admitted order (part x) (part y) (part j))
    → OnOk r (IsJoin (λ m. admitted (part m)) (λ m n. order (part m) (part n)) x y j)
may_join_through admitted order part x y j (Ok v) join = join_through part x y j join
may_join_through admitted order part x y j (Err e) join = tt

-- two joins of the same values mean the same
pub join_unique : {J : Type 0} {admitted : J → Type 0} {order : J → J → Type 0} {x y j k : J}
    → IsJoin admitted order x y j → IsJoin admitted order x y k → Same order j k
join_unique {j = j} {k = k} first second = (
  first.least k second.admitted_join second.above_first second.above_second,
  second.least j first.admitted_join first.above_first first.above_second,
)
