-- A value under a key, or nothing: the greater key is above, and at equal keys the values decide.
use Rattle.std.specs.Prelude.{◌≡◌, Option, Some, None}
use Rattle.std.specs.declared.cmp.Ordering.{Ordering}
use Rattle.std.specs.declared.cmp.Ordering.TheVariants.{Less, Equal, Greater}
use Rattle.std.specs.Ordering.{MatchOrdering, ordering_reverse}
use Rattle.std.specs.Cmp.{IsTotalOrder}
use Rattle.std.proofs.Common.{ap, refl, sym, ◌∙◌, subst}
use Rattle.std.proofs.lemmas.Cmp.{tied_itself, alike_right}
use Rattle.lattice_laws.specs.Order.{IsJoinOrder, Same}

-- what an answer of `cmp` makes of the order of the values
abbrev pub ByKey : Ordering → Type 0 → Type 0
ByKey r P = MatchOrdering r (Unit {0}) P ⊥

module _ {S J : Type 0} where
  -- the value that is held is one
  abbrev pub HoldsOnly : (J → Type 0) → Option (S × J) → Type 0
  HoldsOnly admitted None = Unit {0}
  HoldsOnly admitted (Some p) = admitted p.1

  -- nothing is lowest; then the keys decide, and at equal keys the values
  abbrev pub LexOrder : (S → S → Ordering) → (J → J → Type 0) → Option (S × J) → Option (S × J) → Type 0
  LexOrder cmp order None q = Unit {0}
  LexOrder cmp order (Some p) None = ⊥
  LexOrder cmp order (Some p) (Some q) = ByKey (cmp p.0 q.0) (order p.1 q.1)

  -- a call was made on the value that old holds, and new holds under the same key what it left
  pub record ChangesHeld {R : Type 0} (call : J → R → J → Type 0) (old new : Option (S × J)) (answer : R)
      : Type 0 where
    pub key : S
    pub held : J
    pub left : J
    pub found : old ≡ Some (key, held)
    pub called : call held answer left
    pub put : new ≡ Some (key, left)

-- the same of an answer that is known
by_answer : (P : Type 0) {r s : Ordering} → r ≡ s → ByKey s P → ByKey r P
by_answer P same h = subst (λ (o : Ordering). ByKey o P) (sym same) h

module _ {S : Type 0} {cmp : S → S → Ordering} (total : IsTotalOrder cmp) where
  -- the order of three keys, by the answers at the first two pairs
  by_keys : (s t u : S) (P Q R : Type 0) (a b : Ordering) → cmp s t ≡ a → cmp t u ≡ b
      → (P → Q → R) → ByKey a P → ByKey b Q → ByKey (cmp s u) R
  by_keys s t u P Q R Less Less e f pass h k = by_answer R (total.trans s t u e f) tt
  by_keys s t u P Q R Less Equal e f pass h k = by_answer R (sym (alike_right total t u s f) ∙ e) tt
  by_keys s t u P Q R Less Greater e f pass h k = absurd k
  by_keys s t u P Q R Equal b e f pass h k = by_answer R (total.congr s t u e ∙ f) (equal_first b h k)
    where
      equal_first : (b : Ordering) → P → ByKey b Q → ByKey b R
      equal_first Less p q = tt
      equal_first Equal p q = pass p q
      equal_first Greater p q = absurd q
  by_keys s t u P Q R Greater b e f pass h k = absurd h

module _ {S J : Type 0} {cmp : S → S → Ordering} (total : IsTotalOrder cmp)
    (admitted : J → Type 0) (order : J → J → Type 0) where
  lex_reflexive : ((v : J) → admitted v → order v v)
      → (x : Option (S × J)) → HoldsOnly admitted x → LexOrder cmp order x x
  lex_reflexive h None a = tt
  lex_reflexive h (Some p) a = by_answer (order p.1 p.1) (tied_itself total p.0) (h p.1 a)

  lex_transitive : ((v w z : J) → admitted v → admitted w → admitted z → order v w → order w z → order v z)
      → (x y z : Option (S × J)) → HoldsOnly admitted x → HoldsOnly admitted y → HoldsOnly admitted z
      → LexOrder cmp order x y → LexOrder cmp order y z → LexOrder cmp order x z
  lex_transitive h None y z a b c l m = tt
  lex_transitive h (Some p) None z a b c l m = absurd l
  lex_transitive h (Some p) (Some q) None a b c l m = absurd m
  lex_transitive h (Some p) (Some q) (Some r) a b c l m =
      by_keys total p.0 q.0 r.0 (order p.1 q.1) (order q.1 r.1) (order p.1 r.1) (cmp p.0 q.0) (cmp q.0 r.0)
      refl refl (h p.1 q.1 r.1 a b c) l m

module _ {S J : Type 0} {cmp : S → S → Ordering} (total : IsTotalOrder cmp)
    {admitted : J → Type 0} {order : J → J → Type 0} {bottom : J} where
  -- values of a lattice under keys are a lattice
  pub lex_order : IsJoinOrder admitted order bottom
      → IsJoinOrder (HoldsOnly {S = S} admitted) (LexOrder cmp order) None
  lex_order laws = record {
    reflexive = lex_reflexive total admitted order laws.reflexive;
    transitive = lex_transitive total admitted order laws.transitive;
    bottom_admitted = tt;
    bottom_least = λ x a. tt;
  }

-- what means the same is held under equal keys, and the values mean the same
pub lex_same : {S J : Type 0} {cmp : S → S → Ordering} → IsTotalOrder cmp → (order : J → J → Type 0)
    → (p q : S × J) → Same (LexOrder cmp order) (Some p) (Some q)
    → (cmp p.0 q.0 ≡ Equal) × Same order p.1 q.1
lex_same {cmp = cmp} total order p q same =
    by_answers (cmp p.0 q.0) (cmp q.0 p.0) refl refl (total.antisymm p.0 q.0) same.0 same.1
  where
    by_answers : (r s : Ordering) → cmp p.0 q.0 ≡ r → cmp q.0 p.0 ≡ s → cmp p.0 q.0 ≡ ordering_reverse (cmp q.0 p.0)
        → ByKey r (order p.1 q.1) → ByKey s (order q.1 p.1) → (cmp p.0 q.0 ≡ Equal) × Same order p.1 q.1
    by_answers Equal Equal e f turned h k = (e, (h, k))
    by_answers Equal Less e f turned h k = cc
    by_answers Equal Greater e f turned h k = absurd k
    by_answers Less Less e f turned h k =
        let c : Less ≡ ordering_reverse Less = sym e ∙ turned ∙ ap ordering_reverse f in cc
    by_answers Less Equal e f turned h k =
        let c : Less ≡ ordering_reverse Equal = sym e ∙ turned ∙ ap ordering_reverse f in cc
    by_answers Less Greater e f turned h k = absurd k
    by_answers Greater s e f turned h k = absurd h
