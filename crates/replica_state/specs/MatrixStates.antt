-- What matrices stand for, and that they are ordered as their states are.
use Rattle.std.proofs.Common.{◌≡◌, ℕ, ◌≤◌, inl, inr, Option, Some, None, arith, refl, ◌∙◌, ap, subst}
use Rattle.std.proofs.lemmas.Cmp.{nat_list_cmp_total, tied_itself}
use Rattle.std.specs.Prelude.{option_map}
use Rattle.std.specs.Ordering.{nat_cmp, is_le, ordering_reverse}
use Rattle.std.specs.Cmp.Lexicographic.{slice_cmp}
use Rattle.std.specs.declared.cmp.Ordering.{Ordering}
use Rattle.std.specs.declared.cmp.Ordering.TheVariants.{Less, Equal, Greater}
use Rattle.lattice_laws.specs.Lex.{ByKey}
use Rattle.lattice_laws.proofs.LexJoins.{lex_less, lex_equal}
use Rattle.counters.specs.Cells.{Cells, Shares, cell, row_cell}
use Rattle.stamp_register.specs.Keys.{KeyValue, key_value, key_rank}
use Rattle.stamp_register.proofs.KeyLemmas.{key_le-antisym}
use Rattle.replica_state.specs.declared.matrix.Matrix.{Matrix}
use Rattle.operations.specs.declared.counted.Counted.{Counted}
use Rattle.operations.specs.declared.counted.Counted.TheVariants.{Hits, Execs, Shifts}
use Rattle.replica_state.specs.States.{State}
use Rattle.replica_state.specs.StateOrder.{IsKeyBelow, AreCellsBelow, OrdersByState, key_below-irrefl, key_below-trans}
use Rattle.replica_state.specs.Reached.{IsReached}
use Rattle.replica_state.specs.Slots.{Budgets, share_number, budgets_number, under_key, slot_at, shown_slots}
use Rattle.replica_state.specs.MatrixOrder.{First, first_order, cells_order, shares_order, budgets_order, key_cmp, IsMatrix, IsMatrixBelow}

-- the state of a matrix
unfoldable pub matrix_state : Matrix → State
matrix_state matrix = shown_slots matrix.slots

pub matrix_reached : (matrix : Matrix) → IsReached (matrix_state matrix)
unfolding matrix_state
matrix_reached matrix = matrix.reached

abbrev pub first_key : First → Option KeyValue
first_key first = option_map (λ p. key_value p.0) first

-- ---- keys, by how they stand

key_less : (a b : KeyValue) → slice_cmp nat_cmp (key_rank a) (key_rank b) ≡ Less → IsKeyBelow (Some a) (Some b)
key_less a b e = (
  ap is_le e,
  λ s. let tied : slice_cmp nat_cmp (key_rank b) (key_rank b) ≡ Equal = tied_itself nat_list_cmp_total (key_rank b) in
      let less : slice_cmp nat_cmp (key_rank b) (key_rank b) ≡ Less =
      subst (λ k. slice_cmp nat_cmp (key_rank k) (key_rank b) ≡ Less) s e in
      cc,
)

turned : (a b : KeyValue) (o : Ordering) → slice_cmp nat_cmp (key_rank a) (key_rank b) ≡ o →
    slice_cmp nat_cmp (key_rank b) (key_rank a) ≡ ordering_reverse o
turned a b o e = nat_list_cmp_total.antisymm (key_rank b) (key_rank a) ∙ ap ordering_reverse e

key_greater : (a b : KeyValue) → slice_cmp nat_cmp (key_rank a) (key_rank b) ≡ Greater → IsKeyBelow (Some b) (Some a)
key_greater a b e = key_less b a (turned a b Greater e)

key_tied : (a b : KeyValue) → slice_cmp nat_cmp (key_rank a) (key_rank b) ≡ Equal → a ≡ b
key_tied a b e = key_le-antisym a b (ap is_le e) (ap is_le (turned a b Equal e))

-- ---- what is below has no greater number

pub share_upto : (x y : Shares) → shares_order x y → (c : Counted) → share_number x c ≤ share_number y c
unfolding cell row_cell
share_upto x y h (Hits node) = omega arith
share_upto x y h (Execs term node) = h.0 node
share_upto x y h (Shifts term from to) = h.1 from to

pub cell_upto : (x y : Cells) → cells_order x y → (q : ℕ) → cell x q ≤ cell y q
unfolding cell
cell_upto x y h q = h q

pub budgets_upto : (x y : Budgets) → budgets_order x y → (c : Counted) → budgets_number x c ≤ budgets_number y c
budgets_upto x y h (Hits node) = omega arith
budgets_upto x y h (Execs term node) = share_upto _ _ (h term) (Execs term node)
budgets_upto x y h (Shifts term from to) = share_upto _ _ (h term) (Shifts term from to)

-- ---- orders

-- of two keys with budgets: the key is smaller, or it is the same and no number is greater
abbrev IsFirstBelow : First → First → Type 0
IsFirstBelow f g = AreCellsBelow (first_key f) (first_key g)
    (λ term node. under_key f (Execs term node)) (λ term node. under_key g (Execs term node))
    (λ term from to. under_key f (Shifts term from to)) (λ term from to. under_key g (Shifts term from to))

first_below : (f g : First) → first_order f g → IsFirstBelow f g
first_below None None h = inr (refl, λ term node. omega arith, λ term from to. omega arith)
first_below None (Some q) h = inl tt
first_below (Some p) None h = absurd h
first_below (Some p) (Some q) h = by_order (key_cmp p.0 q.0) refl h
  where
    by_order : (o : Ordering) → key_cmp p.0 q.0 ≡ o → ByKey o (budgets_order p.1 q.1) → IsFirstBelow (Some p) (Some q)
    by_order Less e k = inl (key_less _ _ e)
    by_order Equal e k = inr (
      ap Some (key_tied _ _ e),
      λ term node. budgets_upto p.1 q.1 k (Execs term node),
      λ term from to. budgets_upto p.1 q.1 k (Shifts term from to),
    )
    by_order Greater e k = absurd k

below_first : (f g : First) → IsFirstBelow f g → first_order f g
unfolding cell row_cell
below_first None g h = tt
below_first (Some p) None (inl h) = absurd h
below_first (Some p) None (inr h) =
    absurd (let impossible : ◌≡◌ {A = Option KeyValue} (Some (key_value p.0)) None = h.0 in cc)
below_first (Some p) (Some q) h = by_order (key_cmp p.0 q.0) refl h
  where
    by_order : (o : Ordering) → key_cmp p.0 q.0 ≡ o → IsFirstBelow (Some p) (Some q) → first_order (Some p) (Some q)
    by_order Less e k = lex_less key_cmp budgets_order p.0 q.0 p.1 q.1 e
    by_order Equal e (inl k) = absurd (key_below-irrefl (Some (key_value q.0))
        (subst (λ o. IsKeyBelow o (Some (key_value q.0))) (ap Some (key_tied _ _ e)) k))
    by_order Equal e (inr k) = lex_equal key_cmp budgets_order p.0 q.0 p.1 q.1 e
        (λ term. (λ node. k.1 term node, λ from to. k.2 term from to))
    by_order Greater e (inl k) = absurd (key_below-irrefl (Some (key_value p.0))
        (key_below-trans (Some (key_value p.0)) (Some (key_value q.0)) (Some (key_value p.0)) k
        (key_greater (key_value p.0) (key_value q.0) e)))
    by_order Greater e (inr k) = absurd (key_below-irrefl (Some (key_value q.0))
        (subst (λ o. IsKeyBelow (Some (key_value q.0)) o) k.0
        (key_greater (key_value p.0) (key_value q.0) e)))

-- matrices are ordered as their states are
pub matrix_ordered : OrdersByState IsMatrix IsMatrixBelow matrix_state
unfolding matrix_state shown_slots cell
matrix_ordered v w a b = (
  λ below name. record {
    hits = λ node. (below name).1 node;
    cells = first_below (slot_at v.slots name).parts.first (slot_at w.slots name).parts.first (below name).0;
  },
  λ below name. (
    below_first (slot_at v.slots name).parts.first (slot_at w.slots name).parts.first (below name).cells,
    λ node. (below name).hits node,
  ),
)
