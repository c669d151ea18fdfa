-- The cells that a state holds of a name: which they are, how many, and in which order they stand.
use Rattle.std.proofs.Common.{◌≡◌, ◌≢◌, ℕ, zero, suc, ◌*◌, ◌<◌, ◌≤◌, ◌==◌, Bool, true, false, cond, List, [], ◌∷◌, length, map, inl, inr, refl, sym, ◌∙◌, arith}
use Rattle.std.specs.Prelude.{is_some, IsTrue}
use Rattle.std.proofs.lemmas.Bool.{eqb-true, eq-eqb}
use Rattle.stamp_register.specs.Keys.{KeyValue}
use Rattle.operations.specs.Operations.{IsIn, count_of}
use Rattle.replica_state.specs.States.{State}
use Rattle.replica_state.proofs.Names.{IsAscending}
use Rattle.message_format.specs.Limits.{max_nodes}
use Rattle.message_format.specs.Spelling.{hit_place, exec_place, shift_place}
use Rattle.delta_exchange.specs.Cells.{cell_of, hit_cells, term_row, term_row_of, term_cells, shift_cell, shift_row, shift_rows, shift_rows_of, shift_cells}
use Rattle.delta_exchange.proofs.BelowLemmas.{by_first, by_rest, below_in, in_below, length_below, ascending_below}

-- ---- one cell, or none

module _ {C : Type 0} where
  pub in_cell : (n : ℕ) (c d : C) → IsIn d (cell_of n c) → (n ≢ 0) × (d ≡ c)
  in_cell zero c d h = absurd h
  in_cell (suc n) c d (inl e) = (λ z. absurd (omega (arith, z)), e)
  in_cell (suc n) c d (inr h) = absurd h

  pub cell_in : (n : ℕ) (c : C) → n ≢ 0 → IsIn c (cell_of n c)
  cell_in zero c h = absurd (h refl)
  cell_in (suc n) c h = inl refl

  -- it stands alone
  pub cell_alone : (n : ℕ) (c : C) → n ≢ 0 → cell_of n c ≡ c ∷ []
  cell_alone zero c h = absurd (h refl)
  cell_alone (suc n) c h = refl

  one_cell : (n : ℕ) (c : C) → length (cell_of n c) ≤ 1
  one_cell zero c = omega arith
  one_cell (suc n) c = omega arith

  pub cell_ascends : (place : C → List ℕ) (n : ℕ) (c : C) → IsAscending (map place (cell_of n c))
  cell_ascends place zero c = tt
  cell_ascends place (suc n) c = (λ m h. absurd h, tt)

  -- cells where a test passes
  pub in_if : (b : Bool) (cs : List C) (c : C) → IsIn c (cond b cs []) → IsTrue b × IsIn c cs
  in_if true cs c h = (refl, h)
  in_if false cs c h = absurd h

  pub if_in : (b : Bool) (cs : List C) (c : C) → IsTrue b → IsIn c cs → IsIn c (cond b cs [])
  if_in true cs c e h = h
  if_in false cs c e h = absurd cc

  if_length : (b : Bool) (cs : List C) (most : ℕ) → length cs ≤ most → length (cond b cs []) ≤ most
  if_length true cs most h = h
  if_length false cs most h = omega arith

  pub if_ascends : (place : C → List ℕ) (b : Bool) (cs : List C) → IsAscending (map place cs) →
      IsAscending (map place (cond b cs []))
  if_ascends place true cs h = h
  if_ascends place false cs h = tt

  -- cells where a test fails
  in_unless : (b : Bool) (cs : List C) (c : C) → IsIn c (cond b [] cs) → (b ≡ false) × IsIn c cs
  in_unless true cs c h = absurd h
  in_unless false cs c h = (refl, h)

  unless_in : (b : Bool) (cs : List C) (c : C) → b ≡ false → IsIn c cs → IsIn c (cond b [] cs)
  unless_in true cs c e h = absurd cc
  unless_in false cs c e h = h

  unless_length : (b : Bool) (cs : List C) (most : ℕ) → length cs ≤ most → length (cond b [] cs) ≤ most
  unless_length true cs most h = omega arith
  unless_length false cs most h = h

  pub unless_ascends : (place : C → List ℕ) (b : Bool) (cs : List C) → IsAscending (map place cs) →
      IsAscending (map place (cond b [] cs))
  unless_ascends place true cs h = tt
  unless_ascends place false cs h = h

-- ---- what is counted by term and node: executions and grants

module _ (number : ℕ → ℕ → ℕ) (nodes : ℕ) where
  pub record IsTermCellOf (term : ℕ) (c : ℕ × ℕ × ℕ) : Type 0 where
    pub node : ℕ
    pub below : node < nodes
    pub some : number term node ≢ 0
    pub is : c ≡ (term, node, number term node)

  cell_in_row : (term : ℕ) (c : ℕ × ℕ × ℕ) → IsIn c (term_row number nodes term) → IsTermCellOf term c
  cell_in_row term c h =
      let r = below_in (λ node. cell_of (number term node) (term, node, number term node)) nodes c h in
      let one = in_cell (number term r.0) (term, r.0, number term r.0) c r.2 in
      record { node = r.0; below = r.1; some = one.0; is = one.1 }

  row_has_cell : (term node : ℕ) → node < nodes → number term node ≢ 0 →
      IsIn (term, node, number term node) (term_row number nodes term)
  row_has_cell term node lt some =
      in_below (λ node. cell_of (number term node) (term, node, number term node)) nodes node
      (term, node, number term node) lt (cell_in (number term node) (term, node, number term node) some)

  few_in_row : (term : ℕ) → nodes ≤ max_nodes → length (term_row number nodes term) ≤ max_nodes * 1
  few_in_row term few = length_below (λ node. cell_of (number term node) (term, node, number term node)) 1 nodes
      max_nodes few (λ node. one_cell (number term node) (term, node, number term node))

  row_ascends : (term : ℕ) → IsAscending (map exec_place (term_row number nodes term))
  row_ascends term = ascending_below (λ node. cell_of (number term node) (term, node, number term node)) exec_place
      nodes
      (λ node. cell_ascends exec_place (number term node) (term, node, number term node))
      (λ i j c d lt h k.
      let a = in_cell (number term i) (term, i, number term i) c h in
      let b = in_cell (number term j) (term, j, number term j) d k in
      rw (a.1, b.1) (by_rest term (i ∷ []) (j ∷ []) (by_first i j [] [] lt)))

  module _ (key : KeyValue) where
    pub record IsTermCell (c : ℕ × ℕ × ℕ) : Type 0 where
      pub term : ℕ
      pub below : term < 16
      pub counted : IsTrue (is_some (count_of key term))
      pub row : IsTermCellOf term c

    pub term_member : (c : ℕ × ℕ × ℕ) → IsIn c (term_cells number key nodes) → IsTermCell c
    term_member c h =
        let r = below_in (term_row_of number key nodes) 16 c h in
        let s = in_if (is_some (count_of key r.0)) (term_row number nodes r.0) c r.2 in
        record { term = r.0; below = r.1; counted = s.0; row = cell_in_row r.0 c s.1 }

    pub member_term : (term node : ℕ) → term < 16 → IsTrue (is_some (count_of key term)) → node < nodes →
        number term node ≢ 0
        → IsIn (term, node, number term node) (term_cells number key nodes)
    member_term term node below counted lt some =
        in_below (term_row_of number key nodes) 16 term (term, node, number term node) below
        (if_in (is_some (count_of key term)) (term_row number nodes term) (term, node, number term node) counted
        (row_has_cell term node lt some))

    pub few_terms : nodes ≤ max_nodes → length (term_cells number key nodes) ≤ 512
    few_terms few = length_below (term_row_of number key nodes) max_nodes 16 16 (omega arith)
        (λ term. if_length (is_some (count_of key term)) (term_row number nodes term) max_nodes (few_in_row term few))

    pub terms_ascend : IsAscending (map exec_place (term_cells number key nodes))
    terms_ascend = ascending_below (term_row_of number key nodes) exec_place 16
        (λ term. if_ascends exec_place (is_some (count_of key term)) (term_row number nodes term) (row_ascends term))
        (λ i j c d lt h k.
        let a = cell_in_row i c (in_if (is_some (count_of key i)) (term_row number nodes i) c h).1 in
        let b = cell_in_row j d (in_if (is_some (count_of key j)) (term_row number nodes j) d k).1 in
        rw (a.is, b.is) (by_first i j (a.node ∷ []) (b.node ∷ []) lt))

module _ (v : State) (name : List ℕ) where
  -- ---- what a node moved to another one

  pub shift_in_cell : (term from to : ℕ) (c : ℕ × ℕ × ℕ × ℕ) → IsIn c (shift_cell v name term from to) →
      (to ≢ from) × (v.shifts name term from to ≢ 0) × (c ≡ (term, from, to, v.shifts name term from to))
  shift_in_cell term from to c h =
      let r = in_unless (to == from) (cell_of (v.shifts name term from to) (term, from, to, v.shifts name term from to))
      c h in
      let apart : to ≢ from = λ e. let same : (to == from) ≡ true = eq-eqb to from e in
      absurd (let not : false ≡ true = sym r.0 ∙ same in cc) in
      let one = in_cell (v.shifts name term from to) (term, from, to, v.shifts name term from to) c r.1 in
      (apart, one.0, one.1)

  pub cell_in_shift : (term from to : ℕ) → to ≢ from → v.shifts name term from to ≢ 0 →
      IsIn (term, from, to, v.shifts name term from to) (shift_cell v name term from to)
  cell_in_shift term from to apart some =
      unless_in (to == from) (cell_of (v.shifts name term from to) (term, from, to, v.shifts name term from to))
      (term, from, to, v.shifts name term from to) (others (to == from) refl)
      (cell_in (v.shifts name term from to) (term, from, to, v.shifts name term from to) some)
    where
      others : (b : Bool) → (to == from) ≡ b → b ≡ false
      others true e = absurd (apart (eqb-true to from e))
      others false e = refl

module _ (v : State) (name : List ℕ) (nodes : ℕ) where
  -- ---- hits

  pub record IsHitHeld (c : ℕ × ℕ) : Type 0 where
    pub node : ℕ
    pub below : node < nodes
    pub some : v.hits name node ≢ 0
    pub is : c ≡ (node, v.hits name node)

  pub hit_member : (c : ℕ × ℕ) → IsIn c (hit_cells v name nodes) → IsHitHeld c
  hit_member c h =
      let r = below_in (λ node. cell_of (v.hits name node) (node, v.hits name node)) nodes c h in
      let one = in_cell (v.hits name r.0) (r.0, v.hits name r.0) c r.2 in
      record { node = r.0; below = r.1; some = one.0; is = one.1 }

  pub member_hit : (node : ℕ) → node < nodes → v.hits name node ≢ 0 →
      IsIn (node, v.hits name node) (hit_cells v name nodes)
  member_hit node lt some =
      in_below (λ node. cell_of (v.hits name node) (node, v.hits name node)) nodes node (node, v.hits name node) lt
      (cell_in (v.hits name node) (node, v.hits name node) some)

  pub few_hits : nodes ≤ max_nodes → length (hit_cells v name nodes) ≤ max_nodes * 1
  few_hits few = length_below (λ node. cell_of (v.hits name node) (node, v.hits name node)) 1 nodes max_nodes few
      (λ node. one_cell (v.hits name node) (node, v.hits name node))

  pub hits_ascend : IsAscending (map hit_place (hit_cells v name nodes))
  hits_ascend = ascending_below (λ node. cell_of (v.hits name node) (node, v.hits name node)) hit_place nodes
      (λ node. cell_ascends hit_place (v.hits name node) (node, v.hits name node))
      (λ i j c d lt h k.
      let a = in_cell (v.hits name i) (i, v.hits name i) c h in
      let b = in_cell (v.hits name j) (j, v.hits name j) d k in
      rw (a.1, b.1) (by_first i j [] [] lt))

  -- ---- shifts

  pub record IsShiftFrom (term from : ℕ) (c : ℕ × ℕ × ℕ × ℕ) : Type 0 where
    pub to : ℕ
    pub below : to < nodes
    pub apart : to ≢ from
    pub some : v.shifts name term from to ≢ 0
    pub is : c ≡ (term, from, to, v.shifts name term from to)

  pub record IsShiftOf (term : ℕ) (c : ℕ × ℕ × ℕ × ℕ) : Type 0 where
    pub from : ℕ
    pub below : from < nodes
    pub row : IsShiftFrom term from c

  shift_in_row : (term from : ℕ) (c : ℕ × ℕ × ℕ × ℕ) → IsIn c (shift_row v name nodes term from) →
      IsShiftFrom term from c
  shift_in_row term from c h =
      let r = below_in (shift_cell v name term from) nodes c h in
      let one = shift_in_cell v name term from r.0 c r.2 in
      record { to = r.0; below = r.1; apart = one.0; some = one.1; is = one.2 }

  shift_in_rows : (term : ℕ) (c : ℕ × ℕ × ℕ × ℕ) → IsIn c (shift_rows v name nodes term) → IsShiftOf term c
  shift_in_rows term c h =
      let r = below_in (shift_row v name nodes term) nodes c h in
      record { from = r.0; below = r.1; row = shift_in_row term r.0 c r.2 }

  few_shifts_from : (term from : ℕ) → nodes ≤ max_nodes → length (shift_row v name nodes term from) ≤ max_nodes * 1
  few_shifts_from term from few = length_below (shift_cell v name term from) 1 nodes max_nodes few
      (λ to. unless_length (to == from) (cell_of (v.shifts name term from to)
      (term, from, to, v.shifts name term from to)) 1 (one_cell (v.shifts name term from to)
      (term, from, to, v.shifts name term from to)))

  few_shifts_of : (term : ℕ) → nodes ≤ max_nodes → length (shift_rows v name nodes term) ≤ max_nodes * max_nodes
  few_shifts_of term few = length_below (shift_row v name nodes term) max_nodes nodes max_nodes few
      (λ from. few_shifts_from term from few)

  shift_row_ascends : (term from : ℕ) → IsAscending (map shift_place (shift_row v name nodes term from))
  shift_row_ascends term from = ascending_below (shift_cell v name term from) shift_place nodes
      (λ to. unless_ascends shift_place (to == from) (cell_of (v.shifts name term from to)
      (term, from, to, v.shifts name term from to)) (cell_ascends shift_place (v.shifts name term from to)
      (term, from, to, v.shifts name term from to)))
      (λ i j c d lt h k.
      let a = shift_in_cell v name term from i c h in
      let b = shift_in_cell v name term from j d k in
      rw (a.2, b.2) (by_rest term (from ∷ i ∷ []) (from ∷ j ∷ [])
      (by_rest from (i ∷ []) (j ∷ []) (by_first i j [] [] lt))))

  shift_rows_ascend : (term : ℕ) → IsAscending (map shift_place (shift_rows v name nodes term))
  shift_rows_ascend term = ascending_below (shift_row v name nodes term) shift_place nodes (shift_row_ascends term)
      (λ i j c d lt h k.
      let a = shift_in_row term i c h in
      let b = shift_in_row term j d k in
      rw (a.is, b.is) (by_rest term (i ∷ a.to ∷ []) (j ∷ b.to ∷ []) (by_first i j (a.to ∷ []) (b.to ∷ []) lt)))

  module _ (key : KeyValue) where
    pub record IsShiftHeld (c : ℕ × ℕ × ℕ × ℕ) : Type 0 where
      pub term : ℕ
      pub below : term < 16
      pub counted : IsTrue (is_some (count_of key term))
      pub rows : IsShiftOf term c

    pub shift_member : (c : ℕ × ℕ × ℕ × ℕ) → IsIn c (shift_cells v name key nodes) → IsShiftHeld c
    shift_member c h =
        let r = below_in (shift_rows_of v name key nodes) 16 c h in
        let s = in_if (is_some (count_of key r.0)) (shift_rows v name nodes r.0) c r.2 in
        record { term = r.0; below = r.1; counted = s.0; rows = shift_in_rows r.0 c s.1 }

    pub member_shift : (term from to : ℕ) → term < 16 → IsTrue (is_some (count_of key term)) → from < nodes →
        to < nodes → to ≢ from → v.shifts name term from to ≢ 0
        → IsIn (term, from, to, v.shifts name term from to) (shift_cells v name key nodes)
    member_shift term from to below counted lt less apart some =
        let cell : ℕ × ℕ × ℕ × ℕ = (term, from, to, v.shifts name term from to) in
        let one = cell_in_shift v name term from to apart some in
        let row = in_below (shift_cell v name term from) nodes to cell less one in
        let rows = in_below (shift_row v name nodes term) nodes from cell lt row in
        in_below (shift_rows_of v name key nodes) 16 term cell below
        (if_in (is_some (count_of key term)) (shift_rows v name nodes term) cell counted rows)

    pub few_shifts : nodes ≤ max_nodes → length (shift_cells v name key nodes) ≤ 16384
    few_shifts few = length_below (shift_rows_of v name key nodes) (max_nodes * max_nodes) 16 16 (omega arith)
        (λ term. if_length (is_some (count_of key term)) (shift_rows v name nodes term) (max_nodes * max_nodes)
        (few_shifts_of term few))

    pub shifts_ascend : IsAscending (map shift_place (shift_cells v name key nodes))
    shifts_ascend = ascending_below (shift_rows_of v name key nodes) shift_place 16
        (λ term. if_ascends shift_place (is_some (count_of key term)) (shift_rows v name nodes term)
        (shift_rows_ascend term))
        (λ i j c d lt h k.
        let a = shift_in_rows i c (in_if (is_some (count_of key i)) (shift_rows v name nodes i) c h).1 in
        let b = shift_in_rows j d (in_if (is_some (count_of key j)) (shift_rows v name nodes j) d k).1 in
        rw (a.row.is, b.row.is) (by_first i j (a.from ∷ a.row.to ∷ []) (b.from ∷ b.row.to ∷ []) lt))
