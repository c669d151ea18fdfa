-- The cells of a name that changed after a version: the lists have just these, in order, and no more than all cells.
use Rattle.std.proofs.Common.{◌≡◌, ◌≢◌, ℕ, ◌<◌, ◌≤◌, ◌==◌, Bool, true, false, List, [], ◌∷◌, length, map, Option, Some, None, refl, sym, ap, subst, ◌∙◌, arith}
use Rattle.std.specs.Option.{unwrap_or}
use Rattle.std.specs.BTreeMap.{IsOrdered}
use Rattle.std.specs.Ordering.{nat_cmp, ordering_then}
use Rattle.std.specs.Cmp.Lexicographic.{slice_cmp}
use Rattle.std.specs.declared.cmp.Ordering.{Ordering}
use Rattle.std.specs.declared.cmp.Ordering.TheVariants.{Less, Equal, Greater}
use Rattle.std.proofs.lemmas.Bool.{eqb-true, eq-eqb}
use Rattle.std.proofs.lemmas.List.{length-map}
use Rattle.stamp_register.specs.Keys.{KeyValue}
use Rattle.operations.specs.Operations.{IsIn}
use Rattle.replica_state.specs.States.{State, granted_in}
use Rattle.replica_state.specs.Cells.{held_at}
use Rattle.operations.specs.Counts.{counted_cmp, is_hits}
use Rattle.operations.specs.declared.counted.Counted.{Counted}
use Rattle.operations.specs.declared.counted.Counted.TheVariants.{Hits, Execs, Shifts}
use Rattle.replica_state.proofs.Names.{IsAscending}
use Rattle.message_format.specs.Limits.{max_nodes}
use Rattle.delta_exchange.specs.declared.marks.NameMarks.{NameMarks}
use Rattle.delta_exchange.specs.declared.marks.Marks.{Marks}
use Rattle.delta_exchange.specs.Marks as kept
use Rattle.delta_exchange.specs.Marks.{marks_at, marks_value, last_changes, cell_in, cell_change}
use Rattle.delta_exchange.specs.Changes.{LastChanges, IsChangedCell}
use Rattle.message_format.specs.Spelling.{hit_place, exec_place, shift_place}
use Rattle.delta_exchange.specs.Cells.{cell_of, hit_cells, exec_cells, shift_cells, grant_cells}
use Rattle.delta_exchange.specs.Since.{hit_of, exec_of, shift_of, grant_of, hits_since, execs_since, shifts_since, grants_since}
use Rattle.message_format.proofs.Members.{mapped_from, mapped_in}
use Rattle.delta_exchange.proofs.LawfulStates.{IsLawfulState}
use Rattle.delta_exchange.proofs.HeldCells.{in_cell, cell_in as one_cell_in, cell_ascends, in_if, if_in, if_ascends, unless_ascends, shift_in_cell, cell_in_shift, member_hit, hits_ascend, few_hits, member_term, terms_ascend, few_terms, member_shift, shifts_ascend, few_shifts}
use Rattle.delta_exchange.proofs.HeldEntries.{term_below}
use Rattle.delta_exchange.proofs.LaterCells.{later_member, member_later, later_ascends, part_is_short}

-- ---- the last changes, by the marks of the name

abbrev pub changes_of : Marks → LastChanges
changes_of m = last_changes (marks_value m)

module _ (m : Marks) (name : List ℕ) (w : NameMarks) (at : marks_at m.names.entries name ≡ Some w) where
  pub key_change : (changes_of m).key name ≡ w.key
  unfolding last_changes marks_value
  key_change = ap (λ o. kept.key_of o) at

  change_is : (c : Counted) → (changes_of m).cell name c ≡ cell_change (is_hits c) (unwrap_or (cell_in w c) 0) w.key
  unfolding last_changes marks_value
  change_is c = ap (λ o. cell_change (is_hits c) (kept.cell_of o c) (kept.key_of o)) at

-- what changed after a version has a mark
marked_above : (key base : ℕ) (hits : Bool) (o : Option ℕ) → base < cell_change hits (unwrap_or o 0) key →
    (n : ℕ) × (o ≡ Some n) × (base < cell_change hits n key)
marked_above key base true None lt = absurd (omega (arith, lt))
marked_above key base false None lt = absurd (omega (arith, lt))
marked_above key base hits (Some n) lt = (n, refl, lt)

-- places whose last two numbers are the same are in the order of the others
said_once : (o p : Ordering) → ordering_then o (ordering_then p (ordering_then p Equal)) ≡ Less →
    ordering_then o (ordering_then p Equal) ≡ Less
said_once Less p e = refl
said_once Equal Less e = refl
said_once Equal Equal e = e
said_once Equal Greater e = e
said_once Greater p e = e

-- what the marks of a name are
pub record IsMarked (m : Marks) (name : List ℕ) (w : NameMarks) : Type 0 where
  pub at : marks_at m.names.entries name ≡ Some w
  pub ordered : IsOrdered counted_cmp w.cells

-- a lawful state of few nodes
pub record IsFewState (v : State) (nodes : ℕ) : Type 0 where
  pub lawful : IsLawfulState nodes v
  pub few : nodes ≤ max_nodes

module _ (v : State) {m : Marks} {name : List ℕ} {w : NameMarks} (marked : IsMarked m name w) (base : ℕ) where
  abbrev IsChanged : Counted → ℕ → Type 0
  IsChanged c number = IsChangedCell v (changes_of m) base name c number

  -- ---- hits

  pub hit_changed : (c : ℕ × ℕ) → IsIn c (hits_since (held_at v name) base w) → IsChanged (Hits c.0) c.1
  hit_changed c h = let r = later_member (hit_of (held_at v name)) w base w.cells.entries c marked.ordered h in
      by_kind r.counted r.number r.marked r.above r.is
    where
      by_kind : (d : Counted) (n : ℕ) → cell_in w d ≡ Some n → base < cell_change (is_hits d) n w.key →
          IsIn c (hit_of (held_at v name) d) → IsChanged (Hits c.0) c.1
      by_kind (Hits node) n e lt k =
          let one = in_cell (v.hits name node) (node, v.hits name node) c k in
          let mark = change_is m name w marked.at (Hits node) ∙ ap (λ o. cell_change true (unwrap_or o 0) w.key) e in
          let there : IsChanged (Hits node) (v.hits name node) =
          record { is_now = refl; positive = one.0; later = subst (λ k. base < k) (sym mark) lt } in
          subst (λ (x : ℕ × ℕ). IsChanged (Hits x.0) x.1) (sym one.1) there
      by_kind (Execs term node) n e lt k = absurd k
      by_kind (Shifts term from to) n e lt k = absurd k

  pub changed_hit : (node number : ℕ) → IsChanged (Hits node) number →
      IsIn (node, number) (hits_since (held_at v name) base w)
  changed_hit node number d =
      let some : v.hits name node ≢ 0 = λ z. d.positive (d.is_now ∙ z) in
      let k = marked_above w.key base true (cell_in w (Hits node))
      (subst (λ z. base < z) (change_is m name w marked.at (Hits node)) d.later) in
      let cell : ℕ × ℕ = (node, v.hits name node) in
      subst (λ n. IsIn (node, n) (hits_since (held_at v name) base w)) (sym d.is_now)
      (member_later (hit_of (held_at v name)) w base w.cells.entries (Hits node) k.0 cell k.1 k.2
      (one_cell_in (v.hits name node) cell some))

  pub hits_since_ascend : IsAscending (map hit_place (hits_since (held_at v name) base w))
  hits_since_ascend = later_ascends (hit_of (held_at v name)) w base hit_place each across w.cells.entries
      marked.ordered
    where
      each : (c : Counted) → IsAscending (map hit_place (hit_of (held_at v name) c))
      each (Hits node) = cell_ascends hit_place (v.hits name node) (node, v.hits name node)
      each (Execs term node) = tt
      each (Shifts term from to) = tt

      across : (c e : Counted) (x y : ℕ × ℕ) → counted_cmp c e ≡ Less → IsIn x (hit_of (held_at v name) c) →
          IsIn y (hit_of (held_at v name) e) → slice_cmp nat_cmp (hit_place x) (hit_place y) ≡ Less
      across (Hits i) (Hits j) x y lt h k =
          let a = in_cell (v.hits name i) (i, v.hits name i) x h in
          let b = in_cell (v.hits name j) (j, v.hits name j) y k in
          rw (a.1, b.1) lt
      across (Hits i) (Execs t j) x y lt h k = absurd k
      across (Hits i) (Shifts t j o) x y lt h k = absurd k
      across (Execs t i) e x y lt h k = absurd h
      across (Shifts t i o) e x y lt h k = absurd h

  pub few_hits_since : {nodes : ℕ} → IsFewState v nodes → length (hits_since (held_at v name) base w) ≤ max_nodes
  few_hits_since {nodes = nodes} of_few =
      let all = hit_cells v name nodes in
      let short = part_is_short (map hit_place (hits_since (held_at v name) base w)) (map hit_place all)
      hits_since_ascend (hits_ascend v name nodes) part in
      let most = few_hits v name nodes of_few.few in
      let a = length-map (hits_since (held_at v name) base w) hit_place in
      let b = length-map all hit_place in
      omega (arith, short, most, a, b)
    where
      part : (p : List ℕ) → IsIn p (map hit_place (hits_since (held_at v name) base w)) →
          IsIn p (map hit_place (hit_cells v name nodes))
      part p h =
          let r = mapped_from hit_place (hits_since (held_at v name) base w) p h in
          let d = hit_changed r.0 r.1 in
          let some : v.hits name r.0.0 ≢ 0 = λ z. d.positive (d.is_now ∙ z) in
          subst (λ q. IsIn q (map hit_place (hit_cells v name nodes))) (sym r.2)
          (mapped_in hit_place (hit_cells v name nodes) (r.0.0, v.hits name r.0.0)
          (member_hit v name nodes r.0.0 (of_few.lawful.hits name r.0.0 some) some))

  -- ---- executions

  module _ {key : KeyValue} (keyed : v.key name ≡ Some key) where
    pub exec_changed : (c : ℕ × ℕ × ℕ) → IsIn c (execs_since (held_at v name) base w) → IsChanged (Execs c.0 c.1) c.2
    exec_changed c h = let r = later_member (exec_of (held_at v name)) w base w.cells.entries c marked.ordered h in
        by_kind r.counted r.number r.marked r.above r.is
      where
        by_kind : (d : Counted) (n : ℕ) → cell_in w d ≡ Some n → base < cell_change (is_hits d) n w.key →
            IsIn c (exec_of (held_at v name) d) → IsChanged (Execs c.0 c.1) c.2
        by_kind (Hits node) n e lt k = absurd k
        by_kind (Execs term node) n e lt k =
            let one = in_cell (v.execs name term node) (term, node, v.execs name term node) c k in
            let mark = change_is m name w marked.at (Execs term node) ∙
            ap (λ o. cell_change false (unwrap_or o 0) w.key) e in
            let there : IsChanged (Execs term node) (v.execs name term node) =
            record { is_now = refl; positive = one.0; later = subst (λ k. base < k) (sym mark) lt } in
            subst (λ (x : ℕ × ℕ × ℕ). IsChanged (Execs x.0 x.1) x.2) (sym one.1) there
        by_kind (Shifts term from to) n e lt k = absurd k

    -- it stands among all cells
    exec_held : {nodes : ℕ} → IsFewState v nodes → (term node : ℕ) → v.execs name term node ≢ 0 →
        IsIn (term, node, v.execs name term node) (exec_cells v name key nodes)
    exec_held {nodes = nodes} of_few term node some =
        let where_at = of_few.lawful.execs name key term node keyed some in
        let below = term_below nodes key term (of_few.lawful.key name key keyed) where_at.0.0 in
        member_term (v.execs name) nodes key term node below where_at.0.0 where_at.1 some

    pub changed_exec : (term node number : ℕ) → IsChanged (Execs term node) number →
        IsIn (term, node, number) (execs_since (held_at v name) base w)
    changed_exec term node number d =
        let some : v.execs name term node ≢ 0 = λ z. d.positive (d.is_now ∙ z) in
        let k = marked_above w.key base false (cell_in w (Execs term node))
        (subst (λ z. base < z) (change_is m name w marked.at (Execs term node)) d.later) in
        let cell : ℕ × ℕ × ℕ = (term, node, v.execs name term node) in
        subst (λ n. IsIn (term, node, n) (execs_since (held_at v name) base w)) (sym d.is_now)
        (member_later (exec_of (held_at v name)) w base w.cells.entries (Execs term node) k.0 cell k.1 k.2
        (one_cell_in (v.execs name term node) cell some))

    pub execs_since_ascend : IsAscending (map exec_place (execs_since (held_at v name) base w))
    execs_since_ascend = later_ascends (exec_of (held_at v name)) w base exec_place each across w.cells.entries
        marked.ordered
      where
        each : (c : Counted) → IsAscending (map exec_place (exec_of (held_at v name) c))
        each (Hits node) = tt
        each (Execs term node) = cell_ascends exec_place (v.execs name term node) (term, node, v.execs name term node)
        each (Shifts term from to) = tt

        across : (c e : Counted) (x y : ℕ × ℕ × ℕ) → counted_cmp c e ≡ Less → IsIn x (exec_of (held_at v name) c) →
            IsIn y (exec_of (held_at v name) e) → slice_cmp nat_cmp (exec_place x) (exec_place y) ≡ Less
        across (Execs s i) (Execs t j) x y lt h k =
            let a = in_cell (v.execs name s i) (s, i, v.execs name s i) x h in
            let b = in_cell (v.execs name t j) (t, j, v.execs name t j) y k in
            rw (a.1, b.1) lt
        across (Execs s i) (Hits j) x y lt h k = absurd k
        across (Execs s i) (Shifts t j o) x y lt h k = absurd k
        across (Hits i) e x y lt h k = absurd h
        across (Shifts t i o) e x y lt h k = absurd h

    pub few_execs_since : {nodes : ℕ} → IsFewState v nodes → length (execs_since (held_at v name) base w) ≤ 512
    few_execs_since {nodes = nodes} of_few =
        let since = execs_since (held_at v name) base w in
        let all = exec_cells v name key nodes in
        let short = part_is_short (map exec_place since) (map exec_place all) execs_since_ascend
        (terms_ascend (v.execs name) nodes key) part in
        let most = few_terms (v.execs name) nodes key of_few.few in
        let a = length-map since exec_place in
        let b = length-map all exec_place in
        omega (arith, short, most, a, b)
      where
        part : (p : List ℕ) → IsIn p (map exec_place (execs_since (held_at v name) base w)) →
            IsIn p (map exec_place (exec_cells v name key nodes))
        part p h =
            let r = mapped_from exec_place (execs_since (held_at v name) base w) p h in
            let d = exec_changed r.0 r.1 in
            let some : v.execs name r.0.0 r.0.1 ≢ 0 = λ z. d.positive (d.is_now ∙ z) in
            subst (λ q. IsIn q (map exec_place (exec_cells v name key nodes))) (sym r.2)
            (mapped_in exec_place (exec_cells v name key nodes) (r.0.0, r.0.1, v.execs name r.0.0 r.0.1)
            (exec_held of_few r.0.0 r.0.1 some))

    -- ---- shifts

    pub shift_changed : (c : ℕ × ℕ × ℕ × ℕ) → IsIn c (shifts_since (held_at v name) base w) →
        (c.2 ≢ c.1) × IsChanged (Shifts c.0 c.1 c.2) c.3
    shift_changed c h = let r = later_member (shift_of (held_at v name)) w base w.cells.entries c marked.ordered
        h in
        by_kind r.counted r.number r.marked r.above r.is
      where
        by_kind : (d : Counted) (n : ℕ) → cell_in w d ≡ Some n → base < cell_change (is_hits d) n w.key →
            IsIn c (shift_of (held_at v name) d) → (c.2 ≢ c.1) × IsChanged (Shifts c.0 c.1 c.2) c.3
        by_kind (Hits node) n e lt k = absurd k
        by_kind (Execs term node) n e lt k = absurd k
        by_kind (Shifts term from to) n e lt k =
            let one = shift_in_cell v name term from to c k in
            let mark = change_is m name w marked.at (Shifts term from to) ∙
            ap (λ o. cell_change false (unwrap_or o 0) w.key) e in
            let there : IsChanged (Shifts term from to) (v.shifts name term from to) =
            record { is_now = refl; positive = one.1; later = subst (λ k. base < k) (sym mark) lt } in
            subst (λ (x : ℕ × ℕ × ℕ × ℕ). (x.2 ≢ x.1) × IsChanged (Shifts x.0 x.1 x.2) x.3) (sym one.2) (one.0, there)

    shift_held : {nodes : ℕ} → IsFewState v nodes → (term from to : ℕ) → to ≢ from → v.shifts name term from to ≢ 0 →
        IsIn (term, from, to, v.shifts name term from to) (shift_cells v name key nodes)
    shift_held {nodes = nodes} of_few term from to apart some =
        let where_at = of_few.lawful.shifts name key term from to keyed some in
        let below = term_below nodes key term (of_few.lawful.key name key keyed) where_at.0.0 in
        member_shift v name nodes key term from to below where_at.0.0 where_at.1 where_at.2 apart some

    pub changed_shift : (term from to number : ℕ) → to ≢ from → IsChanged (Shifts term from to) number →
        IsIn (term, from, to, number) (shifts_since (held_at v name) base w)
    changed_shift term from to number apart d =
        let some : v.shifts name term from to ≢ 0 = λ z. d.positive (d.is_now ∙ z) in
        let k = marked_above w.key base false (cell_in w (Shifts term from to))
        (subst (λ z. base < z) (change_is m name w marked.at (Shifts term from to)) d.later) in
        let cell : ℕ × ℕ × ℕ × ℕ = (term, from, to, v.shifts name term from to) in
        subst (λ n. IsIn (term, from, to, n) (shifts_since (held_at v name) base w)) (sym d.is_now)
        (member_later (shift_of (held_at v name)) w base w.cells.entries (Shifts term from to) k.0 cell k.1 k.2
        (cell_in_shift v name term from to apart some))

    pub shifts_since_ascend : IsAscending (map shift_place (shifts_since (held_at v name) base w))
    shifts_since_ascend = later_ascends (shift_of (held_at v name)) w base shift_place each across w.cells.entries
        marked.ordered
      where
        each : (c : Counted) → IsAscending (map shift_place (shift_of (held_at v name) c))
        each (Hits node) = tt
        each (Execs term node) = tt
        each (Shifts term from to) =
            let cell : ℕ × ℕ × ℕ × ℕ = (term, from, to, v.shifts name term from to) in
            unless_ascends shift_place (to == from) (cell_of (v.shifts name term from to) cell)
            (cell_ascends shift_place (v.shifts name term from to) cell)

        across : (c e : Counted) (x y : ℕ × ℕ × ℕ × ℕ) → counted_cmp c e ≡ Less → IsIn x (shift_of (held_at v name) c) →
            IsIn y (shift_of (held_at v name) e) → slice_cmp nat_cmp (shift_place x) (shift_place y) ≡ Less
        across (Shifts s i n) (Shifts t j o) x y lt h k =
            let a = shift_in_cell v name s i n x h in
            let b = shift_in_cell v name t j o y k in
            rw (a.2, b.2) lt
        across (Shifts s i n) (Hits j) x y lt h k = absurd k
        across (Shifts s i n) (Execs t j) x y lt h k = absurd k
        across (Hits i) e x y lt h k = absurd h
        across (Execs t i) e x y lt h k = absurd h

    pub few_shifts_since : {nodes : ℕ} → IsFewState v nodes → length (shifts_since (held_at v name) base w) ≤ 16384
    few_shifts_since {nodes = nodes} of_few =
        let since = shifts_since (held_at v name) base w in
        let all = shift_cells v name key nodes in
        let short = part_is_short (map shift_place since) (map shift_place all) shifts_since_ascend
        (shifts_ascend v name nodes key) part in
        let most = few_shifts v name nodes key of_few.few in
        let a = length-map since shift_place in
        let b = length-map all shift_place in
        omega (arith, short, most, a, b)
      where
        part : (p : List ℕ) → IsIn p (map shift_place (shifts_since (held_at v name) base w)) →
            IsIn p (map shift_place (shift_cells v name key nodes))
        part p h =
            let r = mapped_from shift_place (shifts_since (held_at v name) base w) p h in
            let d = shift_changed r.0 r.1 in
            let some : v.shifts name r.0.0 r.0.1 r.0.2 ≢ 0 = λ z. d.1.positive (d.1.is_now ∙ z) in
            subst (λ q. IsIn q (map shift_place (shift_cells v name key nodes))) (sym r.2)
            (mapped_in shift_place (shift_cells v name key nodes) (r.0.0, r.0.1, r.0.2, v.shifts name r.0.0 r.0.1 r.0.2)
            (shift_held of_few r.0.0 r.0.1 r.0.2 d.0 some))

    -- ---- grants

    grant_in_cell : (term from to : ℕ) (c : ℕ × ℕ × ℕ) → IsIn c (grant_of (held_at v name) (Shifts term from to)) →
        (to ≡ from) × (granted_in v name term from ≢ 0) × (c ≡ (term, from, granted_in v name term from))
    grant_in_cell term from to c h =
        let cell : ℕ × ℕ × ℕ = (term, from, granted_in v name term from) in
        let r = in_if (to == from) (cell_of (granted_in v name term from) cell) c h in
        let one = in_cell (granted_in v name term from) cell c r.1 in
        (eqb-true to from r.0, one.0, one.1)

    cell_in_grant : (term node : ℕ) → granted_in v name term node ≢ 0 →
        IsIn (term, node, granted_in v name term node) (grant_of (held_at v name) (Shifts term node node))
    cell_in_grant term node some =
        let cell : ℕ × ℕ × ℕ = (term, node, granted_in v name term node) in
        if_in (node == node) (cell_of (granted_in v name term node) cell) cell (eq-eqb node node refl)
        (one_cell_in (granted_in v name term node) cell some)

    pub grant_changed : (c : ℕ × ℕ × ℕ) → IsIn c (grants_since (held_at v name) base w) →
        IsChanged (Shifts c.0 c.1 c.1) c.2
    grant_changed c h = let r = later_member (grant_of (held_at v name)) w base w.cells.entries c marked.ordered
        h in
        by_kind r.counted r.number r.marked r.above r.is
      where
        by_kind : (d : Counted) (n : ℕ) → cell_in w d ≡ Some n → base < cell_change (is_hits d) n w.key →
            IsIn c (grant_of (held_at v name) d) → IsChanged (Shifts c.0 c.1 c.1) c.2
        by_kind (Hits node) n e lt k = absurd k
        by_kind (Execs term node) n e lt k = absurd k
        by_kind (Shifts term from to) n e lt k =
            let one = grant_in_cell term from to c k in
            let own = subst (λ o. cell_in w (Shifts term from o) ≡ Some n) one.0 e in
            let mark = change_is m name w marked.at (Shifts term from from) ∙
            ap (λ o. cell_change false (unwrap_or o 0) w.key) own in
            let there : IsChanged (Shifts term from from) (granted_in v name term from) =
            record { is_now = refl; positive = one.1; later = subst (λ k. base < k) (sym mark) lt } in
            subst (λ (x : ℕ × ℕ × ℕ). IsChanged (Shifts x.0 x.1 x.1) x.2) (sym one.2) there

    grant_held : {nodes : ℕ} → IsFewState v nodes → (term node : ℕ) → granted_in v name term node ≢ 0 →
        IsIn (term, node, granted_in v name term node) (grant_cells v name key nodes)
    grant_held {nodes = nodes} of_few term node some =
        let where_at = of_few.lawful.shifts name key term node node keyed some in
        let below = term_below nodes key term (of_few.lawful.key name key keyed) where_at.0.0 in
        member_term (granted_in v name) nodes key term node below where_at.0.0 where_at.1 some

    pub changed_grant : (term node number : ℕ) → IsChanged (Shifts term node node) number →
        IsIn (term, node, number) (grants_since (held_at v name) base w)
    changed_grant term node number d =
        let some : granted_in v name term node ≢ 0 = λ z. d.positive (d.is_now ∙ z) in
        let k = marked_above w.key base false (cell_in w (Shifts term node node))
        (subst (λ z. base < z) (change_is m name w marked.at (Shifts term node node)) d.later) in
        let cell : ℕ × ℕ × ℕ = (term, node, granted_in v name term node) in
        subst (λ n. IsIn (term, node, n) (grants_since (held_at v name) base w)) (sym d.is_now)
        (member_later (grant_of (held_at v name)) w base w.cells.entries (Shifts term node node) k.0 cell k.1 k.2
        (cell_in_grant term node some))

    pub grants_since_ascend : IsAscending (map exec_place (grants_since (held_at v name) base w))
    grants_since_ascend = later_ascends (grant_of (held_at v name)) w base exec_place each across w.cells.entries
        marked.ordered
      where
        each : (c : Counted) → IsAscending (map exec_place (grant_of (held_at v name) c))
        each (Hits node) = tt
        each (Execs term node) = tt
        each (Shifts term from to) =
            let cell : ℕ × ℕ × ℕ = (term, from, granted_in v name term from) in
            if_ascends exec_place (to == from) (cell_of (granted_in v name term from) cell)
            (cell_ascends exec_place (granted_in v name term from) cell)

        across : (c e : Counted) (x y : ℕ × ℕ × ℕ) → counted_cmp c e ≡ Less → IsIn x (grant_of (held_at v name) c) →
            IsIn y (grant_of (held_at v name) e) → slice_cmp nat_cmp (exec_place x) (exec_place y) ≡ Less
        across (Shifts s i n) (Shifts t j o) x y lt h k =
            let a = grant_in_cell s i n x h in
            let b = grant_in_cell t j o y k in
            let own = subst (λ z. slice_cmp nat_cmp (s ∷ i ∷ n ∷ []) (t ∷ j ∷ z ∷ []) ≡ Less) b.0 lt in
            let owns = subst (λ z. slice_cmp nat_cmp (s ∷ i ∷ z ∷ []) (t ∷ j ∷ j ∷ []) ≡ Less) a.0 own in
            rw (a.2, b.2) (said_once (nat_cmp s t) (nat_cmp i j) owns)
        across (Shifts s i n) (Hits j) x y lt h k = absurd k
        across (Shifts s i n) (Execs t j) x y lt h k = absurd k
        across (Hits i) e x y lt h k = absurd h
        across (Execs t i) e x y lt h k = absurd h

    pub few_grants_since : {nodes : ℕ} → IsFewState v nodes → length (grants_since (held_at v name) base w) ≤ 512
    few_grants_since {nodes = nodes} of_few =
        let since = grants_since (held_at v name) base w in
        let all = grant_cells v name key nodes in
        let short = part_is_short (map exec_place since) (map exec_place all) grants_since_ascend
        (terms_ascend (granted_in v name) nodes key) part in
        let most = few_terms (granted_in v name) nodes key of_few.few in
        let a = length-map since exec_place in
        let b = length-map all exec_place in
        omega (arith, short, most, a, b)
      where
        part : (p : List ℕ) → IsIn p (map exec_place (grants_since (held_at v name) base w)) →
            IsIn p (map exec_place (grant_cells v name key nodes))
        part p h =
            let r = mapped_from exec_place (grants_since (held_at v name) base w) p h in
            let d = grant_changed r.0 r.1 in
            let some : granted_in v name r.0.0 r.0.1 ≢ 0 = λ z. d.positive (d.is_now ∙ z) in
            subst (λ q. IsIn q (map exec_place (grant_cells v name key nodes))) (sym r.2)
            (mapped_in exec_place (grant_cells v name key nodes) (r.0.0, r.0.1, granted_in v name r.0.0 r.0.1)
            (grant_held of_few r.0.0 r.0.1 some))
