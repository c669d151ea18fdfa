-- A message that tells what differs between two states of a node is the difference of the two.
use Rattle.std.proofs.Common.{◌≡◌, ◌≢◌, ℕ, ◌≤◌, ◌==◌, ◌||◌, inl, inr, Bool, true, false, cond, List, [], ◌∷◌, ◌++◌, map, Option, Some, None, refl, sym, ap, subst, ◌∙◌, ⊎_elim, arith}
use Rattle.std.specs.Prelude.{not, IsTrue}
use Rattle.std.specs.List.{flat_map}
use Rattle.std.proofs.lemmas.Bool.{true≢false, and_parts, and_from, or_left, or_right, eqb-true, eq-eqb, cases_eq}
use Rattle.std.proofs.lemmas.List.Concat.{flat_map-cons}
use Rattle.stamp_register.specs.Keys.{KeyValue}
use Rattle.operations.specs.Operations.{Operation, Set, Count, Hits, Execs, Shifts, IsIn, name_in}
use Rattle.replica_state.specs.States.{State, granted_in}
use Rattle.replica_state.specs.StateOrder.{IsKeyBelow, IsBelow, key_below-irrefl}
use Rattle.replica_state.specs.Folds.{fold, names_of}
use Rattle.replica_state.specs.Deltas.{IsTold, IsInDelta, IsDelta, TellSameOf}
use Rattle.replica_state.proofs.Names.{IsAscending, names_of-ascending, holds-names_of, key_named}
use Rattle.replica_state.proofs.Orders.{same_key-true, same_key-refl}
use Rattle.message_format.specs.Messages.{EntryValue, MessageValue, operations_of, operations_in}
use Rattle.message_format.specs.Spelling.{hit_place, exec_place, shift_place, IsHit, IsExec, IsShift, IsGrant, IsEntry, AreEntries, IsMessage}
use Rattle.delta_exchange.specs.Cells.{hit_cells, exec_cells, shift_cells, grant_cells, entry_of, entries_of}
use Rattle.delta_exchange.specs.Since.{tells_cells}
use Rattle.delta_exchange.specs.Differences.{holds_key, tells_key, tells_hits, tells_execs, tells_shifts, tells_grants, untold_cells, untold_entry, untold_entries, difference_of}
use Rattle.message_format.proofs.Members.{flat_in, in_flat, mapped_from, mapped_in, one_of}
use Rattle.message_format.proofs.Told.{hit_told, exec_told, shift_told, grant_told}
use Rattle.delta_exchange.proofs.BelowLemmas.{ascends}
use Rattle.delta_exchange.proofs.HeldCells.{hit_member, member_hit, hits_ascend, term_member, member_term, terms_ascend, shift_member, member_shift, shifts_ascend}
use Rattle.delta_exchange.proofs.HeldEntries.{term_below, entry_member, member_entry, entries_ascend}
use Rattle.delta_exchange.proofs.Filters.{not_both, passes_not, in_filter, filter_in, filter_ascends}
use Rattle.message_format.proofs.OneMessage.{one_there, same_list, set_of, hit_of, exec_of, shift_of, grant_of, moves_on, hit_in, exec_in, shift_in, grant_in}
use Rattle.delta_exchange.proofs.TellsCells.{either, hits_tell, execs_tell, shifts_tell, grants_tell, cell_told}

-- ---- what a state has it tells

module _ (v : State) (name : List ℕ) where
  key_is_told : (key : KeyValue) → IsTrue (tells_key v name key) → v.key name ≡ Some key
  key_is_told key t = by_key (v.key name) t
    where
      by_key : (o : Option KeyValue) → IsTrue (holds_key o key) → o ≡ Some key
      by_key None u = absurd cc
      by_key (Some k) u = ap Some (same_key-true k key u)

  pub tells_its_key : (key : KeyValue) → v.key name ≡ Some key → IsTrue (tells_key v name key)
  tells_its_key key e = subst (λ o. IsTrue (holds_key o key)) (sym e) (same_key-refl key)

  hits_are_told : (c : ℕ × ℕ) → c.1 ≢ 0 → IsTrue (tells_hits v name c) → IsTold v (Count (Hits name c.0) c.1)
  hits_are_told c some t = (eqb-true (v.hits name c.0) c.1 t, some)

  pub tells_its_hits : (c : ℕ × ℕ) → IsTold v (Count (Hits name c.0) c.1) → IsTrue (tells_hits v name c)
  tells_its_hits c d = eq-eqb (v.hits name c.0) c.1 d.0

  module _ (key : KeyValue) where
    execs_are_told : (c : ℕ × ℕ × ℕ) → c.2 ≢ 0 → IsTrue (tells_execs v name key c) →
        IsTold v (Count (Execs name key c.0 c.1) c.2)
    execs_are_told c some t =
        let both = and_parts (tells_key v name key) (v.execs name c.0 c.1 == c.2) t in
        ((key_is_told key both.0, eqb-true (v.execs name c.0 c.1) c.2 both.1), some)

    pub tells_its_execs : (c : ℕ × ℕ × ℕ) → IsTold v (Count (Execs name key c.0 c.1) c.2) →
        IsTrue (tells_execs v name key c)
    tells_its_execs c d = and_from (tells_key v name key) (v.execs name c.0 c.1 == c.2) (tells_its_key key d.0.0)
        (eq-eqb (v.execs name c.0 c.1) c.2 d.0.1)

    shifts_are_told : (c : ℕ × ℕ × ℕ × ℕ) → c.3 ≢ 0 → IsTrue (tells_shifts v name key c) →
        IsTold v (Count (Shifts name key c.0 c.1 c.2) c.3)
    shifts_are_told c some t =
        let both = and_parts (tells_key v name key) (v.shifts name c.0 c.1 c.2 == c.3) t in
        ((key_is_told key both.0, eqb-true (v.shifts name c.0 c.1 c.2) c.3 both.1), some)

    pub tells_its_shifts : (c : ℕ × ℕ × ℕ × ℕ) → IsTold v (Count (Shifts name key c.0 c.1 c.2) c.3) →
        IsTrue (tells_shifts v name key c)
    tells_its_shifts c d = and_from (tells_key v name key) (v.shifts name c.0 c.1 c.2 == c.3) (tells_its_key key d.0.0)
        (eq-eqb (v.shifts name c.0 c.1 c.2) c.3 d.0.1)

    grants_are_told : (c : ℕ × ℕ × ℕ) → c.2 ≢ 0 → IsTrue (tells_grants v name key c) →
        IsTold v (Count (Shifts name key c.0 c.1 c.1) c.2)
    grants_are_told c some t = shifts_are_told (c.0, c.1, c.1, c.2) some t

    pub tells_its_grants : (c : ℕ × ℕ × ℕ) → IsTold v (Count (Shifts name key c.0 c.1 c.1) c.2) →
        IsTrue (tells_grants v name key c)
    tells_its_grants c d = tells_its_shifts (c.0, c.1, c.1, c.2) d

-- ---- the cells of a state it tells

module _ (v : State) (nodes : ℕ) (name : List ℕ) where
  pub hit_held : (c : ℕ × ℕ) → IsIn c (hit_cells v name nodes) → IsTold v (Count (Hits name c.0) c.1)
  hit_held c h =
      let m = hit_member v name nodes c h in
      let there : IsTold v (Count (Hits name m.node) (v.hits name m.node)) = (refl, m.some) in
      subst (λ (x : ℕ × ℕ). IsTold v (Count (Hits name x.0) x.1)) (sym m.is) there

  pub exec_held : (key : KeyValue) → v.key name ≡ Some key → (c : ℕ × ℕ × ℕ) → IsIn c (exec_cells v name key nodes) →
      IsTold v (Count (Execs name key c.0 c.1) c.2)
  exec_held key keyed c h =
      let m = term_member (v.execs name) nodes key c h in
      let there : IsTold v (Count (Execs name key m.term m.row.node) (v.execs name m.term m.row.node)) =
      ((keyed, refl), m.row.some) in
      subst (λ (x : ℕ × ℕ × ℕ). IsTold v (Count (Execs name key x.0 x.1) x.2)) (sym m.row.is) there

  pub shift_held : (key : KeyValue) → v.key name ≡ Some key → (c : ℕ × ℕ × ℕ × ℕ) →
      IsIn c (shift_cells v name key nodes) → IsTold v (Count (Shifts name key c.0 c.1 c.2) c.3)
  shift_held key keyed c h =
      let m = shift_member v name nodes key c h in
      let there : IsTold v (Count (Shifts name key m.term m.rows.from m.rows.row.to)
      (v.shifts name m.term m.rows.from m.rows.row.to)) = ((keyed, refl), m.rows.row.some) in
      subst (λ (x : ℕ × ℕ × ℕ × ℕ). IsTold v (Count (Shifts name key x.0 x.1 x.2) x.3)) (sym m.rows.row.is) there

  pub grant_held : (key : KeyValue) → v.key name ≡ Some key → (c : ℕ × ℕ × ℕ) → IsIn c (grant_cells v name key nodes) →
      IsTold v (Count (Shifts name key c.0 c.1 c.1) c.2)
  grant_held key keyed c h =
      let m = term_member (granted_in v name) nodes key c h in
      let there : IsTold v (Count (Shifts name key m.term m.row.node m.row.node)
      (granted_in v name m.term m.row.node)) = ((keyed, refl), m.row.some) in
      subst (λ (x : ℕ × ℕ × ℕ). IsTold v (Count (Shifts name key x.0 x.1 x.1) x.2)) (sym m.row.is) there

-- ---- which entries are told

module _ (past : State) where
  in_untold : (x e : EntryValue) → IsIn e (untold_entry past x) →
      IsTrue (not (tells_key past x.name x.key) || tells_cells (untold_cells past x)) × (e ≡ untold_cells past x)
  in_untold x e h = by_test (not (tells_key past x.name x.key) || tells_cells (untold_cells past x)) refl h
    where
      by_test : (b : Bool) → (not (tells_key past x.name x.key) || tells_cells (untold_cells past x)) ≡ b →
          IsIn e (cond b (untold_cells past x ∷ []) []) → IsTrue
          (not (tells_key past x.name x.key) || tells_cells (untold_cells past x)) × (e ≡ untold_cells past x)
      by_test true t (inl s) = (t, s)
      by_test true t (inr i) = absurd i
      by_test false t i = absurd i

  untold_named : (xs : List EntryValue) (name : List ℕ) → IsIn name
      (map (λ e. e.name) (flat_map (untold_entry past) xs)) → IsIn name (map (λ e. e.name) xs)
  untold_named xs name h =
      let c = mapped_from (λ (e : EntryValue). e.name) (flat_map (untold_entry past) xs) name h in
      let r = in_flat (untold_entry past) xs c.0 c.1 in
      let s = in_untold r.0 c.0 r.2 in
      subst (λ n. IsIn n (map (λ (e : EntryValue). e.name) xs)) (sym (c.2 ∙ ap (λ (e : EntryValue). e.name) s.1))
      (mapped_in (λ (e : EntryValue). e.name) xs r.0 r.1)

  untold_ascend : (xs : List EntryValue) → IsAscending (map (λ e. e.name) xs) →
      IsAscending (map (λ e. e.name) (flat_map (untold_entry past) xs))
  untold_ascend [] h = tt
  untold_ascend (x ∷ xs) h = subst (λ es. IsAscending (map (λ (e : EntryValue). e.name) es))
      (sym (flat_map-cons (untold_entry past) x xs)) (by_test
      (not (tells_key past x.name x.key) || tells_cells (untold_cells past x)) (untold_ascend xs h.1))
    where
      by_test : (b : Bool) → IsAscending (map (λ e. e.name) (flat_map (untold_entry past) xs)) →
          IsAscending (map (λ e. e.name) (cond b (untold_cells past x ∷ []) [] ++ flat_map (untold_entry past) xs))
      by_test true rest = (λ n i. h.0 n (untold_named xs n i), rest)
      by_test false rest = rest

-- ---- entries that tell the difference of two states

module _ (past now : State) (nodes : ℕ) (es : List EntryValue) (are : AreEntries nodes es)
    (delta : IsDelta past now (flat_map operations_of es)) where
  keyed : (e : EntryValue) → IsIn e es → now.key e.name ≡ Some e.key
  keyed e h = ((delta (Set e.name e.key)).0 (flat_in operations_of es e (Set e.name e.key) h (inl refl))).0

  entry_is : (e : EntryValue) → IsIn e es → IsEntry nodes e
  entry_is e h = one_of (IsEntry nodes) es are.each e h

  -- the entry of a name is the one
  this : (e f : EntryValue) → IsIn e es → IsIn f es → e.name ≡ f.name → f ≡ e
  this e f h k s = one_there (λ (x : EntryValue). x.name) es are.ascend f e k h (sym s)

  -- what is left of the entry of the later state
  abbrev left : List ℕ → KeyValue → EntryValue
  left name key = untold_cells past (entry_of now nodes name key)

  -- a cell in the difference is in the entry of its name
  hit_there : (e : EntryValue) → IsIn e es → (name : List ℕ) (c : ℕ × ℕ) → e.name ≡ name →
      IsInDelta past now (Count (Hits name c.0) c.1) → IsIn c e.hits
  hit_there e h name c s d =
      let r = in_flat operations_of es (Count (Hits name c.0) c.1) ((delta (Count (Hits name c.0) c.1)).1 d) in
      let k = hit_of r.0 name c r.2 in
      subst (λ (x : EntryValue). IsIn c x.hits) (this e r.0 h r.1 (s ∙ k.0)) k.1

  exec_there : (e : EntryValue) → IsIn e es → (name : List ℕ) (key : KeyValue) (c : ℕ × ℕ × ℕ) → e.name ≡ name →
      IsInDelta past now (Count (Execs name key c.0 c.1) c.2) → IsIn c e.execs
  exec_there e h name key c s d =
      let r = in_flat operations_of es (Count (Execs name key c.0 c.1) c.2)
      ((delta (Count (Execs name key c.0 c.1) c.2)).1 d) in
      let k = exec_of r.0 name key c r.2 in
      subst (λ (x : EntryValue). IsIn c x.execs) (this e r.0 h r.1 (s ∙ k.0)) k.1

  shift_there : (e : EntryValue) → IsIn e es → (name : List ℕ) (key : KeyValue) (c : ℕ × ℕ × ℕ × ℕ) → c.2 ≢ c.1 →
      e.name ≡ name → IsInDelta past now (Count (Shifts name key c.0 c.1 c.2) c.3) → IsIn c e.shifts
  shift_there e h name key c apart s d =
      let r = in_flat operations_of es (Count (Shifts name key c.0 c.1 c.2) c.3)
      ((delta (Count (Shifts name key c.0 c.1 c.2) c.3)).1 d) in
      let k = shift_of r.0 name key c apart r.2 in
      subst (λ (x : EntryValue). IsIn c x.shifts) (this e r.0 h r.1 (s ∙ k.0)) k.1

  grant_there : (e : EntryValue) → IsIn e es → (name : List ℕ) (key : KeyValue) (c : ℕ × ℕ × ℕ) → e.name ≡ name →
      IsInDelta past now (Count (Shifts name key c.0 c.1 c.1) c.2) → IsIn c e.grants
  grant_there e h name key c s d =
      let r = in_flat operations_of es (Count (Shifts name key c.0 c.1 c.1) c.2)
      ((delta (Count (Shifts name key c.0 c.1 c.1) c.2)).1 d) in
      let k = grant_of r.0 (moves_on nodes r.0 (entry_is r.0 r.1)) name key c r.2 in
      subst (λ (x : EntryValue). IsIn c x.grants) (this e r.0 h r.1 (s ∙ k.0)) k.1

  -- a cell that is left is in the difference
  hit_untold : (name : List ℕ) (key : KeyValue) (c : ℕ × ℕ) → IsIn c (left name key).hits →
      IsInDelta past now (Count (Hits name c.0) c.1)
  hit_untold name key c k =
      let r = in_filter (λ x. not (tells_hits past name x)) (hit_cells now name nodes) c k in
      (hit_held now nodes name c r.0, λ d. not_both (tells_hits past name c) r.1 (tells_its_hits past name c d))

  exec_untold : (name : List ℕ) (key : KeyValue) → now.key name ≡ Some key → (c : ℕ × ℕ × ℕ) →
      IsIn c (left name key).execs → IsInDelta past now (Count (Execs name key c.0 c.1) c.2)
  exec_untold name key held c k =
      let r = in_filter (λ x. not (tells_execs past name key x)) (exec_cells now name key nodes) c k in (
        exec_held now nodes name key held c r.0,
        λ d. not_both (tells_execs past name key c) r.1
            (tells_its_execs past name key c d),
      )

  shift_untold : (name : List ℕ) (key : KeyValue) → now.key name ≡ Some key → (c : ℕ × ℕ × ℕ × ℕ) →
      IsIn c (left name key).shifts → IsInDelta past now (Count (Shifts name key c.0 c.1 c.2) c.3)
  shift_untold name key held c k =
      let r = in_filter (λ x. not (tells_shifts past name key x)) (shift_cells now name key nodes) c k in (
        shift_held now nodes name key held c r.0,
        λ d. not_both (tells_shifts past name key c) r.1
            (tells_its_shifts past name key c d),
      )

  shift_apart : (name : List ℕ) (key : KeyValue) (c : ℕ × ℕ × ℕ × ℕ) → IsIn c (left name key).shifts → c.2 ≢ c.1
  shift_apart name key c k =
      let r = in_filter (λ x. not (tells_shifts past name key x)) (shift_cells now name key nodes) c k in
      let m = shift_member now name nodes key c r.0 in
      subst (λ (x : ℕ × ℕ × ℕ × ℕ). x.2 ≢ x.1) (sym m.rows.row.is) m.rows.row.apart

  grant_untold : (name : List ℕ) (key : KeyValue) → now.key name ≡ Some key → (c : ℕ × ℕ × ℕ) →
      IsIn c (left name key).grants → IsInDelta past now (Count (Shifts name key c.0 c.1 c.1) c.2)
  grant_untold name key held c k =
      let r = in_filter (λ x. not (tells_grants past name key x)) (grant_cells now name key nodes) c k in (
        grant_held now nodes name key held c r.0,
        λ d. not_both (tells_grants past name key c) r.1
            (tells_its_grants past name key c d),
      )

  module _ (e : EntryValue) (h : IsIn e es) where
    -- its cells are what is left
    hit_left : (c : ℕ × ℕ) → IsIn c e.hits → IsIn c (left e.name e.key).hits
    hit_left c k =
        let one = one_of (IsHit nodes) e.hits (entry_is e h).hits c k in
        let d = (delta (hit_told e c)).0 (flat_in operations_of es e (hit_told e c) h (hit_in e c k)) in
        let held = member_hit now e.name nodes c.0 one.0 (λ z. d.0.1 (sym d.0.0 ∙ z)) in
        filter_in (λ x. not (tells_hits past e.name x)) (hit_cells now e.name nodes) c
        (subst (λ n. IsIn (c.0, n) (hit_cells now e.name nodes)) d.0.0 held)
        (passes_not (tells_hits past e.name c) (λ t. d.1 (hits_are_told past e.name c d.0.1 t)))

    left_hit : (c : ℕ × ℕ) → IsIn c (left e.name e.key).hits → IsIn c e.hits
    left_hit c k = hit_there e h e.name c refl (hit_untold e.name e.key c k)

    exec_left : (c : ℕ × ℕ × ℕ) → IsIn c e.execs → IsIn c (left e.name e.key).execs
    exec_left c k =
        let one = one_of (IsExec nodes e.key) e.execs (entry_is e h).execs c k in
        let d = (delta (exec_told e c)).0 (flat_in operations_of es e (exec_told e c) h (exec_in e c k)) in
        let below = term_below nodes e.key c.0 (entry_is e h).key one.0.0 in
        let held = member_term (now.execs e.name) nodes e.key c.0 c.1 below one.0.0 one.1
        (λ z. d.0.1 (sym d.0.0.1 ∙ z)) in
        filter_in (λ x. not (tells_execs past e.name e.key x)) (exec_cells now e.name e.key nodes) c
        (subst (λ n. IsIn (c.0, c.1, n) (exec_cells now e.name e.key nodes)) d.0.0.1 held)
        (passes_not (tells_execs past e.name e.key c) (λ t. d.1 (execs_are_told past e.name e.key c d.0.1 t)))

    left_exec : (c : ℕ × ℕ × ℕ) → IsIn c (left e.name e.key).execs → IsIn c e.execs
    left_exec c k = exec_there e h e.name e.key c refl (exec_untold e.name e.key (keyed e h) c k)

    shift_left : (c : ℕ × ℕ × ℕ × ℕ) → IsIn c e.shifts → IsIn c (left e.name e.key).shifts
    shift_left c k =
        let one = one_of (IsShift nodes e.key) e.shifts (entry_is e h).shifts c k in
        let d = (delta (shift_told e c)).0 (flat_in operations_of es e (shift_told e c) h (shift_in e c k)) in
        let below = term_below nodes e.key c.0 (entry_is e h).key one.0.0 in
        let held = member_shift now e.name nodes e.key c.0 c.1 c.2 below one.0.0 one.1 one.2 one.3
        (λ z. d.0.1 (sym d.0.0.1 ∙ z)) in
        filter_in (λ x. not (tells_shifts past e.name e.key x)) (shift_cells now e.name e.key nodes) c
        (subst (λ n. IsIn (c.0, c.1, c.2, n) (shift_cells now e.name e.key nodes)) d.0.0.1 held)
        (passes_not (tells_shifts past e.name e.key c) (λ t. d.1 (shifts_are_told past e.name e.key c d.0.1 t)))

    left_shift : (c : ℕ × ℕ × ℕ × ℕ) → IsIn c (left e.name e.key).shifts → IsIn c e.shifts
    left_shift c k = shift_there e h e.name e.key c (shift_apart e.name e.key c k) refl
        (shift_untold e.name e.key (keyed e h) c k)

    grant_left : (c : ℕ × ℕ × ℕ) → IsIn c e.grants → IsIn c (left e.name e.key).grants
    grant_left c k =
        let one = one_of (IsGrant nodes e.key) e.grants (entry_is e h).grants c k in
        let d = (delta (grant_told e c)).0 (flat_in operations_of es e (grant_told e c) h (grant_in e c k)) in
        let below = term_below nodes e.key c.0 (entry_is e h).key one.0.0 in
        let held = member_term (granted_in now e.name) nodes e.key c.0 c.1 below one.0.0 one.1
        (λ z. d.0.1 (sym d.0.0.1 ∙ z)) in
        filter_in (λ x. not (tells_grants past e.name e.key x)) (grant_cells now e.name e.key nodes) c
        (subst (λ n. IsIn (c.0, c.1, n) (grant_cells now e.name e.key nodes)) d.0.0.1 held)
        (passes_not (tells_grants past e.name e.key c) (λ t. d.1 (grants_are_told past e.name e.key c d.0.1 t)))

    left_grant : (c : ℕ × ℕ × ℕ) → IsIn c (left e.name e.key).grants → IsIn c e.grants
    left_grant c k = grant_there e h e.name e.key c refl (grant_untold e.name e.key (keyed e h) c k)

    entry_left : e ≡ left e.name e.key
    entry_left =
        let one = entry_is e h in
        let hits = same_list hit_place e.hits (left e.name e.key).hits one.hits_ascend
        (ascends _ (filter_ascends (λ x. not (tells_hits past e.name x)) hit_place (hit_cells now e.name nodes)
        (hits_ascend now e.name nodes))) hit_left left_hit in
        let execs = same_list exec_place e.execs (left e.name e.key).execs one.execs_ascend
        (ascends _ (filter_ascends (λ x. not (tells_execs past e.name e.key x)) exec_place
        (exec_cells now e.name e.key nodes) (terms_ascend (now.execs e.name) nodes e.key))) exec_left left_exec in
        let shifts = same_list shift_place e.shifts (left e.name e.key).shifts one.shifts_ascend
        (ascends _ (filter_ascends (λ x. not (tells_shifts past e.name e.key x)) shift_place
        (shift_cells now e.name e.key nodes) (shifts_ascend now e.name nodes e.key))) shift_left left_shift in
        let grants = same_list exec_place e.grants (left e.name e.key).grants one.grants_ascend
        (ascends _ (filter_ascends (λ x. not (tells_grants past e.name e.key x)) exec_place
        (grant_cells now e.name e.key nodes) (terms_ascend (granted_in now e.name) nodes e.key))) grant_left
        left_grant in
        λ i. record { name = e.name; key = e.key; hits = hits i; execs = execs i; shifts = shifts i; grants = grants i }

    -- of a name with the same key and no other cell the states tell the same
    module _ (below : IsBelow past now) (had : past.key e.name ≡ Some e.key) (quiet : tells_cells e ≡ false) where
      same_key_of : (name : List ℕ) → name ≡ e.name → past.key name ≡ now.key name
      same_key_of name s = subst (λ n. past.key n ≡ now.key n) (sym s) (had ∙ sym (keyed e h))

      silent : {A : Type 0} → IsTrue (tells_cells e) → A
      silent t = absurd (true≢false (sym t ∙ quiet))

      told_before : (op : Operation) → name_in op ≡ e.name → IsTold now op → IsTold past op
      told_before (Set name key) s d = same_key_of name s ∙ d
      told_before (Count (Hits name node) number) s d = by_test (tells_hits past name (node, number)) refl
        where
          by_test : (b : Bool) → tells_hits past name (node, number) ≡ b → IsTold past (Count (Hits name node) number)
          by_test true t = hits_are_told past name (node, number) d.1 t
          by_test false f = silent (hits_tell e (node, number)
              (hit_there e h name (node, number) (sym s) (
                d,
                λ p. true≢false (sym (tells_its_hits past name (node, number) p) ∙ f),
              )))
      told_before (Count (Execs name key term node) number) s d =
          by_test (tells_execs past name key (term, node, number)) refl
        where
          by_test : (b : Bool) → tells_execs past name key (term, node, number) ≡ b →
              IsTold past (Count (Execs name key term node) number)
          by_test true t = execs_are_told past name key (term, node, number) d.1 t
          by_test false f = silent (execs_tell e (term, node, number)
              (exec_there e h name key (term, node, number) (sym s)
              (d, λ p. true≢false (sym (tells_its_execs past name key (term, node, number) p) ∙ f))))
      told_before (Count (Shifts name key term from to) number) s d =
          by_test (tells_shifts past name key (term, from, to, number)) refl
        where
          by_test : (b : Bool) → tells_shifts past name key (term, from, to, number) ≡ b →
              IsTold past (Count (Shifts name key term from to) number)
          by_test true t = shifts_are_told past name key (term, from, to, number) d.1 t
          by_test false f = ⊎_elim
              (λ same. silent (grants_tell e (term, from, number)
              (grant_there e h name key (term, from, number) (sym s)
              (subst (λ o. IsInDelta past now (Count (Shifts name key term from o) number)) same untold))))
              (λ apart. silent (shifts_tell e (term, from, to, number)
              (shift_there e h name key (term, from, to, number) apart (sym s) untold)))
              (cases_eq to from)
            where
              untold : IsInDelta past now (Count (Shifts name key term from to) number)
              untold = (d, λ p. true≢false (sym (tells_its_shifts past name key (term, from, to, number) p) ∙ f))

      execs_upto : (name : List ℕ) → name ≡ e.name → (term node : ℕ) →
          past.execs name term node ≤ now.execs name term node
      execs_upto name s term node = ⊎_elim
          (λ lower. absurd (key_below-irrefl (now.key name) (subst (λ o. IsKeyBelow o (now.key name))
          (same_key_of name s) lower)))
          (λ same. same.1 term node)
          (below name).cells

      shifts_upto : (name : List ℕ) → name ≡ e.name → (term from to : ℕ) →
          past.shifts name term from to ≤ now.shifts name term from to
      shifts_upto name s term from to = ⊎_elim
          (λ lower. absurd (key_below-irrefl (now.key name) (subst (λ o. IsKeyBelow o (now.key name))
          (same_key_of name s) lower)))
          (λ same. same.2 term from to)
          (below name).cells

      still_some : (a b number : ℕ) → a ≡ number → number ≢ 0 → a ≤ b → b ≢ 0
      still_some a b number is some le z = some (omega (arith, is, le, z))

      told_after : (op : Operation) → name_in op ≡ e.name → IsTold past op → IsTold now op
      told_after (Set name key) s d = sym (same_key_of name s) ∙ d
      told_after (Count (Hits name node) number) s d =
          let some = still_some (past.hits name node) (now.hits name node) number d.0 d.1 ((below name).hits node) in
          let before = told_before (Count (Hits name node) (now.hits name node)) s (refl, some) in
          (sym before.0 ∙ d.0, d.1)
      told_after (Count (Execs name key term node) number) s d =
          let some = still_some (past.execs name term node) (now.execs name term node) number d.0.1 d.1
          (execs_upto name s term node) in
          let here = sym (same_key_of name s) ∙ d.0.0 in
          let before = told_before (Count (Execs name key term node) (now.execs name term node)) s
          ((here, refl), some) in
          ((here, sym before.0.1 ∙ d.0.1), d.1)
      told_after (Count (Shifts name key term from to) number) s d =
          let some = still_some (past.shifts name term from to) (now.shifts name term from to) number d.0.1 d.1
          (shifts_upto name s term from to) in
          let here = sym (same_key_of name s) ∙ d.0.0 in
          let before = told_before (Count (Shifts name key term from to) (now.shifts name term from to)) s
          ((here, refl), some) in
          ((here, sym before.0.1 ∙ d.0.1), d.1)

      tell_same : TellSameOf past now e.name
      tell_same op s = (told_after op s, told_before op s)

    -- so it isn't left out
    is_told : IsBelow past now → IsTrue (not (tells_key past e.name e.key) || tells_cells e)
    is_told below = by_key (tells_key past e.name e.key) refl
      where
        by_cells : (t : Bool) → tells_cells e ≡ t → past.key e.name ≡ Some e.key → tells_cells e ≡ true
        by_cells true q had = q
        by_cells false q had = absurd (((delta (Set e.name e.key)).0
            (flat_in operations_of es e (Set e.name e.key) h (inl refl))).1 (tell_same below had q))

        by_key : (b : Bool) → tells_key past e.name e.key ≡ b →
            IsTrue (not (tells_key past e.name e.key) || tells_cells e)
        by_key true t = or_right (not (tells_key past e.name e.key)) (tells_cells e)
            (by_cells (tells_cells e) refl (key_is_told past e.name e.key t))
        by_key false f = or_left (not (tells_key past e.name e.key)) (tells_cells e) (ap not f)

  -- ---- which entries there are

  abbrev IsUntold : List ℕ → KeyValue → Type 0
  IsUntold name key = IsTrue (not (tells_key past name key) || tells_cells (left name key))

  untold_in : (x : EntryValue) → IsTrue (not (tells_key past x.name x.key) || tells_cells (untold_cells past x)) →
      IsIn (untold_cells past x) (untold_entry past x)
  untold_in x t = subst (λ b. IsIn (untold_cells past x) (cond b (untold_cells past x ∷ []) [])) (sym t) (inl refl)

  there : IsBelow past now → ((name : List ℕ) (key : KeyValue) → now.key name ≡ Some key → IsIn name now.names) →
      (e : EntryValue) → IsIn e es → IsIn e (untold_entries past now nodes)
  there below named e h =
      let whole = entry_of now nodes e.name e.key in
      let same = entry_left e h in
      let told = subst (λ x. IsTrue (not (tells_key past e.name e.key) || tells_cells x)) same (is_told e h below) in
      flat_in (untold_entry past) (entries_of now nodes) whole e
      (member_entry now nodes e.name e.key (named e.name e.key (keyed e h)) (keyed e h))
      (subst (λ x. IsIn x (untold_entry past whole)) (sym same) (untold_in whole told))

  differs : (name : List ℕ) (key : KeyValue) → now.key name ≡ Some key → IsUntold name key → TellSameOf past now name →
      ⊥
  differs name key held t same = ⊎_elim
      (λ n. not_both (tells_key past name key) n (tells_its_key past name key ((same (Set name key) refl).1 held)))
      (λ c. ⊎_elim hits (λ d. ⊎_elim execs (λ f. ⊎_elim shifts grants f) d) (cell_told (left name key) c))
      (either (not (tells_key past name key)) (tells_cells (left name key)) t)
    where
      hits : (c : ℕ × ℕ) × IsIn c (left name key).hits → ⊥
      hits (c, k) = let d = hit_untold name key c k in d.1 ((same (Count (Hits name c.0) c.1) refl).1 d.0)

      execs : (c : ℕ × ℕ × ℕ) × IsIn c (left name key).execs → ⊥
      execs (c, k) = let d = exec_untold name key held c k in
          d.1 ((same (Count (Execs name key c.0 c.1) c.2) refl).1 d.0)

      shifts : (c : ℕ × ℕ × ℕ × ℕ) × IsIn c (left name key).shifts → ⊥
      shifts (c, k) = let d = shift_untold name key held c k in
          d.1 ((same (Count (Shifts name key c.0 c.1 c.2) c.3) refl).1 d.0)

      grants : (c : ℕ × ℕ × ℕ) × IsIn c (left name key).grants → ⊥
      grants (c, k) = let d = grant_untold name key held c k in
          d.1 ((same (Count (Shifts name key c.0 c.1 c.1) c.2) refl).1 d.0)

  left_there : (name : List ℕ) (key : KeyValue) → now.key name ≡ Some key → IsUntold name key → IsIn (left name key) es
  left_there name key held t =
      let r = in_flat operations_of es (Set name key) ((delta (Set name key)).1 (held, differs name key held t)) in
      let s = set_of r.0 name key r.2 in
      subst (λ x. IsIn x es) (entry_left r.0 r.1 ∙ sym (λ i. left (s.0 i) (s.1 i))) r.1

  back : (e : EntryValue) → IsIn e (untold_entries past now nodes) → IsIn e es
  back e h =
      let r = in_flat (untold_entry past) (entries_of now nodes) e h in
      let m = entry_member now nodes r.0 r.1 in
      let s = in_untold past (entry_of now nodes m.name m.key) e (subst (λ x. IsIn e (untold_entry past x)) m.is r.2) in
      subst (λ x. IsIn x es) (sym s.1) (left_there m.name m.key m.keyed s.0)

  all_entries : IsBelow past now → ((name : List ℕ) (key : KeyValue) → now.key name ≡ Some key → IsIn name now.names) →
      IsAscending now.names → es ≡ untold_entries past now nodes
  all_entries below named ascending =
      same_list (λ (e : EntryValue). e.name) es (untold_entries past now nodes) are.ascend
      (ascends _ (untold_ascend past (entries_of now nodes) (entries_ascend now nodes ascending)))
      (there below named) back

-- ---- messages

fold_named : (ops : List Operation) (name : List ℕ) (key : KeyValue) → (fold ops).key name ≡ Some key →
    IsIn name (fold ops).names
unfolding fold
fold_named ops name key e =
    let h = key_named name ops (key, e) in
    subst (λ n. IsIn n (names_of ops)) h.named (holds-names_of ops h.op h.held h.counted)

fold_ascends : (ops : List Operation) → IsAscending (fold ops).names
unfolding fold
fold_ascends ops = names_of-ascending ops

-- of a state of some set and one below it
pub is_difference : (past : State) (ops : List Operation) (nodes : ℕ) (m : MessageValue) → IsBelow past (fold ops) →
    IsMessage nodes m → IsDelta past (fold ops) (operations_in m)
    → m ≡ difference_of past (fold ops) nodes m.from m.to m.base m.upto m.ack
is_difference past ops nodes m below is delta =
    let same = all_entries past (fold ops) nodes m.entries is.entries delta below (fold_named ops) (fold_ascends ops) in
    λ i. record { from = m.from; to = m.to; base = m.base; upto = m.upto; ack = m.ack; entries = same i }
