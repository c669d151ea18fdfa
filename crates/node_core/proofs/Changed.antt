-- What changed after a version is what differs from the state then: at the start, after each step, and as operations.
use Rattle.std.proofs.Common.{◌≡◌, ◌≢◌, ℕ, ◌≤◌, ◌<◌, ◌+◌, Bool, true, false, cond, List, ◌++◌, ◌⊎◌, inl, inr, ◌↔◌, refl, sym, ◌∙◌, ap, subst, arith, ⊎_elim, Option, Some, None}
use Rattle.std.proofs.lemmas.Bool.{true≢false, cases_eq, cases_lt}
use Rattle.stamp_register.specs.Keys.{KeyValue}
use Rattle.operations.specs.declared.counted.Counted.{Counted}
use Rattle.operations.specs.declared.counted.Counted.TheVariants.{Hits, Execs, Shifts}
use Rattle.operations.specs.Operations.{Operation, Set, Count, name_in}
use Rattle.operations.specs.Operations as cells
use Rattle.operations.specs.Counts.{is_hits}
use Rattle.replica_state.specs.Cells.{cell_of}
use Rattle.replica_state.specs.States.{State}
use Rattle.replica_state.specs.Folds.{fold, key_of, at_key}
use Rattle.replica_state.specs.Knowledge.{changes}
use Rattle.replica_state.specs.StateOrder.{IsBelow}
use Rattle.replica_state.specs.Deltas.{IsTold, TellSameOf, IsInDelta}
use Rattle.replica_state.proofs.Sets.{KeyUpto, KeyUpto-antisym}
use Rattle.replica_state.proofs.KnownSets.{union_above_right}
use Rattle.replica_state.proofs.Changes.{changes_is_change}
use Rattle.delta_exchange.specs.Changes.{LastChanges, IsSameKey, IsSameCell, IsChangedAt, ChangesAt, TellsChanges, IsUnchangedSince, IsChangeSince}
use Rattle.delta_exchange.specs.Versions.{no_changes}
use Rattle.node_calls.specs.Asks.{Asked}
use Rattle.node_steps.specs.Nodes.{Node, start, state_shown}
use Rattle.node_core.specs.Steps.{after, operations_added, past_with}
use Rattle.node_core.proofs.Pasts.{IsHistory, HasHistory, next_version, past_now, past_same}
use Rattle.node_steps.proofs.UptoStates.{IsUptoAt, cases_key, upto_below}

-- ---- one key, or one cell

cases_cell : (v w : State) (name : List ℕ) (c : Counted) → IsSameCell v w name c ⊎ (IsSameCell v w name c → ⊥)
cases_cell v w name c = at (is_hits c) refl (cases_key (v.key name) (w.key name))
    (cases_eq (cell_of v name c) (cell_of w name c))
  where
    at : (t : Bool) → is_hits c ≡ t → IsSameKey v w name ⊎ (IsSameKey v w name → ⊥) →
        (cell_of v name c ≡ cell_of w name c) ⊎ (cell_of v name c ≢ cell_of w name c) →
        IsSameCell v w name c ⊎ (IsSameCell v w name c → ⊥)
    at t e k (inr d) = inr (λ s. d s.1)
    at true e k (inl s) = inl ((λ h. absurd (true≢false (sym e ∙ h))), s)
    at false e (inl k) (inl s) = inl ((λ h. k), s)
    at false e (inr d) (inl s) = inr (λ r. d (r.0 e))

upto_cell : (v w : State) (name : List ℕ) → IsUptoAt v w name → (c : Counted) →
    (is_hits c ≡ false → IsSameKey v w name) → cell_of v name c ≤ cell_of w name c
upto_cell v w name h (Hits node) f = h.hits node
upto_cell v w name h (Execs term node) f = h.execs (f refl) term node
upto_cell v w name h (Shifts term from to) f = h.shifts (f refl) term from to

-- what lies between two that are one is the same
between_keys : (a b c : Option KeyValue) → KeyUpto a b → KeyUpto b c → a ≡ c → a ≡ b
between_keys a b c h k e = KeyUpto-antisym a b h (subst (KeyUpto b) (sym e) k)

between_numbers : (a b c : ℕ) → a ≤ b → b ≤ c → a ≡ c → b ≡ c
between_numbers a b c h k e = omega arith

-- with an older state x, the state v before a step and w after it
last_kept : (vw xv xw : Type 0) (u version before now : ℕ) → vw ⊎ (vw → ⊥) → IsChangedAt vw version before now →
    (vw → (u < before) ↔ (xv → ⊥)) → (vw → xv → xw) → (vw → xw → xv) → (xw → vw) → ((vw → ⊥) → u < version) →
    (u < now) ↔ (xw → ⊥)
last_kept vw xv xw u version before now (inl s) step old there back through later = (
  λ l x. (old s).0 (subst (λ m. u < m) (step.0 s) l) (back s x),
  λ f. subst (λ m. u < m) (sym (step.0 s)) ((old s).1 (λ x. f (there s x))),
)
last_kept vw xv xw u version before now (inr d) step old there back through later = (
  λ l x. d (through x),
  λ f. subst (λ m. u < m) (sym (step.1 d)) (later d),
)

last_upto : (vw vv : Type 0) (old version before now : ℕ) → vw ⊎ (vw → ⊥) → IsChangedAt vw version before now →
    (vw → (old < before) ↔ (vv → ⊥)) → vv → old ≤ version → now ≤ version
last_upto vw vv old version before now (inl s) step was same l = ⊎_elim
    (λ (k : old < before). absurd ((was s).0 k same))
    (λ (k : before ≤ old).
    let e = step.0 s in
    omega arith)
    (cases_lt old before)
last_upto vw vv old version before now (inr d) step was same l =
    let e = step.1 d in
    omega arith

-- nothing changed after the newest version
last_new : (same : Type 0) (version now : ℕ) → now ≤ version → same → (version < now) ↔ (same → ⊥)
last_new same version now l s = (λ k. absurd (omega arith), λ f. absurd (f s))

-- ---- all keys and cells, by one older state

-- what changed after a version is what differs from a state
pub record DiffersFrom (x : State) (u : ℕ) (now : State) (last : LastChanges) : Type 0 where
  pub key : (name : List ℕ) → (u < last.key name) ↔ (IsSameKey x now name → ⊥)
  pub cell : (name : List ℕ) (c : Counted) → cell_of now name c ≢ 0 →
      (u < last.cell name c) ↔ (IsSameCell x now name c → ⊥)

at_version : (past : ℕ → State) (version : ℕ) (now : State) (last : LastChanges) → TellsChanges past version now last →
    (u : ℕ) → u ≤ version → DiffersFrom (past u) u now last
at_version past version now last h u l = record { key = h.key u l; cell = h.cell u l }

differs_later : (v w : State) (u version : ℕ) (same : Type 0) → (v ≡ w → same) → (v ≡ w) ⊎ (u < version) → (same → ⊥) →
    u < version
differs_later v w u version same f (inl e) d = absurd (d (f e))
differs_later v w u version same f (inr l) d = l

old_kept : (x v w : State) (u version : ℕ) (before now : LastChanges) → IsBelow x v → IsBelow v w →
    DiffersFrom x u v before → ChangesAt v w version before now → (v ≡ w) ⊎ (u < version) → DiffersFrom x u w now
old_kept x v w u version before now lower upper old step later =
    record {
      key = λ name.
          let a = upto_below x v name (lower name) in
          let b = upto_below v w name (upper name) in
          last_kept (IsSameKey v w name) (IsSameKey x v name) (IsSameKey x w name) u version _ _
          (cases_key (v.key name) (w.key name)) (step.key name)
          (λ s. old.key name) (λ s e. e ∙ s) (λ s e. e ∙ sym s) (λ e. sym (between_keys _ _ _ a.key b.key e) ∙ e)
          (differs_later v w u version (IsSameKey v w name) (λ e. ap (λ (s : State). s.key name) e) later);
      cell = λ name c ne.
          let a = upto_below x v name (lower name) in
          let b = upto_below v w name (upper name) in
          last_kept (IsSameCell v w name c) (IsSameCell x v name c) (IsSameCell x w name c) u version _ _
          (cases_cell v w name c) (step.cell name c ne)
          (λ s. old.cell name c (λ z. ne (sym s.1 ∙ z))) (λ s e. ((λ h. e.0 h ∙ s.0 h), e.1 ∙ s.1))
          (λ s e. ((λ h. e.0 h ∙ sym (s.0 h)), e.1 ∙ sym s.1))
          (λ e.
          let first : is_hits c ≡ false → IsSameKey x v name = λ h. between_keys _ _ _ a.key b.key (e.0 h) in
          let second : is_hits c ≡ false → IsSameKey v w name = λ h. sym (first h) ∙ e.0 h in
          (second, between_numbers _ _ _ (upto_cell x v name a c first) (upto_cell v w name b c second) e.1))
          (differs_later v w u version (IsSameCell v w name c)
          (λ e. ((λ h. ap (λ (s : State). s.key name) e), ap (λ (s : State). cell_of s name c) e)) later);
    }

-- nothing differs from the newest state
new_kept : (v w : State) (old version : ℕ) (before now : LastChanges) → DiffersFrom v old v before →
    ChangesAt v w version before now → old ≤ version → DiffersFrom w version w now
new_kept v w old version before now was step l =
    record {
      key = λ name. last_new (IsSameKey w w name) version _ (last_upto (IsSameKey v w name) (IsSameKey v v name) old
          version _ _ (cases_key (v.key name) (w.key name)) (step.key name) (λ s. was.key name) refl l) refl;
      cell = λ name c ne. last_new (IsSameCell w w name c) version _
          (last_upto (IsSameCell v w name c) (IsSameCell v v name c) old version _ _ (cases_cell v w name c)
          (step.cell name c ne)
          (λ s. was.cell name c (λ z. ne (sym s.1 ∙ z))) ((λ h. refl), refl) l) ((λ h. refl), refl);
    }

-- ---- a step

pub changes_kept : (past : ℕ → State) (version : ℕ) (ops added : List Operation) (before now : LastChanges) →
    IsHistory past version (fold ops) → TellsChanges past version (fold ops) before →
    ChangesAt (fold ops) (fold (added ++ ops)) (next_version version (fold ops) added) before now →
    TellsChanges (past_with (next_version version (fold ops) added) (fold (added ++ ops)) past)
    (next_version version (fold ops) added) (fold (added ++ ops)) now
changes_kept past version ops added before now has tells step =
    record { key = λ u l. (from u l).key; cell = λ u l. (from u l).cell }
  where
    next : ℕ
    next = next_version version (fold ops) added

    past_then : ℕ → State
    past_then = past_with next (fold (added ++ ops)) past

    at_old : (u : ℕ) → u ≤ version → (fold ops ≡ fold (added ++ ops)) ⊎ (u < next) →
        DiffersFrom (past_then u) u (fold (added ++ ops)) now
    at_old u l later = subst (λ x. DiffersFrom x u (fold (added ++ ops)) now)
        (sym (past_same past version ops added has u l))
        (old_kept (past u) (fold ops) (fold (added ++ ops)) u next before now
        (subst (IsBelow (past u)) has.last (has.grows u version l (omega arith))) (union_above_right added ops)
        (at_version past version (fold ops) before tells u l) step later)

    at_new : (u : ℕ) → u ≡ next → version ≤ next → DiffersFrom (past_then u) u (fold (added ++ ops)) now
    at_new u e l = subst (λ m. DiffersFrom (past_then m) m (fold (added ++ ops)) now) (sym e)
        (subst (λ x. DiffersFrom x next (fold (added ++ ops)) now) (sym (past_now next (fold (added ++ ops)) past))
        (new_kept (fold ops) (fold (added ++ ops)) version next before now
        (subst (λ x. DiffersFrom x version (fold ops) before) has.last
        (at_version past version (fold ops) before tells version (omega arith))) step l))

    from : (u : ℕ) → u ≤ next → DiffersFrom (past_then u) u (fold (added ++ ops)) now
    from u l = at (changes (fold ops) added) refl
      where
        at : (t : Bool) → changes (fold ops) added ≡ t → DiffersFrom (past_then u) u (fold (added ++ ops)) now
        at false e =
            let same : next ≡ version + 0 = ap (λ t. version + cond t 1 0) e in
            at_old u (omega arith) (inl (sym ((changes_is_change added ops).0 e)))
        at true e =
            let same : next ≡ version + 1 = ap (λ t. version + cond t 1 0) e in
            ⊎_elim (λ n. at_new u n (omega arith)) (λ n. at_old u (omega arith) (inr (omega arith))) (cases_eq u next)

pub changes_after : (i : ℕ) (n : Node) (ask : Asked) (words : List ℕ) (before now : LastChanges) → HasHistory n →
    TellsChanges n.past n.marks.version (state_shown n) before →
    ChangesAt (state_shown n) (state_shown (after i n ask words)) (after i n ask words).marks.version before now →
    TellsChanges (after i n ask words).past (after i n ask words).marks.version (state_shown (after i n ask words)) now
unfolding after
changes_after i n ask words before now has tells step = changes_kept n.past n.marks.version n.ops
    (operations_added i n ask words) before now has tells step

-- where the state stays, nothing changes
pub nothing_changes : (v : State) (version : ℕ) (last : LastChanges) → ChangesAt v v version last last
nothing_changes v version last = record {
  key = λ name. (λ s. refl, λ d. absurd (d refl));
  cell = λ name c ne. (λ s. refl, λ d. absurd (d ((λ h. refl), refl)));
}

pub changes_start : TellsChanges start.past start.marks.version (state_shown start) no_changes
changes_start = record {
  key = λ v l name. (λ k. absurd (omega arith), λ d. absurd (d refl));
  cell = λ v l name c ne. (λ k. absurd (omega arith), λ d. absurd (d ((λ h. refl), refl)));
}

-- ---- what differs, as operations

not_not : {A : Type 0} → A ⊎ (A → ⊥) → ((A → ⊥) → ⊥) → A
not_not (inl a) f = a
not_not (inr d) f = absurd (f d)

not_later : (base last : ℕ) → (base < last → ⊥) → last ≤ base
not_later base last f = ⊎_elim (λ l. absurd (f l)) (λ l. l) (cases_lt base last)

not_both : (base last : ℕ) → last ≤ base → base < last → ⊥
not_both base last l k = omega arith

-- states with the same key and the same cells of a name tell the same of it
same_told : (v w : State) (op : Operation) → IsSameKey v w (name_in op) →
    ((c : Counted) → cell_of v (name_in op) c ≡ cell_of w (name_in op) c) → IsTold v op → IsTold w op
same_told v w (Set n key) k f h = sym k ∙ h
same_told v w (Count (cells.Hits n node) number) k f h = (sym (f (Hits node)) ∙ h.0, h.1)
same_told v w (Count (cells.Execs n key term node) number) k f h =
    ((sym k ∙ h.0.0, sym (f (Execs term node)) ∙ h.0.1), h.1)
same_told v w (Count (cells.Shifts n key term from to) number) k f h =
    ((sym k ∙ h.0.0, sym (f (Shifts term from to)) ∙ h.0.1), h.1)

-- a cell of a key that isn't 0 is that of a key
keyed_at : (k : Option KeyValue) (f : KeyValue → ℕ) → at_key k f ≢ 0 → (key : KeyValue) × (k ≡ Some key)
keyed_at None f ne = absurd (ne refl)
keyed_at (Some key) f ne = (key, refl)

keyed_cell : (ops : List Operation) (name : List ℕ) (c : Counted) → cell_of (fold ops) name c ≢ 0 → is_hits c ≡ false →
    (key : KeyValue) × ((fold ops).key name ≡ Some key)
unfolding fold
keyed_cell ops name (Hits node) ne h = absurd (true≢false h)
keyed_cell ops name (Execs term node) ne h = keyed_at (key_of name ops) _ ne
keyed_cell ops name (Shifts term from to) ne h = keyed_at (key_of name ops) _ ne

module _ (x : State) (ops : List Operation) (base : ℕ) (last : LastChanges) (below : IsBelow x (fold ops))
    (from : DiffersFrom x base (fold ops) last) where
  same_tells : (name : List ℕ) → IsUnchangedSince (fold ops) last base name → TellSameOf x (fold ops) name
  same_tells name old op e =
      let keys : IsSameKey x (fold ops) (name_in op) = subst (λ m. IsSameKey x (fold ops) m) (sym e) key in
      let numbers : (c : Counted) → cell_of x (name_in op) c ≡ cell_of (fold ops) (name_in op) c =
      subst (λ m. (c : Counted) → cell_of x m c ≡ cell_of (fold ops) m c) (sym e) cell in
      (same_told x (fold ops) op keys numbers, same_told (fold ops) x op (sym keys) (λ c. sym (numbers c)))
    where
      key : IsSameKey x (fold ops) name
      key = not_not (cases_key (x.key name) ((fold ops).key name)) (λ d. not_both base _ old.key ((from.key name).1 d))

      cell : (c : Counted) → cell_of x name c ≡ cell_of (fold ops) name c
      cell c =
          let upto : cell_of x name c ≤ cell_of (fold ops) name c =
          upto_cell x (fold ops) name (upto_below x (fold ops) name (below name)) c (λ h. key) in
          ⊎_elim
          (λ (z : cell_of (fold ops) name c ≡ 0). omega arith)
          (λ ne. (not_not (cases_cell x (fold ops) name c) (λ d. not_both base _ (old.cell c ne)
          ((from.cell name c ne).1 d))).1)
          (cases_eq (cell_of (fold ops) name c) 0)

  tells_key : (name : List ℕ) → TellSameOf x (fold ops) name → IsSameKey x (fold ops) name
  tells_key name same = at (x.key name) ((fold ops).key name) refl refl
    where
      at : (a b : Option KeyValue) → x.key name ≡ a → (fold ops).key name ≡ b → IsSameKey x (fold ops) name
      at a (Some key) e f = (same (Set name key) refl).1 f ∙ sym f
      at (Some key) None e f = e ∙ sym ((same (Set name key) refl).0 e)
      at None None e f = e ∙ sym f

  tells_cell : (name : List ℕ) → TellSameOf x (fold ops) name → (c : Counted) → cell_of (fold ops) name c ≢ 0 →
      IsSameCell x (fold ops) name c
  tells_cell name same (Hits node) ne = (
    (λ h. absurd (true≢false h)),
    ((same (Count (cells.Hits name node) _) refl).1 (refl, ne)).0,
  )
  tells_cell name same (Execs term node) ne =
      let keyed = keyed_cell ops name (Execs term node) ne refl in (
        (λ h. tells_key name same),
        ((same (Count (cells.Execs name keyed.0 term node) _) refl).1
            ((keyed.1, refl), ne)).0.1,
      )
  tells_cell name same (Shifts term from to) ne =
      let keyed = keyed_cell ops name (Shifts term from to) ne refl in (
        (λ h. tells_key name same),
        ((same (Count (cells.Shifts name keyed.0 term from to) _) refl).1
            ((keyed.1, refl), ne)).0.1,
      )

  tells_unchanged : (name : List ℕ) → TellSameOf x (fold ops) name → IsUnchangedSince (fold ops) last base name
  tells_unchanged name same = record {
    key = not_later base _ (λ l. (from.key name).0 l (tells_key name same));
    cell = λ c ne. not_later base _ (λ l. (from.cell name c ne).0 l (tells_cell name same c ne));
  }

  delta_changes : (op : Operation) → IsInDelta x (fold ops) op ↔ IsChangeSince (fold ops) last base op
  delta_changes (Set name key) = (
    λ d. (d.0, λ old. d.1 (same_tells name old)),
    λ d. (d.0, λ same. d.1 (tells_unchanged name same)),
  )
  delta_changes (Count (cells.Hits name node) number) = (
    λ d. record {
      is_now = sym d.0.0;
      positive = d.0.1;
      later =
          (from.cell name (Hits node) (λ z. d.0.1 (sym d.0.0 ∙ z))).1 (λ s. d.1 (s.1 ∙ d.0.0, d.0.1));
    },
    λ m. (
      (sym m.is_now, m.positive),
      λ told. (from.cell name (Hits node) (λ z. m.positive (m.is_now ∙ z))).0 m.later
          ((λ h. absurd (true≢false h)), told.0 ∙ m.is_now),
    ),
  )
  delta_changes (Count (cells.Execs name key term node) number) = (
    λ d. (
      d.0.0.0,
      record {
        is_now = sym d.0.0.1;
        positive = d.0.1;
        later =
            (from.cell name (Execs term node) (λ z. d.0.1 (sym d.0.0.1 ∙ z))).1
            (λ s. d.1 ((s.0 refl ∙ d.0.0.0, s.1 ∙ d.0.0.1), d.0.1));
      },
    ),
    λ m. (
      ((m.0, sym m.1.is_now), m.1.positive),
      λ told. (from.cell name (Execs term node)
          (λ z. m.1.positive (m.1.is_now ∙ z))).0 m.1.later ((λ h. told.0.0 ∙ sym m.0), told.0.1 ∙ m.1.is_now),
    ),
  )
  delta_changes (Count (cells.Shifts name key term giver taker) number) = (
    λ d. (
      d.0.0.0,
      record {
        is_now = sym d.0.0.1;
        positive = d.0.1;
        later =
            (from.cell name (Shifts term giver taker) (λ z. d.0.1 (sym d.0.0.1 ∙ z))).1
            (λ s. d.1 ((s.0 refl ∙ d.0.0.0, s.1 ∙ d.0.0.1), d.0.1));
      },
    ),
    λ m. (
      ((m.0, sym m.1.is_now), m.1.positive),
      λ told. (from.cell name (Shifts term giver taker)
          (λ z. m.1.positive (m.1.is_now ∙ z))).0 m.1.later ((λ h. told.0.0 ∙ sym m.0), told.0.1 ∙ m.1.is_now),
    ),
  )

-- what differs between the state at a version and the state now is what changed since
pub delta_is_changed : (past : ℕ → State) (version : ℕ) (ops : List Operation) (last : LastChanges) →
    IsHistory past version (fold ops) → TellsChanges past version (fold ops) last →
    (base : ℕ) → base ≤ version → (op : Operation) → IsInDelta (past base) (fold ops) op ↔ IsChangeSince (fold ops) last
    base op
delta_is_changed past version ops last has tells base l = delta_changes (past base) ops base last
    (subst (IsBelow (past base)) has.last (has.grows base version l (omega arith)))
    (at_version past version (fold ops) last tells base l)
