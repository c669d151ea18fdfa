-- A name of which something changed after a version has an entry, which can be written.
use Rattle.std.proofs.Common.{◌≡◌, ◌≢◌, ℕ, max, ◌<◌, ◌≤◌, ◌^◌, ◌==◌, ◌||◌, Bool, true, false, cond, List, ⊎_elim, Option, Some, None, refl, sym, ap, subst, ◌∙◌, arith}
use Rattle.std.specs.Prelude.{IsTrue, nat_lt}
use Rattle.std.proofs.lemmas.Bool.{true≢false, cases_lt, cases_eq}
use Rattle.std.proofs.lemmas.Bool.Decides.{nat_tests}
use Rattle.stamp_register.specs.Keys.{KeyValue}
use Rattle.operations.specs.Operations.{IsIn}
use Rattle.replica_state.specs.States.{State, granted_in}
use Rattle.replica_state.specs.Cells.{held_at}
use Rattle.operations.specs.Counts.{is_hits}
use Rattle.replica_state.specs.Cells as state
use Rattle.operations.specs.declared.counted.Counted.{Counted}
use Rattle.operations.specs.declared.counted.Counted.TheVariants.{Hits, Execs, Shifts}
use Rattle.delta_exchange.specs.declared.marks.NameMarks.{NameMarks}
use Rattle.delta_exchange.specs.declared.marks.Marks.{Marks}
use Rattle.delta_exchange.specs.Marks.{marks_at, latest_of, marks_value, last_changes, cell_change, AreUpto}
use Rattle.delta_exchange.specs.Changes.{IsChangedCell, IsUnchangedSince}
use Rattle.message_format.specs.Messages.{EntryValue}
use Rattle.message_format.specs.Spelling.{IsHit, IsExec, IsShift, IsGrant, IsEntry}
use Rattle.delta_exchange.specs.Cells.{EntryFits}
use Rattle.delta_exchange.specs.Since.{hits_since, execs_since, shifts_since, grants_since, entry_since, tells_cells}
use Rattle.message_format.proofs.Members.{all_of, one_of}
use Rattle.delta_exchange.proofs.BelowLemmas.{ascends}
use Rattle.delta_exchange.proofs.SinceCells.{IsMarked, IsFewState, changes_of, key_change, hit_changed, changed_hit, hits_since_ascend, few_hits_since, exec_changed, changed_exec, execs_since_ascend, few_execs_since, shift_changed, changed_shift, shifts_since_ascend, few_shifts_since, grant_changed, changed_grant, grants_since_ascend, few_grants_since}
use Rattle.delta_exchange.proofs.TellsCells.{either, hits_tell, execs_tell, shifts_tell, grants_tell, cell_told}
use Rattle.delta_exchange.proofs.SinceEntries.{all_since, AreOrdered, order_of, member_entry}

left_true : (a b : Bool) → IsTrue a → IsTrue (a || b)
left_true a b h = rw h refl

right_true : (a b : Bool) → IsTrue b → IsTrue (a || b)
right_true true b h = refl
right_true false b h = h

module _ (v : State) (m : Marks) (base : ℕ) (name : List ℕ) where
  -- ---- what the marks bound

  module _ (version : ℕ) (upto : AreUpto (marks_value m) version) where
    cell_upto : (c : Counted) → (changes_of m).cell name c ≤ (marks_value m).latest name
    unfolding last_changes
    cell_upto c = by_test (is_hits c) ((marks_value m).cell name c) ((marks_value m).key name)
        ((marks_value m).latest name) (upto.cell name c) (upto.key name)
      where
        by_own : (b : Bool) (x y l : ℕ) → x ≤ l → y ≤ l → cond b 0 (max x y) ≤ l
        by_own true x y l p q = omega arith
        by_own false x y l p q = omega (arith, p, q)

        by_test : (b : Bool) (x y l : ℕ) → x ≤ l → y ≤ l → cell_change b x y ≤ l
        by_test true x y l p q = p
        by_test false x y l p q = by_own (x == 0) x y l p q

    key_upto : (changes_of m).key name ≤ (marks_value m).latest name
    unfolding last_changes
    key_upto = upto.key name

    unchanged_upto : (marks_value m).latest name ≤ base → IsUnchangedSince v (changes_of m) base name
    unchanged_upto le =
        let k = key_upto in
        record { key = omega (arith, k, le); cell = λ c some. let l = cell_upto c in omega (arith, l, le) }

    latest_is : (o : Option NameMarks) → marks_at m.names.entries name ≡ o → (marks_value m).latest name ≡ latest_of o
    unfolding marks_value
    latest_is o at = ap (λ x. latest_of x) at

    pub marks_changed : (IsUnchangedSince v (changes_of m) base name → ⊥) →
        (w : NameMarks) × (marks_at m.names.entries name ≡ Some w) × (base < w.latest)
    marks_changed h = by_marks (marks_at m.names.entries name) refl
      where
        by_marks : (o : Option NameMarks) → marks_at m.names.entries name ≡ o →
            (w : NameMarks) × (marks_at m.names.entries name ≡ Some w) × (base < w.latest)
        by_marks None at = let none = latest_is None at in absurd (h (unchanged_upto (omega (arith, none))))
        by_marks (Some w) at = let is = latest_is (Some w) at in ⊎_elim
            (λ lt. (w, at, lt))
            (λ le. absurd (h (unchanged_upto (omega (arith, is, le)))))
            (cases_lt base w.latest)

module _ (v : State) {m : Marks} {name : List ℕ} {w : NameMarks} (marked : IsMarked m name w) (base : ℕ)
    {key : KeyValue} (keyed : v.key name ≡ Some key) where
  abbrev entry : EntryValue
  entry = entry_since (held_at v name) name key base w

  cell_tells : (c : Counted) → state.cell_of v name c ≢ 0 → base < (changes_of m).cell name c →
      IsTrue (tells_cells entry)
  cell_tells (Hits node) some lt =
      hits_tell entry (node, v.hits name node) (changed_hit v marked base node
      (v.hits name node) (record { is_now = refl; positive = some; later = lt }))
  cell_tells (Execs term node) some lt =
      execs_tell entry (term, node, v.execs name term node)
      (changed_exec v marked base keyed term node (v.execs name term node)
      (record { is_now = refl; positive = some; later = lt }))
  cell_tells (Shifts term from to) some lt = ⊎_elim
      (λ same.
      let own = subst (λ o. IsChangedCell v (changes_of m) base name (Shifts term from o) (v.shifts name term from o))
      same changed in
      grants_tell entry (term, from, granted_in v name term from)
      (changed_grant v marked base keyed term from (granted_in v name term from)
      own))
      (λ apart. shifts_tell entry (term, from, to, v.shifts name term from to)
      (changed_shift v marked base keyed term from to
      (v.shifts name term from to) apart changed))
      (cases_eq to from)
    where
      changed : IsChangedCell v (changes_of m) base name (Shifts term from to) (v.shifts name term from to)
      changed = record { is_now = refl; positive = some; later = lt }

  pub change_told : (IsUnchangedSince v (changes_of m) base name → ⊥) →
      IsTrue (nat_lt base w.key || tells_cells entry)
  change_told h = by_test (nat_lt base w.key || tells_cells entry) refl
    where
      not_told : {A : Type 0} → (nat_lt base w.key || tells_cells entry) ≡ false →
          IsTrue (nat_lt base w.key || tells_cells entry) → A
      not_told e t = absurd (true≢false (sym t ∙ e))

      by_test : (b : Bool) → (nat_lt base w.key || tells_cells entry) ≡ b →
          (nat_lt base w.key || tells_cells entry) ≡ true
      by_test true e = e
      by_test false e = absurd (h (record {
        key = ⊎_elim
            (λ lt.
            let is = key_change m name w marked.at in
            let above : IsTrue (nat_lt base w.key) = grind (arith, nat_tests) in
            not_told e (left_true (nat_lt base w.key) (tells_cells entry) above))
            (λ le. le)
            (cases_lt base ((changes_of m).key name));
        cell = λ c some. ⊎_elim
            (λ lt. not_told e (right_true (nat_lt base w.key) (tells_cells entry) (cell_tells c some lt)))
            (λ le. le)
            (cases_lt base ((changes_of m).cell name c));
      }))

  -- ---- it is a change that is told

  pub told_change : IsTrue (nat_lt base w.key || tells_cells entry) → IsUnchangedSince v (changes_of m) base name → ⊥
  told_change told same = ⊎_elim
      (λ t.
      let is = key_change m name w marked.at in
      let le = same.key in
      absurd (grind (arith, nat_tests)))
      (λ t. ⊎_elim hits (λ c. ⊎_elim execs (λ d. ⊎_elim shifts grants d) c) (cell_told entry t))
      (either (nat_lt base w.key) (tells_cells entry) told)
    where
      same_cell : (c : Counted) (number : ℕ) → IsChangedCell v (changes_of m) base name c number → ⊥
      same_cell c number d =
          let le = same.cell c (λ z. d.positive (d.is_now ∙ z)) in
          let lt = d.later in
          absurd (omega (arith, le, lt))

      hits : (c : ℕ × ℕ) × IsIn c entry.hits → ⊥
      hits (c, h) = same_cell (Hits c.0) c.1 (hit_changed v marked base c h)

      execs : (c : ℕ × ℕ × ℕ) × IsIn c entry.execs → ⊥
      execs (c, h) = same_cell (Execs c.0 c.1) c.2 (exec_changed v marked base keyed
          c h)

      shifts : (c : ℕ × ℕ × ℕ × ℕ) × IsIn c entry.shifts → ⊥
      shifts (c, h) = same_cell (Shifts c.0 c.1 c.2) c.3 (shift_changed v marked base keyed c h).1

      grants : (c : ℕ × ℕ × ℕ) × IsIn c entry.grants → ⊥
      grants (c, h) = same_cell (Shifts c.0 c.1 c.1) c.2 (grant_changed v marked base keyed c h)

  -- ---- it can be written

  pub entry_is : {nodes : ℕ} → IsFewState v nodes → EntryFits entry → IsEntry nodes entry
  entry_is {nodes = nodes} of_few fits =
      let few_hits = few_hits_since v marked base of_few in
      let few_execs = few_execs_since v marked base keyed of_few in
      let few_shifts = few_shifts_since v marked base keyed of_few in
      let few_grants = few_grants_since v marked base keyed of_few in
      record {
        name = of_few.lawful.named name (of_few.lawful.key_name name key keyed);
        key = of_few.lawful.key name key keyed;
        few_hits = omega (arith, few_hits);
        hits = all_of (IsHit nodes) entry.hits (λ c h. hit_is c
            (one_of (λ (x : ℕ × ℕ). x.1 < 2 ^ 64) entry.hits fits.0 c h) h);
        hits_ascend = ascends _ (hits_since_ascend v marked base);
        few_execs = omega (arith, few_execs);
        execs = all_of (IsExec nodes key) entry.execs (λ c h. exec_is c
            (one_of (λ (x : ℕ × ℕ × ℕ). x.2 < 2 ^ 64) entry.execs fits.1 c h) h);
        execs_ascend = ascends _ (execs_since_ascend v marked base keyed);
        few_shifts = omega (arith, few_shifts);
        shifts = all_of (IsShift nodes key) entry.shifts (λ c h. shift_is c
            (one_of (λ (x : ℕ × ℕ × ℕ × ℕ). x.3 < 2 ^ 64) entry.shifts fits.2 c h) h);
        shifts_ascend = ascends _ (shifts_since_ascend v marked base keyed);
        few_grants = omega (arith, few_grants);
        grants = all_of (IsGrant nodes key) entry.grants (λ c h. grant_is c
            (one_of (λ (x : ℕ × ℕ × ℕ). x.2 < 2 ^ 64) entry.grants fits.3 c h) h);
        grants_ascend = ascends _ (grants_since_ascend v marked base keyed);
      }
    where
      hit_is : (c : ℕ × ℕ) → c.1 < 2 ^ 64 → IsIn c (hits_since (held_at v name) base w) → IsHit nodes c
      hit_is c fit h =
          let d = hit_changed v marked base c h in
          let positive = d.positive in
          (of_few.lawful.hits name c.0 (λ z. d.positive (d.is_now ∙ z)), (omega (arith, positive), fit))

      exec_is : (c : ℕ × ℕ × ℕ) → c.2 < 2 ^ 64 → IsIn c (execs_since (held_at v name) base w) → IsExec nodes key c
      exec_is c fit h =
          let d = exec_changed v marked base keyed c h in
          let positive = d.positive in
          let r = of_few.lawful.execs name key c.0 c.1 keyed (λ z. d.positive (d.is_now ∙ z)) in
          (r.0, r.1, (omega (arith, positive), fit))

      shift_is : (c : ℕ × ℕ × ℕ × ℕ) → c.3 < 2 ^ 64 → IsIn c (shifts_since (held_at v name) base w) →
          IsShift nodes key c
      shift_is c fit h =
          let d = shift_changed v marked base keyed c h in
          let positive = d.1.positive in
          let r = of_few.lawful.shifts name key c.0 c.1 c.2 keyed (λ z. d.1.positive (d.1.is_now ∙ z)) in
          (r.0, r.1, r.2, d.0, (omega (arith, positive), fit))

      grant_is : (c : ℕ × ℕ × ℕ) → c.2 < 2 ^ 64 → IsIn c (grants_since (held_at v name) base w) → IsGrant nodes key c
      grant_is c fit h =
          let d = grant_changed v marked base keyed c h in
          let positive = d.positive in
          let r = of_few.lawful.shifts name key c.0 c.1 c.1 keyed (λ z. d.positive (d.is_now ∙ z)) in
          (r.0, r.1, (omega (arith, positive), fit))

-- what is known of the marks of a state
pub record AreMarks (v : State) (m : Marks) (base version : ℕ) : Type 0 where
  pub upto : AreUpto (marks_value m) version
  pub ordered : AreOrdered v base m

-- so each name of which something changed has its entry
pub entry_changed : {v : State} {m : Marks} {base version : ℕ} → AreMarks v m base version →
    (name : List ℕ) (key : KeyValue) → v.key name ≡ Some key →
    (IsUnchangedSince v (changes_of m) base name → ⊥) →
    (w : NameMarks) × IsMarked m name w × IsIn (entry_since (held_at v name) name key base w) (all_since v base m)
entry_changed {v = v} {m = m} {base = base} {version = version} are name key keyed h =
    let r = marks_changed v m base name version are.upto h in
    let order = order_of v base m are.ordered name key r.0 r.1 r.2 keyed in
    let marked : IsMarked m name r.0 = record { at = r.1; ordered = order } in
    (r.0, marked, member_entry v base m are.ordered name key r.0 keyed r.1 r.2 (change_told v marked base keyed h))
