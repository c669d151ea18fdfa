-- The entries of what changed after a version: which they are, in which order they stand, and how many there are.
use Rattle.std.proofs.Common.{◌≡◌, ℕ, ◌<◌, ◌≤◌, ◌||◌, Bool, true, false, cond, List, [], ◌∷◌, ◌++◌, length, map, inl, inr, Option, Some, None, refl, sym, ap, subst, ◌∙◌, append_assoc, arith}
use Rattle.std.specs.Prelude.{IsTrue, is_some, nat_lt}
use Rattle.std.specs.List.{AllByRecursion}
use Rattle.std.specs.BTreeMap.{IsOrdered}
use Rattle.std.specs.Ordering.{nat_cmp}
use Rattle.std.specs.Cmp.Lexicographic.{slice_cmp}
use Rattle.std.proofs.lemmas.Bool.Decides.{nat_tests}
use Rattle.std.proofs.lemmas.Cmp.{nat_list_cmp_total}
use Rattle.std.proofs.lemmas.List.{length-map}
use Rattle.std.proofs.lemmas.Map.Lookups.{exact_bytes}
use Rattle.stamp_register.specs.Keys.{KeyValue}
use Rattle.operations.specs.Operations.{IsIn}
use Rattle.replica_state.specs.States.{State}
use Rattle.replica_state.specs.Cells.{held_at}
use Rattle.operations.specs.Counts.{counted_cmp}
use Rattle.replica_state.proofs.Names.{IsAscending}
use Rattle.delta_exchange.specs.declared.marks.NameMarks.{NameMarks}
use Rattle.delta_exchange.specs.declared.marks.Marks.{Marks}
use Rattle.delta_exchange.specs.Marks.{marks_at}
use Rattle.message_format.specs.Messages.{EntryValue}
use Rattle.delta_exchange.specs.Since.{entry_since, tells_cells, entry_told, entry_under, entry_marked, entries_since, AreCellsOrdered}
use Rattle.message_format.proofs.Members.{flat_in, in_flat, mapped_from, one_of}
use Rattle.delta_exchange.proofs.SinceMaps.{found_in, value_at, flat_ascends}
use Rattle.delta_exchange.proofs.LaterCells.{part_is_short}

module _ (v : State) (base : ℕ) (m : Marks) where
  abbrev pub all_since : List EntryValue
  all_since = entries_since v base m

  -- ---- of one name

  -- an entry of a name with these marks
  record IsEntryOf (n : List ℕ × NameMarks) (e : EntryValue) : Type 0 where
    pub key : KeyValue
    pub keyed : v.key n.0 ≡ Some key
    pub later : base < n.1.latest
    pub told : IsTrue (nat_lt base n.1.key || tells_cells (entry_since (held_at v n.0) n.0 key base n.1))
    pub is : e ≡ entry_since (held_at v n.0) n.0 key base n.1

  in_told : (w : NameMarks) (s e : EntryValue) → IsIn e (entry_told base w s) →
      IsTrue (nat_lt base w.key || tells_cells s) × (e ≡ s)
  in_told w s e h = by_test (nat_lt base w.key || tells_cells s) refl h
    where
      by_test : (b : Bool) → (nat_lt base w.key || tells_cells s) ≡ b → IsIn e (cond b (s ∷ []) []) →
          IsTrue (nat_lt base w.key || tells_cells s) × (e ≡ s)
      by_test true t (inl i) = (t, i)
      by_test true t (inr i) = absurd i
      by_test false t i = absurd i

  in_marked : (n : List ℕ × NameMarks) (e : EntryValue) → IsIn e (entry_marked v base n) → IsEntryOf n e
  in_marked n e h = by_test (nat_lt base n.1.latest) refl h
    where
      by_key : (k : Option KeyValue) → v.key n.0 ≡ k → base < n.1.latest →
          IsIn e (entry_under (held_at v n.0) n.0 k base n.1) → IsEntryOf n e
      by_key None keyed lt i = absurd i
      by_key (Some key) keyed lt i =
          let r = in_told n.1 (entry_since (held_at v n.0) n.0 key base n.1) e i in
          record { key = key; keyed = keyed; later = lt; told = r.0; is = r.1 }

      by_test : (b : Bool) → nat_lt base n.1.latest ≡ b → IsIn e
          (cond b (entry_under (held_at v n.0) n.0 (v.key n.0) base n.1) []) → IsEntryOf n e
      by_test true t i = by_key (v.key n.0) refl (grind (arith, nat_tests)) i
      by_test false t i = absurd i

  -- the walk goes over a name of which nothing changed
  pub passed_over : (n : List ℕ × NameMarks) (told rest all : List EntryValue) → n.1.latest ≤ base →
      told ++ (entry_marked v base n ++ rest) ≡ all → told ++ rest ≡ all
  passed_over n told rest all le e = by_test (nat_lt base n.1.latest) refl e
    where
      by_test : (b : Bool) → nat_lt base n.1.latest ≡ b → told ++
          (cond b (entry_under (held_at v n.0) n.0 (v.key n.0) base n.1) [] ++ rest) ≡ all → told ++ rest ≡ all
      by_test true t e = absurd (grind (arith, nat_tests))
      by_test false t e = e

  -- and adds what changed of another one
  pub looked_at : (n : List ℕ × NameMarks) (told more rest all : List EntryValue) → base < n.1.latest →
      more ≡ told ++ entry_under (held_at v n.0) n.0 (v.key n.0) base n.1 →
      told ++ (entry_marked v base n ++ rest) ≡ all → more ++ rest ≡ all
  looked_at n told more rest all lt added e = by_test (nat_lt base n.1.latest) refl e
    where
      one : List EntryValue
      one = entry_under (held_at v n.0) n.0 (v.key n.0) base n.1

      by_test : (b : Bool) → nat_lt base n.1.latest ≡ b → told ++ (cond b one [] ++ rest) ≡ all → more ++ rest ≡ all
      by_test true t e = ap (λ es. es ++ rest) added ∙ append_assoc told one rest ∙ e
      by_test false t e = absurd (grind (arith, nat_tests))

  one_told : (w : NameMarks) (s : EntryValue) → IsAscending (map (λ e. e.name) (entry_told base w s))
  one_told w s = by_test (nat_lt base w.key || tells_cells s)
    where
      by_test : (b : Bool) → IsAscending (map (λ (e : EntryValue). e.name) (cond b (s ∷ []) []))
      by_test true = (λ n i. absurd i, tt)
      by_test false = tt

  one_marked : (n : List ℕ × NameMarks) → IsAscending (map (λ e. e.name) (entry_marked v base n))
  one_marked n = by_test (nat_lt base n.1.latest)
    where
      by_key : (k : Option KeyValue) → IsAscending (map (λ (e : EntryValue). e.name)
          (entry_under (held_at v n.0) n.0 k base n.1))
      by_key None = tt
      by_key (Some key) = one_told n.1 (entry_since (held_at v n.0) n.0 key base n.1)

      by_test : (b : Bool) → IsAscending (map (λ (e : EntryValue). e.name)
          (cond b (entry_under (held_at v n.0) n.0 (v.key n.0) base n.1) []))
      by_test true = by_key (v.key n.0)
      by_test false = tt

  -- ---- of all names

  -- the marks are in order, by name and of each name
  pub record AreOrdered : Type 0 where
    pub names : IsOrdered (slice_cmp nat_cmp) m.names
    pub cells : AllByRecursion (AreCellsOrdered v base) m.names.entries

  pub record IsEntrySince (e : EntryValue) : Type 0 where
    pub name : List ℕ
    pub key : KeyValue
    pub marks : NameMarks
    pub keyed : v.key name ≡ Some key
    pub at : marks_at m.names.entries name ≡ Some marks
    pub ordered : IsOrdered counted_cmp marks.cells
    pub told : IsTrue (nat_lt base marks.key || tells_cells (entry_since (held_at v name) name key base marks))
    pub is : e ≡ entry_since (held_at v name) name key base marks

  module _ (ordered : AreOrdered) where
    order_in : (n : List ℕ × NameMarks) (key : KeyValue) → IsIn n m.names.entries → base < n.1.latest →
        v.key n.0 ≡ Some key → IsOrdered counted_cmp n.1.cells
    order_in n key h later keyed = one_of (AreCellsOrdered v base) m.names.entries ordered.cells n h later
        (ap is_some keyed)

    marks_in : (name : List ℕ) (w : NameMarks) → marks_at m.names.entries name ≡ Some w → IsIn (name, w) m.names.entries
    marks_in name w at = found_in (slice_cmp nat_cmp) nat_list_cmp_total exact_bytes m.names.entries name w at

    pub order_of : (name : List ℕ) (key : KeyValue) (w : NameMarks) → marks_at m.names.entries name ≡ Some w →
        base < w.latest → v.key name ≡ Some key → IsOrdered counted_cmp w.cells
    order_of name key w at later keyed = order_in (name, w) key (marks_in name w at) later keyed

    pub entry_member : (e : EntryValue) → IsIn e all_since → IsEntrySince e
    entry_member e h =
        let r = in_flat (entry_marked v base) m.names.entries e h in
        let one = in_marked r.0 e r.2 in
        let at = value_at (slice_cmp nat_cmp) nat_list_cmp_total exact_bytes m.names.entries r.0.0 r.0.1 ordered.names
        r.1 in
        record {
          name = r.0.0;
          key = one.key;
          marks = r.0.1;
          keyed = one.keyed;
          at = at;
          ordered =
              order_in r.0 one.key r.1 one.later one.keyed;
          told = one.told;
          is = one.is;
        }

    told_in : (n : List ℕ × NameMarks) (key : KeyValue) → v.key n.0 ≡ Some key → base < n.1.latest →
        IsTrue (nat_lt base n.1.key || tells_cells (entry_since (held_at v n.0) n.0 key base n.1))
        → IsIn (entry_since (held_at v n.0) n.0 key base n.1) (entry_marked v base n)
    told_in n key keyed later told = by_test (nat_lt base n.1.latest) refl
      where
        e : EntryValue
        e = entry_since (held_at v n.0) n.0 key base n.1

        by_test : (b : Bool) → nat_lt base n.1.latest ≡ b → IsIn e
            (cond b (entry_under (held_at v n.0) n.0 (v.key n.0) base n.1) [])
        by_test true t = subst (λ k. IsIn e (entry_under (held_at v n.0) n.0 k base n.1)) (sym keyed)
            (subst (λ t. IsIn e (cond t (e ∷ []) [])) (sym told) (inl refl))
        by_test false t = absurd (grind (arith, nat_tests))

    pub member_entry : (name : List ℕ) (key : KeyValue) (w : NameMarks) → v.key name ≡ Some key →
        marks_at m.names.entries name ≡ Some w
        → base < w.latest → IsTrue (nat_lt base w.key || tells_cells (entry_since (held_at v name) name key base w)) →
        IsIn (entry_since (held_at v name) name key base w) all_since
    member_entry name key w keyed at later told =
        flat_in (entry_marked v base) m.names.entries (name, w) (entry_since (held_at v name) name key base w)
        (marks_in name w at) (told_in (name, w) key keyed later told)

    pub entries_ascend : IsAscending (map (λ e. e.name) all_since)
    entries_ascend = flat_ascends (slice_cmp nat_cmp) (entry_marked v base) (λ (e : EntryValue). e.name) one_marked
        (λ n o c d lt h k.
        let a = in_marked n c h in
        let b = in_marked o d k in
        rw (a.is, b.is) lt)
        m.names.entries ordered.names

    -- no more than there are names, since each has a key
    pub few_entries : IsAscending v.names → ((name : List ℕ) (key : KeyValue) → v.key name ≡ Some key →
        IsIn name v.names) → length all_since ≤ length v.names
    few_entries ascending key_name =
        let short = part_is_short (map (λ (e : EntryValue). e.name) all_since) v.names entries_ascend ascending part in
        let same = length-map all_since (λ (e : EntryValue). e.name) in
        omega (arith, short, same)
      where
        part : (name : List ℕ) → IsIn name (map (λ (e : EntryValue). e.name) all_since) → IsIn name v.names
        part name h =
            let r = mapped_from (λ (e : EntryValue). e.name) all_since name h in
            let one = entry_member r.0 r.1 in
            let same : name ≡ one.name = subst (λ (e : EntryValue). name ≡ e.name) one.is r.2 in
            subst (λ n. IsIn n v.names) (sym same) (key_name one.name one.key one.keyed)
