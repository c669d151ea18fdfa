-- Differences: from nothing it is the whole of a state, from the state itself it is empty; and a worked one.
use Rattle.std.proofs.Common.{◌≡◌, ℕ, ◌==◌, true, List, [], ◌∷◌, ◌++◌, Some, None, refl, sym, ap, subst}
use Rattle.std.specs.Prelude.{codes, not, IsTrue}
use Rattle.std.specs.List.{filter}
use Rattle.std.proofs.lemmas.Bool.{eqb-true}
use Rattle.actions.specs.Numbers.{number_at}
use Rattle.actions.specs.Reading.{reading, pieces, terms_at, term_at, argument_at, trimmed_text, chance_at, count_at, task_at}
use Rattle.stamp_register.specs.Keys.{KeyValue, terms_in_text}
use Rattle.operations.specs.Operations.{Operation, Set, Count, Hits, Execs, IsIn, same_cell}
use Rattle.replica_state.specs.States.{State}
use Rattle.replica_state.specs.Folds.{fold}
use Rattle.delta_exchange.specs.Cells.{each_below, hit_cells, exec_cells, shift_cells, grant_cells, entry_of, entries_of}
use Rattle.delta_exchange.specs.Differences.{tells_hits, tells_execs, tells_shifts, tells_grants, untold_entry, untold_entries, difference_of}
use Rattle.message_format.proofs.Members.{flat_none, flat_same}
use Rattle.delta_exchange.proofs.HeldEntries.{entry_member}
use Rattle.delta_exchange.proofs.Differences.{tells_its_key, tells_its_hits, tells_its_execs, tells_its_shifts, tells_its_grants, hit_held, exec_held, shift_held, grant_held}
use Rattle.delta_exchange.proofs.Filters.{passes_not, filter_all, filter_none}

-- ---- from nothing

module _ (v : State) (nodes : ℕ) where
  all_untold : (name : List ℕ) (key : KeyValue) → untold_entry (fold []) (entry_of v nodes name key) ≡ entry_of v nodes
      name key ∷ []
  unfolding fold
  all_untold name key = λ i. record {
    name = name;
    key = key;
    hits = filter_all (λ c. not (0 == c.1)) (hit_cells v name nodes) each_hit i;
    execs = filter_all (λ c. true) (exec_cells v name key nodes) (λ c h. refl) i;
    shifts = filter_all (λ c. true) (shift_cells v name key nodes) (λ c h. refl) i;
    grants = filter_all (λ c. true) (grant_cells v name key nodes) (λ c h. refl) i;
  } ∷ []
    where
      each_hit : (c : ℕ × ℕ) → IsIn c (hit_cells v name nodes) → IsTrue (not (0 == c.1))
      each_hit c h = passes_not (0 == c.1) (λ t. (hit_held v nodes name c h).1 (sym (eqb-true 0 c.1 t)))

  pub whole_from_nothing : untold_entries (fold []) v nodes ≡ entries_of v nodes
  whole_from_nothing = flat_same (untold_entry (fold [])) (entries_of v nodes) (λ e h.
      let m = entry_member v nodes e h in
      subst (λ x. untold_entry (fold []) x ≡ x ∷ []) (sym m.is) (all_untold m.name m.key))

  -- ---- from the state itself

  none_untold : (name : List ℕ) (key : KeyValue) → v.key name ≡ Some key →
      untold_entry v (entry_of v nodes name key) ≡ []
  none_untold name key e = rw (no_hits, no_execs, no_shifts, no_grants, tells_its_key v name key e) refl
    where
      no_hits : filter (λ c. not (tells_hits v name c)) (hit_cells v name nodes) ≡ []
      no_hits = filter_none (λ c. not (tells_hits v name c)) (hit_cells v name nodes)
          (λ c h. ap not (tells_its_hits v name c (hit_held v nodes name c h)))

      no_execs : filter (λ c. not (tells_execs v name key c)) (exec_cells v name key nodes) ≡ []
      no_execs = filter_none (λ c. not (tells_execs v name key c)) (exec_cells v name key nodes)
          (λ c h. ap not (tells_its_execs v name key c (exec_held v nodes name key e c h)))

      no_shifts : filter (λ c. not (tells_shifts v name key c)) (shift_cells v name key nodes) ≡ []
      no_shifts = filter_none (λ c. not (tells_shifts v name key c)) (shift_cells v name key nodes)
          (λ c h. ap not (tells_its_shifts v name key c (shift_held v nodes name key e c h)))

      no_grants : filter (λ c. not (tells_grants v name key c)) (grant_cells v name key nodes) ≡ []
      no_grants = filter_none (λ c. not (tells_grants v name key c)) (grant_cells v name key nodes)
          (λ c h. ap not (tells_its_grants v name key c (grant_held v nodes name key e c h)))

  pub nothing_from_itself : untold_entries v v nodes ≡ []
  nothing_from_itself = flat_none (untold_entry v) (entries_of v nodes) (λ e h.
      let m = entry_member v nodes e h in
      subst (λ x. untold_entry v x ≡ []) (sym m.is) (none_untold m.name m.key m.keyed))

-- ---- a worked one

-- node 0 set a and passed it once; then node 1 passed it once, and node 0 removed b. Of c nothing changed
abbrev key_at : ℕ → KeyValue
key_at clock = record { clock = clock; node = 0; body = Some (codes "2*off") }

abbrev before : List Operation
before = Set (codes "a") (key_at 1) ∷ Set (codes "b") (key_at 2) ∷ Set (codes "c") (key_at 3)
    ∷ Count (Hits (codes "a") 0) 1 ∷ Count (Execs (codes "a") (key_at 1) 0 0) 1
    ∷ Count (Hits (codes "b") 0) 1 ∷ Count (Execs (codes "b") (key_at 2) 0 0) 1
    ∷ Count (Hits (codes "c") 0) 1 ∷ Count (Execs (codes "c") (key_at 3) 0 0) 1 ∷ []

abbrev gone : KeyValue
gone = record { clock = 4; node = 0; body = None }

abbrev added : List Operation
added = Count (Hits (codes "a") 1) 1 ∷ Count (Execs (codes "a") (key_at 1) 0 1) 1 ∷ Set (codes "b") gone ∷ []

worked : difference_of (fold before) (fold (added ++ before)) 2 0 1 9 11 0 ≡ record {
  from = 0;
  to = 1;
  base = 9;
  upto = 11;
  ack = 0;
  entries = record {
    name = codes "a";
    key = key_at 1;
    hits = (1, 1) ∷ [];
    execs = (0, 1, 1) ∷ [];
    shifts = [];
    grants =
        [];
  }
      ∷ record { name = codes "b"; key = gone; hits = []; execs = []; shifts = []; grants = [] } ∷ [];
}
unfolding fold each_below same_cell terms_in_text reading pieces terms_at term_at argument_at trimmed_text chance_at
    count_at number_at task_at
worked = refl
