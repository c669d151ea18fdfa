-- Two nodes that hear of each other's versions: what the other is known to have isn't sent again. And which versions a
-- node knows of another where messages were lost.
use Rattle.std.proofs.Common.{◌≡◌, ℕ, ◌<◌, Bool, true, false, cond, List, [], ◌∷◌, ◌++◌, Some, None, Ok, inl, inr, refl, sym, ◌∙◌, ap, subst, arith}
use Rattle.std.specs.Prelude.{reverse, codes}
use Rattle.std.specs.Fmt.{digits}
use Rattle.std.specs.Str.{bytes_eq}
use Rattle.actions.specs.Choice.{choice}
use Rattle.actions.specs.Numbers.{number_at, short_number_at, decimals_at, percent_at}
use Rattle.actions.specs.Reading.{pieces, trimmed_text, argument_at, chance_at, count_at, time_at, task_at, term_at, terms_at, reading}
use Rattle.counters.specs.Sums.{node_numbers}
use Rattle.stamp_register.specs.Keys.{KeyValue, terms_in_text}
use Rattle.operations.specs.Operations.{Hits, Execs, Shifts, Operation, Set, Count, IsIn, same_cell}
use Rattle.replica_state.specs.States.{State, with_key}
use Rattle.replica_state.specs.Folds.{fold, clock_of}
use Rattle.replica_state.specs.Deltas.{TellSameOf, IsInDelta, IsDelta}
use Rattle.replica_state.proofs.FoldSteps.{fold_key}
use Rattle.replica_state.proofs.Orders.{bytes_eq-refl, bytes_eq-true}
use Rattle.node_calls.specs.Asks.{Message}
use Rattle.node_calls.specs.Asks as asks
use Rattle.node_steps.specs.Nodes.{Node, start}
use Rattle.node_core.specs.Steps.{after}
use Rattle.node_steps.specs.Refusals.{refusal_at}
use Rattle.cluster_model.specs.Worlds.{Event, config_of, world}
use Rattle.cluster_model.specs.Schedules.{IsDeltaSchedule}
use Rattle.cluster_model.specs.Histories.{state_of}
use Rattle.cluster_model.proofs.Examples.{nodes, event, stamp, key_at, versions, answers}
use Rattle.cluster_model.proofs.KnownVersions.{known_is_same}

-- ---- a setting is all that differs after it

module _ (name : List ℕ) (key : KeyValue) (v : State) (new : v.key name ≡ Some key → ⊥) where
  abbrev w : State
  w = with_key name key v

  -- under another name nothing differs
  other_key : (n : List ℕ) → bytes_eq name n ≡ false → v.key n ≡ w.key n
  unfolding with_key
  other_key n e = sym (ap (λ t. cond t (Some key) (v.key n)) e)

  other_execs : (n : List ℕ) (term node : ℕ) → bytes_eq name n ≡ false → v.execs n term node ≡ w.execs n term node
  unfolding with_key
  other_execs n term node e = sym (ap (λ t. cond t 0 (v.execs n term node)) e)

  other_shifts : (n : List ℕ) (term from to : ℕ) → bytes_eq name n ≡ false →
      v.shifts n term from to ≡ w.shifts n term from to
  unfolding with_key
  other_shifts n term from to e = sym (ap (λ t. cond t 0 (v.shifts n term from to)) e)

  same_hits : (n : List ℕ) (node : ℕ) → v.hits n node ≡ w.hits n node
  unfolding with_key
  same_hits n node = refl

  -- under this one there is the key, and no cell of it
  own_key : (n : List ℕ) → bytes_eq name n ≡ true → w.key n ≡ Some key
  unfolding with_key
  own_key n e = ap (λ t. cond t (Some key) (v.key n)) e

  own_execs : (n : List ℕ) (term node : ℕ) → bytes_eq name n ≡ true → w.execs n term node ≡ 0
  unfolding with_key
  own_execs n term node e = ap (λ t. cond t 0 (v.execs n term node)) e

  own_shifts : (n : List ℕ) (term from to : ℕ) → bytes_eq name n ≡ true → w.shifts n term from to ≡ 0
  unfolding with_key
  own_shifts n term from to e = ap (λ t. cond t 0 (v.shifts n term from to)) e

  -- what is told of another name is told after it too, and was before
  others_same : (n : List ℕ) → bytes_eq name n ≡ false → TellSameOf v w n
  others_same n e (Set m k) h =
      let here = ap (bytes_eq name) h ∙ e in
      (λ told. sym (other_key m here) ∙ told, λ told. other_key m here ∙ told)
  others_same n e (Count (Hits m node) number) h = (
    λ told. (sym (same_hits m node) ∙ told.0, told.1),
    λ told. (same_hits m node ∙ told.0, told.1),
  )
  others_same n e (Count (Execs m k term node) number) h =
      let here = ap (bytes_eq name) h ∙ e in (
        λ told. ((sym (other_key m here) ∙ told.0.0, sym (other_execs m term node here) ∙ told.0.1), told.1),
        λ told. ((other_key m here ∙ told.0.0, other_execs m term node here ∙ told.0.1), told.1),
      )
  others_same n e (Count (Shifts m k term from to) number) h =
      let here = ap (bytes_eq name) h ∙ e in (
        λ told. ((sym (other_key m here) ∙ told.0.0, sym (other_shifts m term from to here) ∙ told.0.1), told.1),
        λ told. ((other_key m here ∙ told.0.0, other_shifts m term from to here ∙ told.0.1), told.1),
      )

  only_setting : (op : Operation) → IsInDelta v w op → op ≡ Set name key
  only_setting (Set n k) d = at (bytes_eq name n) refl
    where
      at : (t : Bool) → bytes_eq name n ≡ t → Set n k ≡ Set name key
      at true e =
          let names : name ≡ n = bytes_eq-true name n e in
          let both : Some key ≡ Some k = sym (own_key n e) ∙ d.0 in
          let keys : key ≡ k = cc in
          λ i. Set (sym names i) (sym keys i)
      at false e = absurd (d.1 (others_same n e))
  only_setting (Count (Hits n node) number) d = absurd (d.1 (same_hits n node ∙ d.0.0, d.0.1))
  only_setting (Count (Execs n k term node) number) d = at (bytes_eq name n) refl
    where
      at : (t : Bool) → bytes_eq name n ≡ t → Count (Execs n k term node) number ≡ Set name key
      at true e = absurd (d.0.1 (sym d.0.0.1 ∙ own_execs n term node e))
      at false e = absurd (d.1 ((others_same n e (Count (Execs n k term node) number) refl).1 d.0))
  only_setting (Count (Shifts n k term from to) number) d = at (bytes_eq name n) refl
    where
      at : (t : Bool) → bytes_eq name n ≡ t → Count (Shifts n k term from to) number ≡ Set name key
      at true e = absurd (d.0.1 (sym d.0.0.1 ∙ own_shifts n term from to e))
      at false e = absurd (d.1 ((others_same n e (Count (Shifts n k term from to) number) refl).1 d.0))

  the_setting : IsInDelta v w (Set name key)
  the_setting = (
    own_key name (bytes_eq-refl name),
    λ same. new
        ((same (Set name key) refl).1 (own_key name (bytes_eq-refl name))),
  )

  setting_differs : IsDelta v w (Set name key ∷ [])
  setting_differs op = (told, λ d. inl (only_setting op d))
    where
      told : IsIn op (Set name key ∷ []) → IsInDelta v w op
      told (inl e) = subst (IsInDelta v w) (sym e) the_setting
      told (inr h) = absurd h

-- a setting under a later clock than all before it
set_differs : (name : List ℕ) (key : KeyValue) (ops : List Operation) → clock_of ops < key.clock →
    ((fold ops).key name ≡ Some key → ⊥) → IsDelta (fold ops) (fold (Set name key ∷ ops)) (Set name key ∷ [])
set_differs name key ops later new =
    subst (λ (s : State). IsDelta (fold ops) s (Set name key ∷ [])) (sym (fold_key key name ops later))
    (setting_differs name key (fold ops) new)

-- ---- a schedule

abbrev a : List ℕ
a = codes "a"

abbrev b : List ℕ
b = codes "b"

abbrev key_a : KeyValue
key_a = key_at 1 0 (codes "off")

abbrev key_b : KeyValue
key_b = key_at 2 0 (codes "panic")

abbrev first : Message
first = record { from = 0; to = 1; base = 0; upto = 1; ack = 0; ops = Set a key_a ∷ [] }

abbrev second : Message
second = record { from = 1; to = 0; base = 0; upto = 1; ack = 1; ops = Set a key_a ∷ [] }

-- it tells no more than `b`, since node 1 is known to have version 1
abbrev third : Message
third = record { from = 0; to = 1; base = 1; upto = 2; ack = 1; ops = Set b key_b ∷ [] }

abbrev heard : List Event
heard =
    event 0 (asks.Set a (codes "off")) ∷
    event 0 (asks.Emit 1 (versions 0 1 0) (Set a key_a ∷ [])) ∷
    event 1 (asks.Deliver (Ok first)) ∷
    event 1 (asks.Emit 0 (versions 0 1 1) (Set a key_a ∷ [])) ∷
    event 0 (asks.Deliver (Ok second)) ∷ []

abbrev script : List Event
script =
    heard ++
    event 0 (asks.Set b (codes "panic")) ∷
    event 0 (asks.Emit 1 (versions 1 2 1) (Set b key_b ∷ [])) ∷
    event 1 (asks.Deliver (Ok third)) ∷ []

answered : answers (nodes 2) script ≡
    Some (asks.IsSet (stamp 1 0)) ∷
    Some (asks.IsEmitted (Ok first)) ∷
    Some (asks.IsDelivered true) ∷
    Some (asks.IsEmitted (Ok second)) ∷
    Some (asks.IsDelivered false) ∷
    Some (asks.IsSet (stamp 2 0)) ∷
    Some (asks.IsEmitted (Ok third)) ∷
    Some (asks.IsDelivered true) ∷ []
unfolding digits node_numbers after fold same_cell terms_in_text choice number_at short_number_at decimals_at percent_at
    pieces trimmed_text argument_at chance_at count_at time_at task_at term_at terms_at reading
answered = refl

differs_a : IsDelta (fold []) (fold (Set a key_a ∷ [])) (Set a key_a ∷ [])
unfolding fold
differs_a = set_differs a key_a [] (omega arith) (λ e. cc)

differs_b : IsDelta (fold (Set a key_a ∷ Set a key_a ∷ [])) (fold (Set b key_b ∷ Set a key_a ∷ Set a key_a ∷ []))
    (Set b key_b ∷ [])
unfolding fold
differs_b = set_differs b key_b (Set a key_a ∷ Set a key_a ∷ []) (omega arith) (λ e. cc)

heard_is_schedule : IsDeltaSchedule (nodes 2) (reverse heard)
unfolding digits node_numbers after fold same_cell terms_in_text choice number_at short_number_at decimals_at percent_at
    pieces trimmed_text argument_at chance_at count_at time_at task_at term_at terms_at reading
heard_is_schedule = (inr (inl refl), ((refl, differs_a), (inl refl, ((refl, differs_a), (tt, tt)))))

is_schedule : IsDeltaSchedule (nodes 2) (reverse script)
unfolding digits node_numbers after fold same_cell terms_in_text choice number_at short_number_at decimals_at percent_at
    pieces trimmed_text argument_at chance_at count_at time_at task_at term_at terms_at reading
is_schedule = (inr (inr (inl refl)), ((refl, differs_b), (tt, heard_is_schedule)))

-- each knows the other's present version, and they hold the same state
known_by_0 : ((world (nodes 2) (reverse heard)).node 0).marks.known 1 ≡
    ((world (nodes 2) (reverse heard)).node 1).marks.version
unfolding digits node_numbers after fold same_cell terms_in_text choice number_at short_number_at decimals_at percent_at
    pieces trimmed_text argument_at chance_at count_at time_at task_at term_at terms_at reading
known_by_0 = refl

known_by_1 : ((world (nodes 2) (reverse heard)).node 1).marks.known 0 ≡
    ((world (nodes 2) (reverse heard)).node 0).marks.version
unfolding digits node_numbers after fold same_cell terms_in_text choice number_at short_number_at decimals_at percent_at
    pieces trimmed_text argument_at chance_at count_at time_at task_at term_at terms_at reading
known_by_1 = refl

same_then : state_of (nodes 2) (reverse heard) 0 ≡ state_of (nodes 2) (reverse heard) 1
same_then = known_is_same (nodes 2) (reverse heard) heard_is_schedule 0 1 known_by_1 known_by_0

known_at_last : ((world (nodes 2) (reverse script)).node 1).marks.known 0 ≡ 2
unfolding digits node_numbers after fold same_cell terms_in_text choice number_at short_number_at decimals_at percent_at
    pieces trimmed_text argument_at chance_at count_at time_at task_at term_at terms_at reading
known_at_last = refl

-- ---- what is known where messages were lost, by messages of node 0 to node 1 that tell nothing else

abbrev told : ℕ → ℕ → Message
told base upto = record { from = 0; to = 1; base = base; upto = upto; ack = 0; ops = [] }

abbrev after_told : Node → ℕ → ℕ → Node
after_told n base upto = after 1 n (asks.Deliver (Ok (told base upto))) []

-- something is missing between what is known and the base
missing_is_taken : refusal_at (config_of (nodes 2) 1) 0 start (asks.Deliver (Ok (told 2 3))) [] ≡ None
unfolding fold
missing_is_taken = refl

abbrev missing : Node
missing = after_told start 2 3

known_missing : missing.marks.known 0 ≡ 0
unfolding after
known_missing = refl

abbrev from_start : Node
from_start = after_told missing 0 3

known_from_start : from_start.marks.known 0 ≡ 3
unfolding after
known_from_start = refl

abbrev again : Node
again = after_told from_start 2 3

known_again : again.marks.known 0 ≡ 3
unfolding after
known_again = refl

-- the base may be below what is known
known_from_below : (after_told again 1 5).marks.known 0 ≡ 5
unfolding after
known_from_below = refl
