-- What asks and replies come to, in the words of a chart beside those of the model.
use Rattle.std.proofs.Common.{◌≡◌, ◌≢◌, inl, inr, ℕ, zero, suc, ◌+◌, ◌<◌, ◌==◌, ◌&&◌, cond, Bool, true, false, List, [], ◌∷◌, length, replicate, slice_get, slice_index, slice_set, refl, sym, ◌∙◌, ap, arith, Option, Some, None, Result, Ok, Err}
use Rattle.std.proofs.lemmas.Bool.{eqb-true, eq-eqb}
use Rattle.std.specs.List.{flat_map}
use Rattle.counters.specs.Sums.{sum_below}
use Rattle.counters.proofs.SumLemmas.{sum-same, sum-at}
use Rattle.stamp_register.specs.Keys.{KeyValue, stamp_of}
use Rattle.operations.specs.Operations.{Shifts, Operation, Count, IsIn}
use Rattle.message_format.specs.declared.fault.WireFault.{WireFault}
use Rattle.message_format.specs.Messages.{MessageValue, operations_of}
use Rattle.message_format.specs.Reading.{message_at}
use Rattle.replica_state.specs.States.{State}
use Rattle.node_calls.specs.Told.{Told, AskTold, ReplyTold, Passed}
use Rattle.node_calls.specs.Told as tells
use Rattle.node_calls.specs.Asks.{Asked, Message, read_of, message_read, emit_of, emit_asked_by, asked_from, answered_from}
use Rattle.node_calls.specs.Asks as asks
use Rattle.node_steps.specs.Settings.{operations_issued}
use Rattle.node_steps.specs.Refusals.{message_in}
use Rattle.node_core.specs.Steps.{shift_under}
use Rattle.cluster_model.specs.Histories.{acts}
use Rattle.cluster_model.proofs.Passes.{Outcome, NotSet, Nothing, Triggered, ops_of}
use Rattle.drill_picture.specs.Stories.{KnownTold as Known}
use Rattle.drill_picture.specs.Knowing.{told_by, entries_in}
use Rattle.drill_picture.specs.Stories.{is_act, ran}
use Rattle.picture_laws.specs.Laws.{budget_of_key}
use Rattle.picture_laws.proofs.Brought.{alike}

-- ---- lists

pub get_set_same : (xs : List Known) (i : ℕ) (k : Known) → i < length xs → slice_get (slice_set xs i k) i ≡ Some k
get_set_same [] i k low = absurd (omega (arith, low))
get_set_same (x ∷ xs) zero k low = refl
get_set_same (x ∷ xs) (suc i) k low = get_set_same xs i k (omega (arith, low))

pub get_set_other : (xs : List Known) (i j : ℕ) (k : Known) → i ≢ j → slice_get (slice_set xs i k) j ≡ slice_get xs j
get_set_other [] i j k ne = refl
get_set_other (x ∷ xs) zero zero k ne = absurd (ne refl)
get_set_other (x ∷ xs) zero (suc j) k ne = refl
get_set_other (x ∷ xs) (suc i) zero k ne = refl
get_set_other (x ∷ xs) (suc i) (suc j) k ne = get_set_other xs i j k (λ e. ne (ap suc e))

pub get_replicate : (n i : ℕ) (k : Known) → i < n → slice_get (replicate n k) i ≡ Some k
get_replicate zero i k low = absurd (omega (arith, low))
get_replicate (suc n) zero k low = refl
get_replicate (suc n) (suc i) k low = get_replicate n i k (omega (arith, low))

pub index_replicate : (n i : ℕ) → slice_index (replicate n 0) i ≡ 0
index_replicate zero i = refl
index_replicate (suc n) zero = refl
index_replicate (suc n) (suc i) = index_replicate n i

-- ---- tests

pub moved_if : (a b d k : Bool) (amount : ℕ) →
    ◌≡◌ {A = ℕ} (cond (a && (b && (d && k))) amount 0) (cond (a && (b && k)) (cond d amount 0) 0)
moved_if true true true k amount = refl
moved_if true true false true amount = refl
moved_if true true false false amount = refl
moved_if true false d k amount = refl
moved_if false b d k amount = refl

regroup : (a b d : Bool) → ((a && b) && d) ≡ (a && (b && d))
regroup true b d = refl
regroup false b d = refl

pub turned : (i j : ℕ) → (i == j) ≡ (j == i)
turned i j = alike _ _ (λ h. eq-eqb j i (sym (eqb-true i j h))) (λ h. eq-eqb i j (sym (eqb-true j i h)))

pub sum_there : (n to amount : ℕ) → to < n → sum_below n (λ j. cond (to == j) amount 0) ≡ amount
sum_there n to amount low =
    sum-same n _ (λ j. cond (j == to) amount 0) (λ j l. ap (λ t. cond t amount 0) (turned to j)) ∙ sum-at n to amount low

pub cond_zero : (t : Bool) (a : ℕ) → a ≡ 0 → ◌≡◌ {A = ℕ} (cond t a 0) 0
cond_zero true a e = e
cond_zero false a e = refl

-- ---- operations that are no shifts

pub no_count : (i clock : ℕ) (all : List (List ℕ × Option (List ℕ))) (op : Operation) → IsIn op (operations_issued i clock all) →
    (name : List ℕ) (key : KeyValue) (term from to number : ℕ) → op ≡ Count (Shifts name key term from to) number → ⊥
no_count i clock [] op h name key term from to number is = h
no_count i clock (setting ∷ rest) op (inl e) name key term from to number is = absurd (cc)
no_count i clock (setting ∷ rest) op (inr h) name key term from to number is =
    no_count i (clock + 1) rest op h name key term from to number is

pub no_shift_passed : (i : ℕ) (v : State) (other : List ℕ) (o : Outcome) (op : Operation) → IsIn op (ops_of i v other o) →
    (name : List ℕ) (key : KeyValue) (term from to number : ℕ) → op ≡ Count (Shifts name key term from to) number → ⊥
no_shift_passed i v other NotSet op h name key term from to number is = h
no_shift_passed i v other (Nothing k) op (inl e) name key term from to number is = absurd (cc)
no_shift_passed i v other (Nothing k) op (inr h) name key term from to number is = h
no_shift_passed i v other (Triggered k t None task) op (inl e) name key term from to number is = absurd (cc)
no_shift_passed i v other (Triggered k t None task) op (inr h) name key term from to number is = h
no_shift_passed i v other (Triggered k t (Some n) task) op (inl e) name key term from to number is = absurd (cc)
no_shift_passed i v other (Triggered k t (Some n) task) op (inr (inl e)) name key term from to number is = absurd (cc)
no_shift_passed i v other (Triggered k t (Some n) task) op (inr (inr h)) name key term from to number is = h

-- a shift that is issued is of the node's key of the name
pub record IsShift (v : State) (other name : List ℕ) (key : KeyValue) (t term i to j amount number : ℕ) : Type 0 where
  pub names : name ≡ other
  pub under : v.key other ≡ Some key
  pub terms : term ≡ t
  pub tos : j ≡ to
  pub numbers : number ≡ v.shifts other t i to + amount

pub shift_issued : (i : ℕ) (v : State) (other : List ℕ) (t to amount : ℕ) (k : Option KeyValue) → v.key other ≡ k →
    (name : List ℕ) (key : KeyValue) (term j number : ℕ) →
    IsIn (Count (Shifts name key term i j) number) (shift_under i v other t to amount k) →
    IsShift v other name key t term i to j amount number
shift_issued i v other t to amount None u name key term j number h = absurd h
shift_issued i v other t to amount (Some k) u name key term j number (inr h) = absurd h
shift_issued i v other t to amount (Some k) u name key term j number (inl e) =
    let keys : k ≡ key = cc in
    record {
      names = cc;
      under = u ∙ ap Some keys;
      terms = cc;
      tos = cc;
      numbers = cc;
    }

-- ---- what a message tells

told_ops : (r : Result MessageValue WireFault) → (message_in (read_of r)).ops ≡ flat_map operations_of (told_by r)
told_ops (Ok m) = refl
told_ops (Err fault) = refl

pub message_ops : (nodes : ℕ) (bytes : List ℕ) → (message_in (message_read nodes bytes)).ops ≡ flat_map operations_of
    (entries_in nodes bytes)
unfolding message_read entries_in
message_ops nodes bytes = told_ops (message_at nodes bytes)

-- ---- an emit

pub record IsEmit (q : Asked) : Type 0 where
  pub to : ℕ
  pub versions : asks.Versions
  pub chosen : List Operation
  pub is : q ≡ asks.Emit to versions chosen

emit_is : (to : ℕ) (r : Result Message WireFault) → IsEmit (emit_of to r)
emit_is to (Ok m) = record { to = to; versions = _; chosen = m.ops; is = refl }
emit_is to (Err fault) = record { to = to; versions = _; chosen = []; is = refl }

pub emit_by : (nodes to : ℕ) (r : ReplyTold) → IsEmit (emit_asked_by nodes to r)
emit_by nodes to (tells.was_emitted bytes) = emit_is to (message_read nodes bytes)
emit_by nodes to (tells.was_set stamp) = record { to = to; versions = _; chosen = []; is = refl }
emit_by nodes to (tells.was_removed stamp) = record { to = to; versions = _; chosen = []; is = refl }
emit_by nodes to (tells.was_loaded entries) = record { to = to; versions = _; chosen = []; is = refl }
emit_by nodes to (tells.was_passed passed) = record { to = to; versions = _; chosen = []; is = refl }
emit_by nodes to (tells.was_shifted total) = record { to = to; versions = _; chosen = []; is = refl }
emit_by nodes to (tells.was_granted total) = record { to = to; versions = _; chosen = []; is = refl }
emit_by nodes to (tells.was_delivered changed) = record { to = to; versions = _; chosen = []; is = refl }

-- ---- a pass that ran the term

module _ (name : List ℕ) (key : KeyValue) (term count : ℕ) where
  ran_passed : (nodes : ℕ) (p : Passed) → is_act (budget_of_key name key term count) p ≡ acts (stamp_of key) term
      (asks.IsPassed p)
  ran_passed nodes tells.Unset = refl
  ran_passed nodes (tells.NoTerm stamp) = refl
  ran_passed nodes (tells.Act stamp t task) = regroup (stamp.clock == key.clock) (stamp.node == key.node) (t == term)

  pub ran_is : (nodes : ℕ) (r : ReplyTold) → ran (budget_of_key name key term count) r ≡ acts (stamp_of key) term
      (answered_from nodes r)
  ran_is nodes (tells.was_passed p) = ran_passed nodes p
  ran_is nodes (tells.was_set stamp) = refl
  ran_is nodes (tells.was_removed stamp) = refl
  ran_is nodes (tells.was_loaded entries) = refl
  ran_is nodes (tells.was_shifted total) = refl
  ran_is nodes (tells.was_granted total) = refl
  ran_is nodes (tells.was_emitted bytes) = refl
  ran_is nodes (tells.was_delivered changed) = refl
