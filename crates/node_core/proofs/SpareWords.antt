-- The refusals of asks that are given words that they have no use for.
use Rattle.std.proofs.Common.{◌≡◌, ℕ, ◌+◌, Bool, true, false, not, ◌&&◌, nat_lt, List, [], ◌∷◌, ◌++◌, length, map, ◌⊎◌, inl, inr, Option, Some, None, Result, Ok, Err, refl, sym, ◌∙◌, ap}
use Rattle.std.specs.Prelude.{IfOk, IfErr, OnOk, is_none}
use Rattle.actions.specs.Names.{is_name}
use Rattle.actions.specs.Reading.{reading}
use Rattle.actions.specs.SettingReading.{setting_reading}
use Rattle.replica_state.specs.States.{with_name}
use Rattle.replica_state.specs.Folds.{fold}
use Rattle.replica_state.specs.Unions.{with_names}
use Rattle.message_format.specs.declared.fault.WireFault.{WireFault}
use Rattle.node_calls.specs.declared.fault.NodeFault.{NodeFault}
use Rattle.node_calls.specs.declared.fault.NodeFault.TheVariants as faults
use Rattle.node_calls.specs.Asks.{Message, Versions, Set, Remove, Load, Shift, Grant, Emit, Deliver}
use Rattle.node_steps.specs.Nodes.{state_shown}
use Rattle.node_steps.specs.Settings.{points_in}
use Rattle.node_steps.specs.Refusals.{message_in, is_full, is_bad_node, bad_actions, bad_setting, bad_message, too_many, faults_of_shift, faults_of_grant, faults_of_message, spare_words}
use Rattle.refusals.specs.Refusals.{first_fault}
use Rattle.counters.specs.Cells.{most}
use Rattle.std.specs.Bool.{then_some}
use Rattle.node_core.specs.Traces.{Kept, node_of, refusal}
use Rattle.node_core.specs.Applied.{delivery_refused_with}

abbrev pub or_else : Option NodeFault → Option NodeFault → Option NodeFault
or_else None other = other
or_else (Some fault) other = Some fault

or_last : (fs : List (Option NodeFault)) (x : Option NodeFault) →
    first_fault (fs ++ x ∷ []) ≡ or_else (first_fault fs) x
or_last [] None = refl
or_last [] (Some fault) = refl
or_last (None ∷ fs) x = or_last fs x
or_last (Some fault ∷ fs) x = refl

or_none : (first : Option NodeFault) → or_else first None ≡ first
or_none None = refl
or_none (Some fault) = refl

-- where words are looked at last
spare_last : (fs : List (Option NodeFault)) (words : List ℕ) →
    first_fault (fs ++ spare_words words ∷ []) ≡ or_else (first_fault (fs ++ None ∷ [])) (spare_words words)
spare_last fs words = or_last fs (spare_words words) ∙ ap (λ first. or_else first (spare_words words))
    (sym (or_last fs None ∙ or_none (first_fault fs)))

pub set_spare : (k : Kept) (name text : List ℕ) (w : ℕ) (ws : List ℕ) →
    refusal k (Set name text) (w ∷ ws) ≡ or_else (refusal k (Set name text) []) (Some (faults.BadWords 0))
set_spare k name text w ws = spare_last
    (then_some (is_full k.config (length k.trace)) faults.TraceFull ∷ then_some (not (is_name name)) faults.BadName ∷
    bad_actions (reading text) ∷
    then_some (too_many (with_name name (state_shown (node_of k)).names)) faults.TooManyPoints ∷
    then_some (nat_lt most ((node_of k).marks.clock + 1)) faults.ClockFull ∷ []) (w ∷ ws)

pub remove_spare : (k : Kept) (name : List ℕ) (w : ℕ) (ws : List ℕ) →
    refusal k (Remove name) (w ∷ ws) ≡ or_else (refusal k (Remove name) []) (Some (faults.BadWords 0))
remove_spare k name w ws = spare_last
    (then_some (is_full k.config (length k.trace)) faults.TraceFull ∷ then_some (not (is_name name)) faults.BadName ∷
    then_some (too_many (with_name name (state_shown (node_of k)).names)) faults.TooManyPoints ∷
    then_some (nat_lt most ((node_of k).marks.clock + 1)) faults.ClockFull ∷ []) (w ∷ ws)

pub load_spare : (k : Kept) (text : List ℕ) (w : ℕ) (ws : List ℕ) →
    refusal k (Load text) (w ∷ ws) ≡ or_else (refusal k (Load text) []) (Some (faults.BadWords 0))
load_spare k text w ws = spare_last
    (then_some (is_full k.config (length k.trace)) faults.TraceFull ∷ bad_setting (setting_reading text) ∷
    then_some (too_many (with_names (map (λ point. point.0) (points_in text)) (state_shown (node_of k)).names))
    faults.TooManyPoints ∷
    then_some (nat_lt most ((node_of k).marks.clock + length (points_in text))) faults.ClockFull ∷ []) (w ∷ ws)

pub shift_spare : (k : Kept) (name : List ℕ) (term to amount w : ℕ) (ws : List ℕ) →
    refusal k (Shift name term to amount) (w ∷ ws) ≡ or_else (refusal k (Shift name term to amount) [])
    (Some (faults.BadWords 0))
shift_spare k name term to amount w ws = spare_last
    (then_some (is_full k.config (length k.trace)) faults.TraceFull ∷ then_some (not (is_name name)) faults.BadName ∷
    first_fault (faults_of_shift k.config (state_shown (node_of k)) name term to amount) ∷ []) (w ∷ ws)

pub grant_spare : (k : Kept) (name : List ℕ) (term amount w : ℕ) (ws : List ℕ) →
    refusal k (Grant name term amount) (w ∷ ws) ≡ or_else (refusal k (Grant name term amount) [])
    (Some (faults.BadWords 0))
grant_spare k name term amount w ws = spare_last
    (then_some (is_full k.config (length k.trace)) faults.TraceFull ∷ then_some (not (is_name name)) faults.BadName ∷
    first_fault (faults_of_grant k.config (state_shown (node_of k)) name term amount) ∷ []) (w ∷ ws)

pub emit_spare : (k : Kept) (to : ℕ) (versions : Versions) (w : ℕ) (ws : List ℕ) →
    refusal k (Emit to versions []) (w ∷ ws) ≡ or_else (refusal k (Emit to versions []) []) (Some (faults.BadWords 0))
emit_spare k to versions w ws = spare_last
    (then_some (is_full k.config (length k.trace)) faults.TraceFull ∷
    then_some (is_bad_node k.config to) faults.BadNode ∷ []) (w ∷ ws)

-- of an answer that names the refusal without words, or else the words
pub spare_result : {T : Type 0} (checked : Result T NodeFault) (r : NodeFault) (first then : Option NodeFault) →
    OnOk checked (r ≡ faults.BadWords 0) → IfErr checked (λ f. r ≡ f) → OnOk checked (first ≡ None) →
    IfErr checked (λ f. (f ≡ faults.OutOfMemory) ⊎ (first ≡ Some f)) →
    then ≡ or_else first (Some (faults.BadWords 0)) → (r ≡ faults.OutOfMemory) ⊎ (then ≡ Some r)
spare_result (Ok x) r first then good bad none refused is = inr
    (is ∙ ap (λ f. or_else f (Some (faults.BadWords 0))) none ∙ ap Some (sym good))
spare_result (Err f) r first then good bad none (inl e) is = inl (bad ∙ e)
spare_result (Err f) r first then good bad none (inr e) is =
    inr (is ∙ ap (λ x. or_else x (Some (faults.BadWords 0))) e ∙ ap Some (sym bad))

pub ok_first : {T : Type 0} (A : Type 0) (Q : T → Type 0) (checked : Result T NodeFault) → IfOk checked (λ x. A × Q x) →
    OnOk checked A
ok_first A Q (Ok x) h = h.0
ok_first A Q (Err f) h = tt

pub ok_first_of_three : {T : Type 0} (A : Type 0) (Q R : T → Type 0) (checked : Result T NodeFault) →
    IfOk checked (λ x. A × Q x × R x) → OnOk checked A
ok_first_of_three A Q R (Ok x) h = h.0
ok_first_of_three A Q R (Err f) h = tt

-- ---- a delivery, of which the words are looked at before its message

some_is : (a b : NodeFault) → Some a ≡ Some b → a ≡ b
some_is a b h = cc

-- no fault of a message is a full trace, too many names or out of memory
OfMessage : Option NodeFault → Type 0
OfMessage None = Unit {0}
OfMessage (Some fault) = delivery_refused_with fault ≡ faults.BadWords 0

by_tests : (a b c d : Bool) (read : Result Message WireFault) →
    OfMessage (first_fault (bad_message read ∷ then_some a faults.NotForMe ∷ then_some b faults.OwnAhead ∷
    then_some c faults.AckAhead ∷ then_some d faults.Overspent ∷ []))
unfolding OfMessage
by_tests a b c d (Err fault) = refl
by_tests true b c d (Ok m) = refl
by_tests false true c d (Ok m) = refl
by_tests false false true d (Ok m) = refl
by_tests false false false true (Ok m) = refl
by_tests false false false false (Ok m) = tt

abbrev before_words : Bool → Bool → List (Option NodeFault) → Option NodeFault → Option NodeFault → Option NodeFault
before_words full many fs m words = first_fault (then_some full faults.TraceFull ∷
    then_some (is_none m && many) faults.TooManyPoints ∷ words ∷ fs)

refused_by : (full many : Bool) (fs : List (Option NodeFault)) (m : Option NodeFault) → first_fault fs ≡ m →
    OfMessage m → (r : NodeFault) → before_words full many fs m None ≡ Some r →
    before_words full many fs m (Some (faults.BadWords 0)) ≡ Some (delivery_refused_with r)
unfolding OfMessage
refused_by true many fs m e all r h = ap (λ f. Some (delivery_refused_with f)) (some_is faults.TraceFull r h)
refused_by false true fs None e all r h = ap (λ f. Some (delivery_refused_with f)) (some_is faults.TooManyPoints r h)
refused_by false false fs None e all r h = absurd (let impossible :
    ◌≡◌ {A = Option NodeFault} None (Some r) = sym e ∙ h in cc)
refused_by false many fs (Some f) e all r h = ap Some (sym all ∙ ap delivery_refused_with (some_is f r (sym e ∙ h)))

accepted_by : (full many : Bool) (fs : List (Option NodeFault)) (m : Option NodeFault) → first_fault fs ≡ m →
    before_words full many fs m None ≡ None → before_words full many fs m (Some (faults.BadWords 0)) ≡ Some
    (faults.BadWords 0)
accepted_by true many fs m e h = absurd (let impossible : ◌≡◌ {A = Option NodeFault} (Some faults.TraceFull) None = h in
    cc)
accepted_by false true fs None e h = absurd (let impossible :
    ◌≡◌ {A = Option NodeFault} (Some faults.TooManyPoints) None = h in cc)
accepted_by false false fs None e h = refl
accepted_by false many fs (Some f) e h = absurd (let impossible :
    ◌≡◌ {A = Option NodeFault} (Some f) None = sym e ∙ h in cc)

module _ (k : Kept) (read : Result Message WireFault) (w : ℕ) (ws : List ℕ) where
  abbrev of_message : List (Option NodeFault)
  of_message = faults_of_message k.config (node_of k) read

  all : OfMessage (first_fault of_message)
  all = by_tests _ _ _ _ read

  refused : (r : NodeFault) → refusal k (Deliver read) [] ≡ Some r →
      refusal k (Deliver read) (w ∷ ws) ≡ Some (delivery_refused_with r)
  refused r h = refused_by (is_full k.config (length k.trace))
      (too_many (fold ((message_in read).ops ++ (node_of k).ops)).names) of_message (first_fault of_message) refl all r
      h

  accepted : refusal k (Deliver read) [] ≡ None → refusal k (Deliver read) (w ∷ ws) ≡ Some (faults.BadWords 0)
  accepted h = accepted_by (is_full k.config (length k.trace))
      (too_many (fold ((message_in read).ops ++ (node_of k).ops)).names) of_message (first_fault of_message) refl h

  pub deliver_spare : {T : Type 0} (checked : Result T NodeFault) (r : NodeFault) →
      OnOk checked (r ≡ faults.BadWords 0) → IfErr checked (λ f. r ≡ delivery_refused_with f) →
      OnOk checked (refusal k (Deliver read) [] ≡ None) →
      IfErr checked (λ f. (f ≡ faults.OutOfMemory) ⊎ (refusal k (Deliver read) [] ≡ Some f)) →
      (r ≡ faults.OutOfMemory) ⊎ (refusal k (Deliver read) (w ∷ ws) ≡ Some r)
  deliver_spare (Ok x) r good bad none some = inr (accepted none ∙ ap Some (sym good))
  deliver_spare (Err f) r good bad none (inl e) = inl (bad ∙ ap delivery_refused_with e)
  deliver_spare (Err f) r good bad none (inr e) = inr (refused f e ∙ ap Some (sym bad))
