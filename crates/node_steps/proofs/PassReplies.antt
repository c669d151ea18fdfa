-- What a pass is answered, by the setting that is kept of it.
use Rattle.std.proofs.Common.{◌≡◌, ℕ, Bool, true, List, Option, Some, None, refl, sym, ◌∙◌, ap}
use Rattle.std.specs.Prelude.{slice_get}
use Rattle.actions.specs.Choice.{choice, triggers_by}
use Rattle.actions.specs.Value.{TermValue}
use Rattle.actions.proofs.ChoiceLemmas.{first_from_choice}
use Rattle.stamp_register.specs.declared.key.Stamp.{Stamp}
use Rattle.stamp_register.specs.Keys.{KeyValue, stamp_of}
use Rattle.replica_state.specs.States.{State}
use Rattle.node_calls.specs.Told.{Act}
use Rattle.packed_trace.specs.Packed.{acted, acted_by, passed_by}
use Rattle.node_steps.specs.Nodes.{setting_of}
use Rattle.node_steps.specs.Passes.{may_run, pass_reply, reply_of_choice, reply_of_pass, task_in, triggered_term}

-- a term that can trigger is there
acted_there : (stamp : Stamp) (term : ℕ) (found : Option TermValue) (word : ℕ) (may : Bool) →
    triggers_by found word may ≡ true → acted stamp term found ≡ Act stamp term (task_in found)
acted_there stamp term None word may h = absurd cc
acted_there stamp term (Some t) word may h = refl

by_choice : (key : KeyValue) (terms : List TermValue) (words : List ℕ) (may : ℕ → Bool) (chosen : Option ℕ) →
    chosen ≡ choice terms words may → acted_by (stamp_of key, terms) chosen ≡ reply_of_choice (key, terms) chosen
by_choice key terms words may None e = refl
by_choice key terms words may (Some k) e =
    acted_there (stamp_of key) k (slice_get terms k) _ _ (first_from_choice terms words may (Some k) e).1

pub kept_reply : (i : ℕ) (v : State) (name words : List ℕ) (key : KeyValue) (terms : List TermValue)
    (chosen : Option ℕ) → setting_of v name ≡ Some (key, terms) →
    chosen ≡ triggered_term i v name words (key, terms) →
    passed_by (Some (stamp_of key, terms)) chosen ≡ pass_reply i v name words
kept_reply i v name words key terms chosen set e =
    by_choice key terms words (may_run i v name key terms) chosen e ∙
    ap (reply_of_choice (key, terms)) e ∙
    ap (reply_of_pass i v name words) (sym set)
