-- A message can tell all that a node knows, after one more call too.
use Rattle.std.proofs.Common.{◌≡◌, ℕ, ◌+◌, ◌≤◌, Bool, true, false, cond, List, [], ◌∷◌, ◌++◌, length, subst, length-append, Option, Some, None, refl, sym, ◌∙◌, ap, arith}
use Rattle.std.specs.Int.{from_bool}
use Rattle.stamp_register.specs.Keys.{KeyValue}
use Rattle.replica_state.specs.States.{State, with_name, with_key, with_hits, with_execs, with_shifts}
use Rattle.replica_state.specs.Folds.{fold}
use Rattle.replica_state.specs.Knowledge.{changes}
use Rattle.delta_exchange.specs.Wholes.{AreLawful}
use Rattle.delta_exchange.proofs.LawfulLemmas.{lawful_none}
use Rattle.node_steps.specs.declared.config.Config.{Config}
use Rattle.node_calls.specs.Asks.{Asked, Call}
use Rattle.node_steps.specs.Nodes.{Node, start, state_shown}
use Rattle.node_steps.specs.Outcomes.{state_done}
use Rattle.node_core.specs.Steps.{after, operations_added}
use Rattle.node_core.specs.Traces.{replay_from, replay}
use Rattle.node_core.specs.Holds.{CanTell}
use Rattle.node_core.proofs.TraceLemmas.{replay_more}

-- a new node
names_none : length (fold []).names ≤ 256
unfolding fold
names_none = omega arith

pub tell_new : (config : Config) → CanTell config 0 0 (replay config.node [])
unfolding replay_from
tell_new config = record {
  version_is = refl;
  few_versions = omega arith;
  lawful = lawful_none config.nodes;
  few_names =
      names_none;
}

-- the replay of a trace one call longer
pub tell_grown : (config : Config) (version : ℕ) (trace : List Call) (c : Call) →
    CanTell config version (length trace + 1) (after config.node (replay config.node trace) c.ask c.words) →
    CanTell config version (length (trace ++ c ∷ [])) (replay config.node (trace ++ c ∷ []))
tell_grown config version trace c h =
    subst (λ (len : ℕ). CanTell config version len (replay config.node (trace ++ c ∷ [])))
    (sym (length-append trace (c ∷ [])))
    (subst (λ (n : Node). CanTell config version (length trace + 1) n) (sym (replay_more config.node start trace c)) h)

one_more : (b : Bool) → cond b 1 0 ≡ from_bool b
one_more true = refl
one_more false = refl

counted : (changed : Bool) (version len : ℕ) → version ≤ len → version + from_bool changed ≤ len + 1
counted true version len h = omega (arith, h)
counted false version len h = omega (arith, h)

-- after an ask that adds what can be told
pub tell_after : (config : Config) (version len : ℕ) (n : Node) (a : Asked) (words : List ℕ) (changed : Bool) →
    CanTell config version len n → changes (state_shown n) (operations_added config.node n a words) ≡ changed →
    AreLawful config.nodes (operations_added config.node n a words ++ n.ops) →
    length (fold (operations_added config.node n a words ++ n.ops)).names ≤ 256 →
    CanTell config (version + from_bool changed) (len + 1) (after config.node n a words)
unfolding after
tell_after config version len n a words changed h change lawful few =
    record {
      version_is = (λ i. h.version_is i + cond (change i) 1 0) ∙ ap (λ k. version + k) (one_more changed);
      few_versions = counted changed version len h.few_versions;
      lawful = lawful;
      few_names = few;
    }

-- the state after it
pub shown_after : (i : ℕ) (n : Node) (a : Asked) (words : List ℕ) →
    state_shown (after i n a words) ≡ fold (operations_added i n a words ++ n.ops)
unfolding after
shown_after i n a words = refl

-- ---- which names there are then

pub key_names : (name : List ℕ) (key : KeyValue) (v : State) → (with_key name key v).names ≡ with_name name v.names
unfolding with_key
key_names name key v = refl

pub done_names : (i : ℕ) (v : State) (name : List ℕ) (is_set : Bool) (spent : Option ℕ) →
    (state_done i v name is_set spent).names ≡ v.names
unfolding with_hits with_execs
done_names i v name false spent = refl
done_names i v name true None = refl
done_names i v name true (Some term) = refl

pub shift_names : (name : List ℕ) (term from to total : ℕ) (v : State) →
    (with_shifts name term from to total v).names ≡ v.names
unfolding with_shifts
shift_names name term from to total v = refl
