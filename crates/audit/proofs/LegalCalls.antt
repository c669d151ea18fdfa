-- Legal traces, call by call, and how many calls they have.
use Rattle.std.proofs.Common.{◌≡◌, ℕ, zero, suc, ◌+◌, ◌<◌, ◌≤◌, Bool, true, false, List, [], ◌∷◌, length, take, Option, Some, None, refl, subst, arith, slice_get}
use Rattle.std.specs.Prelude.{nat_le}
use Rattle.std.specs.Bool.{then_some}
use Rattle.std.proofs.lemmas.Bool.Decides.{nat_tests}
use Rattle.refusals.specs.Refusals.{first_fault}
use Rattle.node_steps.specs.declared.config.Config.{Config}
use Rattle.node_calls.specs.declared.fault.NodeFault.{NodeFault}
use Rattle.node_calls.specs.declared.fault.NodeFault.TheVariants as faults
use Rattle.node_calls.specs.Asks.{Asked, Call}
use Rattle.node_calls.specs.Asks as asks
use Rattle.node_steps.specs.Nodes.{Node}
use Rattle.node_core.specs.Steps.{after}
use Rattle.node_steps.specs.Refusals.{refusal_at, is_full}
use Rattle.node_core.specs.Resumed.{IsLegalCall}
use Rattle.node_core.specs.Traces.{IsLegalFrom, replay_from}
use Rattle.cluster_model.specs.Worlds.{cluster_of, config_of}

-- the call at an index of a legal trace
pub legal_at : (config : Config) (entries : ℕ) (n : Node) (trace : List Call) (k : ℕ) (c : Call) →
    IsLegalFrom config entries n trace → slice_get trace k ≡ Some c →
    IsLegalCall config (entries + k) (replay_from config.node n (take k trace)) c
unfolding IsLegalFrom replay_from
legal_at config entries n [] k c legal is = absurd (cc is)
legal_at config entries n (d ∷ trace) zero c legal is =
    let here : entries ≡ entries + 0 = omega arith in
    let same : d ≡ c = cc is in
    subst (λ x. IsLegalCall config (entries + 0) n x) same
    (subst (λ k. IsLegalCall config k n d) here (record { agreed = legal.0; sends = legal.1; reply = legal.2 }))
legal_at config entries n (d ∷ trace) (suc k) c legal is =
    let places : entries + 1 + k ≡ entries + suc k = omega arith in
    subst (λ j. IsLegalCall config j (replay_from config.node (after config.node n d.ask d.words) (take k trace)) c)
    places
    (legal_at config (entries + 1) (after config.node n d.ask d.words) trace k c legal.3 is)

-- ---- an accepted call finds room, and else nothing depends on how much there is

starts_free : (full : Bool) (rest : List (Option NodeFault)) →
    first_fault (then_some full faults.TraceFull ∷ rest) ≡ None → full ≡ false
starts_free false rest h = refl
starts_free true rest h = absurd (let impossible : ⊥ = cc in impossible)

the_rest : (full : Bool) (rest : List (Option NodeFault)) → first_fault (then_some full faults.TraceFull ∷ rest) ≡
    None → first_fault rest ≡ None
the_rest false rest h = h
the_rest true rest h = absurd (let impossible : ⊥ = cc in impossible)

with_room : (full : Bool) (rest : List (Option NodeFault)) → full ≡ false → first_fault rest ≡ None →
    first_fault (then_some full faults.TraceFull ∷ rest) ≡ None
with_room false rest free h = h
with_room true rest free h = absurd (let impossible : ⊥ = cc in impossible)

not_full : (config : Config) (entries : ℕ) (n : Node) (ask : Asked) (words : List ℕ) →
    refusal_at config entries n ask words ≡ None → is_full config entries ≡ false
not_full config entries n (asks.Set name text) words h = starts_free (is_full config entries) _ h
not_full config entries n (asks.Remove name) words h = starts_free (is_full config entries) _ h
not_full config entries n (asks.Load text) words h = starts_free (is_full config entries) _ h
not_full config entries n (asks.Pass name) words h = starts_free (is_full config entries) _ h
not_full config entries n (asks.Shift name term to amount) words h = starts_free (is_full config entries) _ h
not_full config entries n (asks.Grant name term amount) words h = starts_free (is_full config entries) _ h
not_full config entries n (asks.Emit to versions chosen) words h = starts_free (is_full config entries) _ h
not_full config entries n (asks.Deliver read) words h = starts_free (is_full config entries) _ h

room : (cap entries : ℕ) → nat_le cap entries ≡ false → entries < cap
room cap entries h = grind (arith, nat_tests)

no_more_than : (cap entries : ℕ) → entries < cap → nat_le cap entries ≡ false
no_more_than cap entries h = grind (arith, nat_tests)

-- a legal trace has no more calls than the node accepts
pub legal_short : (config : Config) (entries : ℕ) (n : Node) (trace : List Call) → IsLegalFrom config entries n trace →
    entries ≤ config.trace_cap →
    entries + length trace ≤ config.trace_cap
unfolding IsLegalFrom
legal_short config entries n [] legal small = omega (arith, small)
legal_short config entries n (c ∷ trace) legal small =
    let free : entries < config.trace_cap = room config.trace_cap entries
    (not_full config entries n c.ask c.words legal.0) in
    let rest : entries + 1 + length trace ≤ config.trace_cap =
    legal_short config (entries + 1) (after config.node n c.ask c.words) trace legal.3 (omega (arith, free)) in
    omega (arith, rest)

module _ (nodes i small great : ℕ) where
  abbrev in_small : Config
  in_small = config_of (cluster_of nodes small) i

  abbrev in_great : Config
  in_great = config_of (cluster_of nodes great) i

  wider : (entries : ℕ) (n : Node) (ask : Asked) (words : List ℕ) → is_full in_great entries ≡ false →
      refusal_at in_small entries n ask words ≡ None →
      refusal_at in_great entries n ask words ≡ None
  wider entries n (asks.Set name text) words free h = with_room (is_full in_great entries) _ free
      (the_rest (is_full in_small entries) _ h)
  wider entries n (asks.Remove name) words free h = with_room (is_full in_great entries) _ free
      (the_rest (is_full in_small entries) _ h)
  wider entries n (asks.Load text) words free h = with_room (is_full in_great entries) _ free
      (the_rest (is_full in_small entries) _ h)
  wider entries n (asks.Pass name) words free h = with_room (is_full in_great entries) _ free
      (the_rest (is_full in_small entries) _ h)
  wider entries n (asks.Shift name term to amount) words free h =
      with_room (is_full in_great entries) _ free (the_rest (is_full in_small entries) _ h)
  wider entries n (asks.Grant name term amount) words free h =
      with_room (is_full in_great entries) _ free (the_rest (is_full in_small entries) _ h)
  wider entries n (asks.Emit to versions chosen) words free h =
      with_room (is_full in_great entries) _ free (the_rest (is_full in_small entries) _ h)
  wider entries n (asks.Deliver read) words free h = with_room (is_full in_great entries) _ free
      (the_rest (is_full in_small entries) _ h)

  -- it is legal too where the node accepts more
  pub legal_wider : (entries : ℕ) (n : Node) (trace : List Call) → entries + length trace ≤ great →
      IsLegalFrom in_small entries n trace → IsLegalFrom in_great entries n trace
  unfolding IsLegalFrom
  legal_wider entries n [] few legal = tt
  legal_wider entries n (c ∷ trace) few legal =
      let here : entries < great = omega (arith, few) in
      let rest : entries + 1 + length trace ≤ great = omega (arith, few) in (
        wider entries n c.ask c.words (no_more_than great entries here) legal.0,
        legal.1,
        legal.2,
        legal_wider (entries + 1) (after i n c.ask c.words) trace rest legal.3,
      )
