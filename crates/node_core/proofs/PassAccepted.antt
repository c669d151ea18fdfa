-- Which passes are accepted, once the words are drawn.
use Rattle.std.proofs.Common.{◌≡◌, ℕ, ◌⊎◌, inl, inr, true, List, length, Some, None, refl, ap, ◌∙◌}
use Rattle.std.proofs.lemmas.Bool.Decides.{nat_tests}
use Rattle.std.proofs.Common.{arith}
use Rattle.std.specs.Prelude.{◌==◌}
use Rattle.actions.specs.Names.{is_name}
use Rattle.node_calls.specs.declared.fault.NodeFault.{NodeFault}
use Rattle.node_calls.specs.declared.fault.NodeFault.TheVariants as faults
use Rattle.node_calls.specs.Asks.{IsPassed, Pass, call_from}
use Rattle.node_calls.specs.Told.{Passed, passes, was_passed}
use Rattle.node_steps.specs.Passes.{pass_reply, words_for}
use Rattle.node_steps.specs.Refusals.{bad_words}
use Rattle.node_core.specs.Room.{HasRoom}
use Rattle.node_core.specs.Traces.{IsRefusalOf, Kept, entry_for, refusal, state_known}
use Rattle.node_core.proofs.NamedRefusals.{first_is, later}

module _ (k : Kept) (name words : List ℕ) (room : HasRoom k) (named : is_name name ≡ true) where
  pub pass_fits : length words ≡ words_for (state_known k) name → refusal k (Pass name) words ≡ None
  pass_fits many =
      let same : (length words == words_for (state_known k) name) ≡ true = grind (arith, nat_tests, many) in
      later k name _ room named ∙ rw same refl

  pub pass_refused : (f : NodeFault) →
      (f ≡ faults.OutOfMemory) ⊎ (bad_words (words_for (state_known k) name) words ≡ Some f) →
      IsRefusalOf k (Pass name) words f
  pass_refused f (inl memory) = inl memory
  pass_refused f (inr bad) = inr (later k name _ room named ∙ first_is (bad_words (words_for (state_known k) name) words) _ f bad)

-- the call that a pass is kept as, which was answered this
pub pass_call : (k : Kept) (name words : List ℕ) (outcome : Passed) →
    outcome ≡ pass_reply k.config.node (state_known k) name words →
    call_from k.config.nodes (record { ask = passes name; words = words; reply = was_passed outcome }) ≡
    entry_for k (Pass name) words
pass_call k name words outcome e = ap (λ o. record { ask = Pass name; words = words; reply = IsPassed o }) e
