-- Peers that are looked at in rounds of news.
use Rattle.std.specs.Prelude.{◌≡◌, ◌≤◌, ℕ, Bool, true, false, List, [], ◌∷◌, length}
use Rattle.node_steps.specs.declared.config.Config.{Config}
use Rattle.node_registry.specs.Cells.{Cell, IsLawfulAt}
use Rattle.gossip.specs.Attempts.{IsWhy, Tries}
use Rattle.gossip.specs.declared.failures.Attempt.TheVariants.{Sent, Failed}
use Rattle.gossip.specs.declared.failures.AttemptFault.{AttemptFault}
use Rattle.gossip.specs.declared.failures.AttemptFault.TheVariants.{Unreached}
use Rattle.gossip_pace.specs.declared.news.News.{News}
use Rattle.gossip_pace.specs.declared.news.Pace.{Pace}
use Rattle.gossip_pace.specs.News.{is_due, missed_pace, news_of, rested, told_pace}

-- a lawful state of the node, behind so many calls at least, had this to tell the peer
abbrev pub IsSeen : Config → List ℕ → ℕ → ℕ → News → Type 0
IsSeen config seed since peer news =
    (c : Cell) × IsLawfulAt config seed c × (since ≤ length c.node.trace) × (news ≡ news_of c.node peer)

-- a wire said, in some state, whether it reaches the node
abbrev pub Says : {X : Type 0} → (X → ℕ → Bool) → ℕ → Bool → Type 0
Says {X = X} reached node is = (w : X) × (reached w node ≡ is)

-- Each of these peers was looked at: it was left alone where nothing was due, and else told, or missed, or gone.
-- How the paces stand then, the peers to which a message was to be made, those of them that were missed, and what came of
-- each for which one was due
pub data AreLooked (config : Config) (seed : List ℕ) (since : ℕ) (says : ℕ → Bool → Type 0) : List Pace → List Pace → List ℕ →
    List ℕ → Tries → Type 0 where
  nobody : AreLooked config seed since says [] [] [] [] []
  left_alone : {p : Pace} {n : News} {ps qs : List Pace} {tos missed : List ℕ} {tries : Tries}
      → IsSeen config seed since p.node n → is_due p n ≡ false
      → AreLooked config seed since says ps qs tos missed tries
      → AreLooked config seed since says (p ∷ ps) (rested p ∷ qs) tos missed tries
  not_reached : {p : Pace} {n : News} {ps qs : List Pace} {tos missed : List ℕ} {tries : Tries}
      → IsSeen config seed since p.node n → is_due p n ≡ true → says p.node false
      → AreLooked config seed since says ps qs tos missed tries
      → AreLooked config seed since says (p ∷ ps) (missed_pace p ∷ qs) tos missed
      ((p.node, Failed Unreached) ∷ tries)
  told_it : {p : Pace} {n : News} {ps qs : List Pace} {tos missed : List ℕ} {tries : Tries}
      → IsSeen config seed since p.node n → is_due p n ≡ true → says p.node true
      → AreLooked config seed since says ps qs tos missed tries
      → AreLooked config seed since says (p ∷ ps) (told_pace p n ∷ qs) (p.node ∷ tos) missed
      ((p.node, Sent) ∷ tries)
  missed_it : {p : Pace} {n : News} {why : AttemptFault} {ps qs : List Pace} {tos missed : List ℕ} {tries : Tries}
      → IsSeen config seed since p.node n → is_due p n ≡ true → says p.node true → IsWhy config seed p.node why
      → AreLooked config seed since says ps qs tos missed tries
      → AreLooked config seed since says (p ∷ ps) (missed_pace p ∷ qs) (p.node ∷ tos) (p.node ∷ missed)
      ((p.node, Failed why) ∷ tries)
