-- Legal traces.
use Rattle.std.proofs.Common.{◌≡◌, ℕ, zero, suc, ◌+◌, List, [], ◌∷◌, ◌++◌, length, take, None, refl, sym, subst, arith}
use Rattle.node_steps.specs.declared.config.Config.{Config}
use Rattle.node_calls.specs.Asks.{Asked, Call}
use Rattle.node_steps.specs.Nodes.{Node}
use Rattle.node_core.specs.Steps.{after, reply}
use Rattle.node_steps.specs.Refusals.{refusal_at}
use Rattle.node_core.specs.Resumed.{IsLegalCall}
use Rattle.node_core.specs.Traces.{SendsDelta, IsLegal, IsLegalFrom, replay_from}

pub nothing_legal : (config : Config) → IsLegal config []
unfolding IsLegalFrom
nothing_legal config = tt

-- a legal trace with one call more
pub legal_more : (config : Config) (entries : ℕ) (n : Node) (trace : List Call) (ask : Asked) (words : List ℕ) →
    IsLegalFrom config entries n trace →
    refusal_at config (entries + length trace) (replay_from config.node n trace) ask words ≡ None →
    SendsDelta (replay_from config.node n trace) ask →
    IsLegalFrom config entries n (trace ++ record {
      ask = ask;
      words = words;
      reply =
          reply config.node (replay_from config.node n trace) ask words;
    } ∷ [])
unfolding IsLegalFrom replay_from
legal_more config entries n [] ask words legal agreed sends = (
  subst (λ k. refusal_at config k n ask words ≡ None) (let none : entries + 0 ≡ entries = omega arith in none)
      agreed,
  sends,
  refl,
  tt,
)
legal_more config entries n (call ∷ trace) ask words legal agreed sends =
    let places : entries + length (call ∷ trace) ≡ entries + 1 + length trace = omega arith in (
      legal.0,
      legal.1,
      legal.2,
      legal_more config (entries + 1) (after config.node n call.ask call.words) trace ask words legal.3
          (subst (λ k. refusal_at config k (replay_from config.node (after config.node n call.ask call.words) trace) ask
          words ≡ None) places agreed) sends,
    )

-- the calls before, and the last one
pub legal_parts : (config : Config) (entries : ℕ) (n : Node) (trace : List Call) (c : Call) →
    IsLegalFrom config entries n (trace ++ c ∷ []) →
    IsLegalFrom config entries n trace × IsLegalCall config (entries + length trace) (replay_from config.node n trace) c
unfolding IsLegalFrom replay_from
legal_parts config entries n [] c legal =
    let here : entries ≡ entries + 0 = omega arith in
    (tt, subst (λ k. IsLegalCall config k n c) here (record { agreed = legal.0; sends = legal.1; reply = legal.2 }))
legal_parts config entries n (d ∷ trace) c legal =
    let rest = legal_parts config (entries + 1) (after config.node n d.ask d.words) trace c legal.3 in
    let places : entries + 1 + length trace ≡ entries + length (d ∷ trace) = omega arith in (
      (legal.0, legal.1, legal.2, rest.0),
      subst (λ k. IsLegalCall config k
          (replay_from config.node (after config.node n d.ask d.words) trace) c) places rest.1,
    )

pub legal_with : (config : Config) (entries : ℕ) (n : Node) (trace : List Call) (c : Call) →
    IsLegalFrom config entries n trace →
    IsLegalCall config (entries + length trace) (replay_from config.node n trace) c →
    IsLegalFrom config entries n (trace ++ c ∷ [])
legal_with config entries n trace c legal next =
    subst (λ r. IsLegalFrom config entries n (trace ++ record { ask = c.ask; words = c.words; reply = r } ∷ []))
    (sym next.reply)
    (legal_more config entries n trace c.ask c.words legal next.agreed next.sends)

-- a beginning of a legal trace
pub legal_prefix : (config : Config) (entries : ℕ) (n : Node) (trace : List Call) (k : ℕ) →
    IsLegalFrom config entries n trace → IsLegalFrom config entries n (take k trace)
unfolding IsLegalFrom
legal_prefix config entries n [] zero legal = tt
legal_prefix config entries n [] (suc k) legal = tt
legal_prefix config entries n (c ∷ trace) zero legal = tt
legal_prefix config entries n (c ∷ trace) (suc k) legal =
    (legal.0, legal.1, legal.2, legal_prefix config (entries + 1) (after config.node n c.ask c.words) trace k legal.3)
