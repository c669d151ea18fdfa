-- Which versions of its own a node counts on another to have, the other knows.
use Rattle.std.proofs.Common.{◌≡◌, ℕ, ◌≤◌, ◌==◌, ◌&&◌, max, nat_le, nat_lt, Bool, true, false, cond, List, [], ◌∷◌, length, inl, inr, refl, sym, subst, arith, ⊎_elim, Option, Some, None, Result}
use Rattle.std.proofs.lemmas.Bool.{eqb-true, and_parts, ltb-true, not-false}
use Rattle.operations.specs.Operations.{IsIn}
use Rattle.operations.proofs.Members.{IsIn-append_cases}
use Rattle.message_format.specs.declared.fault.WireFault.{WireFault}
use Rattle.delta_exchange.specs.Versions.{known_raised}
use Rattle.node_calls.specs.Asks.{Asked, Message}
use Rattle.node_calls.specs.Asks as asks
use Rattle.node_steps.specs.Nodes.{Node}
use Rattle.node_core.specs.Steps.{after}
use Rattle.node_steps.specs.Refusals.{message_in, faults_of}
use Rattle.cluster_model.specs.Worlds.{Cluster, World, Event, config_of, accepted, node_after, sent, happens, world}
use Rattle.cluster_model.specs.Schedules.{Allows, IsSchedule}
use Rattle.cluster_model.proofs.Steps.{asked_is, delivered_was_sent}
use Rattle.cluster_model.proofs.Passes.{none_applies, not_true}

-- what is taken for acknowledged is known, what a message acknowledges its sender knows, and its base its receiver
pub record HasAcks (w : World) : Type 0 where
  pub acked : (i j : ℕ) → (w.node i).marks.acked j ≤ (w.node j).marks.known i
  pub ack : (m : Message) → IsIn m w.messages → m.ack ≤ (w.node m.from).marks.known m.to
  pub base : (m : Message) → IsIn m w.messages → m.base ≤ (w.node m.to).marks.known m.from

-- ---- what is known only grows

raised : (from base upto j : ℕ) (known : ℕ → ℕ) → known j ≤ known_raised from base upto known j
raised from base upto j known = at (j == from && (nat_le base (known j) && nat_lt (known j) upto)) refl
  where
    at : (t : Bool) → (j == from && (nat_le base (known j) && nat_lt (known j) upto)) ≡ t →
        known j ≤ cond t upto (known j)
    at true e =
        let below = ltb-true (known j) upto (and_parts (nat_le base (known j)) _ (and_parts (j == from) _ e).1).1 in
        omega (arith, below)
    at false e = omega arith

known_grows : (i : ℕ) (n : Node) (a : Option Asked) (words : List ℕ) (j : ℕ) →
    n.marks.known j ≤ (node_after i n a words).marks.known j
unfolding after
known_grows i n None words j = omega arith
known_grows i n (Some (asks.Deliver read)) words j = raised (message_in read).from (message_in read).base
    (message_in read).upto j n.marks.known
known_grows i n (Some ask) words j = omega arith

-- ---- one event

-- a message is accepted by the node that it is for
pub delivered_to : (c : Cluster) (w : World) (e : Event) (i : ℕ) (read : Result Message WireFault) →
    accepted c w e i ≡ Some (asks.Deliver read) → (message_in read).to ≡ i
delivered_to c w e i read p =
    let all = none_applies (faults_of (config_of c i) (length (w.trace i)) (w.node i) (asks.Deliver read) e.words)
    (asked_is c w e i (asks.Deliver read) p).agreed in
    eqb-true (message_in read).to i (not-false _ (not_true _ _ all.1.1.1.1.0))

acked_known : (c : Cluster) (w : World) (e : Event) (i j : ℕ) → HasAcks w → Allows w e.node (accepted c w e e.node) →
    (node_after i (w.node i) (accepted c w e i) e.words).marks.acked j ≤ (w.node j).marks.known i
unfolding after
acked_known c w e i j has allowed = at (accepted c w e i) refl
  where
    of : (m : Message) (t : Bool) → (t ≡ true → j ≡ m.from) → m.to ≡ i → IsIn m w.messages →
        cond t (max ((w.node i).marks.acked j) m.ack) ((w.node i).marks.acked j) ≤ (w.node j).marks.known i
    of m true f mine h =
        let told : m.ack ≤ (w.node j).marks.known i = subst (λ k. m.ack ≤ (w.node k).marks.known i) (sym (f refl))
        (subst (λ k. m.ack ≤ (w.node m.from).marks.known k) mine (has.ack m h)) in
        let before = has.acked i j in
        omega (arith, told, before)
    of m false f mine h = has.acked i j

    at : (a : Option Asked) → accepted c w e i ≡ a → (node_after i (w.node i) a e.words).marks.acked j ≤
        (w.node j).marks.known i
    at None p = has.acked i j
    at (Some (asks.Deliver read)) p = of (message_in read) (j == (message_in read).from)
        (eqb-true j (message_in read).from) (delivered_to c w e i read p) (delivered_was_sent c w e i read allowed p)
    at (Some ask) p = has.acked i j

record IsAcked (w : World) (m : Message) : Type 0 where
  pub ack : m.ack ≤ (w.node m.from).marks.known m.to
  pub base : m.base ≤ (w.node m.to).marks.known m.from

up : (a b c : ℕ) → a ≤ b → b ≤ c → a ≤ c
up a b c h k = omega (arith, h, k)

sent_acked : (i : ℕ) (w : World) (a : Option Asked) (m : Message) → Allows w i a → IsIn m (sent i (w.node i) a) →
    HasAcks w → IsAcked w m
sent_acked i w None m allowed h has = absurd h
sent_acked i w (Some (asks.Emit to versions chosen)) m allowed (inl h) has =
    subst (λ (l : Message). IsAcked w l) (sym h) (record {
      ack = allowed.0.ack;
      base =
          up _ _ _ allowed.0.base (has.acked i to);
    })
sent_acked i w (Some (asks.Emit to versions chosen)) m allowed (inr h) has = absurd h
sent_acked i w (Some ask) m allowed h has = absurd h

acks_after : (c : Cluster) (w : World) (e : Event) → HasAcks w → Allows w e.node (accepted c w e e.node) →
    HasAcks (happens c w e)
acks_after c w e has allowed =
    let grows : (i j : ℕ) → (w.node i).marks.known j ≤ ((happens c w e).node i).marks.known j =
    λ i j. known_grows i (w.node i) (accepted c w e i) e.words j in
    record {
      acked = λ i j. up _ _ _ (acked_known c w e i j has allowed) (grows j i);
      ack = λ m h. up _ _ _ (⊎_elim (has.ack m) (λ k. (sent_acked e.node w (accepted c w e e.node) m allowed k has).ack)
          (IsIn-append_cases m _ _ h)) (grows m.from m.to);
      base = λ m h. up _ _ _ (⊎_elim (has.base m) (λ k. (sent_acked e.node w (accepted c w e e.node) m allowed k
          has).base) (IsIn-append_cases m _ _ h)) (grows m.to m.from);
    }

pub has_acks : (c : Cluster) (es : List Event) → IsSchedule c es → HasAcks (world c es)
has_acks c [] s = record { acked = λ i j. omega arith; ack = λ m h. absurd h; base = λ m h. absurd h }
has_acks c (e ∷ es) s = acks_after c (world c es) e (has_acks c es s.1) s.0
