-- No node knows of a version that another hasn't reached, and no message tells of one.
use Rattle.std.proofs.Common.{◌≡◌, ℕ, ◌≤◌, ◌==◌, Bool, true, false, cond, List, [], ◌∷◌, inl, inr, refl, sym, subst, arith, ⊎_elim, Option, Some, None}
use Rattle.std.proofs.lemmas.Bool.{eqb-true, and_parts}
use Rattle.operations.specs.Operations.{IsIn}
use Rattle.operations.proofs.Members.{IsIn-append_cases}
use Rattle.node_calls.specs.Asks.{Asked, Message}
use Rattle.node_calls.specs.Asks as asks
use Rattle.node_steps.specs.Nodes.{Node}
use Rattle.node_core.specs.Steps.{after}
use Rattle.node_steps.specs.Refusals.{message_in}
use Rattle.cluster_model.specs.Worlds.{Cluster, World, Event, accepted, node_after, sent, happens, world}
use Rattle.cluster_model.specs.Schedules.{Allows, IsSchedule}
use Rattle.cluster_model.proofs.Steps.{delivered_was_sent}

-- what nodes and messages say of versions
pub record HasMarks (w : World) : Type 0 where
  pub known : (i j : ℕ) → (w.node i).marks.known j ≤ (w.node j).marks.version
  pub ack : (m : Message) → IsIn m w.messages → m.ack ≤ (w.node m.to).marks.version
  pub upto : (m : Message) → IsIn m w.messages → m.upto ≤ (w.node m.from).marks.version

pub version_grows : (i : ℕ) (n : Node) (a : Option Asked) (words : List ℕ) →
    n.marks.version ≤ (node_after i n a words).marks.version
unfolding after
version_grows i n None words = omega arith
version_grows i n (Some ask) words = omega arith

pub known_upto : (c : Cluster) (w : World) (e : Event) (i j : ℕ) → HasMarks w →
    Allows w e.node (accepted c w e e.node) → (node_after i (w.node i) (accepted c w e i) e.words).marks.known j ≤
    (w.node j).marks.version
unfolding after
known_upto c w e i j marked allowed = at (accepted c w e i) refl
  where
    of : (m : Message) (t : Bool) → (t ≡ true → j ≡ m.from) → IsIn m w.messages →
        cond t m.upto ((w.node i).marks.known j) ≤ (w.node j).marks.version
    of m true f h = subst (λ k. m.upto ≤ (w.node k).marks.version) (sym (f refl)) (marked.upto m h)
    of m false f h = marked.known i j

    at : (a : Option Asked) → accepted c w e i ≡ a → (node_after i (w.node i) a e.words).marks.known j ≤
        (w.node j).marks.version
    at None p = marked.known i j
    at (Some (asks.Deliver read)) p = of (message_in read) _
        (λ h. eqb-true j (message_in read).from (and_parts (j == (message_in read).from) _ h).0)
        (delivered_was_sent c w e i read allowed p)
    at (Some ask) p = marked.known i j

record IsMarked (w : World) (m : Message) : Type 0 where
  pub upto : m.upto ≤ (w.node m.from).marks.version
  pub ack : m.ack ≤ (w.node m.to).marks.version

up : (a b c : ℕ) → a ≤ b → b ≤ c → a ≤ c
up a b c h k = omega arith

sent_marks : (i : ℕ) (w : World) (a : Option Asked) (m : Message) → Allows w i a → IsIn m (sent i (w.node i) a) →
    HasMarks w → IsMarked w m
sent_marks i w None m allowed h marked = absurd h
sent_marks i w (Some (asks.Emit to versions chosen)) m allowed (inl h) marked =
    subst (λ (l : Message). IsMarked w l) (sym h) (record {
      upto = allowed.0.upto;
      ack =
          up _ _ _ allowed.0.ack (marked.known i to);
    })
sent_marks i w (Some (asks.Emit to versions chosen)) m allowed (inr h) marked = absurd h
sent_marks i w (Some ask) m allowed h marked = absurd h

marked_after : (c : Cluster) (w : World) (e : Event) → HasMarks w → Allows w e.node (accepted c w e e.node) →
    HasMarks (happens c w e)
marked_after c w e marked allowed =
    let grows : (j : ℕ) → (w.node j).marks.version ≤ ((happens c w e).node j).marks.version =
    λ j. version_grows j (w.node j) (accepted c w e j) e.words in
    record {
      known = λ i j. up _ _ _ (known_upto c w e i j marked allowed) (grows j);
      ack = λ m h. up _ _ _ (⊎_elim (marked.ack m) (λ k. (sent_marks e.node w (accepted c w e e.node) m allowed k
          marked).ack) (IsIn-append_cases m _ _ h)) (grows m.to);
      upto = λ m h. up _ _ _ (⊎_elim (marked.upto m) (λ k. (sent_marks e.node w (accepted c w e e.node) m allowed k
          marked).upto) (IsIn-append_cases m _ _ h)) (grows m.from);
    }

pub marked : (c : Cluster) (es : List Event) → IsSchedule c es → HasMarks (world c es)
marked c [] s = record { known = λ i j. omega arith; ack = λ m h. absurd h; upto = λ m h. absurd h }
marked c (e ∷ es) s = marked_after c (world c es) e (marked c es s.1) s.0
