-- What a node holds after it made a message, and after one was delivered to it.
use Rattle.std.proofs.Common.{◌≡◌, ℕ, ◌+◌, ◌<◌, ◌≤◌, max, [], ◌++◌, Result, Ok, Err, sym, ap, subst, arith}
use Rattle.replica_state.specs.States.{State}
use Rattle.replica_state.specs.Folds.{fold, clock_of}
use Rattle.message_format.specs.declared.fault.WireFault.{WireFault}
use Rattle.node_steps.specs.declared.config.Config.{Config}
use Rattle.node_calls.specs.Asks.{Message, Deliver, emit_of}
use Rattle.node_steps.specs.Nodes.{Node}
use Rattle.node_core.specs.Steps.{after}
use Rattle.node_steps.specs.Refusals.{message_in}
use Rattle.node_core.specs.Holds.{Holds}
use Rattle.node_core.specs.Deliveries.{IsDelivery}
use Rattle.node_steps.proofs.Overspent.{clock-append}
use Rattle.node_steps.proofs.OwnRights.{HasOwn}
use Rattle.node_steps.proofs.OwnDelivered.{own_hits_kept, own_execs_kept, own_delivered}

-- a message that is made changes nothing of the state
pub holds_emit : (config : Config) (clock : ℕ) (state : State) (len : ℕ) (n : Node) (to : ℕ)
    (read : Result Message WireFault) → Holds config clock state len n → len < config.trace_cap →
    Holds config clock state (len + 1) (after config.node n (emit_of to read) [])
unfolding after
holds_emit config clock state len n to (Ok m) h room =
    record {
      own = h.own;
      few = h.few;
      small = h.small;
      capped = omega (arith, room);
      clock_is = h.clock_is;
      state_is = h.state_is;
      carried = h.carried;
      hits_few = λ q. let z = h.hits_few q in omega (arith, z);
      execs_few = λ q k. let z = h.execs_few q k in omega (arith, z);
      own_rights = h.own_rights;
    }
holds_emit config clock state len n to (Err fault) h room =
    record {
      own = h.own;
      few = h.few;
      small = h.small;
      capped = omega (arith, room);
      clock_is = h.clock_is;
      state_is = h.state_is;
      carried = h.carried;
      hits_few = λ q. let z = h.hits_few q in omega (arith, z);
      execs_few = λ q k. let z = h.execs_few q k in omega (arith, z);
      own_rights = h.own_rights;
    }

-- a delivery leaves what the node itself wrote
pub holds_delivered : (config : Config) {clock : ℕ} {state next : State} {len : ℕ} (n : Node)
    (read : Result Message WireFault) (later : ℕ) → Holds config clock state len n → len < config.trace_cap →
    IsDelivery config n read later → next ≡ fold ((message_in read).ops ++ n.ops) →
    Holds config (max clock later) next (len + 1) (after config.node n (Deliver read) [])
unfolding after
holds_delivered config {clock} {state} {next} {len} n read later h room d e =
    let same : fold n.ops ≡ state = h.state_is in
    let was : clock_of n.ops ≤ clock = h.carried in
    let at = h.clock_is in
    let late = d.clock_is in
    let both = clock-append (message_in read).ops n.ops in
    record {
      own = h.own;
      few = h.few;
      small = h.small;
      capped = omega (arith, room);
      clock_is = (λ i. max (at i) ((sym late) i));
      state_is = sym e;
      carried = omega (arith, was, late, both);
      hits_few = λ q.
          let x = ap (λ (v : State). v.hits q config.node) e in
          let y = own_hits_kept config.node (message_in read).ops n.ops d.behind q in
          let s = ap (λ (v : State). v.hits q config.node) same in
          let z = h.hits_few q in omega (arith, x, y, s, z);
      execs_few = λ q k.
          let x = ap (λ (v : State). v.execs q k config.node) e in
          let y = own_execs_kept config.node (message_in read).ops n.ops d.behind q k in
          let s = ap (λ (v : State). v.execs q k config.node) same in
          let z = h.execs_few q k in omega (arith, x, y, s, z);
      own_rights = subst (λ (v : State). HasOwn v config.node) (sym e)
          (own_delivered config.node (message_in read).ops n.ops d.behind
          (subst (λ (v : State). HasOwn v config.node) (sym same) h.own_rights));
    }
