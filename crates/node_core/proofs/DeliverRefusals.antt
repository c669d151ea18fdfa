-- The refusals of a delivery whose bytes were read.
use Rattle.std.proofs.Common.{◌≡◌, ℕ, ◌<◌, ◌≤◌, Bool, true, false, ◌==◌, nat_lt, List, [], ◌++◌, length, map, subst, Some, None, Result, Ok, refl, sym, ◌∙◌, ap, arith}
use Rattle.std.proofs.lemmas.Bool.Decides.{nat_tests}
use Rattle.std.specs.Prelude.{nat_le}
use Rattle.std.proofs.lemmas.Bool.{eq-eqb}
use Rattle.std.specs.List.{list_any, flat_map}
use Rattle.counters.specs.Sums.{node_numbers}
use Rattle.replica_state.specs.States.{State}
use Rattle.replica_state.specs.Folds.{fold, clock_of}
use Rattle.replica_state.specs.Unions.{with_names}
use Rattle.message_format.specs.declared.message.NameEntry.{NameEntry}
use Rattle.message_format.specs.Messages.{MessageValue, entry_value, operations_of, operations_in}
use Rattle.message_format.specs.Spelling.{IsMessage}
use Rattle.delta_exchange.specs.News.{Brings}
use Rattle.delta_exchange.proofs.LawfulLemmas.{told_lawful}
use Rattle.message_format.specs.declared.fault.WireFault.{WireFault}
use Rattle.node_steps.specs.declared.config.Config.{Config}
use Rattle.node_calls.specs.declared.fault.NodeFault.{NodeFault}
use Rattle.node_calls.specs.declared.fault.NodeFault.TheVariants as faults
use Rattle.node_calls.specs.Asks.{Message, Deliver, message_of, message_read}
use Rattle.node_steps.specs.Nodes.{Node, state_shown}
use Rattle.node_steps.specs.Refusals.{is_ahead, overspends, too_many, refusal_at, bad_message}
use Rattle.node_core.specs.Room.{HasRoom}
use Rattle.node_core.specs.Traces.{Kept, delivery_of, node_of, refusal}
use Rattle.node_core.specs.Holds.{IsInStep}
use Rattle.node_core.specs.Deliveries.{IsDelivery}
use Rattle.node_steps.specs.Received.{is_overspent_below}
use Rattle.node_core.proofs.Merged.{merged_names, overspends_told}

module _ (config : Config) (entries : ℕ) (n : Node) (room : entries < config.trace_cap)
    (read : Result Message WireFault) where
  has_room : nat_le config.trace_cap entries ≡ false
  has_room = grind (arith, nat_tests, room)

  pub no_message : (fault : NodeFault) → bad_message read ≡ Some fault →
      refusal_at config entries n (Deliver read) [] ≡ Some fault
  no_message fault bad = rw (has_room, bad) refl

  module _ (m : Message) (is : read ≡ Ok m) where
    pub not_for_me : (m.to == config.node) ≡ false → refusal_at config entries n (Deliver read) [] ≡ Some
        faults.NotForMe
    not_for_me other = rw (has_room, is, other) refl

    module _ (mine : (m.to == config.node) ≡ true) where
      pub own_ahead : list_any (is_ahead config.node (state_shown n)) m.ops ≡ true →
          refusal_at config entries n (Deliver read) [] ≡ Some faults.OwnAhead
      own_ahead ahead = rw (has_room, is, mine, ahead) refl

      module _ (behind : list_any (is_ahead config.node (state_shown n)) m.ops ≡ false) where
        pub ack_ahead : nat_lt n.marks.version m.ack ≡ true →
            refusal_at config entries n (Deliver read) [] ≡ Some faults.AckAhead
        ack_ahead high = rw (has_room, is, mine, behind, high) refl

        module _ (known : nat_lt n.marks.version m.ack ≡ false) where
          pub overspent : list_any (overspends (fold (m.ops ++ n.ops))) m.ops ≡ true →
              refusal_at config entries n (Deliver read) [] ≡ Some faults.Overspent
          overspent over = rw (has_room, is, mine, behind, known, over) refl

          module _ (within : list_any (overspends (fold (m.ops ++ n.ops))) m.ops ≡ false) where
            pub too_many_points : 256 < length (fold (m.ops ++ n.ops)).names →
                refusal_at config entries n (Deliver read) [] ≡ Some faults.TooManyPoints
            too_many_points many =
                let full : too_many (fold (m.ops ++ n.ops)).names ≡ true = grind (arith, nat_tests, many) in
                rw (has_room, is, mine, behind, known, within, full) refl

            pub not_refused : length (fold (m.ops ++ n.ops)).names ≤ 256 →
                refusal_at config entries n (Deliver read) [] ≡ None
            not_refused few =
                let fits : too_many (fold (m.ops ++ n.ops)).names ≡ false = grind (arith, nat_tests, few) in
                rw (has_room, is, mine, behind, known, within, fits) refl

-- what a node has found when a message is read and is for it
pub record Checked (k : Kept) (clock version : ℕ) (state : State) (bytes : List ℕ) (m : MessageValue) : Type 0 where
  pub step : IsInStep k clock version state
  pub room : HasRoom k
  pub read : message_read k.config.nodes bytes ≡ Ok (message_of m)
  pub spelled : IsMessage k.config.nodes m
  pub mine : m.to ≡ k.config.node

-- and what it finds of its own numbers in it
pub record FindsOwn (k : Kept) (state : State) (m : MessageValue) (ahead : Bool) : Type 0 where
  pub is : ahead ≡ list_any (is_ahead k.config.node state) (operations_in m)

-- and, in the state of what the message tells, of the executions of its names
pub record FindsExecutions (k : Kept) (state received : State) (m : MessageValue) (over : Bool) : Type 0 where
  pub entries : List NameEntry
  pub are : map entry_value entries ≡ m.entries
  pub brings : Brings state received (operations_in m)
  pub is : over ≡ list_any (λ e. is_overspent_below k.config.nodes state received e.name) entries

-- the same by what the node's code finds
module _ {k : Kept} {clock version : ℕ} {state : State} {bytes : List ℕ} {m : MessageValue}
    (x : Checked k clock version state bytes m) {ahead : Bool} (own : FindsOwn k state m ahead) where
  abbrev n : Node
  n = node_of k

  mine_is : (m.to == k.config.node) ≡ true
  mine_is = eq-eqb m.to k.config.node x.mine

  ahead_of : ahead ≡ list_any (is_ahead k.config.node (state_shown n)) (operations_in m)
  ahead_of = own.is ∙ sym (ap (λ (v : State). list_any (is_ahead k.config.node v) (operations_in m)) x.step.0.state_is)

  pub refused_ahead : ahead ≡ true → refusal k (delivery_of k bytes) [] ≡ Some faults.OwnAhead
  refused_ahead so = own_ahead k.config (length k.trace) n x.room (message_read k.config.nodes bytes) (message_of m)
      x.read mine_is (sym ahead_of ∙ so)

  module _ (behind : ahead ≡ false) where
    pub refused_ack : version < m.ack → refusal k (delivery_of k bytes) [] ≡ Some faults.AckAhead
    refused_ack high =
        let at = x.step.1.version_is in
        let above : nat_lt n.marks.version m.ack ≡ true = grind (arith, nat_tests, at, high) in
        ack_ahead k.config (length k.trace) n x.room (message_read k.config.nodes bytes) (message_of m) x.read mine_is
        (sym ahead_of ∙ behind) above

    module _ (known : m.ack ≤ version) {received : State} {over : Bool}
        (executions : FindsExecutions k state received m over) where
      known_is : nat_lt n.marks.version m.ack ≡ false
      known_is = let at = x.step.1.version_is in grind (arith, nat_tests, at, known)

      -- the message acknowledges no version that is still to come
      pub reached : m.ack ≤ n.marks.version
      reached = let at = x.step.1.version_is in omega (arith, known, at)

      unfolded : 256 ≡ node_numbers
      unfolding node_numbers
      unfolded = refl

      few_nodes : k.config.nodes ≤ node_numbers
      few_nodes = let all = unfolded in let few = x.step.0.few in omega (arith, all, few)

      over_of : over ≡ list_any (overspends (fold (operations_in m ++ n.ops))) (operations_in m)
      over_of =
          executions.is ∙ overspends_told k.config.nodes few_nodes (operations_in m) n.ops state received
          (sym x.step.0.state_is) executions.brings x.step.1.lawful
          (told_lawful k.config.nodes m x.spelled) executions.entries (ap (flat_map operations_of) (sym executions.are))

      pub refused_overspent : over ≡ true → refusal k (delivery_of k bytes) [] ≡ Some faults.Overspent
      refused_overspent so = overspent k.config (length k.trace) n x.room (message_read k.config.nodes bytes)
          (message_of m) x.read mine_is (sym ahead_of ∙ behind) known_is (sym over_of ∙ so)

      module _ (within : over ≡ false) {names : ℕ} (names_are : names ≡ length (with_names received.names state.names))
        where
          names_of_both : names ≡ length (fold (operations_in m ++ n.ops)).names
          names_of_both = names_are ∙ merged_names (operations_in m) n.ops state received (sym x.step.0.state_is)
              executions.brings

          pub refused_many : 256 < names → refusal k (delivery_of k bytes) [] ≡ Some faults.TooManyPoints
          refused_many many =
              let same = names_of_both in
              too_many_points k.config (length k.trace) n x.room (message_read k.config.nodes bytes) (message_of m)
              x.read
              mine_is (sym ahead_of ∙ behind) known_is (sym over_of ∙ within) (omega (arith, same, many))

          pub delivery_accepted : names ≤ 256 → refusal k (delivery_of k bytes) [] ≡ None
          delivery_accepted few =
              let same = names_of_both in
              not_refused k.config (length k.trace) n x.room (message_read k.config.nodes bytes) (message_of m) x.read
              mine_is (sym ahead_of ∙ behind) known_is (sym over_of ∙ within) (omega (arith, same, few))

          pub delivery_is : names ≤ 256 → (later : ℕ) → later ≡ clock_of (operations_in m) →
              IsDelivery k.config n (message_read k.config.nodes bytes) later
          delivery_is few later last =
              subst (λ r. IsDelivery k.config n r later) (sym x.read)
              (record {
                clock_is = last;
                lawful = told_lawful k.config.nodes m x.spelled;
                behind = sym ahead_of ∙ behind;
                few_names = (let same = names_of_both in omega (arith, same, few));
              })
