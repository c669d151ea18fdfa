use Rattle.std.proofs.Common.{arith, ◌∙◌, ap, sym, inr}
use Rattle.std.specs.Prelude.{slice_get}
use Rattle.std.proofs.lemmas.Result.{err_from_is_err_and}
use Rattle.node_calls.specs.Asks.{message_read}
use Rattle.cluster_model.proofs.Lists.{get_below}
use Rattle.cluster_model.proofs.WorldClauses.{at_hand, some_hand, emit_at, sender_at, read_at, delivery_fits, delivery_refused, no_message}
use Rattle.cluster_model.proofs.world.World.deliver.Goals as goal

pub returns-in_default-clause-answer : goal.returns-in_default-clause-answer
returns-in_default-clause-answer c =
    let none = ap (λ ps. slice_get ps c.args.message) (sym c.deref.ensures.value) ∙ sym c.place_at.ensures ∙
    c.in_default.is in
    let at = some_hand _ _ c.args.self.now c.args.node c.self.invariant c.self.view_is c.requires in
    no_message at.1 c.args.message none

pub returns-in_err-changed-clause-answer : goal.returns-in_err-changed-clause-answer
returns-in_err-changed-clause-answer c =
    let nodes = c.self.inside.nodes.items in
    let found = ap (λ ps. slice_get ps c.args.message) (sym c.deref.ensures.value) ∙ sym c.place_at.ensures ∙
    c.in-Some.is in
    let k = c.index_mut.result.now in
    let hand = at_hand _ _ c.args.self.now c.args.node k c.self.invariant c.self.view_is c.requires
    c.index_mut.ensures.value in
    let read = ap (message_read k.config.nodes) (c.deref-2.ensures.value ∙ c.in_ok-bytes.ensures.items)
    ∙ read_at nodes c.self.invariant.sizes c.in-Some.place (c.self.invariant.placed c.args.message c.in-Some.place
    found) c.index-sender.result.now c.args.node k c.message_in.result.now
    c.index-sender.ensures hand.there c.message_in.ensures in
    let p = err_from_is_err_and c.from_residual-in_err-changed.result c.from_residual-in_err-changed.ensures.1 in
    rw (p.1, p.2)
    (delivery_refused hand c.args.message c.in-Some.place found c.deref-2.result.now
    read c.in_err-changed.field-0.0 c.in_err-changed.ensures.refused)

pub invariant_of-self-2 : goal.invariant_of-self-2
invariant_of-self-2 c =
    let nodes = c.self.inside.nodes.items in
    let found = ap (λ ps. slice_get ps c.args.message) (sym c.deref.ensures.value) ∙ sym c.place_at.ensures ∙
    c.in-Some.is in
    let k = c.index_mut.result.now in
    let hand = at_hand _ _ c.args.self.now c.args.node k c.self.invariant c.self.view_is c.requires
    c.index_mut.ensures.value in
    let read = ap (message_read k.config.nodes) (c.deref-2.ensures.value ∙ c.in_ok-bytes.ensures.items)
    ∙ read_at nodes c.self.invariant.sizes c.in-Some.place (c.self.invariant.placed c.args.message c.in-Some.place
    found) c.index-sender.result.now c.args.node k c.message_in.result.now
    c.index-sender.ensures hand.there c.message_in.ensures in
    let fits = delivery_fits hand c.args.message c.in-Some.place found
    c.deref-2.result.now read c.deliver.new.self c.in_ok-changed.changed c.in_ok-changed.ensures.ok in
    fits.good

pub returns : goal.returns
returns c =
    let nodes = c.self.inside.nodes.items in
    let found = ap (λ ps. slice_get ps c.args.message) (sym c.deref.ensures.value) ∙ sym c.place_at.ensures ∙
    c.in-Some.is in
    let k = c.index_mut.result.now in
    let hand = at_hand _ _ c.args.self.now c.args.node k c.self.invariant c.self.view_is c.requires
    c.index_mut.ensures.value in
    let read = ap (message_read k.config.nodes) (c.deref-2.ensures.value ∙ c.in_ok-bytes.ensures.items)
    ∙ read_at nodes c.self.invariant.sizes c.in-Some.place (c.self.invariant.placed c.args.message c.in-Some.place
    found) c.index-sender.result.now c.args.node k c.message_in.result.now
    c.index-sender.ensures hand.there c.message_in.ensures in
    let fits = delivery_fits hand c.args.message c.in-Some.place found
    c.deref-2.result.now read c.deliver.new.self c.in_ok-changed.changed c.in_ok-changed.ensures.ok in
    record {
      answer = inr (sym fits.answer_is);
      after = fits.after_is;
      history = fits.history;
    }

pub index-sender-requires : goal.index-sender-requires
index-sender-requires c =
    let found = ap (λ ps. slice_get ps c.args.message) (sym c.deref.ensures.value) ∙ sym c.place_at.ensures ∙
    c.in-Some.is in
    let is = c.self.invariant.placed c.args.message c.in-Some.place found in
    let low = get_below c.self.inside.nodes.items c.in-Some.place.node is.node is.there in
    let size = c.self.inside.nodes.ok.0 in
    omega (arith, low, size)

pub message_in-requires : goal.message_in-requires
message_in-requires c =
    let found = ap (λ ps. slice_get ps c.args.message) (sym c.deref.ensures.value) ∙ sym c.place_at.ensures ∙
    c.in-Some.is in
    let nodes = c.self.inside.nodes.items in
    let is = c.self.invariant.placed c.args.message c.in-Some.place found in
    let sender = c.index-sender.result.now in
    record {
      made = emit_at nodes c.in-Some.place is sender c.index-sender.ensures;
      whole = c.self.invariant.whole c.in-Some.place.node sender
          (sender_at nodes c.in-Some.place is sender c.index-sender.ensures);
    }
