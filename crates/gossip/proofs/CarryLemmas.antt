-- What becomes of messages, one step after the other.
use Rattle.std.proofs.Common.{◌≡◌, ◌≢◌, ℕ, ◌+◌, List, [], ◌∷◌, ◌++◌, length-append, append_assoc, Result, Ok, Err, OnOk, OnErr, IsErr, ◌↔◌, true≢false, ap, sym, ◌∙◌, refl, subst, arith, length, map, true, Option}
use Rattle.std.specs.Result.{is_err}
use Rattle.std.proofs.lemmas.List.{append-nil, map-append}
use Rattle.std.proofs.lemmas.Grind.{flat_map-append}
use Rattle.node_steps.specs.declared.config.Config.{Config}
use Rattle.node_calls.specs.declared.fault.NodeFault.{NodeFault}
use Rattle.node_calls.specs.declared.fault.NodeFault.TheVariants as faults
use Rattle.node_calls.specs.declared.receipt.Receipt.{Receipt}
use Rattle.node_calls.specs.Asks as asks
use Rattle.node_calls.specs.Asks.{bare_emit, message_read}
use Rattle.node_calls.specs.Told.{ask_told, reply_told}
use Rattle.node_registry.specs.Receipts.{IsRefused}
use Rattle.gossip.specs.declared.failures.Failed.{Failed}
use Rattle.gossip.specs.declared.failures.Rejected.{Rejected}
use Rattle.gossip.specs.declared.report.GossipReport.{GossipReport}
use Rattle.gossip.specs.declared.wire.WireError.{WireError}
use Rattle.gossip.specs.Carried.{AreHeard, AreTold, Carries, bytes_told, deliveries_in, delivery_told, emit_told, messages_in}
use Rattle.gossip.specs.declared.report.Ended.TheVariants.{Done}
use Rattle.gossip.specs.Carried.{Carried, others_in_rounds, nobody, sent_to, lost_to, refused_to, nothing, delivered, refused_it}
use Rattle.gossip.specs.Refused.{failed_as, failure_of, is_counted, rejected_as, rejection_of}
use Rattle.gossip_pace.specs.Senders.{sender_of}
use Rattle.gossip.specs.Steps.{Moves, Stops}
use Rattle.gossip.specs.Traffic.{Traffic, sends}

told_then : {config : Config} {seed : List ℕ} {tos others refused more_refused : List ℕ}
    {made more sent more_sent lost more_lost : List (ℕ × List ℕ)} → AreTold config seed tos made sent lost refused →
    AreTold config seed others more more_sent more_lost more_refused →
    AreTold config seed (tos ++ others) (made ++ more) (sent ++ more_sent) (lost ++ more_lost) (refused ++ more_refused)
told_then nobody q = q
told_then (sent_to p) q = sent_to (told_then p q)
told_then (lost_to p) q = lost_to (told_then p q)
told_then (refused_to refusal memory p) q = refused_to refusal memory (told_then p q)

heard_then : {config : Config} {seed : List ℕ} {taken others given more refused more_refused : List (List ℕ)} →
    AreHeard config seed taken given refused → AreHeard config seed others more more_refused →
    AreHeard config seed (taken ++ others) (given ++ more) (refused ++ more_refused)
heard_then nothing q = q
heard_then (delivered p) q = delivered (heard_then p q)
heard_then (refused_it refusal memory p) q = refused_it refusal memory (heard_then p q)

messages_both : (xs ys : List Receipt) → messages_in (xs ++ ys) ≡ messages_in xs ++ messages_in ys
messages_both xs ys = flat_map-append (λ (r : Receipt). emit_told (ask_told r.entry.ask) (reply_told r.entry.reply)) xs ys

deliveries_both : (xs ys : List Receipt) → deliveries_in (xs ++ ys) ≡ deliveries_in xs ++ deliveries_in ys
deliveries_both xs ys = flat_map-append (λ (r : Receipt). delivery_told (ask_told r.entry.ask)) xs ys

-- what is told of messages, one part behind the other
failed_both : (xs ys : List Failed) (us vs : List (ℕ × List ℕ)) →
    map (λ (f : Failed). f.peer) xs ≡ map (λ (message : ℕ × List ℕ). message.0) us →
    map (λ (f : Failed). f.peer) ys ≡ map (λ (message : ℕ × List ℕ). message.0) vs →
    map (λ (f : Failed). f.peer) (xs ++ ys) ≡ map (λ (message : ℕ × List ℕ). message.0) (us ++ vs)
failed_both xs ys us vs p q =
    map-append (λ (f : Failed). f.peer) xs ys
    ∙ ap (λ l. l ++ map (λ (f : Failed). f.peer) ys) p
    ∙ ap (λ l. map (λ (message : ℕ × List ℕ). message.0) us ++ l) q
    ∙ sym (map-append (λ (message : ℕ × List ℕ). message.0) us vs)

rejected_both : (xs ys : List Rejected) (us vs : List (List ℕ)) →
    map (λ (r : Rejected). r.sender) xs ≡ map sender_of us → map (λ (r : Rejected). r.sender) ys ≡ map sender_of vs →
    map (λ (r : Rejected). r.sender) (xs ++ ys) ≡ map sender_of (us ++ vs)
rejected_both xs ys us vs p q =
    map-append (λ (r : Rejected). r.sender) xs ys
    ∙ ap (λ l. l ++ map (λ (r : Rejected). r.sender) ys) p
    ∙ ap (λ l. map sender_of us ++ l) q
    ∙ sym (map-append sender_of us vs)

-- calls of which no message is left, and then more
carries_then : {config : Config} {seed : List ℕ} {was between now : Traffic} {xs ys : List Receipt}
    {failed more_failed : List Failed} {rejected more_rejected : List Rejected}
    {lost more_lost refused more_refused : ℕ} {tos others : List ℕ} {left : List (List ℕ)} →
    Carries config seed was between xs failed rejected lost refused tos [] →
    Carries config seed between now ys more_failed more_rejected more_lost more_refused others left →
    Carries config seed was now (xs ++ ys) (failed ++ more_failed) (rejected ++ more_rejected) (lost + more_lost)
    (refused + more_refused) (tos ++ others) left
carries_then {config = config} {seed = seed} {was = was} {xs = xs} {ys = ys} {failed = failed}
    {more_failed = more_failed} {rejected = rejected} {more_rejected = more_rejected} {tos = tos} {others = others}
    {left = left} p q =
    let sent = p.sent ++ q.sent in
    let lost = p.lost_messages ++ q.lost_messages in
    let nodes = p.refused_nodes ++ q.refused_nodes in
    let heard = p.heard ++ q.heard in
    let messages = p.refused_messages ++ q.refused_messages in
    record {
      sent = sent;
      lost_messages = lost;
      refused_nodes = nodes;
      heard = heard;
      refused_messages = messages;
      sends = q.sends ∙ ap (λ l. l ++ q.sent) p.sends ∙ append_assoc was.sent p.sent q.sent;
      takes = q.takes ∙ ap (λ l. l ++ (q.heard ++ left)) (p.takes ∙ ap (λ l. was.taken ++ l) (append-nil p.heard))
          ∙ append_assoc was.taken p.heard (q.heard ++ left)
          ∙ ap (λ l. was.taken ++ l) (sym (append_assoc p.heard q.heard left));
      told = subst (λ made. AreTold config seed (tos ++ others) made sent lost nodes) (sym (messages_both xs ys))
          (told_then p.told q.told);
      delivered = subst (λ given. AreHeard config seed heard given messages) (sym (deliveries_both xs ys))
          (heard_then p.delivered q.delivered);
      lost_all = omega (arith, p.lost_all, q.lost_all, length-append p.lost_messages q.lost_messages);
      refused_all = omega (
        arith,
        p.refused_all,
        q.refused_all,
        length-append p.refused_nodes q.refused_nodes,
        length-append p.refused_messages q.refused_messages,
      );
      failed_all = failed_both failed more_failed p.lost_messages q.lost_messages p.failed_all q.failed_all;
      rejected_all = rejected_both rejected more_rejected p.refused_messages q.refused_messages p.rejected_all
          q.rejected_all;
    }

pub moves_then : {config : Config} {seed : List ℕ} {was between now : Traffic} {old middle new : GossipReport}
    {tos others : List ℕ} {left : List (List ℕ)} → Moves config seed was between old middle tos [] →
    Moves config seed between now middle new others left → Moves config seed was now old new (tos ++ others) left
moves_then {old = old} p q = record {
  more = p.more ++ q.more;
  failed = p.failed ++ q.failed;
  rejected = p.rejected ++ q.rejected;
  lost = p.lost + q.lost;
  refused = p.refused + q.refused;
  receipts = q.receipts ∙ ap (λ l. l ++ q.more) p.receipts ∙ append_assoc old.receipts.items p.more q.more;
  failed_more = q.failed_more ∙ ap (λ l. l ++ q.failed) p.failed_more
      ∙ append_assoc old.failed.items p.failed q.failed;
  rejected_more = q.rejected_more ∙ ap (λ l. l ++ q.rejected) p.rejected_more
      ∙ append_assoc old.rejected.items p.rejected q.rejected;
  lost_more = omega (arith, p.lost_more, q.lost_more);
  refused_more = omega (arith, p.refused_more, q.refused_more);
  carries = carries_then p.carries q.carries;
}

pub moves_as : {config : Config} {seed : List ℕ} {was now : Traffic} {old new : GossipReport} {tos others : List ℕ}
    {left : List (List ℕ)} → Moves config seed was now old new tos left → tos ≡ others →
    Moves config seed was now old new others left
moves_as {config = config} {seed = seed} {was = was} {now = now} {old = old} {new = new} {left = left} p e =
    subst (λ l. Moves config seed was now old new l left) e p

-- nothing but a message that was taken, or none
pub moves_none : {config : Config} {seed : List ℕ} {was now : Traffic} {old new : GossipReport} (left : List (List ℕ)) →
    now.sent ≡ was.sent → now.taken ≡ was.taken ++ left → new.receipts.items ≡ old.receipts.items → new.lost ≡ old.lost →
    new.refused ≡ old.refused → new.failed.items ≡ old.failed.items → new.rejected.items ≡ old.rejected.items →
    Moves config seed was now old new [] left
moves_none {was = was} {old = old} left sent taken receipts lost refused failed rejected = record {
  more = [];
  failed = [];
  rejected = [];
  lost = 0;
  refused = 0;
  receipts = receipts ∙ sym (append-nil old.receipts.items);
  failed_more = failed ∙ sym (append-nil old.failed.items);
  rejected_more = rejected ∙ sym (append-nil old.rejected.items);
  lost_more = omega arith;
  refused_more = omega arith;
  carries = record {
    sent = [];
    lost_messages = [];
    refused_nodes = [];
    heard = [];
    refused_messages = [];
    sends = sent ∙ sym (append-nil was.sent);
    takes = taken;
    told = nobody;
    delivered = nothing;
    lost_all = refl;
    refused_all = omega arith;
    failed_all = refl;
    rejected_all = refl;
  };
}

pub moves_nothing : {config : Config} {seed : List ℕ} {was now : Traffic} {old new : GossipReport} → now ≡ was →
    new.receipts.items ≡ old.receipts.items → new.lost ≡ old.lost → new.refused ≡ old.refused →
    new.failed.items ≡ old.failed.items → new.rejected.items ≡ old.rejected.items → Moves config seed was now old new [] []
moves_nothing {was = was} same receipts lost refused failed rejected =
    moves_none [] (ap (λ t. t.sent) same) (ap (λ t. t.taken) same ∙ sym (append-nil was.taken)) receipts lost refused
    failed rejected

-- memory was refused after what was done so far, before there was more to do, and with more behind
pub stops_then : {config : Config} {seed : List ℕ} {was between now : Traffic} {old middle new : GossipReport}
    {tos others : List ℕ} → Moves config seed was between old middle tos [] →
    Stops config seed between now middle new others → Stops config seed was now old new (tos ++ others)
stops_then {tos = tos} p q =
    (tos ++ q.0, q.1, (q.2.0, ap (λ l. tos ++ l) q.2.1 ∙ sym (append_assoc tos q.0 q.2.0)), q.3, moves_then p q.4)

pub stops_as : {config : Config} {seed : List ℕ} {was now : Traffic} {old new : GossipReport} {tos others : List ℕ} →
    Stops config seed was now old new tos → tos ≡ others → Stops config seed was now old new others
stops_as {config = config} {seed = seed} {was = was} {now = now} {old = old} {new = new} p e =
    subst (λ l. Stops config seed was now old new l) e p

pub stops_now : {config : Config} {seed : List ℕ} {was now later : Traffic} {old new : GossipReport} {tos : List ℕ} →
    Stops config seed was now old new tos → later ≡ now → Stops config seed was later old new tos
stops_now {config = config} {seed = seed} {was = was} {old = old} {new = new} {tos = tos} p e =
    subst (λ t. Stops config seed was t old new tos) (sym e) p

pub stops_before : {config : Config} {seed : List ℕ} {was now : Traffic} {old new : GossipReport} {tos : List ℕ} →
    Stops config seed was now old new tos → (rest : List ℕ) → Stops config seed was now old new (tos ++ rest)
stops_before p rest =
    (p.0, p.1, (p.2.0 ++ rest, ap (λ l. l ++ rest) p.2.1 ∙ append_assoc p.0 p.2.0 rest), p.3, p.4)

pub stops_at_once : {config : Config} {seed : List ℕ} {was now : Traffic} {old new : GossipReport} (tos : List ℕ) →
    Moves config seed was now old new [] [] → Stops config seed was now old new tos
stops_at_once tos p = ([], [], (tos, refl), omega arith, p)

pub stops_at_end : {config : Config} {seed : List ℕ} {was now : Traffic} {old new : GossipReport} {tos : List ℕ} →
    Moves config seed was now old new tos [] → Stops config seed was now old new tos
stops_at_end {tos = tos} p = (tos, [], ([], sym (append-nil tos)), omega arith, p)

-- the message of one emit is sent, or lost
pub moves_sent : {config : Config} {seed : List ℕ} {was now : Traffic} {old new : GossipReport} (to : ℕ)
    (between : List Receipt) (r : Receipt) → between ≡ old.receipts.items → new.receipts.items ≡ between ++ r ∷ [] →
    new.lost ≡ old.lost → new.refused ≡ old.refused → new.failed.items ≡ old.failed.items → new.rejected.items ≡ old.rejected.items →
    emit_told (ask_told r.entry.ask) (reply_told r.entry.reply) ≡ (to, bytes_told (reply_told r.entry.reply)) ∷ [] →
    delivery_told (ask_told r.entry.ask) ≡ [] → now ≡ sends to (bytes_told (reply_told r.entry.reply)) was →
    Moves config seed was now old new (to ∷ []) []
moves_sent {config = config} {seed = seed} {was = was} {old = old} to between r kept receipts lost refused failed rejected
    is_emit no_delivery sent =
    let message : ℕ × List ℕ = (to, bytes_told (reply_told r.entry.reply)) in
    record {
      more = r ∷ [];
      failed = [];
      rejected = [];
      lost = 0;
      refused = 0;
      receipts = receipts ∙ ap (λ l. l ++ r ∷ []) kept;
      failed_more = failed ∙ sym (append-nil old.failed.items);
      rejected_more = rejected ∙ sym (append-nil old.rejected.items);
      lost_more = omega arith;
      refused_more = omega arith;
      carries = record {
        sent = message ∷ [];
        lost_messages = [];
        refused_nodes = [];
        heard = [];
        refused_messages = [];
        sends = ap (λ t. t.sent) sent;
        takes = ap (λ t. t.taken) sent ∙ sym (append-nil was.taken);
        told = subst (λ made. AreTold config seed (to ∷ []) made (message ∷ []) [] [])
            (sym (append-nil _ ∙ is_emit)) (sent_to nobody);
        delivered = subst (λ given. AreHeard config seed [] given []) (sym (append-nil _ ∙ no_delivery)) nothing;
        lost_all = refl;
        refused_all = omega arith;
        failed_all = refl;
        rejected_all = refl;
      };
    }

pub moves_lost : {config : Config} {seed : List ℕ} {was now : Traffic} {old new : GossipReport} (to : ℕ)
    (why : WireError) (between : List Receipt) (r : Receipt) → between ≡ old.receipts.items →
    new.receipts.items ≡ between ++ r ∷ [] → new.lost ≡ old.lost + 1 → new.refused ≡ old.refused →
    new.failed.items ≡ old.failed.items ++ failed_as to why ∷ [] → new.rejected.items ≡ old.rejected.items →
    emit_told (ask_told r.entry.ask) (reply_told r.entry.reply) ≡ (to, bytes_told (reply_told r.entry.reply)) ∷ [] →
    delivery_told (ask_told r.entry.ask) ≡ [] → now ≡ was → Moves config seed was now old new (to ∷ []) []
moves_lost {config = config} {seed = seed} {was = was} {old = old} to why between r kept receipts lost refused failed
    rejected is_emit no_delivery same =
    let message : ℕ × List ℕ = (to, bytes_told (reply_told r.entry.reply)) in
    record {
      more = r ∷ [];
      failed = failed_as to why ∷ [];
      rejected = [];
      lost = 1;
      refused = 0;
      receipts = receipts ∙ ap (λ l. l ++ r ∷ []) kept;
      failed_more = failed;
      rejected_more = rejected ∙ sym (append-nil old.rejected.items);
      lost_more = lost;
      refused_more = omega arith;
      carries = record {
        sent = [];
        lost_messages = message ∷ [];
        refused_nodes = [];
        heard = [];
        refused_messages = [];
        sends = ap (λ t. t.sent) same ∙ sym (append-nil was.sent);
        takes = ap (λ t. t.taken) same ∙ sym (append-nil was.taken);
        told = subst (λ made. AreTold config seed (to ∷ []) made [] (message ∷ []) [])
            (sym (append-nil _ ∙ is_emit)) (lost_to nobody);
        delivered = subst (λ given. AreHeard config seed [] given []) (sym (append-nil _ ∙ no_delivery)) nothing;
        lost_all = omega arith;
        refused_all = omega arith;
        failed_all = refl;
        rejected_all = refl;
      };
    }

-- an emit is refused
pub moves_refused : {config : Config} {seed : List ℕ} {was now : Traffic} {old new : GossipReport} (to : ℕ)
    (fault : NodeFault) → new.receipts.items ≡ old.receipts.items → new.lost ≡ old.lost →
    new.refused ≡ old.refused + 1 → new.failed.items ≡ old.failed.items → new.rejected.items ≡ old.rejected.items →
    IsRefused config seed (bare_emit to) fault → fault ≢ faults.OutOfMemory → now ≡ was →
    Moves config seed was now old new (to ∷ []) []
moves_refused {was = was} {old = old} to fault receipts lost refused failed rejected refusal memory same = record {
  more = [];
  failed = [];
  rejected = [];
  lost = 0;
  refused = 1;
  receipts = receipts ∙ sym (append-nil old.receipts.items);
  failed_more = failed ∙ sym (append-nil old.failed.items);
  rejected_more = rejected ∙ sym (append-nil old.rejected.items);
  lost_more = omega arith;
  refused_more = refused;
  carries = record {
    sent = [];
    lost_messages = [];
    refused_nodes = to ∷ [];
    heard = [];
    refused_messages = [];
    sends = ap (λ t. t.sent) same ∙ sym (append-nil was.sent);
    takes = ap (λ t. t.taken) same ∙ sym (append-nil was.taken);
    told = refused_to refusal memory nobody;
    delivered = nothing;
    lost_all = refl;
    refused_all = omega arith;
    failed_all = refl;
    rejected_all = refl;
  };
}

-- a message that was taken is delivered, or refused
pub moves_heard : {config : Config} {seed : List ℕ} {was now : Traffic} {old new : GossipReport} (message : List ℕ)
    (r : Receipt) → new.receipts.items ≡ old.receipts.items ++ r ∷ [] → new.lost ≡ old.lost →
    new.refused ≡ old.refused → new.failed.items ≡ old.failed.items → new.rejected.items ≡ old.rejected.items → emit_told (ask_told r.entry.ask) (reply_told r.entry.reply) ≡ [] →
    delivery_told (ask_told r.entry.ask) ≡ message ∷ [] → now.sent ≡ was.sent → now.taken ≡ was.taken ++ message ∷ [] →
    Moves config seed was now old new [] []
moves_heard {config = config} {seed = seed} {was = was} {old = old} message r receipts lost refused failed rejected
    no_emit is_delivery sent taken = record {
      more = r ∷ [];
      failed = [];
      rejected = [];
      lost = 0;
      refused = 0;
      receipts = receipts;
      failed_more = failed ∙ sym (append-nil old.failed.items);
      rejected_more = rejected ∙ sym (append-nil old.rejected.items);
      lost_more = omega arith;
      refused_more = omega arith;
      carries = record {
        sent = [];
        lost_messages = [];
        refused_nodes = [];
        heard = message ∷ [];
        refused_messages = [];
        sends = sent ∙ sym (append-nil was.sent);
        takes = taken;
        told = subst (λ made. AreTold config seed [] made [] [] []) (sym (append-nil _ ∙ no_emit)) nobody;
        delivered = subst (λ given. AreHeard config seed (message ∷ []) given [])
            (sym (append-nil _ ∙ is_delivery)) (delivered nothing);
        lost_all = refl;
        refused_all = omega arith;
        failed_all = refl;
        rejected_all = refl;
      };
    }

pub moves_unheard : {config : Config} {seed : List ℕ} {was now : Traffic} {old new : GossipReport} (message : List ℕ)
    (fault : NodeFault) → new.receipts.items ≡ old.receipts.items → new.lost ≡ old.lost →
    new.refused ≡ old.refused + 1 → new.failed.items ≡ old.failed.items →
    new.rejected.items ≡ old.rejected.items ++ rejected_as (sender_of message) fault ∷ [] →
    IsRefused config seed (asks.Deliver (message_read config.nodes message)) fault → fault ≢ faults.OutOfMemory →
    now.sent ≡ was.sent → now.taken ≡ was.taken ++ message ∷ [] → Moves config seed was now old new [] []
moves_unheard {was = was} {old = old} message fault receipts lost refused failed rejected refusal memory sent taken = record {
  more = [];
  failed = [];
  rejected = rejected_as (sender_of message) fault ∷ [];
  lost = 0;
  refused = 1;
  receipts = receipts ∙ sym (append-nil old.receipts.items);
  failed_more = failed ∙ sym (append-nil old.failed.items);
  rejected_more = rejected;
  lost_more = omega arith;
  refused_more = refused;
  carries = record {
    sent = [];
    lost_messages = [];
    refused_nodes = [];
    heard = message ∷ [];
    refused_messages = message ∷ [];
    sends = sent ∙ sym (append-nil was.sent);
    takes = taken;
    told = nobody;
    delivered = refused_it refusal memory nothing;
    lost_all = refl;
    refused_all = omega arith;
    failed_all = refl;
    rejected_all = refl;
  };
}

-- where a call may have failed
pub on_ok : {X E : Type 0} {P : Type 0} (r : Result X E) → P → OnOk r P
on_ok (Ok x) p = p
on_ok (Err e) p = tt

pub on_err : {X E : Type 0} {P : Type 0} (r : Result X E) → P → OnErr r P
on_err (Ok x) p = tt
on_err (Err e) p = p

pub with_ok : {X E : Type 0} {P Q : Type 0} (r : Result X E) → (P → Q) → OnOk r P → OnOk r Q
with_ok (Ok x) f p = f p
with_ok (Err e) f p = tt

pub with_err : {X E : Type 0} {P Q : Type 0} (r : Result X E) → (P → Q) → OnErr r P → OnErr r Q
with_err (Ok x) f p = tt
with_err (Err e) f p = f p

pub ok_at : {X E : Type 0} {P : Type 0} (r : Result X E) (x : X) → r ≡ Ok x → OnOk r P → P
ok_at {P = P} r x is p = subst (λ q. OnOk q P) is p

pub err_at : {X E : Type 0} {P : Type 0} (r : Result X E) (e : E) → r ≡ Err e → OnErr r P → P
err_at {P = P} r e is p = subst (λ q. OnErr q P) is p

-- a refusal that is counted isn't out of memory
counted_is_none : {X E : Type 0} {memory : Type 0} {counts P : Type 0} (r : Result X E) → IsErr r ↔ memory →
    OnOk r counts → (counts → (memory → ⊥) → P) → OnOk r P
counted_is_none (Ok x) iff counts f = f counts (λ m. absurd (true≢false (sym (iff.1 m))))
counted_is_none (Err e) iff counts f = tt

pub emit_refused : {X E : Type 0} (config : Config) (seed : List ℕ) (was now : Traffic) (old new : GossipReport)
    (r : Result X E) (to : ℕ) (fault : NodeFault) → IsErr r ↔ (fault ≡ faults.OutOfMemory) →
    OnOk r (new.refused ≡ old.refused + 1) → new.receipts.items ≡ old.receipts.items → new.lost ≡ old.lost →
    new.failed.items ≡ old.failed.items → new.rejected.items ≡ old.rejected.items →
    IsRefused config seed (bare_emit to) fault → now ≡ was → OnOk r (Moves config seed was now old new (to ∷ []) [])
emit_refused config seed was now old new r to fault iff counts receipts lost failed rejected refusal same =
    counted_is_none r iff counts
    (λ counted memory. moves_refused to fault receipts lost counted failed rejected refusal memory same)

-- a fault that isn't out of memory is counted
not_memory : (fault : NodeFault) → (fault ≡ faults.OutOfMemory → ⊥) → is_counted fault ≡ true
not_memory faults.OutOfMemory other = absurd (other refl)
not_memory faults.TraceFull other = refl
not_memory faults.BadName other = refl
not_memory (faults.BadActions fault) other = refl
not_memory faults.TooManyPoints other = refl
not_memory faults.ClockFull other = refl
not_memory faults.NotSet other = refl
not_memory faults.NoSuchTerm other = refl
not_memory faults.NotCounted other = refl
not_memory faults.BadNode other = refl
not_memory faults.ZeroAmount other = refl
not_memory (faults.TooFewRights have) other = refl
not_memory faults.CellFull other = refl
not_memory (faults.BadWords need) other = refl
not_memory (faults.BadMessage fault) other = refl
not_memory faults.NotForMe other = refl
not_memory faults.OwnAhead other = refl
not_memory faults.AckAhead other = refl
not_memory faults.Overspent other = refl
not_memory faults.BadConfig other = refl

rejection_is : (sender : Option ℕ) (fault : NodeFault) → (fault ≡ faults.OutOfMemory → ⊥) →
    rejection_of sender fault ≡ rejected_as sender fault ∷ []
rejection_is sender fault other = rw (not_memory fault other) refl

pub message_refused : {X E : Type 0} (config : Config) (seed : List ℕ) (was now : Traffic) (old new : GossipReport)
    (r : Result X E) (message : List ℕ) (fault : NodeFault) → IsErr r ↔ (fault ≡ faults.OutOfMemory) →
    OnOk r (new.refused ≡ old.refused + 1) → new.receipts.items ≡ old.receipts.items → new.lost ≡ old.lost →
    new.failed.items ≡ old.failed.items →
    new.rejected.items ≡ old.rejected.items ++ rejection_of (sender_of message) fault →
    IsRefused config seed (asks.Deliver (message_read config.nodes message)) fault → now.sent ≡ was.sent →
    now.taken ≡ was.taken ++ message ∷ [] → OnOk r (Moves config seed was now old new [] [])
message_refused config seed was now old new r message fault iff counts receipts lost failed rejected refusal sent taken =
    counted_is_none r iff counts
    (λ counted memory. moves_unheard message fault receipts lost counted failed
    (rejected ∙ ap (λ l. old.rejected.items ++ l) (rejection_is (sender_of message) fault memory)) refusal memory sent
    taken)

-- what is told of a message by what counting its refusal came to
pub none_rejected : {X E : Type 0} {fault : NodeFault} {was now : List Rejected} (sender : Option ℕ) (r : Result X E) (e : E) →
    r ≡ Err e → IsErr r ↔ (fault ≡ faults.OutOfMemory) → now ≡ was → now ≡ was ++ rejection_of sender fault
none_rejected {fault = fault} {was = was} sender r e is iff same =
    let memory : fault ≡ faults.OutOfMemory = iff.0 (ap is_err is) in
    same ∙ sym (append-nil was) ∙ ap (λ f. was ++ rejection_of sender f) (sym memory)

pub one_rejected : {X E : Type 0} {fault : NodeFault} {was middle now : List Rejected} (sender : Option ℕ) (r : Result X E)
    (x : X) → r ≡ Ok x → IsErr r ↔ (fault ≡ faults.OutOfMemory) → middle ≡ was →
    now ≡ middle ++ rejected_as sender fault ∷ [] → now ≡ was ++ rejection_of sender fault
one_rejected {fault = fault} {was = was} sender r x is iff same told =
    told ∙ ap (λ l. l ++ rejected_as sender fault ∷ []) same
    ∙ ap (λ l. was ++ l) (sym (rejection_is sender fault
    (λ memory. absurd (true≢false (sym (iff.1 memory) ∙ ap is_err is)))))

-- where memory is refused, nothing is rejected
unrejected : {fault : NodeFault} {was now : List Rejected} (sender : Option ℕ) → fault ≡ faults.OutOfMemory →
    now ≡ was ++ rejection_of sender fault → now ≡ was
unrejected {was = was} sender memory rejected =
    rejected ∙ ap (λ f. was ++ rejection_of sender f) memory ∙ append-nil was

-- what a report tells of one message, by what sending it came to
pub none_failed : {X : Type 0} {was now : List Failed} (to : ℕ) (sent : Result X WireError) (done : X) →
    sent ≡ Ok done → now ≡ was ++ failure_of to sent → now ≡ was
none_failed {X = X} {was = was} to sent done is told =
    told ∙ ap (λ (s : Result X WireError). was ++ failure_of to s) is ∙ append-nil was

pub one_failed : {X : Type 0} {now : List Failed} (was : List Failed) (to : ℕ) (sent : Result X WireError) (why : WireError) →
    sent ≡ Err why → now ≡ was ++ failure_of to sent → now ≡ was ++ failed_as to why ∷ []
one_failed {X = X} was to sent why is told =
    told ∙ ap (λ (s : Result X WireError). was ++ failure_of to s) is

pub more_failed : {was between now : List Failed} (more : List Failed) → now ≡ between ++ more → between ≡ was → now ≡ was ++ more
more_failed more told same = told ∙ ap (λ l. l ++ more) same

pub none_lost : {X : Type 0} (to : ℕ) (sent : Result X WireError) (done : X) → sent ≡ Ok done →
    length (failure_of to sent) ≡ 0
none_lost {X = X} to sent done is = ap (λ (s : Result X WireError). length (failure_of to s)) is

pub one_lost : {X : Type 0} (to : ℕ) (sent : Result X WireError) (why : WireError) → sent ≡ Err why →
    length (failure_of to sent) ≡ 1
one_lost {X = X} to sent why is = ap (λ (s : Result X WireError). length (failure_of to s)) is

pub stops_unheard : {config : Config} {seed : List ℕ} {was now : Traffic} {old new : GossipReport} (message : List ℕ) →
    Moves config seed was now old new [] (message ∷ []) → Stops config seed was now old new []
stops_unheard message p = ([], message ∷ [], ([], refl), omega arith, p)

-- memory is refused at a message that was taken
pub message_stops : {X E : Type 0} (config : Config) (seed : List ℕ) (was now : Traffic) (old new : GossipReport)
    (r : Result X E) (message : List ℕ) (fault : NodeFault) → IsErr r ↔ (fault ≡ faults.OutOfMemory) →
    OnErr r (new.refused ≡ old.refused) → new.receipts.items ≡ old.receipts.items → new.lost ≡ old.lost →
    new.failed.items ≡ old.failed.items →
    new.rejected.items ≡ old.rejected.items ++ rejection_of (sender_of message) fault → now.sent ≡ was.sent →
    now.taken ≡ was.taken ++ message ∷ [] → OnErr r (Stops config seed was now old new [])
message_stops config seed was now old new (Ok x) message fault iff uncounted receipts lost failed rejected sent taken = tt
message_stops config seed was now old new (Err e) message fault iff uncounted receipts lost failed rejected sent taken =
    stops_unheard message
    (moves_none (message ∷ []) sent taken receipts lost uncounted failed (unrejected (sender_of message) (iff.0 refl) rejected))

-- a report of all calls
pub carries_of : {config : Config} {seed : List ℕ} {was now : Traffic} {old new : GossipReport} {tos : List ℕ}
    {left : List (List ℕ)} → Moves config seed was now old new tos left → old.receipts.items ≡ [] → old.lost ≡ 0 →
    old.refused ≡ 0 → old.failed.items ≡ [] → old.rejected.items ≡ [] →
    Carries config seed was now new.receipts.items new.failed.items new.rejected.items new.lost new.refused tos left
carries_of {config = config} {seed = seed} {was = was} {now = now} {old = old} {new = new} {tos = tos} {left = left} p
    empty none none_too unfailed unrejected =
    let receipts : p.more ≡ new.receipts.items = sym (p.receipts ∙ ap (λ l. l ++ p.more) empty) in
    let lost : p.lost ≡ new.lost = omega (arith, p.lost_more, none) in
    let refused : p.refused ≡ new.refused = omega (arith, p.refused_more, none_too) in
    let failed : p.failed ≡ new.failed.items = sym (p.failed_more ∙ ap (λ l. l ++ p.failed) unfailed) in
    let rejected : p.rejected ≡ new.rejected.items = sym (p.rejected_more ∙ ap (λ l. l ++ p.rejected) unrejected) in
    let told : List Receipt → List Failed → List Rejected → ℕ → ℕ → Type 0 =
    λ rs fs js m n. Carries config seed was now rs fs js m n tos left in
    subst (λ n. told new.receipts.items new.failed.items new.rejected.items new.lost n) refused
    (subst (λ n. told new.receipts.items new.failed.items new.rejected.items n p.refused) lost
    (subst (λ l. told new.receipts.items new.failed.items l p.lost p.refused) rejected
    (subst (λ l. told new.receipts.items l p.rejected p.lost p.refused) failed
    (subst (λ l. told l p.failed p.rejected p.lost p.refused) receipts p.carries))))

pub carried_all : {config : Config} {seed : List ℕ} {was now : Traffic} {old new : GossipReport} (rounds : ℕ) →
    Moves config seed was now old new (others_in_rounds config rounds) [] → old.receipts.items ≡ [] → old.lost ≡ 0 →
    old.refused ≡ 0 → old.failed.items ≡ [] → old.rejected.items ≡ [] → Carried config seed was now rounds new
carried_all rounds p empty none none_too unfailed unrejected = (
  _,
  [],
  ([], sym (append-nil _)),
  omega arith,
  (λ done. (refl, refl)),
  carries_of p empty none none_too unfailed unrejected,
)

pub carried_some : {config : Config} {seed : List ℕ} {was now : Traffic} {old new : GossipReport} (rounds : ℕ) →
    Stops config seed was now old new (others_in_rounds config rounds) → old.receipts.items ≡ [] → old.lost ≡ 0 →
    old.refused ≡ 0 → old.failed.items ≡ [] → old.rejected.items ≡ [] → (new.ended ≡ Done → ⊥) →
    Carried config seed was now rounds new
carried_some rounds p empty none none_too unfailed unrejected ended = (
  p.0,
  p.1,
  p.2,
  p.3,
  (λ done. absurd (ended done)),
  carries_of p.4 empty none none_too unfailed unrejected,
)
