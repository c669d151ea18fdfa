-- What calls add to a report, one after the other.
use Rattle.std.proofs.Common.{◌≡◌, ◌≤◌, ℕ, ◌+◌, Bool, not, cond, Result, zero, suc, ◌-◌, ◌*◌, ◌≢◌, ◌==◌, List, [], ◌∷◌, ◌++◌, length, map, count_by, append_assoc, length-append, subst, ap, sym, ◌∙◌, arith}
use Rattle.std.specs.List.{filter, flat_map, range_with_len}
use Rattle.std.proofs.lemmas.List.{map-append, append-nil}
use Rattle.std.proofs.lemmas.List.Elements.{filter-append}
use Rattle.std.proofs.lemmas.List.Sums.{sum_by-append}
use Rattle.std.proofs.lemmas.Grind.{flat_map-append}
use Rattle.node_steps.specs.declared.config.Config.{Config}
use Rattle.node_calls.specs.declared.receipt.Receipt.{Receipt}
use Rattle.message_format.specs.declared.fault.WireFault.{WireFault}
use Rattle.node_calls.specs.Asks.{Asked, Message, Shift, Deliver, ask_value_first, bare_emit, message_read}
use Rattle.node_registry.specs.Receipts.{AreGivenSince, IsGiven, seat_after}
use Rattle.node_registry.specs.Refusals.{Refusal}
use Rattle.node_registry.specs.Seats.{ComesNext, SeatState, called}
use Rattle.node_calls.specs.declared.ask.Ask.{Ask}
use Rattle.node_calls.specs.declared.fault.NodeFault.{NodeFault}
use Rattle.node_registry.proofs.SeatReceipts.{after_both, given_on}
use Rattle.gossip.specs.declared.report.GossipReport.{GossipReport}
use Rattle.gossip.specs.Parts.{IsPartOf}
use Rattle.gossip.specs.Reports.{IsTold, asked_in, asks_in, is_delivery, is_emit, own_asks_in, own_refused_in}
use Rattle.gossip.specs.Refused.{is_counted, refused_of, rejected_of, rejection_in}
use Rattle.gossip.specs.Steps.{Adds}
use Rattle.gossip.specs.Parts as parts
use Rattle.gossip.proofs.PartLemmas.{nothing_of, joined_parts, part_of_more}
use Rattle.gossip.proofs.RangeLemmas.{but, but_rest, but_another, but_itself, over_more, over_rest}

count_one : {X : Type 0} (p : X → Bool) (x : X) → count_by p (x ∷ []) ≡ cond (p x) 1 0
count_one p x = omega arith

count_both : {X : Type 0} (p : X → Bool) (xs ys : List X) → count_by p (xs ++ ys) ≡ count_by p xs + count_by p ys
count_both p xs ys = sum_by-append (λ x. cond (p x) 1 0) xs ys

own_both : (config : Config) (xs ys : List Receipt) → own_asks_in config (xs ++ ys) ≡ own_asks_in config xs ++
    own_asks_in config ys
own_both config xs ys =
    ap (filter (λ ask. not (is_delivery ask))) (map-append (asked_in config) xs ys)
    ∙ filter-append (λ ask. not (is_delivery ask)) (asks_in config xs) (asks_in config ys)

counts_both : (config : Config) (p : Asked → Bool) (xs ys : List Receipt) →
    count_by p (asks_in config (xs ++ ys)) ≡ count_by p (asks_in config xs) + count_by p (asks_in config ys)
counts_both config p xs ys = ap (count_by p) (map-append (asked_in config) xs ys) ∙
    count_both p (asks_in config xs) (asks_in config ys)

own_refused_both : (config : Config) (xs ys : List Refusal) → own_refused_in config (xs ++ ys) ≡
    own_refused_in config xs ++ own_refused_in config ys
own_refused_both config xs ys =
    ap (filter (λ ask. not (is_delivery ask))) (map-append (λ r. ask_value_first config.nodes r.0) xs ys)
    ∙ filter-append (λ ask. not (is_delivery ask)) (map (λ r. ask_value_first config.nodes r.0) xs)
    (map (λ r. ask_value_first config.nodes r.0) ys)

rejected_both : (xs ys : List Refusal) → rejected_of (xs ++ ys) ≡ rejected_of xs ++ rejected_of ys
rejected_both xs ys = flat_map-append (λ (r : Refusal). rejection_in r.0 r.1) xs ys

-- no call
pub adds_none : (config : Config) (seed : List ℕ) (was now : SeatState) (old new : GossipReport) (wanted : List Asked)
    → now ≡ was → new.receipts.items ≡ old.receipts.items → new.emitted ≡ old.emitted → new.delivered ≡ old.delivered →
    new.ended ≡ old.ended → new.refused ≡ old.refused → new.noted ≡ old.noted
    → new.rejected.items ≡ old.rejected.items
    → Adds config seed was now old new wanted
adds_none config seed was now old new wanted counted receipts emitted delivered ended refused noted rejected = record {
  more = [];
  receipts = receipts ∙ sym (append-nil old.receipts.items);
  calls = let same = ap (λ (s : SeatState). s.calls) counted in omega (arith, same);
  counted = counted;
  given = tt;
  emitted = omega arith;
  delivered = omega arith;
  part = nothing_of wanted;
  noted = [];
  refusals = noted ∙ sym (append-nil old.noted);
  refused = omega (arith, refused);
  rejected = rejected ∙ sym (append-nil old.rejected.items);
  refused_part = nothing_of wanted;
  ended = ended;
}

-- a call that was refused
pub adds_refused : (config : Config) (seed : List ℕ) (was now : SeatState) (old new : GossipReport) (ask : Ask)
    (fault : NodeFault) (wanted : List Asked)
    → now ≡ was → new.receipts.items ≡ old.receipts.items → new.emitted ≡ old.emitted → new.delivered ≡ old.delivered →
    new.ended ≡ old.ended
    → new.refused ≡ old.refused + cond (is_counted fault) 1 0 → new.noted ≡ old.noted ++ (ask, fault) ∷ []
    → new.rejected.items ≡ old.rejected.items ++ rejection_in ask fault
    → IsPartOf (filter (λ a. not (is_delivery a)) (ask_value_first config.nodes ask ∷ [])) wanted
    → Adds config seed was now old new wanted
adds_refused config seed was now old new ask fault wanted counted receipts emitted delivered ended refused noted rejected
    part =
    record {
      more = [];
      receipts = receipts ∙ sym (append-nil old.receipts.items);
      calls = let same = ap (λ (s : SeatState). s.calls) counted in omega (arith, same);
      counted = counted;
      given = tt;
      emitted = omega arith;
      delivered = omega arith;
      part = nothing_of wanted;
      noted = (ask, fault) ∷ [];
      refusals = noted;
      refused = omega (arith, refused, count_one {X = Refusal} (λ r. is_counted r.1) (ask, fault));
      rejected = rejected ∙ ap (λ l. old.rejected.items ++ l) (sym (append-nil (rejection_in ask fault)));
      refused_part = part;
      ended = ended;
    }

-- one call
pub adds_one : (config : Config) (seed : List ℕ) (was now : SeatState) (old new : GossipReport) (r : Receipt) (ask : Asked)
    (wanted : List Asked)
    → asked_in config r ≡ ask → IsGiven config seed r → ComesNext was r.index → now ≡ called was r.index
    → new.receipts.items ≡ old.receipts.items ++ r ∷ []
    → new.emitted ≡ old.emitted + cond (is_emit ask) 1 0
    → new.delivered ≡ old.delivered + cond (is_delivery ask) 1 0
    → IsPartOf (filter (λ a. not (is_delivery a)) (ask ∷ [])) wanted
    → new.ended ≡ old.ended → new.refused ≡ old.refused → new.noted ≡ old.noted
    → new.rejected.items ≡ old.rejected.items
    → Adds config seed was now old new wanted
adds_one config seed was now old new r ask wanted asks given since counted receipts emitted delivered part ended refused
    noted rejected =
    record {
      more = r ∷ [];
      receipts = receipts;
      calls = let one = ap (λ (s : SeatState). s.calls) counted in omega (arith, one);
      counted = counted;
      given = (given, since, tt);
      emitted = emitted ∙ ap (λ a. old.emitted + a) (sym (count_one is_emit ask) ∙
          ap (λ a. count_by is_emit (a ∷ [])) (sym asks));
      delivered = delivered ∙ ap (λ a. old.delivered + a) (sym (count_one is_delivery ask) ∙
          ap (λ a. count_by is_delivery (a ∷ [])) (sym asks));
      part = subst (λ a. IsPartOf (filter (λ a. not (is_delivery a)) (a ∷ [])) wanted) (sym asks) part;
      noted = [];
      refusals = noted ∙ sym (append-nil old.noted);
      refused = omega (arith, refused);
      rejected = rejected ∙ sym (append-nil old.rejected.items);
      refused_part = nothing_of wanted;
      ended = ended;
    }

-- an emit, a delivery and a shift
pub adds_emit : (config : Config) (seed : List ℕ) (was now : SeatState) (to : ℕ) (old new : GossipReport) (between : List Receipt)
    (r : Receipt)
    → asked_in config r ≡ bare_emit to
    → IsGiven config seed r → ComesNext was r.index → now ≡ called was r.index
    → between ≡ old.receipts.items → new.receipts.items ≡ between ++ r ∷ []
    → new.emitted ≡ old.emitted + 1 → new.delivered ≡ old.delivered → new.ended ≡ old.ended
    → new.refused ≡ old.refused → new.noted ≡ old.noted → new.rejected.items ≡ old.rejected.items
    → Adds config seed was now old new (bare_emit to ∷ [])
adds_emit config seed was now to old new between r asked given since counted kept more emitted delivered ended refused
    noted rejected =
    adds_one config seed was now old new r (bare_emit to) (bare_emit to ∷ []) asked
    given since counted (more ∙ ap (λ l. l ++ r ∷ []) kept) emitted (omega arith) (parts.kept parts.none) ended refused
    noted rejected

pub adds_delivery : (config : Config) (seed : List ℕ) (was now : SeatState) (read : Result Message WireFault)
    (old new : GossipReport) (r : Receipt)
    → asked_in config r ≡ Deliver read
    → IsGiven config seed r → ComesNext was r.index → now ≡ called was r.index
    → new.receipts.items ≡ old.receipts.items ++ r ∷ []
    → new.emitted ≡ old.emitted → new.delivered ≡ old.delivered + 1 → new.ended ≡ old.ended
    → new.refused ≡ old.refused → new.noted ≡ old.noted → new.rejected.items ≡ old.rejected.items
    → Adds config seed was now old new []
adds_delivery config seed was now read old new r asked given since counted more emitted delivered ended refused noted
    rejected =
    adds_one config seed was now old new r (Deliver read) [] asked
    given since counted more (omega arith) delivered parts.none ended refused noted rejected

pub adds_shift : (config : Config) (seed : List ℕ) (was now : SeatState) (name : List ℕ) (term to amount : ℕ)
    (old new : GossipReport) (between : List Receipt) (r : Receipt)
    → asked_in config r ≡ Shift name term to amount
    → IsGiven config seed r → ComesNext was r.index → now ≡ called was r.index
    → between ≡ old.receipts.items → new.receipts.items ≡ between ++ r ∷ []
    → new.emitted ≡ old.emitted → new.delivered ≡ old.delivered → new.ended ≡ old.ended
    → new.refused ≡ old.refused → new.noted ≡ old.noted → new.rejected.items ≡ old.rejected.items
    → Adds config seed was now old new (Shift name term to amount ∷ [])
adds_shift config seed was now name term to amount old new between r asked given since counted kept more emitted
    delivered ended refused noted rejected =
    adds_one config seed was now old new r (Shift name term to amount) (Shift name term to amount ∷ []) asked
    given since counted (more ∙ ap (λ l. l ++ r ∷ []) kept) (omega arith) (omega arith) (parts.kept parts.none) ended
    refused noted rejected

-- calls, and then more
pub adds_then : {config : Config} {seed : List ℕ} {was between now : SeatState} {old middle new : GossipReport}
    {first second : List Asked}
    → Adds config seed was between old middle first → Adds config seed between now middle new second
    → Adds config seed was now old new (first ++ second)
adds_then {config = config} {seed = seed} {was = was} {between = between} {now = now} {old = old} {middle = middle}
    {new = new} {first = first} {second = second} p q = record {
      more = p.more ++ q.more;
      receipts = q.receipts ∙ ap (λ l. l ++ q.more) p.receipts ∙ append_assoc old.receipts.items p.more q.more;
      calls = omega (arith, length-append p.more q.more, p.calls, q.calls);
      counted = q.counted ∙ ap (λ s. seat_after s q.more) p.counted ∙ sym (after_both was p.more q.more);
      given = given_on config seed was p.more q.more p.given (subst (λ s. AreGivenSince config seed s q.more) p.counted
          q.given);
      emitted = omega (arith, p.emitted, q.emitted, counts_both config is_emit p.more q.more);
      delivered = omega (arith, p.delivered, q.delivered, counts_both config is_delivery p.more q.more);
      part = subst (λ l. IsPartOf l (first ++ second)) (sym (own_both config p.more q.more))
          (joined_parts p.part q.part);
      noted = p.noted ++ q.noted;
      refusals = q.refusals ∙ ap (λ l. l ++ q.noted) p.refusals ∙ append_assoc old.noted p.noted q.noted;
      refused = omega (
        arith,
        p.refused,
        q.refused,
        count_both {X = Refusal} (λ r. is_counted r.1) p.noted q.noted,
      );
      rejected = q.rejected ∙ ap (λ l. l ++ rejected_of q.noted) p.rejected
          ∙ append_assoc old.rejected.items (rejected_of p.noted) (rejected_of q.noted)
          ∙ ap (λ l. old.rejected.items ++ l) (sym (rejected_both p.noted q.noted));
      refused_part = subst (λ l. IsPartOf l (first ++ second)) (sym (own_refused_both config p.noted q.noted))
          (joined_parts p.refused_part q.refused_part);
      ended = q.ended ∙ p.ended;
    }

-- calls of these are calls of some of more
pub adds_of_more : {config : Config} {seed : List ℕ} {was now : SeatState} {old new : GossipReport} {wanted : List Asked}
    → Adds config seed was now old new wanted → (rest : List Asked) → Adds config seed was now old new (wanted ++ rest)
adds_of_more p rest = record {
  more = p.more;
  receipts = p.receipts;
  calls = p.calls;
  counted = p.counted;
  given = p.given;
  emitted = p.emitted;
  delivered = p.delivered;
  part = part_of_more p.part rest;
  noted = p.noted;
  refusals = p.refusals;
  refused = p.refused;
  rejected = p.rejected;
  refused_part = part_of_more p.refused_part rest;
  ended = p.ended;
}

pub adds_as : {config : Config} {seed : List ℕ} {was now : SeatState} {old new : GossipReport} {wanted other : List Asked}
    → Adds config seed was now old new wanted → wanted ≡ other → Adds config seed was now old new other
adds_as {config = config} {seed = seed} {was = was} {now = now} {old = old} {new = new} p e =
    subst (λ w. Adds config seed was now old new w) e p

-- a report of all calls
pub told_of : {config : Config} {seed : List ℕ} {was now : SeatState} {old new : GossipReport} {wanted : List Asked}
    → Adds config seed was now old new wanted → old.receipts.items ≡ [] → old.emitted ≡ 0 → old.delivered ≡ 0 →
    old.refused ≡ 0 → old.noted ≡ [] → old.rejected.items ≡ []
    → IsTold config seed was now new
told_of {config = config} {seed = seed} {was = was} {now = now} {new = new} p empty none none_too unrefused unnoted
    unrejected =
    let e : new.receipts.items ≡ p.more = p.receipts ∙ ap (λ l. l ++ p.more) empty in
    record {
      calls = p.calls ∙ ap (λ l. was.calls + length l) (sym e);
      counted = p.counted ∙ ap (seat_after was) (sym e);
      given = subst (λ l. AreGivenSince config seed was l) (sym e) p.given;
      emitted = omega (arith, p.emitted, none, ap (λ l. count_by is_emit (asks_in config l)) e);
      delivered = omega (arith, p.delivered, none_too, ap (λ l. count_by is_delivery (asks_in config l)) e);
      refused = omega (arith, p.refused, unrefused, ap refused_of (p.refusals ∙ ap (λ l. l ++ p.noted) unnoted));
      rejected = p.rejected ∙ ap (λ l. l ++ rejected_of p.noted) unrejected
          ∙ sym (ap rejected_of (p.refusals ∙ ap (λ l. l ++ p.noted) unnoted));
    }

pub part_of_all : {config : Config} {seed : List ℕ} {was now : SeatState} {old new : GossipReport} {wanted : List Asked}
    → Adds config seed was now old new wanted → old.receipts.items ≡ [] →
    IsPartOf (own_asks_in config new.receipts.items) wanted
part_of_all {config = config} {new = new} {wanted = wanted} p empty =
    let e : new.receipts.items ≡ p.more = p.receipts ∙ ap (λ l. l ++ p.more) empty in
    subst (λ l. IsPartOf (own_asks_in config l) wanted) (sym e) p.part

-- one more of the others, and up to all of them
pub adds_next : {config : Config} {seed : List ℕ} {was between now : SeatState} {old middle new : GossipReport} (f : ℕ → Asked)
    (own n : ℕ) → n ≢ own
    → Adds config seed was between old middle (map f (but own n)) → Adds config seed between now middle new (f n ∷ [])
    → Adds config seed was now old new (map f (but own (n + 1)))
adds_next f own n ne p q = adds_as (adds_then p q) (sym (but_another f own n ne))

pub adds_itself : {config : Config} {seed : List ℕ} {was now : SeatState} {old new : GossipReport} (f : ℕ → Asked) (own n : ℕ) →
    n ≡ own
    → Adds config seed was now old new (map f (but own n)) → Adds config seed was now old new (map f (but own (n + 1)))
adds_itself f own n e p = adds_as p (sym (but_itself f own n e))

up_to : (f : ℕ → Asked) (own n all : ℕ) → n ≤ all → map f (but own all) ≡ map f (but own n) ++
    map f (filter (λ k. not (k == own)) (range_with_len (0 + n) (all - n)))
up_to f own n all le =
    let e : all ≡ n + (all - n) = omega arith in
    ap (λ k. map f (but own k)) e ∙ but_rest f own n (all - n)

pub adds_up_to : {config : Config} {seed : List ℕ} {was now : SeatState} {old new : GossipReport} (f : ℕ → Asked)
    (own n all : ℕ) → n ≤ all
    → Adds config seed was now old new (map f (but own n)) → Adds config seed was now old new (map f (but own all))
adds_up_to f own n all le p = adds_as (adds_of_more p _) (sym (up_to f own n all le))

pub length_up_to : (f : ℕ → Asked) (own n all : ℕ) → n ≤ all → length (map f (but own n)) ≤ length (map f (but own all))
length_up_to f own n all le = omega (
  arith,
  ap length (up_to f own n all le),
  length-append (map f (but own n)) (map f (filter (λ k. not (k == own)) (range_with_len (0 + n) (all - n)))),
)

pub length_next : (f : ℕ → Asked) (own n : ℕ) → n ≢ own → length (map f (but own (n + 1))) ≡ length
    (map f (but own n)) + 1
length_next f own n ne = ap length (but_another f own n ne) ∙ length-append (map f (but own n)) (f n ∷ [])

pub length_itself : (f : ℕ → Asked) (own n : ℕ) → n ≡ own → length (map f (but own (n + 1))) ≡ length
    (map f (but own n))
length_itself f own n e = ap length (but_itself f own n e)

-- the same over the rounds, or the terms
pub adds_turn : {config : Config} {seed : List ℕ} {was between now : SeatState} {old middle new : GossipReport}
    (f : ℕ → List Asked) (n : ℕ)
    → Adds config seed was between old middle (flat_map f (range_with_len 0 n)) →
    Adds config seed between now middle new (f n)
    → Adds config seed was now old new (flat_map f (range_with_len 0 (n + 1)))
adds_turn f n p q = adds_as (adds_then p q) (sym (over_more f n))

turns_to : (f : ℕ → List Asked) (n all : ℕ) → n ≤ all → flat_map f (range_with_len 0 all) ≡ flat_map f
    (range_with_len 0 n) ++ flat_map f (range_with_len (0 + n) (all - n))
turns_to f n all le =
    let e : all ≡ n + (all - n) = omega arith in
    ap (λ k. flat_map f (range_with_len 0 k)) e ∙ over_rest f n (all - n)

pub adds_turns : {config : Config} {seed : List ℕ} {was now : SeatState} {old new : GossipReport} (f : ℕ → List Asked)
    (n all : ℕ) → n ≤ all
    → Adds config seed was now old new (flat_map f (range_with_len 0 n)) →
    Adds config seed was now old new (flat_map f (range_with_len 0 all))
adds_turns f n all le p = adds_as (adds_of_more p _) (sym (turns_to f n all le))

pub length_turn : (f : ℕ → List Asked) (n : ℕ) → length (flat_map f (range_with_len 0 (n + 1))) ≡ length
    (flat_map f (range_with_len 0 n)) + length (f n)
length_turn f n = ap length (over_more f n) ∙ length-append (flat_map f (range_with_len 0 n)) (f n)

pub length_turns : (f : ℕ → List Asked) (n all : ℕ) → n ≤ all →
    length (flat_map f (range_with_len 0 n)) ≤ length (flat_map f (range_with_len 0 all))
length_turns f n all le = omega (
  arith,
  ap length (turns_to f n all le),
  length-append (flat_map f (range_with_len 0 n)) (flat_map f (range_with_len (0 + n) (all - n))),
)

pub length_over : (f : ℕ → List Asked) (most n : ℕ) → ((k : ℕ) → length (f k) ≤ most) →
    length (flat_map f (range_with_len 0 n)) ≤ n * most
length_over f most zero each = omega arith
length_over f most (suc n) each =
    let e : suc n ≡ n + 1 = omega arith in
    omega (
      arith,
      ap (λ k. length (flat_map f (range_with_len 0 k))) e,
      length_turn f n,
      length_over f most n each,
      each n,
    )
