-- The receipts of shifts that are made.
use Rattle.std.proofs.Common.{◌≡◌, ◌∙◌, ℕ, suc, ◌+◌, ◌<◌, ◌≤◌, ◌==◌, Bool, true, false, cond, List, [], ◌∷◌, ◌++◌, length, take, Option, None, Some, Result, Ok, Err, refl, sym, ap, subst, arith, append_assoc, append-nil, length-append, true≢false}
use Rattle.std.specs.Prelude.{IfErr, IfOk, OnOk, nat_lt, slice_get, option_map, Vec}
use Rattle.std.specs.declared.alloc.AllocError.{AllocError}
use Rattle.std.specs.declared.alloc.Global.{Global}
use Rattle.std.proofs.lemmas.Bool.Decides.{nat_tests}
use Rattle.std.proofs.lemmas.Option.{none-some, same_Some}
use Rattle.node_steps.specs.declared.config.Config.{Config}
use Rattle.node_calls.specs.declared.fault.NodeFault.{NodeFault}
use Rattle.node_calls.specs.declared.receipt.Receipt.{Receipt}
use Rattle.node_calls.specs.declared.reply.Reply.{Reply}
use Rattle.node_calls.specs.declared.trace.Entry.{Entry}
use Rattle.node_calls.specs.Asks.{Asked, Call, Message, asked_from, call_from, emit_asked_by, emit_of, message_read}
use Rattle.node_calls.specs.Asks as asks
use Rattle.node_calls.specs.Told.{AskTold, ReplyTold, ask_told, reply_told, told}
use Rattle.node_calls.specs.Told as tells
use Rattle.message_format.specs.declared.fault.WireFault.{WireFault}
use Rattle.node_core.specs.Applied.{TellsIfEmit}
use Rattle.node_core.specs.Traces.{Kept, Records, after_call, call_kept, entry_for, refusal}
use Rattle.node_registry.specs.Batches.{IsBatch}
use Rattle.node_registry.specs.Cells.{Cell, Enters, IsLawfulAt, next_words}
use Rattle.node_registry.specs.Receipts.{AreGivenSince, receipt_of, seat_after}
use Rattle.node_registry.specs.Seats.{AreCalled, ComesNext, SeatState, called}
use Rattle.node_registry.specs.Words.{words_taken}
use Rattle.node_registry.proofs.AcceptedBatches.{accepted_length}
use Rattle.node_registry.proofs.LawfulCells.{stays_lawful}
use Rattle.node_registry.proofs.SeatReceipts.{after_calls, after_given}
use Rattle.node_sharing.specs.Made.{AreMade, IsStopped, asked, shifts_due}
use Rattle.sharing.specs.Memory.{Recalled}
use Rattle.sharing.specs.declared.shift.Shift.{Shift}
use Rattle.registry_sharing.specs.Rounds.{AreCallsFrom, AreReceiptsOf, IsRoundWith, Shares, SharesWith}

-- ---- what shifts leave as it was

-- they add their calls to the trace
pub record Adds (k : Kept) (shifts : List Shift) (new : Kept) : Type 0 where
  pub more : List Call
  pub trace : new.trace ≡ k.trace ++ more
  pub long : length more ≡ length shifts
  pub config : new.config ≡ k.config
  pub from : new.from ≡ k.from

pub made_adds : (k : Kept) (shifts : List Shift) (new : Kept) → AreMade k shifts new → Adds k shifts new
made_adds k [] new made = record {
  more = [];
  trace = ap (λ (n : Kept). n.trace) made ∙ sym (append-nil k.trace);
  long = refl;
  config = ap (λ (n : Kept). n.config) made;
  from = ap (λ (n : Kept). n.from) made;
}
made_adds k (shift ∷ shifts) new made =
    let rest = made_adds (after_call k (asked shift) []) shifts new made.1 in
    record {
      more = entry_for k (asked shift) [] ∷ rest.more;
      trace = rest.trace ∙ append_assoc k.trace (entry_for k (asked shift) [] ∷ []) rest.more;
      long = ap suc rest.long;
      config = rest.config;
      from = rest.from;
    }

-- of those that were made, or made up to one
pub shares_add : {X : Type 0} (k : Kept) (shifts : List Shift) (new : Kept) (r : Result X NodeFault) →
    OnOk r (AreMade k shifts new) → IfErr r (IsStopped k shifts new)
    → (new.from ≡ k.from) × (length k.trace ≤ length new.trace)
shares_add k shifts new r made stopped = at r made stopped
  where
    of : (some : List Shift) → AreMade k some new → (new.from ≡ k.from) × (length k.trace ≤ length new.trace)
    of some all =
        let adds = made_adds k some new all in
        let long : length new.trace ≡ length k.trace + length adds.more =
        ap length adds.trace ∙ length-append k.trace adds.more in
        (adds.from, omega (arith, long))

    at : {X : Type 0} (r : Result X NodeFault) → OnOk r (AreMade k shifts new) → IfErr r (IsStopped k shifts new)
        → (new.from ≡ k.from) × (length k.trace ≤ length new.trace)
    at (Ok x) made stopped = of shifts made
    at (Err fault) made stopped = of (take stopped.0 shifts) stopped.1

-- one more call that is kept
pub calls_more : (k : Kept) (from : ℕ) (rs : List Receipt) (r : Receipt) → AreCallsFrom k from rs →
    r.node ≡ k.config.node → r.index ≡ from + length rs
    → call_kept k (from + length rs) ≡ Some (call_from k.config.nodes (told r.entry)) → AreCallsFrom k from (rs ++ r ∷ [])
calls_more k from [] r are node index kept =
    let here : from + 0 ≡ from = omega arith in
    (node, index ∙ here, subst (λ i. call_kept k i ≡ Some (call_from k.config.nodes (told r.entry))) here kept, tt)
calls_more k from (x ∷ rs) r are node index kept =
    let here : from + length (x ∷ rs) ≡ from + 1 + length rs = omega arith in (
      are.0,
      are.1,
      are.2,
      calls_more k (from + 1) rs r are.3 node (index ∙ here)
          (subst (λ i. call_kept k i ≡ Some (call_from k.config.nodes (told r.entry))) here kept),
    )

-- ---- a call that is kept

first_behind : {A : Type 0} (xs ys : List A) (x : A) → slice_get (xs ++ x ∷ ys) (length xs) ≡ Some x
first_behind [] ys x = refl
first_behind (y ∷ xs) ys x = first_behind xs ys x

kept_is : (low : Bool) (found : Option Call) (c : Call) → cond low None found ≡ Some c → found ≡ Some c
kept_is true found c h = absurd (none-some c h)
kept_is false found c h = h

abbrev is_shift : Asked → Bool
is_shift (asks.Shift name term to amount) = true
is_shift _ = false

emit_is_none : (nodes to : ℕ) (reply : ReplyTold) → is_shift (emit_asked_by nodes to reply) ≡ false
emit_is_none nodes to (tells.was_emitted bytes) = of (message_read nodes bytes)
  where
    of : (read : Result Message WireFault) → is_shift (emit_of to read) ≡ false
    of (Ok m) = refl
    of (Err fault) = refl
emit_is_none nodes to (tells.was_set stamp) = refl
emit_is_none nodes to (tells.was_removed stamp) = refl
emit_is_none nodes to (tells.was_loaded entries) = refl
emit_is_none nodes to (tells.was_passed passed) = refl
emit_is_none nodes to (tells.was_shifted total) = refl
emit_is_none nodes to (tells.was_granted total) = refl
emit_is_none nodes to (tells.was_delivered changed) = refl

-- a shift is no emit
shift_tells : (k : Kept) (nodes : ℕ) (ask : AskTold) (told : ReplyTold) (reply : Reply) →
    is_shift (asked_from nodes ask told) ≡ true → TellsIfEmit k ask reply
shift_tells k nodes (tells.emits to) told reply is = absurd (true≢false (sym is ∙ emit_is_none nodes to told))
shift_tells k nodes (tells.sets name text) told reply is = tt
shift_tells k nodes (tells.removes name) told reply is = tt
shift_tells k nodes (tells.loads text) told reply is = tt
shift_tells k nodes (tells.passes name) told reply is = tt
shift_tells k nodes (tells.shifts name term to amount) told reply is = tt
shift_tells k nodes (tells.grants name term amount) told reply is = tt
shift_tells k nodes (tells.delivers bytes) told reply is = tt

-- a cell of which a shift is made enters its call
abbrev after_shift : Cell → Shift → Cell
after_shift c shift = record { node = after_call c.node (asked shift) []; key = c.key; place = c.place }

shift_enters : (c : Cell) (shift : Shift) (e : Entry) → refusal c.node (asked shift) [] ≡ None →
    call_from c.node.config.nodes (told e) ≡ entry_for c.node (asked shift) [] → Enters c (after_shift c shift) e
shift_enters c shift e accepted is =
    let k = c.node in
    let entry = entry_for k (asked shift) [] in
    let place : c.place ≡ c.place + words_taken k entry.ask = omega arith in
    record {
      records = subst (λ (x : Call). Records k (after_call k (asked shift) []) x (next_words c x.ask)) (sym is)
          (accepted, refl, refl);
      tells = shift_tells k k.config.nodes (ask_told e.ask) (reply_told e.reply) e.reply
          (ap (λ (x : Call). is_shift x.ask) is);
      key = refl;
      place = place ∙ ap (λ (x : Call). c.place + words_taken k x.ask) (sym is);
    }

-- ---- the receipts of shifts

no_more : (rs : List Receipt) (n m : ℕ) → n + length rs ≡ m → n ≡ m → rs ≡ []
no_more [] n m long same = refl
no_more (r ∷ rs) n m long same = absurd (omega (arith, long, same))

pub receipts_of_made : (c : Cell) (shifts : List Shift) (new : Kept) (rs : List Receipt) → AreMade c.node shifts new →
    AreCallsFrom new (length c.node.trace) rs → length c.node.trace + length rs ≡ length new.trace
    → AreReceiptsOf c rs (record { node = new; key = c.key; place = c.place })
receipts_of_made c [] new [] made calls long = λ i. record { node = made i; key = c.key; place = c.place }
receipts_of_made c [] new (r ∷ rs) made calls long =
    let same : length new.trace ≡ length c.node.trace = ap (λ (n : Kept). length n.trace) made in
    absurd (omega (arith, long, same))
receipts_of_made c (shift ∷ shifts) new [] made calls long =
    let adds = made_adds c.node (shift ∷ shifts) new made in
    let more : length new.trace ≡ length c.node.trace + length adds.more =
    ap length adds.trace ∙ length-append c.node.trace adds.more in
    absurd (omega (arith, long, more, adds.long))
receipts_of_made c (shift ∷ shifts) new (r ∷ rs) made calls long =
    let k = c.node in
    let entry = entry_for k (asked shift) [] in
    let rest = made_adds (after_call k (asked shift) []) shifts new made.1 in
    let there : slice_get new.trace (length k.trace) ≡ Some entry =
    ap (λ t. slice_get t (length k.trace)) (rest.trace ∙ append_assoc k.trace (entry ∷ []) rest.more)
    ∙ first_behind k.trace rest.more entry in
    let kept : slice_get new.trace (length k.trace) ≡ Some (call_from new.config.nodes (told r.entry)) =
    kept_is (nat_lt (length k.trace) new.from) (slice_get new.trace (length k.trace)) _ calls.2 in
    let is : call_from k.config.nodes (told r.entry) ≡ entry =
    ap (λ (config : Config). call_from config.nodes (told r.entry)) (sym rest.config)
    ∙ same_Some _ _ (sym kept ∙ there) in
    let node : r.node ≡ k.config.node = calls.0 ∙ ap (λ (config : Config). config.node) rest.config in
    let one : length (k.trace ++ entry ∷ []) ≡ length k.trace + 1 = length-append k.trace (entry ∷ []) in (
      after_shift c shift,
      shift_enters c shift r.entry made.0 is,
      (λ i. record { node = node i; index = calls.1 i; entry = r.entry }),
      receipts_of_made (after_shift c shift) shifts new rs made.1
          (subst (λ n. AreCallsFrom new n rs) (sym one) calls.3) (omega (arith, one, long)),
    )

-- the length of a trace with a call more
one_longer : (c e : Cell) (r : Receipt) → Enters c e r.entry → length e.node.trace ≡ length c.node.trace + 1
one_longer c e r enters = ap (λ (n : Kept). length n.trace) enters.records.2 ∙ length-append c.node.trace _

-- they are given the seat since its calls before
pub given_of : (config : Config) (seed : List ℕ) (seat : SeatState) (c : Cell) (rs : List Receipt) (d : Cell) →
    IsLawfulAt config seed c → ComesNext seat (length c.node.trace) → AreReceiptsOf c rs d →
    AreGivenSince config seed seat rs
given_of config seed seat c [] d lawful next are = tt
given_of config seed seat c (r ∷ rs) d lawful next are =
    let e = are.0 in
    let enters = are.1 in
    let index : r.index ≡ length c.node.trace = ap (λ (x : Receipt). x.index) are.2 in
    let config_is : e.node.config ≡ c.node.config = ap (λ (n : Kept). n.config) enters.records.2 in
    let longer = one_longer c e r enters in (
      (c, e, lawful, enters, are.2),
      (omega (arith, index, next.0), omega (arith, index, next.1)),
      given_of config seed (called seat r.index) e rs d
          (stays_lawful c e r.entry lawful.0 enters, config_is ∙ lawful.1, enters.key ∙ lawful.2)
          (omega (arith, longer, next.0), omega (arith, longer, index)) are.3,
    )

-- the seat that made these calls counts each, and its last one is the last of the trace
not_zero : (n : ℕ) → 0 < n → (n == 0) ≡ false
not_zero n some = grind (arith, nat_tests)

last_next : (r : Receipt) (c e : Cell) (rs : List Receipt) (d : Cell) → r ≡ receipt_of c r.entry → Enters c e r.entry →
    AreReceiptsOf e rs d → cond (length rs == 0) (r.index + 1) (length d.node.trace) ≡ length d.node.trace
last_next r c e [] d is enters are =
    let index : r.index ≡ length c.node.trace = ap (λ (x : Receipt). x.index) is in
    let longer = one_longer c e r enters in
    let same : length d.node.trace ≡ length e.node.trace = ap (λ (x : Cell). length x.node.trace) are in
    omega (arith, index, longer, same)
last_next r c e (q ∷ qs) d is enters are =
    ap (λ b. cond b (r.index + 1) (length d.node.trace)) (not_zero (length (q ∷ qs)) (omega arith))

after_next : (seat : SeatState) (c : Cell) (rs : List Receipt) (d : Cell) → AreReceiptsOf c rs d →
    (seat_after seat rs).next ≡ cond (length rs == 0) seat.next (length d.node.trace)
after_next seat c [] d are = refl
after_next seat c (r ∷ rs) d are =
    after_next (called seat r.index) are.0 rs d are.3
    ∙ last_next r c are.0 rs d are.2 are.1 are.3
    ∙ ap (λ b. cond b seat.next (length d.node.trace)) (sym (not_zero (length (r ∷ rs)) (omega arith)))

pub after_of : (had has : SeatState) (more : ℕ) (c : Cell) (rs : List Receipt) (d : Cell) → AreReceiptsOf c rs d →
    more ≡ length rs → AreCalled had more (length d.node.trace) has → has.given ≡ had.given → has ≡ seat_after had rs
after_of had has more c rs d are many counted given =
    let calls : has.calls ≡ (seat_after had rs).calls = let after = after_calls had rs in omega (arith, counted.0, many, after) in
    let next : has.next ≡ (seat_after had rs).next =
    counted.1
    ∙ ap (λ n. cond (n == 0) had.next (length d.node.trace)) many
    ∙ sym (after_next had c rs d are) in
    λ i. record { calls = calls i; given = (given ∙ sym (after_given had rs)) i; next = next i }

-- ---- a round

-- all shifts that are due are made, or the first ones
round_made : (was now : List Recalled) (c : Cell) (new : Kept) (result : Result ℕ NodeFault) (rs : List Receipt) →
    Shares was now c.node new result → AreCallsFrom new (length c.node.trace) rs →
    length c.node.trace + length rs ≡ length new.trace
    → AreReceiptsOf c rs (record { node = new; key = c.key; place = c.place })
round_made was now c new (Ok count) rs shares calls long =
    receipts_of_made c (shifts_due c.node was) new rs shares.1 calls long
round_made was now c new (Err fault) rs shares calls long =
    receipts_of_made c (take shares.0.0 (shifts_due c.node was)) new rs shares.0.1 calls long

module _ (config : Config) (seed : List ℕ) (keeps : Bool) (seats : ℕ) (had has : SeatState)
    (was now : List Recalled) where
  pub round_of : (answer : Result (Vec Receipt Global) AllocError) →
      IsBatch config seed keeps seats had has (λ k new. IfOk answer (λ rs. SharesWith was now k new rs.items)) →
      has.given ≡ had.given →
      IfOk answer (λ rs. IsRoundWith config seed keeps seats had has was now rs.items)
  round_of (Err e) batch kept = tt
  round_of (Ok rs) batch kept =
      let came = batch.came in
      let c = batch.before in
      let d = batch.after in
      let long = accepted_length c.node batch.asks d.node batch.entered.0 in
      let end : record { node = d.node; key = c.key; place = c.place } ≡ d =
      λ i. record { node = d.node; key = sym batch.entered.1 i; place = sym batch.entered.2 i } in
      let given : AreReceiptsOf c rs.items d =
      subst (AreReceiptsOf c rs.items) end (round_made was now c d.node came.0 rs.items came.1 came.2 came.3) in
      let same : length batch.asks ≡ length rs.items = let rest = came.3 in omega (arith, long, rest) in
      record {
        before = c;
        after = d;
        result = came.0;
        since = batch.since;
        given = given;
        counted = after_of had has (length batch.asks) c rs.items d given same batch.counted kept;
        came = came.1;
      }

  pub given_in : (answer : Result (Vec Receipt Global) AllocError) →
      IfOk answer (λ rs. IsRoundWith config seed keeps seats had has was now rs.items) →
      IfOk answer (λ rs. AreGivenSince config seed had rs.items)
  given_in (Err e) round = tt
  given_in (Ok rs) round =
      given_of config seed had round.before rs.items round.after round.since.0.lawful
      (round.since.0.since, round.since.1) round.given
