-- The piece that was handed out with a call ends with that call.
use Rattle.std.proofs.Common.{◌≡◌, ℕ, zero, suc, ◌+◌, ◌-◌, ◌≤◌, ◌^◌, ◌==◌, Bool, List, [], ◌∷◌, ◌++◌, length, map, drop, Option, Some, None, Result, Ok, Err, refl, sym, ap, ◌∙◌, subst, arith, length-append}
use Rattle.std.specs.Prelude.{IfOk, if◌then◌else◌, option_map, slice_get}
use Rattle.std.proofs.Math.Dec.{eqb-suc-zero}
use Rattle.std.proofs.lemmas.List.{length-drop, length-map}
use Rattle.std.proofs.lemmas.Option.{none-some, same_Some, slice_get-map}
use Rattle.node_calls.specs.declared.ask.Ask.{Ask}
use Rattle.node_calls.specs.declared.reply.Reply.{Reply}
use Rattle.node_calls.specs.declared.trace.Entry.{Entry}
use Rattle.node_calls.specs.declared.fault.NodeFault.{NodeFault}
use Rattle.node_calls.specs.Asks.{Asked, Call, call_from}
use Rattle.node_calls.specs.Told.{Told, told}
use Rattle.node_core.specs.Traces.{Kept, call_of}
use Rattle.node_registry.specs.declared.guarded.Piece.{Piece}
use Rattle.node_steps.specs.declared.config.Config.{Config}
use Rattle.node_registry.specs.Batches.{AreEntered}
use Rattle.node_registry.specs.Cells.{Cell, Enters, IsCellOf, cell_without_kept, next_words}
use Rattle.node_registry.specs.Pieces.{GivesCall, HasBytes, IsGivenBatch, IsGivenCall, IsPieceOf}
use Rattle.node_registry.specs.Seats.{AreCalled, SeatState, called, gave}
use Rattle.node_registry.proofs.AcceptedBatches.{accepted_length}
use Rattle.node_registry.proofs.ToldCalls.{told_once}

get_at_end : {A : Type 0} (xs : List A) (x : A) → slice_get (xs ++ x ∷ []) (length xs) ≡ Some x
get_at_end [] x = refl
get_at_end (y ∷ xs) x = get_at_end xs x

last_dropped : {A : Type 0} (xs : List A) (x : A) (from : ℕ) → from ≤ length xs →
    slice_get (drop from (xs ++ x ∷ [])) (length xs - from) ≡ Some x
last_dropped xs x zero h =
    let same : length xs - 0 ≡ length xs = omega arith in
    ap (slice_get (xs ++ x ∷ [])) same ∙ get_at_end xs x
last_dropped [] x (suc from) h = absurd (omega (arith, h))
last_dropped (y ∷ xs) x (suc from) h =
    let same : length (y ∷ xs) - suc from ≡ length xs - from = omega arith in
    ap (slice_get (drop from (xs ++ x ∷ []))) same ∙ last_dropped xs x from (omega (arith, h))

module _ (c d : Cell) (e : Entry) (p : Piece) (enters : Enters c d e) (within : c.node.from ≤ length c.node.trace)
    (given : IsPieceOf d p) where
  trace : d.node.trace ≡ c.node.trace ++ call_of c.node e ∷ []
  trace = ap (λ (k : Kept). k.trace) enters.records.2
      ∙ ap (λ (x : Call). c.node.trace ++ x ∷ []) (sym enters.records.1)

  from : d.node.from ≡ c.node.from
  from = ap (λ (k : Kept). k.from) enters.records.2

  calls : map (call_from c.node.config.nodes) p.trace.calls ≡ drop c.node.from (c.node.trace ++ call_of c.node e ∷ [])
  calls = ap (λ (k : Kept). map (call_from k.config.nodes) p.trace.calls) (sym enters.records.2) ∙ given.1
      ∙ ap (λ n. drop n d.node.trace) from ∙ ap (drop c.node.from) trace

  begins : p.from ≡ c.node.from
  begins = given.0 ∙ from

  many : p.from + length p.trace.calls ≡ length c.node.trace + 1
  many =
      let each = length-map p.trace.calls (call_from c.node.config.nodes) in
      let same = ap length calls in
      let left = length-drop c.node.from (c.node.trace ++ call_of c.node e ∷ []) in
      let all : length (c.node.trace ++ call_of c.node e ∷ []) ≡ length c.node.trace + 1 = length-append c.node.trace _ in
      let first = begins in
      omega (arith, each, same, left, all, first, within)

  there : option_map (call_from c.node.config.nodes) (slice_get p.trace.calls (length c.node.trace - c.node.from))
      ≡ Some (call_of c.node e)
  there = sym (slice_get-map (call_from c.node.config.nodes) p.trace.calls (length c.node.trace - c.node.from))
      ∙ ap (λ (l : List Call). slice_get l (length c.node.trace - c.node.from)) calls
      ∙ last_dropped c.node.trace (call_of c.node e) c.node.from within

  pub gives_call : (ask : Ask) (reply : Reply) → e.ask ≡ ask → e.reply ≡ reply → c.node.config.nodes ≤ 2 ^ 8 →
      HasBytes (told e) → ((t : Told) → slice_get p.trace.calls (length p.trace.calls - 1) ≡ Some t → HasBytes t) →
      GivesCall c d ask reply p
  gives_call ask reply asked answered few fits last = record {
    entry = e;
    asked = asked;
    answered = answered;
    entered = enters;
    given = given;
    call = (omega (arith, begins, within), ap (slice_get p.trace.calls) from_first ∙ at (slice_get p.trace.calls (length c.node.trace - c.node.from)) refl);
    last = many;
  }
    where
      from_first : length c.node.trace - p.from ≡ length c.node.trace - c.node.from
      from_first = let first = begins in omega (arith, first)

      at_last : length c.node.trace - c.node.from ≡ length p.trace.calls - 1
      at_last = let all = many in let first = begins in omega (arith, all, first, within)

      at : (found : Option Told) → slice_get p.trace.calls (length c.node.trace - c.node.from) ≡ found → slice_get p.trace.calls (length c.node.trace - c.node.from) ≡ Some (told e)
      at None is = absurd (none-some _ (sym (ap (option_map (call_from c.node.config.nodes)) is) ∙ there))
      at (Some t) is =
          let same : call_from c.node.config.nodes t ≡ call_of c.node e =
          same_Some _ _ (sym (ap (option_map (call_from c.node.config.nodes)) is) ∙ there) in
          is ∙ ap (λ (u : Told). Some u) (told_once c.node.config.nodes few c.node d.node (next_words c (call_of c.node e).ask) t (told e) refl
          enters.records (last t (sym (ap (slice_get p.trace.calls) at_last) ∙ is)) fits same)

-- a seat that handed calls out has the same ones
pub held_as : (config : Config) (seed : List ℕ) (keeps : Bool) (seats : ℕ) (mid has : SeatState) (more : ℕ) (d : Cell) →
    has ≡ gave mid more → IsCellOf config seed keeps seats mid d → IsCellOf config seed keeps seats has d
held_as config seed keeps seats mid has more d is h =
    let calls = ap (λ (s : SeatState). s.calls) is in
    let since = h.since in
    record {
      lawful = h.lawful;
      since = omega (arith, calls, since);
      alone = λ one. calls ∙ h.alone one;
      kept = h.kept;
    }

-- ---- once the lock is let go

grown : (c d : Cell) (e : Entry) → Enters c d e → length d.node.trace ≡ length c.node.trace + 1
grown c d e enters = ap (λ (k : Kept). length k.trace) enters.records.2 ∙ length-append c.node.trace _

module _ (config : Config) (seed : List ℕ) (keeps : Bool) (seats : ℕ) (had has : SeatState) (c new : Cell)
    (since : IsCellOf config seed keeps seats had c) (next : had.next ≤ length c.node.trace) where
  -- what was handed out with a call
  pub given_call : (ask : Ask) (r : Result (Reply × Piece) NodeFault)
      → IfOk r (λ x. (d : Cell) × GivesCall c d ask x.0 x.1 × (new ≡ cell_without_kept d) × IsCellOf config seed keeps seats has d)
      → IfOk r (λ x. has ≡ gave (called had (length c.node.trace)) (length x.1.trace.calls))
      → IfOk r (λ x. IsGivenCall config seed keeps seats had has ask x.0 x.1)
  given_call ask (Ok x) (d, gives, kept, held) counted =
      let more = grown c d gives.entry gives.entered in
      let at = ap (λ (s : SeatState). s.next) counted in
      record {
        before = c;
        after = d;
        since = (since, next);
        held = (held, omega (arith, more, at));
        gives = gives;
        counted = counted;
      }
  given_call ask (Err fault) given counted = tt

  next_within : (more all old new : ℕ) → new ≡ (if more == 0 then old else all) → old ≤ all → new ≤ all
  next_within zero all old new is h = omega (arith, is, h)
  next_within (suc n) all old new is h =
      let at : new ≡ all = is ∙ ap (λ (b : Bool). if b then old else all) (eqb-suc-zero n) in
      omega (arith, at)

  -- and with a batch
  pub given_batch : (comes : Kept → Kept → Type 0) (p : Piece)
      → ((d : Cell) × (asks : List Asked) × AreEntered c asks d
      × AreCalled had (length asks) (length d.node.trace) has
      × comes c.node d.node × IsPieceOf d p × (new ≡ cell_without_kept d) × IsCellOf config seed keeps seats has d)
      → has.given ≡ had.given + length p.trace.calls
      → IsGivenBatch config seed keeps seats had has comes p
  given_batch comes p (d, asks, entered, counted, came, given, kept, held) handed =
      let more = accepted_length c.node asks d.node entered.0 in
      let before : had.next ≤ length d.node.trace = omega (arith, next, more) in
      record {
        before = c;
        after = d;
        asks = asks;
        since = (since, next);
        held = (held, next_within (length asks) (length d.node.trace) had.next has.next counted.1 before);
        entered = entered;
        counted = counted;
        handed = handed;
        came = came;
        given = given;
      }
