-- By what is kept of a body a node answers as by the whole.
use Rattle.std.proofs.Common.{◌≡◌, ◌∙◌, ℕ, ◌<◌, ◌≤◌, ◌↔◌, ◌⊎◌, Bool, true, false, List, [], ◌∷◌, length, Option, Some, None, Err, inl, inr, refl, sym, ap, subst, arith, nat_lt}
use Rattle.std.specs.Prelude.{if◌then◌else◌, not, bytes_eq, codes}
use Rattle.std.specs.Str.{is_utf8}
use Rattle.std.proofs.lemmas.Bool.Decides.{nat_tests}
use Rattle.refusals.specs.Refusals.{first_fault}
use Rattle.actions.specs.Reading.{reading}
use Rattle.actions.specs.SettingReading.{setting_reading}
use Rattle.actions.specs.declared.fault.ActionFault.TheVariants as action_faults
use Rattle.actions.specs.declared.fault.SettingFault.TheVariants as setting_faults
use Rattle.decimals.specs.Decimals.{number_of}
use Rattle.message_format.specs.Spelling.{max_message}
use Rattle.node_calls.specs.Asks as calls
use Rattle.node_calls.specs.Asks.{Asked}
use Rattle.node_calls.specs.Told.{delivers, grants, loads, removes, sets, shifts}
use Rattle.node_calls.specs.declared.fault.NodeFault.{NodeFault}
use Rattle.node_core.specs.Traces.{Kept, IsRefusalOf, refusal}
use Rattle.node_sharing.specs.Spread.{IsNoSetting, IsNotSetSpread}
use Rattle.http_routes.specs.Answers.{Comes, IsMade, IsRefused, IsRefusedSo, IsSetReplied}
use Rattle.http_routes.specs.Asked.{AskedValue, asked_at, asked_by, asked_of, keeps_of, grant_asked, known, max_amount, request_at, shift_asked}
use Rattle.http_routes.specs.Asked as asks
use Rattle.http_routes.specs.Bodies.{AreAlike, IsKept}
use Rattle.http_routes.specs.Paths.{TargetValue, target_of}
use Rattle.http_routes.specs.Paths as paths
use Rattle.http_routes.specs.Replies.{ReplyValue}
use Rattle.http_routes.specs.Requests.{WantedValue, call, call_of, sets_spread, texted, refused, texted_by, wanted_asked, wanted_from, wanted_known, wanted_of}
use Rattle.http_routes.specs.Requests as wants
use Rattle.http_routes.specs.Table.{has_method, includes, row_of}
use Rattle.http_routes.specs.declared.request.RequestFault.TheVariants as faults
use Rattle.http_routes.specs.declared.table.Keeps.{Keeps}
use Rattle.http_routes.specs.declared.table.Keeps.TheVariants.{Nothing, Text, Whole}
use Rattle.http_routes.specs.declared.table.RouteSet.{RouteSet}

same : (k : Kept) (wanted : WantedValue) → AreAlike k wanted wanted
same k wanted new given = (λ h. h, λ h. h)

-- ---- a text that is too long is refused alike, whatever it says

third : {F : Type 0} (a b : Option F) (fault : F) (rest : List (Option F)) →
    first_fault (a ∷ b ∷ Some fault ∷ rest) ≡ None → ⊥
third (Some x) b fault rest e = absurd (cc)
third None (Some y) fault rest e = absurd (cc)
third None None fault rest e = absurd (cc)

second : {F : Type 0} (a : Option F) (fault : F) (rest : List (Option F)) → first_fault (a ∷ Some fault ∷ rest) ≡ None → ⊥
second (Some x) fault rest e = absurd (cc)
second None fault rest e = absurd (cc)

long_text : (text : List ℕ) → 1024 < length text → reading text ≡ Err action_faults.TooLong
unfolding reading
long_text text long = let e : nat_lt 1024 (length text) ≡ true = grind (arith, nat_tests) in rw e refl

long_setting : (text : List ℕ) → 65536 < length text → setting_reading text ≡ Err setting_faults.TooLong
unfolding setting_reading
long_setting text long = let e : nat_lt 65536 (length text) ≡ true = grind (arith, nat_tests) in rw e refl

module _ (k : Kept) (name a b : List ℕ) (long-a : 1024 < length a) (long-b : 1024 < length b) where
  set_refused : (fault : NodeFault) → IsRefusalOf k (calls.Set name a) [] fault → IsRefusalOf k (calls.Set name b) [] fault
  set_refused fault (inl is) = inl is
  set_refused fault (inr is) = inr (rw (long_text b long-b) (rw (long_text a long-a) at is))

  no_set : refusal k (calls.Set name a) [] ≡ None → ⊥
  no_set e = third _ _ _ _ (rw (long_text a long-a) at e)

  set_as : (new : Kept) (given : ReplyValue) → Comes k (call (sets name a)) new given →
      Comes k (call (sets name b)) new given
  set_as new given (inl made) = absurd (no_set made.accepted.0)
  set_as new given (inr is) =
      inr (record { fault = is.fault; refused = set_refused is.fault is.refused; kept = is.kept; told = is.told })

  not_set : (new : Kept) (fault : NodeFault) → IsNotSetSpread k name a new fault → IsNotSetSpread k name b new fault
  not_set new fault (inl (stays, inl full)) = inl (stays, inl full)
  not_set new fault (inl (stays, inr (inl bad))) = inl (stays, inr (inl bad))
  not_set new fault (inl (stays, inr (inr is))) = inl (stays, inr (inr (set_refused fault is)))
  not_set new fault (inr stopped) = absurd (no_set stopped.accepted.0)

  spread_as : (new : Kept) (given : ReplyValue) → Comes k (sets_spread name a) new given →
      Comes k (sets_spread name b) new given
  spread_as new given (inl (inl replied)) = absurd (no_set replied.made.accepted.0)
  spread_as new given (inl (inr is)) =
      inl (inr (record { fault = is.fault; why = not_set new is.fault is.why; told = is.told }))
  spread_as new given (inr none) = inr none

module _ (k : Kept) (a b : List ℕ) (long-a : 65536 < length a) (long-b : 65536 < length b) where
  load_refused : (fault : NodeFault) → IsRefusalOf k (calls.Load a) [] fault → IsRefusalOf k (calls.Load b) [] fault
  load_refused fault (inl is) = inl is
  load_refused fault (inr is) = inr (rw (long_setting b long-b) (rw (long_setting a long-a) at is))

  load_as : (new : Kept) (given : ReplyValue) → Comes k (call (loads a)) new given → Comes k (call (loads b)) new given
  load_as new given (inl made) = absurd (second _ _ _ (rw (long_setting a long-a) at made.accepted.0))
  load_as new given (inr is) =
      inr (record { fault = is.fault; refused = load_refused is.fault is.refused; kept = is.kept; told = is.told })

-- ---- and so is what isn't a text

-- what is wanted with either of two texts is alike where both are too long
abbrev AreAlikeBeyond : Kept → (List ℕ → WantedValue) → ℕ → Type 0
AreAlikeBeyond k f longest = (a b : List ℕ) → longest < length a → longest < length b → AreAlike k (f a) (f b)

texted_by_same : (k : Kept) (f : List ℕ → WantedValue) (a b : List ℕ) (x y : Bool) → x ≡ y → AreAlike k (f a) (f b)
    → AreAlike k (texted_by f (if x then Some a else None)) (texted_by f (if y then Some b else None))
texted_by_same k f a b true true e alike = alike
texted_by_same k f a b false false e alike = same k (refused faults.BadText)
texted_by_same k f a b true false e alike = absurd (cc)
texted_by_same k f a b false true e alike = absurd (cc)

texted_alike : (k : Kept) (f : List ℕ → WantedValue) (longest : ℕ) (body kept : List ℕ) → AreAlikeBeyond k f longest
    → IsKept (Text longest) body kept → AreAlike k (texted f kept) (texted f body)
texted_alike k f longest body kept alike (inl (short, is)) = subst (λ t. AreAlike k (texted f t) (texted f body)) (sym is) (same k _)
texted_alike k f longest body kept alike (inr (long, many, texts)) =
    texted_by_same k f kept body (is_utf8 kept) (is_utf8 body) texts (alike kept body (omega (arith, many)) (omega (arith, long)))

set_alike : (k : Kept) (name : List ℕ) → AreAlikeBeyond k (call_of (sets name)) 1024
set_alike k name a b la lb new given =
    (set_as k name a b la lb new given, set_as k name b a lb la new given)

spread_alike : (k : Kept) (name : List ℕ) → AreAlikeBeyond k (sets_spread name) 1024
spread_alike k name a b la lb new given =
    (spread_as k name a b la lb new given, spread_as k name b a lb la new given)

load_alike : (k : Kept) → AreAlikeBeyond k (call_of loads) 65536
load_alike k a b la lb new given =
    (load_as k a b la lb new given, load_as k b a lb la new given)

-- ---- each route

known_alike : (k : Kept) (target : TargetValue) (is_put : Bool) (body kept : List ℕ) → IsKept (row_of target).keeps body kept
    → AreAlike k (wanted_known (known (request_at target is_put) (row_of target)) kept)
    (wanted_known (known (request_at target is_put) (row_of target)) body)
known_alike k paths.page is_put body kept is = same k (refused faults.NotFound)
known_alike k paths.points is_put body kept is = same k wants.list
known_alike k (paths.point name) true body kept is = texted_alike k _ 1024 body kept (set_alike k name) is
known_alike k (paths.point name) false body kept is = same k (call (removes name))
known_alike k paths.load is_put body kept is = texted_alike k _ 65536 body kept (load_alike k) is
known_alike k (paths.spread name) true body kept is = texted_alike k _ 1024 body kept (spread_alike k name) is
known_alike k (paths.spread name) false body kept is = same k (wants.spreads name)
known_alike k (paths.shift name term to amount) is_put body kept is =
    shift_alike (number_of 255 term) (number_of 255 to) (number_of max_amount amount)
  where
    shift_alike : (t o a : Option ℕ) → AreAlike k (wanted_of (shift_asked name t o a) kept) (wanted_of (shift_asked name t o a) body)
    shift_alike None o a = same k (refused faults.BadNumber)
    shift_alike (Some t) None a = same k (refused faults.BadNumber)
    shift_alike (Some t) (Some o) None = same k (refused faults.BadNumber)
    shift_alike (Some t) (Some o) (Some a) = same k (call (shifts name t o a))
known_alike k (paths.grant name term amount) is_put body kept is =
    grant_alike (number_of 255 term) (number_of max_amount amount)
  where
    grant_alike : (t a : Option ℕ) → AreAlike k (wanted_of (grant_asked name t a) kept) (wanted_of (grant_asked name t a) body)
    grant_alike None a = same k (refused faults.BadNumber)
    grant_alike (Some t) None = same k (refused faults.BadNumber)
    grant_alike (Some t) (Some a) = same k (call (grants name t a))
known_alike k paths.gossip is_put body kept is =
    subst (λ b. AreAlike k (call (delivers b)) (call (delivers body))) (sym is) (same k (call (delivers body)))
known_alike k paths.hello is_put body kept is = same k (refused faults.NotFound)
known_alike k paths.report is_put body kept is = same k wants.report
known_alike k paths.status is_put body kept is = same k wants.status
known_alike k paths.stop is_put body kept is = same k (refused faults.NotFound)

-- what is kept isn't longer than the longest body
kept_fits : (target : TargetValue) (body kept : List ℕ) → length body ≤ max_message → IsKept (row_of target).keeps body kept →
    length kept ≤ max_message
kept_fits target body kept fits is = by_keeps (row_of target).keeps is
  where
    by_keeps : (keeps : Keeps) → IsKept keeps body kept → length kept ≤ max_message
    by_keeps Nothing is = let e : length kept ≡ 0 = ap length is in omega (arith, e)
    by_keeps (Text longest) (inl (short, is)) = let e : length kept ≡ length body = ap length is in omega (arith, e)
    by_keeps (Text longest) (inr (long, many, texts)) = omega (arith, many)
    by_keeps Whole is = let e : length kept ≡ length body = ap length is in omega (arith, e)

asked_alike : (k : Kept) (set : RouteSet) (target : TargetValue) (method body kept : List ℕ) → length body ≤ max_message
    → IsKept (keeps_of (asked_at set target method)) body kept
    → AreAlike k (wanted_asked (asked_at set target method) kept) (wanted_asked (asked_at set target method) body)
asked_alike k set target method body kept fits = by_set (includes set (row_of target).set) refl
  where
    by_method : (b : Bool) → has_method (row_of target).methods method ≡ b → includes set (row_of target).set ≡ true
        → IsKept (keeps_of (asked_at set target method)) body kept
        → AreAlike k (wanted_asked (asked_at set target method) kept) (wanted_asked (asked_at set target method) body)
    by_method false e on is = rw on (rw e (same k (refused faults.BadMethod)))
    by_method true e on is =
        let is_kept = rw e at (rw on at is) in
        let short : nat_lt max_message (length body) ≡ false = grind (arith, nat_tests) in
        let fits' = kept_fits target body kept fits is_kept in
        let short' : nat_lt max_message (length kept) ≡ false = grind (arith, nat_tests) in
        rw on (rw e (rw short (rw short' (known_alike k target (bytes_eq method (codes "PUT")) body kept is_kept))))

    by_set : (b : Bool) → includes set (row_of target).set ≡ b → IsKept (keeps_of (asked_at set target method)) body kept
        → AreAlike k (wanted_asked (asked_at set target method) kept) (wanted_asked (asked_at set target method) body)
    by_set false e is = rw e (same k (refused faults.NotFound))
    by_set true e is = by_method (has_method (row_of target).methods method) refl e is

pub kept_alike : (k : Kept) (set : RouteSet) (method path body kept : List ℕ) → length body ≤ max_message
    → IsKept (keeps_of (asked_of set method path)) body kept
    → AreAlike k (wanted_from set method path kept) (wanted_from set method path body)
kept_alike k set method path body kept fits = by_target (target_of path) refl
  where
    by_target : (found : Option TargetValue) → target_of path ≡ found → IsKept (keeps_of (asked_of set method path)) body kept
        → AreAlike k (wanted_from set method path kept) (wanted_from set method path body)
    by_target None e is = rw e (same k (refused faults.NotFound))
    by_target (Some target) e is = rw e (asked_alike k set target method body kept fits (rw e at is))
