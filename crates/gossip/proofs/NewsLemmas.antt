-- Peers that are looked at, one after the other.
use Rattle.std.proofs.Common.{◌≡◌, ◌≤◌, ◌<◌, ℕ, ◌+◌, zero, suc, Bool, true, false, inl, inr, List, [], ◌∷◌, ◌++◌, length, map, take, drop, set, get_or, append_assoc, length-append, slice_set, subst, ap, sym, ◌∙◌, refl, arith}
use Rattle.std.proofs.lemmas.List.{map-append, append-nil}
use Rattle.std.proofs.lemmas.Grind.{flat_map-append}
use Rattle.node_steps.specs.declared.config.Config.{Config}
use Rattle.node_calls.specs.Asks.{bare_emit}
use Rattle.node_registry.specs.Seats.{SeatState}
use Rattle.gossip_pace.specs.declared.news.News.{News}
use Rattle.gossip_pace.specs.declared.news.Pace.{Pace}
use Rattle.gossip.specs.Attempts.{IsWhy, Tries, failed_by, failed_in, no_attempts, with_tries}
use Rattle.gossip.specs.declared.failures.Attempt.{Attempt}
use Rattle.gossip.specs.declared.failures.Attempt.TheVariants.{Sent, Failed}
use Rattle.gossip.specs.declared.failures.AttemptFault.{AttemptFault}
use Rattle.gossip.specs.declared.failures.AttemptFault.TheVariants.{Unreached}
use Rattle.gossip.specs.declared.report.GossipReport.{GossipReport}
use Rattle.gossip_pace.specs.News.{is_due, missed_pace, rested, told_pace}
use Rattle.gossip.specs.News.{AreLooked, IsSeen, nobody, left_alone, not_reached, told_it, missed_it}
use Rattle.gossip.specs.NewsRounds.{Breaks, IsEmpty, IsNewsBroken, IsNewsRound, Looks}
use Rattle.gossip.specs.Reports.{IsTold, calls_of, tried_of}
use Rattle.gossip.specs.Steps.{Adds, Moves, Stops}
use Rattle.gossip.specs.Traffic.{Traffic}
use Rattle.gossip.proofs.CarryLemmas.{carries_of, moves_as, moves_nothing, moves_then, stops_as, stops_then}
use Rattle.gossip.proofs.StepLemmas.{adds_as, adds_none, adds_then, part_of_all, told_of}

tries_then : (ts us : Tries) (attempts : List Attempt) →
    with_tries (ts ++ us) attempts ≡ with_tries us (with_tries ts attempts)
tries_then [] us attempts = refl
tries_then (t ∷ ts) us attempts = tries_then ts us (slice_set attempts t.0 t.1)

failed_then : (ts us : Tries) → failed_in (ts ++ us) ≡ failed_in ts ++ failed_in us
failed_then ts us = flat_map-append (λ (t : ℕ × Attempt). failed_by t.0 t.1) ts us

looked_then : {config : Config} {seed : List ℕ} {since : ℕ} {says : ℕ → Bool → Type 0} {ps qs ps' qs' : List Pace}
    {tos missed tos' missed' : List ℕ} {tries tries' : Tries} →
    AreLooked config seed since says ps qs tos missed tries → AreLooked config seed since says ps' qs' tos' missed' tries' →
    AreLooked config seed since says (ps ++ ps') (qs ++ qs') (tos ++ tos') (missed ++ missed') (tries ++ tries')
looked_then nobody more = more
looked_then (left_alone seen due rest) more = left_alone seen due (looked_then rest more)
looked_then (not_reached seen due away rest) more = not_reached seen due away (looked_then rest more)
looked_then (told_it seen due near rest) more = told_it seen due near (looked_then rest more)
looked_then (missed_it seen due near why rest) more = missed_it seen due near why (looked_then rest more)

-- what was seen behind so many calls was seen behind fewer
seen_since : (config : Config) (seed : List ℕ) (since later peer : ℕ) (n : News) → since ≤ later →
    IsSeen config seed later peer n → IsSeen config seed since peer n
seen_since config seed since later peer n le seen = (seen.0, seen.1, (let long = seen.2 in omega (arith, le, long)), seen.3)

looked_since : {config : Config} {seed : List ℕ} {since later : ℕ} {says : ℕ → Bool → Type 0} {ps qs : List Pace}
    {tos missed : List ℕ} {tries : Tries} → since ≤ later → AreLooked config seed later says ps qs tos missed tries →
    AreLooked config seed since says ps qs tos missed tries
looked_since le nobody = nobody
looked_since le (left_alone seen due rest) =
    left_alone (seen_since _ _ _ _ _ _ le seen) due (looked_since le rest)
looked_since le (not_reached seen due away rest) =
    not_reached (seen_since _ _ _ _ _ _ le seen) due away (looked_since le rest)
looked_since le (told_it seen due near rest) =
    told_it (seen_since _ _ _ _ _ _ le seen) due near (looked_since le rest)
looked_since le (missed_it seen due near why rest) =
    missed_it (seen_since _ _ _ _ _ _ le seen) due near why (looked_since le rest)

pub looks_since : {config : Config} {seed : List ℕ} {since later : ℕ} {says : ℕ → Bool → Type 0} {seat_was seat_now : SeatState}
    {was now : Traffic} {old new : GossipReport} {ps qs : List Pace} → since ≤ later →
    Looks config seed later says seat_was seat_now was now old new ps qs →
    Looks config seed since says seat_was seat_now was now old new ps qs
looks_since le p = record {
  tos = p.tos;
  missed = p.missed;
  tries = p.tries;
  looked = looked_since le p.looked;
  attempts = p.attempts;
  failures = p.failures;
  adds = p.adds;
  moves = p.moves;
  tried = p.tried;
  few = p.few;
  counted = p.counted;
}

pub breaks_since : {config : Config} {seed : List ℕ} {since later : ℕ} {says : ℕ → Bool → Type 0}
    {seat_was seat_now : SeatState} {was now : Traffic} {old new : GossipReport} {ps qs : List Pace} → since ≤ later →
    Breaks config seed later says seat_was seat_now was now old new ps qs →
    Breaks config seed since says seat_was seat_now was now old new ps qs
breaks_since le p = record {
  first = p.first;
  after = p.after;
  next = p.next;
  rest = p.rest;
  news = p.news;
  tos = p.tos;
  missed = p.missed;
  all = p.all;
  left = p.left;
  tries = p.tries;
  last = p.last;
  looked = looked_since le p.looked;
  attempts = p.attempts;
  seen = seen_since _ _ _ _ _ _ le p.seen;
  due = p.due;
  reached = p.reached;
  adds = p.adds;
  stops = p.stops;
}

-- nobody was looked at
pub looks_nobody : (config : Config) (seed : List ℕ) (since : ℕ) (says : ℕ → Bool → Type 0) (seat : SeatState) (now : Traffic)
    (report : GossipReport) →
    Looks config seed since says seat seat now now report report [] []
looks_nobody config seed since says seat now report = record {
  tos = [];
  missed = [];
  tries = [];
  looked = nobody;
  attempts = refl;
  failures = sym (append-nil report.failed.items);
  adds = adds_none _ _ _ _ _ _ _ refl refl refl refl refl refl refl refl;
  moves = moves_nothing refl refl refl refl refl refl;
  tried = omega arith;
  few = omega arith;
  counted = omega arith;
}

-- a peer is left alone, told, or missed
pub looks_away : {config : Config} {seed : List ℕ} {since : ℕ} {says : ℕ → Bool → Type 0} {seat : SeatState} {now : Traffic}
    {report : GossipReport} (p after : Pace)
    (n : News) → IsSeen config seed since p.node n → is_due p n ≡ false → after ≡ rested p →
    Looks config seed since says seat seat now now report report (p ∷ []) (after ∷ [])
looks_away {config = config} {seed = seed} {since = since} {says = says} {report = report} p after n seen due is = record {
  tos = [];
  missed = [];
  tries = [];
  looked = subst (λ q. AreLooked config seed since says (p ∷ []) (q ∷ []) [] [] []) (sym is) (left_alone seen due nobody);
  attempts = refl;
  failures = sym (append-nil report.failed.items);
  adds = adds_none _ _ _ _ _ _ _ refl refl refl refl refl refl refl refl;
  moves = moves_nothing refl refl refl refl refl refl;
  tried = omega arith;
  few = omega arith;
  counted = omega arith;
}

pub looks_unreached : {config : Config} {seed : List ℕ} {since : ℕ} {says : ℕ → Bool → Type 0} {seat : SeatState} {was now : Traffic}
    {old new : GossipReport}
    (p after : Pace) (n : News) → IsSeen config seed since p.node n → is_due p n ≡ true → says p.node false → now ≡ was →
    after ≡ missed_pace p → new.attempts ≡ slice_set old.attempts p.node (Failed Unreached) →
    new.receipts.items ≡ old.receipts.items → new.emitted ≡ old.emitted → new.delivered ≡ old.delivered →
    new.lost ≡ old.lost → new.refused ≡ old.refused → new.failed.items ≡ old.failed.items →
    new.rejected.items ≡ old.rejected.items → new.noted ≡ old.noted → new.ended ≡ old.ended →
    Looks config seed since says seat seat was now old new (p ∷ []) (after ∷ [])
looks_unreached {config = config} {seed = seed} {since = since} {says = says} {old = old} p after n seen due away same is attempts
    receipts emitted delivered lost refused failed rejected noted ended = record {
      tos = [];
      missed = [];
      tries = (p.node, Failed Unreached) ∷ [];
      looked = subst (λ q. AreLooked config seed since says (p ∷ []) (q ∷ []) [] [] ((p.node, Failed Unreached) ∷ []))
          (sym is) (not_reached seen due away nobody);
      attempts = attempts;
      failures = failed ∙ sym (append-nil old.failed.items);
      adds = adds_none _ _ _ _ _ _ _ refl receipts emitted delivered ended refused noted rejected;
      moves = moves_nothing same receipts lost refused failed rejected;
      tried = omega (arith, emitted, refused);
      few = omega (arith, emitted, delivered, refused);
      counted = omega (arith, lost, refused);
    }

-- from traffic that is the same
pub looks_from : {config : Config} {seed : List ℕ} {since : ℕ} {says : ℕ → Bool → Type 0} {seat_was seat_now : SeatState}
    {was amid now : Traffic}
    {old new : GossipReport} {ps qs : List Pace} → amid ≡ was →
    Looks config seed since says seat_was seat_now amid now old new ps qs →
    Looks config seed since says seat_was seat_now was now old new ps qs
looks_from {config = config} {seed = seed} {since = since} {says = says} {seat_was = seat_was} {seat_now = seat_now} {now = now}
    {old = old} {new = new}
    {ps = ps} {qs = qs} same p = subst (λ t. Looks config seed since says seat_was seat_now t now old new ps qs) same p

pub breaks_from : {config : Config} {seed : List ℕ} {since : ℕ} {says : ℕ → Bool → Type 0} {seat_was seat_now : SeatState}
    {was amid now : Traffic}
    {old new : GossipReport} {ps qs : List Pace} → amid ≡ was →
    Breaks config seed since says seat_was seat_now amid now old new ps qs →
    Breaks config seed since says seat_was seat_now was now old new ps qs
breaks_from {config = config} {seed = seed} {since = since} {says = says} {seat_was = seat_was} {seat_now = seat_now} {now = now}
    {old = old} {new = new}
    {ps = ps} {qs = qs} same p = subst (λ t. Breaks config seed since says seat_was seat_now t now old new ps qs) same p

pub looks_told : {config : Config} {seed : List ℕ} {since : ℕ} {says : ℕ → Bool → Type 0} {seat_was seat_now : SeatState}
    {was now : Traffic} {old new : GossipReport}
    (p after : Pace) (n : News) → IsSeen config seed since p.node n → is_due p n ≡ true → says p.node true →
    after ≡ told_pace p n →
    Adds config seed seat_was seat_now old new (bare_emit p.node ∷ []) →
    Moves config seed was now old new (p.node ∷ []) [] →
    tried_of old + 1 ≤ tried_of new → calls_of new ≤ calls_of old + 1 →
    new.lost + new.refused ≡ old.lost + old.refused →
    new.attempts ≡ slice_set old.attempts p.node Sent → new.failed.items ≡ old.failed.items →
    Looks config seed since says seat_was seat_now was now old new (p ∷ []) (after ∷ [])
looks_told {config = config} {seed = seed} {since = since}
    {says = says} {old = old} p after n seen due near is adds moves tried few counted attempts failed = record {
      tos = p.node ∷ [];
      missed = [];
      tries = (p.node, Sent) ∷ [];
      looked = subst (λ q. AreLooked config seed since says (p ∷ []) (q ∷ []) (p.node ∷ []) []
          ((p.node, Sent) ∷ [])) (sym is) (told_it seen due near nobody);
      attempts = attempts;
      failures = failed ∙ sym (append-nil old.failed.items);
      adds = adds;
      moves = moves;
      tried = tried;
      few = few;
      counted = omega (arith, counted);
    }

pub looks_missed : {config : Config} {seed : List ℕ} {since : ℕ} {says : ℕ → Bool → Type 0} {seat_was seat_now : SeatState}
    {was now : Traffic} {old new : GossipReport}
    (p after : Pace) (n : News) (why : AttemptFault) → IsSeen config seed since p.node n → is_due p n ≡ true →
    says p.node true → IsWhy config seed p.node why → after ≡ missed_pace p →
    Adds config seed seat_was seat_now old new (bare_emit p.node ∷ []) →
    Moves config seed was now old new (p.node ∷ []) [] →
    tried_of old + 1 ≤ tried_of new → calls_of new ≤ calls_of old + 1 →
    new.lost + new.refused ≡ old.lost + old.refused + 1 →
    new.attempts ≡ slice_set old.attempts p.node (Failed why) →
    new.failed.items ≡ old.failed.items ++ failed_by p.node (Failed why) →
    Looks config seed since says seat_was seat_now was now old new (p ∷ []) (after ∷ [])
looks_missed {config = config} {seed = seed} {since = since}
    {says = says} {old = old} p after n why seen due near is_why is adds moves tried few counted attempts failed = record {
      tos = p.node ∷ [];
      missed = p.node ∷ [];
      tries = (p.node, Failed why) ∷ [];
      looked = subst (λ q. AreLooked config seed since says (p ∷ []) (q ∷ []) (p.node ∷ []) (p.node ∷ [])
          ((p.node, Failed why) ∷ [])) (sym is) (missed_it seen due near is_why nobody);
      attempts = attempts;
      failures = failed ∙ ap (λ l. old.failed.items ++ l) (sym (append-nil (failed_by p.node (Failed why))));
      adds = adds;
      moves = moves;
      tried = tried;
      few = few;
      counted = counted;
    }

-- and memory is refused
pub breaks_now : {config : Config} {seed : List ℕ} {since : ℕ} {says : ℕ → Bool → Type 0} {seat_was seat_now : SeatState}
    {was now : Traffic} {old new : GossipReport}
    (p : Pace) (n : News) → IsSeen config seed since p.node n → is_due p n ≡ true → says p.node true →
    Adds config seed seat_was seat_now old new (bare_emit p.node ∷ []) →
    Stops config seed was now old new (p.node ∷ []) →
    (last : Tries) × (new.attempts ≡ with_tries last old.attempts) →
    Breaks config seed since says seat_was seat_now was now old new (p ∷ []) (p ∷ [])
breaks_now p n seen due near adds stops attempts = record {
  first = [];
  after = [];
  next = p;
  rest = [];
  news = n;
  tos = [];
  missed = [];
  all = refl;
  left = refl;
  tries = [];
  last = attempts.0;
  looked = nobody;
  attempts = attempts.1;
  seen = seen;
  due = due;
  reached = near;
  adds = adds;
  stops = stops;
}

-- one after the other
pub looks_then : {config : Config} {seed : List ℕ} {since : ℕ} {says : ℕ → Bool → Type 0} {seat_was between seat_now : SeatState}
    {was amid now : Traffic}
    {old middle new : GossipReport} {ps qs ps' qs' : List Pace} →
    Looks config seed since says seat_was between was amid old middle ps qs →
    Looks config seed since says between seat_now amid now middle new ps' qs' →
    Looks config seed since says seat_was seat_now was now old new (ps ++ ps') (qs ++ qs')
looks_then {old = old} {ps = ps} {ps' = ps'} p q = record {
  tos = p.tos ++ q.tos;
  missed = p.missed ++ q.missed;
  tries = p.tries ++ q.tries;
  looked = looked_then p.looked q.looked;
  attempts = q.attempts ∙ ap (with_tries q.tries) p.attempts ∙ sym (tries_then p.tries q.tries old.attempts);
  failures = q.failures ∙ ap (λ l. l ++ failed_in q.tries) p.failures
      ∙ append_assoc old.failed.items (failed_in p.tries) (failed_in q.tries)
      ∙ ap (λ l. old.failed.items ++ l) (sym (failed_then p.tries q.tries));
  adds = adds_as (adds_then p.adds q.adds) (sym (map-append bare_emit p.tos q.tos));
  moves = moves_then p.moves q.moves;
  tried = omega (arith, p.tried, q.tried, length-append p.tos q.tos);
  few = omega (arith, p.few, q.few, length-append ps ps');
  counted = omega (arith, p.counted, q.counted, length-append p.missed q.missed);
}

pub breaks_then : {config : Config} {seed : List ℕ} {since : ℕ} {says : ℕ → Bool → Type 0} {seat_was between seat_now : SeatState}
    {was amid now : Traffic}
    {old middle new : GossipReport} {ps qs ps' qs' : List Pace} →
    Looks config seed since says seat_was between was amid old middle ps qs →
    Breaks config seed since says between seat_now amid now middle new ps' qs' →
    Breaks config seed since says seat_was seat_now was now old new (ps ++ ps') (qs ++ qs')
breaks_then {old = old} {ps = ps} {qs = qs} p q = record {
  first = ps ++ q.first;
  after = qs ++ q.after;
  next = q.next;
  rest = q.rest;
  news = q.news;
  tos = p.tos ++ q.tos;
  missed = p.missed ++ q.missed;
  all = ap (λ l. ps ++ l) q.all ∙ sym (append_assoc ps q.first (q.next ∷ q.rest));
  left = ap (λ l. qs ++ l) q.left ∙ sym (append_assoc qs q.after (q.next ∷ q.rest));
  tries = p.tries ++ q.tries;
  last = q.last;
  looked = looked_then p.looked q.looked;
  attempts = q.attempts ∙ ap (with_tries (q.tries ++ q.last)) p.attempts
      ∙ sym (tries_then p.tries (q.tries ++ q.last) old.attempts)
      ∙ ap (λ l. with_tries l old.attempts) (sym (append_assoc p.tries q.tries q.last));
  seen = q.seen;
  due = q.due;
  reached = q.reached;
  adds = adds_as (adds_then p.adds q.adds) (sym (map-append bare_emit p.tos (q.tos ++ q.next.node ∷ []))
      ∙ ap (map bare_emit) (sym (append_assoc p.tos q.tos (q.next.node ∷ []))));
  stops = stops_as (stops_then p.moves q.stops) (sym (append_assoc p.tos q.tos (q.next.node ∷ [])));
}

-- with more peers behind
pub breaks_before : {config : Config} {seed : List ℕ} {since : ℕ} {says : ℕ → Bool → Type 0} {seat_was seat_now : SeatState}
    {was now : Traffic} {old new : GossipReport}
    {ps qs : List Pace} → Breaks config seed since says seat_was seat_now was now old new ps qs → (rest : List Pace) →
    Breaks config seed since says seat_was seat_now was now old new (ps ++ rest) (qs ++ rest)
breaks_before p rest = record {
  first = p.first;
  after = p.after;
  next = p.next;
  rest = p.rest ++ rest;
  news = p.news;
  tos = p.tos;
  missed = p.missed;
  all = ap (λ l. l ++ rest) p.all ∙ append_assoc p.first (p.next ∷ p.rest) rest;
  left = ap (λ l. l ++ rest) p.left ∙ append_assoc p.after (p.next ∷ p.rest) rest;
  tries = p.tries;
  last = p.last;
  looked = p.looked;
  attempts = p.attempts;
  seen = p.seen;
  due = p.due;
  reached = p.reached;
  adds = p.adds;
  stops = p.stops;
}

-- ---- a list of which the first elements were written

pub taken_next : {X : Type 0} (xs : List X) (i : ℕ) (d : X) → i < length xs →
    take (suc i) xs ≡ take i xs ++ get_or xs i d ∷ []
taken_next [] i d lt = absurd (omega (arith, lt))
taken_next (x ∷ xs) zero d lt = refl
taken_next (x ∷ xs) (suc i) d lt = ap (λ l. x ∷ l) (taken_next xs i d (omega (arith, lt)))

pub taken_written : {X : Type 0} (xs : List X) (i : ℕ) (y : X) → i < length xs →
    take (suc i) (set xs i y) ≡ take i xs ++ y ∷ []
taken_written [] i y lt = absurd (omega (arith, lt))
taken_written (x ∷ xs) zero y lt = refl
taken_written (x ∷ xs) (suc i) y lt = ap (λ l. x ∷ l) (taken_written xs i y (omega (arith, lt)))

left_written : {X : Type 0} (xs : List X) (i : ℕ) (y : X) → drop (suc i) (set xs i y) ≡ drop (suc i) xs
left_written [] i y = refl
left_written (x ∷ xs) zero y = refl
left_written (x ∷ xs) (suc i) y = left_written xs i y

left_next : {X : Type 0} (xs : List X) (i : ℕ) → drop (suc i) xs ≡ drop 1 (drop i xs)
left_next [] zero = refl
left_next [] (suc i) = refl
left_next (x ∷ xs) zero = refl
left_next (x ∷ xs) (suc i) = left_next xs i

first_left : {X : Type 0} (xs : List X) (i : ℕ) (d : X) → get_or xs i d ≡ get_or (drop i xs) 0 d
first_left [] zero d = refl
first_left [] (suc i) d = refl
first_left (x ∷ xs) zero d = refl
first_left (x ∷ xs) (suc i) d = first_left xs i d

pub same_next : {X : Type 0} (xs zs : List X) (i : ℕ) (y : X) → drop i xs ≡ drop i zs →
    drop (suc i) (set xs i y) ≡ drop (suc i) zs
same_next xs zs i y same = left_written xs i y ∙ left_next xs i ∙ ap (drop 1) same ∙ sym (left_next zs i)

pub same_first : {X : Type 0} (xs zs : List X) (i : ℕ) (d : X) → drop i xs ≡ drop i zs → get_or xs i d ≡ get_or zs i d
same_first xs zs i d same = first_left xs i d ∙ ap (λ l. get_or l 0 d) same ∙ sym (first_left zs i d)

joined : {X : Type 0} (xs : List X) (i : ℕ) → take i xs ++ drop i xs ≡ xs
joined [] zero = refl
joined [] (suc i) = refl
joined (x ∷ xs) zero = refl
joined (x ∷ xs) (suc i) = ap (λ l. x ∷ l) (joined xs i)

looks_as : {config : Config} {seed : List ℕ} {since : ℕ} {says : ℕ → Bool → Type 0} {seat_was seat_now : SeatState} {was now : Traffic}
    {old new : GossipReport}
    {ps qs ps' qs' : List Pace} → Looks config seed since says seat_was seat_now was now old new ps qs → ps ≡ ps' → qs ≡ qs' →
    Looks config seed since says seat_was seat_now was now old new ps' qs'
looks_as {config = config} {seed = seed} {since = since} {says = says} {seat_was = seat_was} {seat_now = seat_now} {was = was}
    {now = now}
    {old = old} {new = new} {qs = qs} {ps' = ps'} p before after =
    subst (λ l. Looks config seed since says seat_was seat_now was now old new ps' l) after
    (subst (λ l. Looks config seed since says seat_was seat_now was now old new l qs) before p)

breaks_as : {config : Config} {seed : List ℕ} {since : ℕ} {says : ℕ → Bool → Type 0} {seat_was seat_now : SeatState} {was now : Traffic}
    {old new : GossipReport}
    {ps qs ps' qs' : List Pace} → Breaks config seed since says seat_was seat_now was now old new ps qs → ps ≡ ps' →
    qs ≡ qs' →
    Breaks config seed since says seat_was seat_now was now old new ps' qs'
breaks_as {config = config} {seed = seed} {since = since} {says = says} {seat_was = seat_was} {seat_now = seat_now} {was = was}
    {now = now}
    {old = old} {new = new} {qs = qs} {ps' = ps'} p before after =
    subst (λ l. Breaks config seed since says seat_was seat_now was now old new ps' l) after
    (subst (λ l. Breaks config seed since says seat_was seat_now was now old new l qs) before p)

next_is : (i : ℕ) → i + 1 ≡ suc i
next_is i = omega arith

-- one more of the peers is looked at, or memory is refused there
pub looks_on : {config : Config} {seed : List ℕ} {since : ℕ} {says : ℕ → Bool → Type 0} {seat_was between seat_now : SeatState}
    {was amid now : Traffic}
    {old middle new : GossipReport} (ps qs : List Pace) (i : ℕ) (none after : Pace) → i < length qs →
    length qs ≡ length ps →
    drop i qs ≡ drop i ps → Looks config seed since says seat_was between was amid old middle (take i ps) (take i qs) →
    Looks config seed since says between seat_now amid now middle new (get_or qs i none ∷ []) (after ∷ []) →
    Looks config seed since says seat_was seat_now was now old new (take (i + 1) ps) (take (i + 1) (set qs i after))
looks_on ps qs i none after lt long same p q =
    let first : take i ps ++ get_or qs i none ∷ [] ≡ take (i + 1) ps =
    ap (λ x. take i ps ++ x ∷ []) (same_first qs ps i none same) ∙ sym (taken_next ps i none (omega (arith, lt, long)))
    ∙ ap (λ k. take k ps) (sym (next_is i)) in
    let then_after : take i qs ++ after ∷ [] ≡ take (i + 1) (set qs i after) =
    sym (taken_written qs i after lt) ∙ ap (λ k. take k (set qs i after)) (sym (next_is i)) in
    looks_as (looks_then p q) first then_after

pub breaks_on : {config : Config} {seed : List ℕ} {since : ℕ} {says : ℕ → Bool → Type 0} {seat_was between seat_now : SeatState}
    {was amid now : Traffic}
    {old middle new : GossipReport} (ps qs : List Pace) (i : ℕ) (none : Pace) → i < length qs → length qs ≡ length ps →
    drop i qs ≡ drop i ps → Looks config seed since says seat_was between was amid old middle (take i ps) (take i qs) →
    Breaks config seed since says between seat_now amid now middle new (get_or qs i none ∷ []) (get_or qs i none ∷ []) →
    Breaks config seed since says seat_was seat_now was now old new ps (set qs i (get_or qs i none))
breaks_on ps qs i none lt long same p q =
    let x : Pace = get_or qs i none in
    let before : (take i ps ++ x ∷ []) ++ drop (suc i) ps ≡ ps =
    ap (λ y. (take i ps ++ y ∷ []) ++ drop (suc i) ps) (same_first qs ps i none same)
    ∙ ap (λ l. l ++ drop (suc i) ps) (sym (taken_next ps i none (omega (arith, lt, long)))) ∙ joined ps (suc i) in
    let after : (take i qs ++ x ∷ []) ++ drop (suc i) ps ≡ set qs i x =
    ap (λ l. l ++ drop (suc i) ps) (sym (taken_written qs i x lt))
    ∙ ap (λ l. take (suc i) (set qs i x) ++ l) (sym (same_next qs ps i x same)) ∙ joined (set qs i x) (suc i) in
    breaks_as (breaks_before (breaks_then p q) (drop (suc i) ps)) before after

pub same_on : (ps qs : List Pace) (i : ℕ) (after : Pace) → drop i qs ≡ drop i ps →
    drop (i + 1) (set qs i after) ≡ drop (i + 1) ps
same_on ps qs i after same =
    ap (λ k. drop k (set qs i after)) (next_is i) ∙ same_next qs ps i after same ∙ ap (λ k. drop k ps) (sym (next_is i))

-- ---- a report of all

-- all peers were looked at, and what came was taken in
pub news_round : {config : Config} {seed : List ℕ} {since : ℕ} {says : ℕ → Bool → Type 0} {seat_was between seat_now : SeatState}
    {was amid now : Traffic}
    {old middle new : GossipReport} {ps qs : List Pace} → IsEmpty old →
    Looks config seed since says seat_was between was amid old middle ps qs →
    Adds config seed between seat_now middle new [] →
    tried_of middle ≤ tried_of new → Moves config seed amid now middle new [] [] →
    new.attempts ≡ middle.attempts → new.failed.items ≡ middle.failed.items →
    IsNewsRound config seed since says was now ps qs new
news_round empty p adds tried moves same failed = record {
  tos = p.tos;
  missed = p.missed;
  tries = p.tries;
  looked = p.looked;
  attempts = same ∙ p.attempts ∙ ap (with_tries p.tries) empty.attempts;
  failures = failed ∙ p.failures ∙ ap (λ l. l ++ failed_in p.tries) empty.failed;
  asks = part_of_all (adds_as (adds_then p.adds adds) (append-nil (map bare_emit p.tos))) empty.receipts;
  tried = omega (arith, p.tried, tried);
  counted = omega (arith, p.counted, moves.lost_more, moves.refused_more);
  carries = carries_of (moves_as (moves_then p.moves moves) (append-nil p.tos)) empty.receipts empty.lost empty.refused
      empty.failed empty.rejected;
}

pub told_by_looks : {config : Config} {seed : List ℕ} {since : ℕ} {says : ℕ → Bool → Type 0} {seat_was between seat_now : SeatState}
    {was amid : Traffic}
    {old middle new : GossipReport} {ps qs : List Pace} → IsEmpty old →
    Looks config seed since says seat_was between was amid old middle ps qs →
    Adds config seed between seat_now middle new [] →
    IsTold config seed seat_was seat_now new
told_by_looks empty p adds = told_of (adds_then p.adds adds) empty.receipts empty.emitted empty.delivered
    empty.refused empty.noted empty.rejected

-- memory was refused at a peer
pub news_broken : {config : Config} {seed : List ℕ} {since : ℕ} {says : ℕ → Bool → Type 0} {seat_was seat_now : SeatState}
    {was now : Traffic} {old new : GossipReport}
    {ps qs : List Pace} → IsEmpty old → Breaks config seed since says seat_was seat_now was now old new ps qs →
    IsNewsBroken config seed since says was now ps qs new
news_broken empty p = record {
  first = p.first;
  after = p.after;
  rest = p.next ∷ p.rest;
  next = p.next.node ∷ [];
  tos = p.tos;
  missed = p.missed;
  made = p.stops.0;
  left = p.stops.1;
  all = p.all;
  rest_stays = p.left;
  tries = p.tries;
  last = p.last;
  looked = p.looked;
  attempts = p.attempts ∙ ap (with_tries (p.tries ++ p.last)) empty.attempts;
  next_due = inr (p.next, p.news, p.rest, refl, p.seen, p.due, p.reached, refl);
  asks = part_of_all p.adds empty.receipts;
  few_left = p.stops.3;
  begins = p.stops.2;
  carries = carries_of p.stops.4 empty.receipts empty.lost empty.refused empty.failed empty.rejected;
}

-- or while what came was taken in
pub news_unheard : {config : Config} {seed : List ℕ} {since : ℕ} {says : ℕ → Bool → Type 0} {seat_was between seat_now : SeatState}
    {was amid now : Traffic}
    {old middle new : GossipReport} {ps qs : List Pace} → IsEmpty old →
    Looks config seed since says seat_was between was amid old middle ps qs →
    Adds config seed between seat_now middle new [] →
    Stops config seed amid now middle new [] → new.attempts ≡ middle.attempts →
    IsNewsBroken config seed since says was now ps qs new
news_unheard {ps = ps} {qs = qs} empty p adds stops same =
    let all = stops_then p.moves stops in
    record {
      first = ps;
      after = qs;
      rest = [];
      next = [];
      tos = p.tos;
      missed = p.missed;
      made = all.0;
      left = all.1;
      all = sym (append-nil ps);
      rest_stays = sym (append-nil qs);
      tries = p.tries;
      last = [];
      looked = p.looked;
      attempts = same ∙ p.attempts ∙ ap (with_tries p.tries) empty.attempts
          ∙ ap (λ l. with_tries l no_attempts) (sym (append-nil p.tries));
      next_due = inl refl;
      asks = part_of_all (adds_as (adds_then p.adds adds) (sym (map-append bare_emit p.tos []))) empty.receipts;
      few_left = all.3;
      begins = all.2;
      carries = carries_of all.4 empty.receipts empty.lost empty.refused empty.failed empty.rejected;
    }
