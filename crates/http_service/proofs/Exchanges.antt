-- How a body is read, piece by piece, to its end, and what an exchange gives by that.
use Rattle.std.proofs.Common.{◌≡◌, ℕ, List, [], ◌∷◌, ◌++◌, map, Option, Some, None, Result, Ok, Err, inl, inr, refl, sym, ap, ◌∙◌, subst, IfSome, IsFalse, IsTrue, MatchOption, append_assoc, append-nil}
use Rattle.std.specs.Prelude.{vec_capacity}
use Rattle.std.proofs.lemmas.List.{map-append}
use Rattle.std.proofs.lemmas.List.Concat.{flat_map-append}
use Rattle.futures.specs.Runs.{Runs, After, Within}
use Rattle.http_body.specs.declared.frame.Frame.{Frame}
use Rattle.http_body.specs.Frame.{bytes_in, joined_data}
use Rattle.http_body_util.specs.declared.limited.LimitedError.TheVariants.{LengthLimit, Body}
use Rattle.http.specs.declared.response.Response.{Response}
use Rattle.http_body_util.specs.declared.full.Full.{Full}
use Rattle.http_routes.specs.Asked.{RequestValue}
use Rattle.http_routes.specs.declared.table.Row.{Row}
use Rattle.http_routes.specs.declared.http_reply.HttpReply.{HttpReply}
use Rattle.http_routes.specs.Replies.{ReplyValue, IsReply, http_value}
use Rattle.hyper.specs.declared.error.Error.{Error}
use Rattle.http_service.specs.declared.exchange.Exchange.{Exchange}
use Rattle.http_service.specs.declared.exchange.Reading.{Reading}
use Rattle.http_service.specs.declared.exchange.Reading.TheVariants as readings
use Rattle.http_exchange.specs.declared.heads.Refusal.{Refusal}
use Rattle.http_exchange.specs.declared.labels.Labels.{Labels}
use Rattle.http_exchange.specs.Heads.{refusal_labels, refusal_reply}
use Rattle.http_exchange.specs.declared.kept_body.KeptBody.{KeptBody}
use Rattle.http_service.specs.Exchanges.{Piece, TakesIn, GoesOn, EndsSo, TakesFrom, GoesFrom, EndsFrom, IsAnswered, ReadsSo, Gives, GivesRead, IsRefused, Responds, asking_of, keeps_in, pieces_of}
use Rattle.http_exchange.specs.Keeping.{HasCome}

joined : (had : List ℕ) (fs gs : List (Frame (List ℕ))) → (had ++ joined_data fs) ++ joined_data gs ≡ had ++
    joined_data (fs ++ gs)
joined had fs gs = append_assoc had _ _ ∙ ap (λ (t : List ℕ). had ++ t)
    (sym (flat_map-append (λ (f : Frame (List ℕ)). bytes_in f.kind) fs gs))

module _ (source : Runs Piece) (had : List ℕ) where
  follow : (fs gs : List (Frame (List ℕ))) (last : Option Piece) → source (map Ok fs ++ map Ok gs) last →
      source (map Ok (fs ++ gs)) last
  follow fs gs last = subst (λ ys. source ys last) (sym (map-append Ok fs gs))

  -- nothing came yet
  pub goes_on_none : GoesOn source had source had
  goes_on_none = ([], sym (append-nil had), λ xs last h. h)

  -- one more frame came
  pub goes_on_one : (rest : Runs Piece) (has : List ℕ) (frame : Frame (List ℕ)) → After source (Ok frame) rest →
      has ≡ had ++ bytes_in frame.kind
      → GoesOn source had rest has
  goes_on_one rest has frame after add = (
    frame ∷ [],
    add ∙ ap (λ (t : List ℕ). had ++ t) (sym (append-nil (bytes_in frame.kind))),
    λ xs last h. after xs last h,
  )

  module _ (rest : Runs Piece) (has : List ℕ) (on : GoesOn source had rest has) where
    -- nothing came of it since
    pub goes_on_within : (new : Runs Piece) → Within rest new → GoesOn source had new has
    goes_on_within new within = (on.0, on.1, λ xs last h. on.2 xs last (within xs last h))

    pub goes_on_more : (new : Runs Piece) (more : List ℕ) → GoesOn rest has new more → GoesOn source had new more
    goes_on_more new more next = (
      on.0 ++ next.0,
      next.1 ∙ ap (λ (t : List ℕ). t ++ joined_data next.0) on.1 ∙ joined had on.0 next.0,
      λ xs last h.
          subst (λ ys. source ys last) (sym (append_assoc (map Ok on.0) (map Ok next.0) xs) ∙
          ap (λ (ys : List Piece). ys ++ xs) (sym (map-append Ok on.0 next.0)))
          (on.2 (map Ok next.0 ++ xs) last (next.2 xs last h)),
    )

    -- how it ends later is how it ends
    pub ends_later : (reading : Reading) (all : List ℕ) → EndsSo rest has reading all → EndsSo source had reading all
    ends_later readings.Whole all (gs, is, came) = (
      on.0 ++ gs,
      is ∙ ap (λ (t : List ℕ). t ++ joined_data gs) on.1 ∙ joined had on.0 gs,
      follow on.0 gs None (on.2 (map Ok gs) None came),
    )
    ends_later readings.TooLong all (gs, came) = (on.0 ++ gs, follow on.0 gs _ (on.2 (map Ok gs) _ came))
    ends_later (readings.Broken error) all (gs, came) = (on.0 ++ gs, follow on.0 gs _ (on.2 (map Ok gs) _ came))
    ends_later readings.NoMemory all ends = tt

  -- by this piece the reading ended so
  pub ends_by : (room : ℕ) (piece : Option Piece) (has : List ℕ) (reading : Reading) → source [] piece →
      TakesIn room piece had has (Some reading)
      → EndsSo source had reading has
  ends_by room None has reading came (is, same) =
      let whole : reading ≡ readings.Whole = cc in
      subst (λ r. EndsSo source had r has) (sym whole) ([], same ∙ sym (append-nil had), came)
  ends_by room (Some (Ok frame)) has reading came (inl (goes, more)) = absurd (cc)
  ends_by room (Some (Ok frame)) has reading came (inr (is, full)) =
      let none : reading ≡ readings.NoMemory = cc in
      subst (λ r. EndsSo source had r has) (sym none) tt
  ends_by room (Some (Err LengthLimit)) has reading came is =
      let long : reading ≡ readings.TooLong = cc in
      subst (λ r. EndsSo source had r has) (sym long) ([], came)
  ends_by room (Some (Err (Body error))) has reading came is =
      let broken : reading ≡ readings.Broken error = cc in
      subst (λ r. EndsSo source had r has) (sym broken) ([], came)

  -- by this piece it went on
  pub goes_by : (room : ℕ) (piece : Option Piece) (has : List ℕ) (rest : Runs Piece) →
      IfSome piece (λ x. After source x rest)
      → TakesIn room piece had has None → GoesOn source had rest has
  goes_by room None has rest after (is, same) = absurd (cc)
  goes_by room (Some (Ok frame)) has rest after (inl (goes, more)) = goes_on_one rest has frame after more
  goes_by room (Some (Ok frame)) has rest after (inr (is, full)) = absurd (cc)
  goes_by room (Some (Err LengthLimit)) has rest after is = absurd (cc)
  goes_by room (Some (Err (Body error))) has rest after is = absurd (cc)

-- the way of a body of which this is kept
module _ (source rest : Runs Piece) (old new : KeptBody) where
  -- nothing came of it since
  pub goes_within : (later : Runs Piece) → Within rest later → GoesFrom source old rest new → GoesFrom source old later new
  goes_within later within on keeps had h =
      let so = on keeps had h in
      (so.0, goes_on_within source had rest so.0 so.1 later within, so.2)

  -- one more piece came
  pub goes_piece : (piece : Option Piece) (later : Runs Piece) (now : KeptBody) → GoesFrom source old rest new
      → IfSome piece (λ x. After rest x later) → TakesFrom piece new now None → GoesFrom source old later now
  goes_piece piece later now on after takes keeps had h =
      let so = on keeps had h in
      let more = takes keeps so.0 so.2 in (
        more.0,
        goes_on_more source had rest so.0 so.1 later more.0
            (goes_by rest so.0 (vec_capacity new.read) piece more.0 later after more.1),
        more.2,
      )

  -- by one more piece it ended
  pub ends_piece : (piece : Option Piece) (reading : Reading) (now : KeptBody) → GoesFrom source old rest new
      → rest [] piece → TakesFrom piece new now (Some reading) → EndsFrom source old reading now
  ends_piece piece reading now on came takes keeps had h =
      let so = on keeps had h in
      let more = takes keeps so.0 so.2 in (
        more.0,
        ends_later source had rest so.0 so.1 reading more.0
            (ends_by rest so.0 (vec_capacity new.read) piece more.0 reading came more.1),
        more.2,
      )

-- what an exchange gives later is what it gives
module _ {I H R : Type 0} (answers : H → RequestValue → Row → List ℕ → ReplyValue → Type 0) where
  abbrev pub CameOf : Exchange I H R → List ℕ → Type 0
  CameOf e had = HasCome (keeps_in (asking_of e).question) e.kept had

  abbrev pub GivesOption : Exchange I H R → Result (Response (Full (List ℕ))) Error → Option Refusal → Type 0
  GivesOption e given refusal =
      MatchOption refusal ((had : List ℕ) → CameOf e had → GivesRead answers e had given)
      (λ refusal. IsRefused e.fields refusal given)

  ends_then : (old new : Exchange I H R) (had has : List ℕ) (reading : Reading) (all : List ℕ) → IsFalse old.is_too_long
      → new.is_too_long ≡ old.is_too_long → GoesOn (pieces_of old.body) had (pieces_of new.body) has
      → ReadsSo new has reading all → ReadsSo old had reading all
  ends_then old new had has reading all isnt told on (inl (is, long)) = absurd (cc)
  ends_then old new had has reading all isnt told on (inr (still, ends)) =
      inr (isnt, ends_later (pieces_of old.body) had (pieces_of new.body) has on reading all ends)

  read_later : (old new : Exchange I H R) (had has : List ℕ) (given : Result (Response (Full (List ℕ))) Error) →
      IsFalse old.is_too_long → new.is_too_long ≡ old.is_too_long → asking_of new ≡ asking_of old
      → GoesOn (pieces_of old.body) had (pieces_of new.body) has
      → GivesRead answers new has given → GivesRead answers old had given
  read_later old new had has given isnt told same on gives =
      record {
        reading = gives.reading;
        body = gives.body;
        ends = ends_then old new had has gives.reading gives.body isnt told on gives.ends;
        answered = subst (λ a. IsAnswered answers a gives.reading gives.body given) same gives.answered;
      }

  pub gives_later : (old new : Exchange I H R) (given : Result (Response (Full (List ℕ))) Error) →
      old.refusal ≡ None → new.refusal ≡ old.refusal → IsFalse old.is_too_long
      → new.is_too_long ≡ old.is_too_long → asking_of new ≡ asking_of old
      → GoesFrom (pieces_of old.body) old.kept (pieces_of new.body) new.kept
      → Gives answers new given →
      Gives answers old given
  gives_later old new given none stays isnt told same on gives =
      subst (GivesOption old given) (sym none) (λ had h.
      let next = on (keeps_in (asking_of old).question) had h in
      read_later old new had next.0 given isnt told same next.1
      ((subst (GivesOption new given) (stays ∙ none) gives) next.0
      (subst (λ a. HasCome (keeps_in a.question) new.kept next.0) (sym same) next.2)))

  -- by how its reading ended it is answered
  pub gives_read : (old mid : Exchange I H R) (reading : Reading) (given : Result (Response (Full (List ℕ))) Error)
      → old.refusal ≡ None → IsFalse old.is_too_long → asking_of mid ≡ asking_of old
      → EndsFrom (pieces_of old.body) old.kept reading mid.kept
      → ((came : List ℕ) → CameOf mid came → IsAnswered answers (asking_of mid) reading came given)
      → Gives answers old given
  gives_read old mid reading given none isnt same ends answered =
      subst (GivesOption old given) (sym none) (λ had h.
      let end = ends (keeps_in (asking_of old).question) had h in
      record {
        reading = reading;
        body = end.0;
        ends = inr (isnt, end.1);
        answered = subst (λ a. IsAnswered answers a reading end.0 given) same
            (answered end.0 (subst (λ a. HasCome (keeps_in a.question) mid.kept end.0) (sym same) end.2));
      })

  -- a body whose length is declared as too long is rejected as too long
  pub gives_long : (old : Exchange I H R) (given : Result (Response (Full (List ℕ))) Error)
      → old.refusal ≡ None → IsTrue old.is_too_long
      → ((came : List ℕ) → CameOf old came → IsAnswered answers (asking_of old) readings.TooLong came given)
      → Gives answers old given
  gives_long old given none is answered =
      subst (GivesOption old given) (sym none) (λ had h.
      record { reading = readings.TooLong; body = had; ends = inl (is, refl); answered = answered had h })

  -- a head that is refused is answered so
  pub refused_so : (e : Exchange I H R) (refusal : Refusal) (reply : HttpReply) (labels : Labels)
      (given : Result (Response (Full (List ℕ))) Error) → e.refusal ≡ Some refusal
      → IsReply (refusal_reply refusal) (http_value reply) → labels ≡ refusal_labels refusal
      → Responds e.fields (λ _. labels) (Ok reply) given → Gives answers e given
  refused_so e refusal reply labels given is replies plain responds =
      subst (GivesOption e given) (sym is)
      (reply, replies, subst (λ (l : Labels). Responds e.fields (λ _. l) (Ok reply) given) plain responds)
