-- A call that a node accepted fixes its outcome, to the byte.
use Rattle.std.proofs.Common.{◌≡◌, ℕ, ◌≤◌, ◌^◌, Bool, true, false, List, [], ◌∷◌, length, Option, Some, None, Result, Ok, Err, inl, inr, ◌⊎◌, refl, sym, ap, ◌∙◌, subst, arith}
use Rattle.std.proofs.lemmas.Bool.{cases_Bool, true≢false}
use Rattle.std.proofs.lemmas.Option.{none-some, same_Some}
use Rattle.refusals.specs.Refusals.{first_fault}
use Rattle.message_format.specs.declared.fault.WireFault.{WireFault}
use Rattle.node_calls.specs.Asks.{Asked, Answered, Call, Message, Set, Remove, Load, Pass, Shift, Grant, Emit, Deliver, IsSet, IsRemoved, IsLoaded, IsPassed, IsShifted, IsGranted, IsEmitted, IsDelivered, answered_from, asked_from, call_from, emit_of, message_read}
use Rattle.node_calls.specs.Told.{AskTold, sets, removes, loads, passes, shifts, grants, emits, delivers, ReplyTold, was_set, was_removed, was_loaded, was_passed, was_shifted, was_granted, was_emitted, was_delivered, Told, bytes_of, is_delivery}
use Rattle.node_core.specs.Steps.{message_to, reply}
use Rattle.node_core.specs.Traces.{Kept, Records, node_of, refusal}
use Rattle.node_core.proofs.OneSpelling.{one_spelling}
use Rattle.node_steps.specs.Nodes.{Node}
use Rattle.node_steps.specs.Refusals.{faults_of_message, no_entry, spare_words, too_many_told}
use Rattle.node_calls.specs.declared.fault.NodeFault.TheVariants.{BadMessage}
use Rattle.node_registry.specs.Pieces.{AreBytes, HasBytes, emitted_in}

-- ---- what was asked, without the bytes of a message

abbrev bare : AskTold → AskTold
bare (sets name text) = sets name text
bare (removes name) = removes name
bare (loads text) = loads text
bare (passes name) = passes name
bare (shifts name term to amount) = shifts name term to amount
bare (grants name term amount) = grants name term amount
bare (emits to) = emits to
bare (delivers bytes) = delivers []

abbrev bare_of : Asked → AskTold
bare_of (Set name text) = sets name text
bare_of (Remove name) = removes name
bare_of (Load text) = loads text
bare_of (Pass name) = passes name
bare_of (Shift name term to amount) = shifts name term to amount
bare_of (Grant name term amount) = grants name term amount
bare_of (Emit to versions chosen) = emits to
bare_of (Deliver read) = delivers []

of_read : (to : ℕ) (read : Result Message WireFault) → bare_of (emit_of to read) ≡ emits to
of_read to (Ok m) = refl
of_read to (Err fault) = refl

bare_is : (nodes : ℕ) (ask : AskTold) (reply : ReplyTold) → bare_of (asked_from nodes ask reply) ≡ bare ask
bare_is nodes (sets name text) reply = refl
bare_is nodes (removes name) reply = refl
bare_is nodes (loads text) reply = refl
bare_is nodes (passes name) reply = refl
bare_is nodes (shifts name term to amount) reply = refl
bare_is nodes (grants name term amount) reply = refl
bare_is nodes (emits to) (was_emitted bytes) = of_read to (message_read nodes bytes)
bare_is nodes (emits to) (was_set stamp) = refl
bare_is nodes (emits to) (was_removed stamp) = refl
bare_is nodes (emits to) (was_loaded entries) = refl
bare_is nodes (emits to) (was_passed outcome) = refl
bare_is nodes (emits to) (was_shifted total) = refl
bare_is nodes (emits to) (was_granted total) = refl
bare_is nodes (emits to) (was_delivered changed) = refl
bare_is nodes (delivers bytes) reply = refl

bare_delivery : (ask : AskTold) → is_delivery (bare ask) ≡ is_delivery ask
bare_delivery (sets name text) = refl
bare_delivery (removes name) = refl
bare_delivery (loads text) = refl
bare_delivery (passes name) = refl
bare_delivery (shifts name term to amount) = refl
bare_delivery (grants name term amount) = refl
bare_delivery (emits to) = refl
bare_delivery (delivers bytes) = refl

bare_other : (ask : AskTold) → is_delivery ask ≡ false → bare ask ≡ ask
bare_other (sets name text) h = refl
bare_other (removes name) h = refl
bare_other (loads text) h = refl
bare_other (passes name) h = refl
bare_other (shifts name term to amount) h = refl
bare_other (grants name term amount) h = refl
bare_other (emits to) h = refl
bare_other (delivers bytes) h = absurd (true≢false h)

is_delivered : (ask : AskTold) → is_delivery ask ≡ true → ask ≡ delivers (bytes_of ask)
is_delivered (sets name text) h = absurd (true≢false (sym h))
is_delivered (removes name) h = absurd (true≢false (sym h))
is_delivered (loads text) h = absurd (true≢false (sym h))
is_delivered (passes name) h = absurd (true≢false (sym h))
is_delivered (shifts name term to amount) h = absurd (true≢false (sym h))
is_delivered (grants name term amount) h = absurd (true≢false (sym h))
is_delivered (emits to) h = absurd (true≢false (sym h))
is_delivered (delivers bytes) h = refl

-- what a delivery brings, as it was read
abbrev brought : Asked → Option (Result Message WireFault)
brought (Deliver read) = Some read
brought _ = None

-- ---- and what was answered

abbrev bare_reply : ReplyTold → ReplyTold
bare_reply (was_set stamp) = was_set stamp
bare_reply (was_removed stamp) = was_removed stamp
bare_reply (was_loaded entries) = was_loaded entries
bare_reply (was_passed outcome) = was_passed outcome
bare_reply (was_shifted total) = was_shifted total
bare_reply (was_granted total) = was_granted total
bare_reply (was_emitted bytes) = was_emitted []
bare_reply (was_delivered changed) = was_delivered changed

abbrev bare_reply_of : Answered → ReplyTold
bare_reply_of (IsSet stamp) = was_set stamp
bare_reply_of (IsRemoved stamp) = was_removed stamp
bare_reply_of (IsLoaded entries) = was_loaded entries
bare_reply_of (IsPassed outcome) = was_passed outcome
bare_reply_of (IsShifted total) = was_shifted total
bare_reply_of (IsGranted total) = was_granted total
bare_reply_of (IsEmitted read) = was_emitted []
bare_reply_of (IsDelivered changed) = was_delivered changed

bare_reply_is : (nodes : ℕ) (r : ReplyTold) → bare_reply_of (answered_from nodes r) ≡ bare_reply r
bare_reply_is nodes (was_set stamp) = refl
bare_reply_is nodes (was_removed stamp) = refl
bare_reply_is nodes (was_loaded entries) = refl
bare_reply_is nodes (was_passed outcome) = refl
bare_reply_is nodes (was_shifted total) = refl
bare_reply_is nodes (was_granted total) = refl
bare_reply_is nodes (was_emitted bytes) = refl
bare_reply_is nodes (was_delivered changed) = refl

abbrev is_emission : ReplyTold → Bool
is_emission (was_emitted bytes) = true
is_emission _ = false

bare_emission : (r : ReplyTold) → is_emission (bare_reply r) ≡ is_emission r
bare_emission (was_set stamp) = refl
bare_emission (was_removed stamp) = refl
bare_emission (was_loaded entries) = refl
bare_emission (was_passed outcome) = refl
bare_emission (was_shifted total) = refl
bare_emission (was_granted total) = refl
bare_emission (was_emitted bytes) = refl
bare_emission (was_delivered changed) = refl

bare_other_reply : (r : ReplyTold) → is_emission r ≡ false → bare_reply r ≡ r
bare_other_reply (was_set stamp) h = refl
bare_other_reply (was_removed stamp) h = refl
bare_other_reply (was_loaded entries) h = refl
bare_other_reply (was_passed outcome) h = refl
bare_other_reply (was_shifted total) h = refl
bare_other_reply (was_granted total) h = refl
bare_other_reply (was_emitted bytes) h = absurd (true≢false h)
bare_other_reply (was_delivered changed) h = refl

is_emitted : (r : ReplyTold) → is_emission r ≡ true → r ≡ was_emitted (emitted_in r)
is_emitted (was_set stamp) h = absurd (true≢false (sym h))
is_emitted (was_removed stamp) h = absurd (true≢false (sym h))
is_emitted (was_loaded entries) h = absurd (true≢false (sym h))
is_emitted (was_passed outcome) h = absurd (true≢false (sym h))
is_emitted (was_shifted total) h = absurd (true≢false (sym h))
is_emitted (was_granted total) h = absurd (true≢false (sym h))
is_emitted (was_emitted bytes) h = refl
is_emitted (was_delivered changed) h = absurd (true≢false (sym h))

abbrev sent : Answered → Option (Result Message WireFault)
sent (IsEmitted read) = Some read
sent _ = None

-- ---- what an accepted call brought or sent is a message

rest_none : {F : Type 0} (fault : Option F) (rest : List (Option F)) → first_fault (fault ∷ rest) ≡ None →
    first_fault rest ≡ None
rest_none None rest h = h
rest_none (Some fault) rest h = absurd (none-some fault (sym h))

was_read : (k : Kept) (read : Result Message WireFault) (words : List ℕ) → refusal k (Deliver read) words ≡ None →
    (m : Message) × (read ≡ Ok m)
was_read k (Ok m) words h = (m, refl)
was_read k (Err fault) words h =
    let why = faults_of_message k.config (node_of k) (Err fault) in
    let many = too_many_told k.config (node_of k) (Err fault) in
    let spare = spare_words words in
    let none = rest_none spare why (rest_none many (spare ∷ why)
    (rest_none (no_entry k.config (length k.trace)) (many ∷ spare ∷ why) h)) in
    absurd (none-some (BadMessage fault) (sym none))

was_sent : (i : ℕ) (n : Node) (ask : Asked) (words : List ℕ) (read : Result Message WireFault) →
    sent (reply i n ask words) ≡ Some read → (m : Message) × (read ≡ Ok m)
was_sent i n (Set name text) words read h = absurd (none-some read h)
was_sent i n (Remove name) words read h = absurd (none-some read h)
was_sent i n (Load text) words read h = absurd (none-some read h)
was_sent i n (Pass name) words read h = absurd (none-some read h)
was_sent i n (Shift name term to amount) words read h = absurd (none-some read h)
was_sent i n (Grant name term amount) words read h = absurd (none-some read h)
was_sent i n (Emit to versions chosen) words read h =
    (message_to i to versions chosen, sym (same_Some (Ok (message_to i to versions chosen)) read h))
was_sent i n (Deliver brings) words read h = absurd (none-some read h)

-- ---- so it fixes the outcome

module _ (nodes : ℕ) (few : nodes ≤ 2 ^ 8) where
  same_bytes : (a b : List ℕ) (m : Message) → AreBytes a → AreBytes b → message_read nodes a ≡ message_read nodes b →
      message_read nodes b ≡ Ok m → a ≡ b
  same_bytes a b m fits others same is = one_spelling nodes a b m few fits others (same ∙ is) is

  same_ask : (a b : AskTold) (r s : ReplyTold) → AreBytes (bytes_of a) → AreBytes (bytes_of b) →
      (is_delivery b ≡ true → (m : Message) × (message_read nodes (bytes_of b) ≡ Ok m)) →
      asked_from nodes a r ≡ asked_from nodes b s → a ≡ b
  same_ask a b r s fits others read e = at (cases_Bool (is_delivery b))
    where
      bares : bare a ≡ bare b
      bares = sym (bare_is nodes a r) ∙ ap bare_of e ∙ bare_is nodes b s

      kinds : is_delivery a ≡ is_delivery b
      kinds = sym (bare_delivery a) ∙ ap is_delivery bares ∙ bare_delivery b

      at : (is_delivery b ≡ true) ⊎ (is_delivery b ≡ false) → a ≡ b
      at (inl is) =
          let x = is_delivered a (kinds ∙ is) in
          let y = is_delivered b is in
          let whole : asked_from nodes (delivers (bytes_of a)) r ≡ asked_from nodes (delivers (bytes_of b)) s =
          ap (λ (o : AskTold). asked_from nodes o r) (sym x) ∙ e ∙ ap (λ (o : AskTold). asked_from nodes o s) y in
          let same = same_Some (message_read nodes (bytes_of a)) (message_read nodes (bytes_of b)) (ap brought whole) in
          x ∙ ap delivers (same_bytes (bytes_of a) (bytes_of b) (read is).0 fits others same (read is).1) ∙ sym y
      at (inr other) = sym (bare_other a (kinds ∙ other)) ∙ bares ∙ bare_other b other

  same_reply : (r s : ReplyTold) → AreBytes (emitted_in r) → AreBytes (emitted_in s) →
      (is_emission s ≡ true → (m : Message) × (message_read nodes (emitted_in s) ≡ Ok m)) →
      answered_from nodes r ≡ answered_from nodes s → r ≡ s
  same_reply r s fits others read e = at (cases_Bool (is_emission s))
    where
      bares : bare_reply r ≡ bare_reply s
      bares = sym (bare_reply_is nodes r) ∙ ap bare_reply_of e ∙ bare_reply_is nodes s

      kinds : is_emission r ≡ is_emission s
      kinds = sym (bare_emission r) ∙ ap is_emission bares ∙ bare_emission s

      at : (is_emission s ≡ true) ⊎ (is_emission s ≡ false) → r ≡ s
      at (inl is) =
          let x = is_emitted r (kinds ∙ is) in
          let y = is_emitted s is in
          let whole : answered_from nodes (was_emitted (emitted_in r)) ≡ answered_from nodes (was_emitted (emitted_in s)) =
          ap (answered_from nodes) (sym x) ∙ e ∙ ap (answered_from nodes) y in
          let same = same_Some (message_read nodes (emitted_in r)) (message_read nodes (emitted_in s)) (ap sent whole) in
          x ∙ ap was_emitted (same_bytes (emitted_in r) (emitted_in s) (read is).0 fits others same (read is).1) ∙ sym y
      at (inr other) = sym (bare_other_reply r (kinds ∙ other)) ∙ bares ∙ bare_other_reply s other

  -- what tells a call that a node accepted is what tells it
  pub told_once : (k new : Kept) (words : List ℕ) (t u : Told) → k.config.nodes ≡ nodes →
      Records k new (call_from nodes u) words → HasBytes t → HasBytes u → call_from nodes t ≡ call_from nodes u →
      t ≡ u
  told_once k new words t u of recorded fits others e = λ i. record {
    ask = asks i;
    words = ap (λ (c : Call). c.words) e i;
    reply = replies i;
  }
    where
      brings : is_delivery u.ask ≡ true → (m : Message) × (message_read nodes (bytes_of u.ask) ≡ Ok m)
      brings so =
          let is : asked_from nodes u.ask u.reply ≡ Deliver (message_read nodes (bytes_of u.ask)) =
          ap (λ (o : AskTold). asked_from nodes o u.reply) (is_delivered u.ask so) in
          was_read k (message_read nodes (bytes_of u.ask)) words
          (subst (λ (o : Asked). refusal k o words ≡ None) is recorded.0)

      tells : is_emission u.reply ≡ true → (m : Message) × (message_read nodes (emitted_in u.reply) ≡ Ok m)
      tells so =
          let is : answered_from nodes u.reply ≡ IsEmitted (message_read nodes (emitted_in u.reply)) =
          ap (answered_from nodes) (is_emitted u.reply so) in
          was_sent k.config.node (node_of k) (asked_from nodes u.ask u.reply) words (message_read nodes (emitted_in u.reply))
          (ap sent (sym (ap (λ (c : Call). c.reply) recorded.1) ∙ is))

      asks : t.ask ≡ u.ask
      asks = same_ask t.ask u.ask t.reply u.reply fits.0 others.0 brings (ap (λ (c : Call). c.ask) e)

      replies : t.reply ≡ u.reply
      replies = same_reply t.reply u.reply fits.1 others.1 tells (ap (λ (c : Call). c.reply) e)
