-- The calls in the first columns of a picture are a run of the traces.
use Rattle.std.proofs.Common.{◌≡◌, ◌⊎◌, inl, inr, ℕ, zero, suc, ◌+◌, ◌<◌, ◌≤◌, ◌==◌, ◌||◌, cond, Bool, true, false, List, [], ◌∷◌, ◌++◌, length, map, reverse, refl, sym, ◌∙◌, ap, subst, arith, append_assoc, append-nil, ⊎_elim, count_by, Option, Some, None}
use Rattle.std.specs.Prelude.{option_and_then}
use Rattle.std.specs.List.{list_any}
use Rattle.std.proofs.lemmas.Bool.{true≢false}
use Rattle.std.proofs.lemmas.Bool.Decides.{eqb_tells}
use Rattle.std.proofs.lemmas.List.{map-append, reverse-append}
use Rattle.std.proofs.lemmas.List.Folds.{list_any-append}
use Rattle.std.proofs.lemmas.List.Sums.{sum_by_push}
use Rattle.node_calls.specs.Told.{Told, AskTold, ReplyTold}
use Rattle.node_calls.specs.Told as tells
use Rattle.replica_state.proofs.Orders.{bytes_eq-true}
use Rattle.audit.specs.Messages.{bytes_emitted, emitted_by, delivered_by}
use Rattle.audit.specs.Traces.{entry_at}
use Rattle.audit.specs.Places.{emitted_at, IsSent, IsReady, IsRun}
use Rattle.audit.specs.Places as orders
use Rattle.drill_picture.specs.declared.place.Place.{Place}
use Rattle.drill_picture.specs.Calls.{Traces, call_at, made_by, taken_by, is_of, makes}
use Rattle.drill_picture.specs.Placing.{is_made, count_at, is_fed, may_stand, place_if, next_at, next_below, column_of, columns_of}

-- ---- the same call

pub call_is_entry : (traces : Traces) (node index : ℕ) → call_at traces node index ≡ entry_at traces node index
unfolding call_at entry_at
call_is_entry [] node index = refl
call_is_entry (trace ∷ traces) zero index = refl
call_is_entry (trace ∷ traces) (suc node) index = call_is_entry traces node index

-- ---- places, the last of them first

abbrev pub pair : Place → ℕ × ℕ
pair p = (p.node, p.index)

abbrev pub placed : List Place → List (ℕ × ℕ)
placed places = reverse (map pair places)

pub placed_more : (places : List Place) (p : Place) → placed (places ++ p ∷ []) ≡ pair p ∷ placed places
placed_more places p = ap reverse (map-append pair places (p ∷ [])) ∙ reverse-append (map pair places) (pair p ∷ [])

count_one : (node : ℕ) (p : Place) (places : List Place) →
    orders.count_at node (pair p ∷ placed places) ≡ cond (p.node == node) 1 0 + orders.count_at node (placed places)
count_one node p places = refl

-- what these say of a list of places, by its elements from the last on
pub record IsSame (traces : Traces) (places : List Place) : Type 0 where
  pub counts : (node : ℕ) → orders.count_at node (placed places) ≡ count_at node places
  pub sent : (bytes : List ℕ) → is_made traces places bytes ≡ true → IsSent traces (placed places) bytes

nothing_same : (traces : Traces) → IsSame traces []
unfolding count_at is_made
nothing_same traces = record { counts = λ node. refl; sent = λ bytes h. absurd (true≢false (sym h)) }

emitted_as : (reply : ReplyTold) (bytes : List ℕ) → is_of bytes (made_by reply) ≡ true → emitted_by reply ≡ Some bytes
emitted_as (tells.was_emitted other) bytes h = ap Some (bytes_eq-true other bytes h)
emitted_as (tells.was_set stamp) bytes h = absurd (true≢false (sym h))
emitted_as (tells.was_removed stamp) bytes h = absurd (true≢false (sym h))
emitted_as (tells.was_loaded entries) bytes h = absurd (true≢false (sym h))
emitted_as (tells.was_passed outcome) bytes h = absurd (true≢false (sym h))
emitted_as (tells.was_shifted total) bytes h = absurd (true≢false (sym h))
emitted_as (tells.was_granted total) bytes h = absurd (true≢false (sym h))
emitted_as (tells.was_delivered changed) bytes h = absurd (true≢false (sym h))

made_is : (o : Option Told) (bytes : List ℕ) → makes bytes o ≡ true → option_and_then bytes_emitted o ≡ Some bytes
made_is None bytes h = absurd (true≢false (sym h))
made_is (Some call) bytes h = emitted_as call.reply bytes h

made_there : (traces : Traces) (p : Place) (bytes : List ℕ) → makes bytes (call_at traces p.node p.index) ≡ true →
    emitted_at traces p.node p.index ≡ Some bytes
made_there traces p bytes h =
    ap (option_and_then bytes_emitted) (sym (call_is_entry traces p.node p.index))
    ∙ made_is (call_at traces p.node p.index) bytes h

or_last : (a b : Bool) → (a || (b || false)) ≡ true → (a ≡ true) ⊎ (b ≡ true)
or_last true b h = inl refl
or_last false true h = inr refl
or_last false false h = absurd (true≢false (sym h))

one_more_same : (traces : Traces) (places : List Place) (p : Place) → IsSame traces places →
    IsSame traces (places ++ p ∷ [])
unfolding count_at is_made
one_more_same traces places p same = record {
  counts = λ node.
      let before : orders.count_at node (placed places) ≡ count_by (λ q. q.node == node) places = same.counts node in
      let more : count_by (λ q. q.node == node) (places ++ p ∷ []) ≡ count_by (λ q. q.node == node) places + cond
      (p.node == node) 1 0 = sum_by_push (λ q. cond (q.node == node) 1 0) places p in
      let now : orders.count_at node (placed (places ++ p ∷ [])) ≡ cond (p.node == node) 1 0 + orders.count_at node
      (placed places) = ap (orders.count_at node) (placed_more places p) in
      omega (arith, before, more, now);
  sent = λ bytes h.
      let makes_at : Place → Bool = λ q. makes bytes (call_at traces q.node q.index) in
      let whole : (list_any makes_at places || (makes_at p || false)) ≡ true =
      sym (list_any-append makes_at places (p ∷ [])) ∙ h in
      subst (λ ps. IsSent traces ps bytes) (sym (placed_more places p))
      (⊎_elim (λ k. inr (same.sent bytes k)) (λ k. inl (made_there traces p bytes k))
      (or_last (list_any makes_at places) (makes_at p) whole));
}

-- ---- a column

-- behind these places, those of a column at the nodes below a number are placed too
record IsPlacedTo (traces : Traces) (places more : List Place) (node : ℕ) : Type 0 where
  pub run : IsRun traces (placed (places ++ more))
  pub same : IsSame traces (places ++ more)
  pub rest : (n : ℕ) → node ≤ n → count_at n (places ++ more) ≡ count_at n places
  pub sent : (bytes : List ℕ) → is_made traces places bytes ≡ true → IsSent traces (placed (places ++ more)) bytes

sent_by : (ask : AskTold) (bytes : List ℕ) → delivered_by ask ≡ Some bytes → taken_by ask ≡ Some bytes
sent_by (tells.delivers other) bytes h = h
sent_by (tells.sets name text) bytes h = h
sent_by (tells.removes name) bytes h = h
sent_by (tells.loads text) bytes h = h
sent_by (tells.passes name) bytes h = h
sent_by (tells.shifts name term to amount) bytes h = h
sent_by (tells.grants name term amount) bytes h = h
sent_by (tells.emits to) bytes h = h

stands_ready : (traces : Traces) (places more : List Place) (node column : ℕ) (call : Told) →
    IsPlacedTo traces places more node → call_at traces node (count_at node places) ≡ Some call →
    is_fed traces places (taken_by call.ask) ≡ true →
    IsReady traces (placed (places ++ more)) (node, count_at node places)
stands_ready traces places more node column call to there fed = record {
  next = sym (to.same.counts node ∙ to.rest node (omega arith));
  entry = call;
  there = sym (call_is_entry traces node (count_at node places)) ∙ there;
  fed = λ bytes is. to.sent bytes
      (ap (is_fed traces places) (sym (sent_by call.ask bytes is)) ∙ fed);
}

counted_else : (n : ℕ) (places : List Place) (p : Place) → (p.node ≡ n → ⊥) →
    count_at n (places ++ p ∷ []) ≡ count_at n places
unfolding count_at
counted_else n places p apart = elim (eqb_tells p.node n) [
  | inl w ↦ absurd (apart w.1)
  | inr w ↦
      let more : count_by (λ q. q.node == n) (places ++ p ∷ []) ≡ count_by (λ q. q.node == n) places + cond
      (p.node == n) 1 0 = sum_by_push (λ q. cond (q.node == n) 1 0) places p in
      let none : ◌≡◌ {A = ℕ} (cond (p.node == n) 1 0) 0 = ap (λ t. cond t 1 0) w.0 in
      omega (arith, more, none)
]

place_more : (traces : Traces) (places more : List Place) (node column : ℕ) → (o : Option Told) →
    call_at traces node (count_at node places) ≡ o → (t : Bool) → may_stand traces places o ≡ t →
    IsPlacedTo traces places more node →
    IsPlacedTo traces places (more ++ place_if t node (count_at node places) column) (suc node)
place_more traces places more node column o there false stands to =
    subst (λ ps. IsPlacedTo traces places ps (suc node)) (sym (append-nil more)) (record {
      run = to.run;
      same = to.same;
      rest = λ n low. to.rest n (omega (arith, low));
      sent = to.sent;
    })
place_more traces places more node column None there true stands to = absurd (true≢false (sym stands))
place_more traces places more node column (Some call) there true stands to =
    let p : Place = record { node = node; index = count_at node places; column = column } in
    let whole : places ++ (more ++ p ∷ []) ≡ (places ++ more) ++ p ∷ [] = sym (append_assoc places more (p ∷ [])) in
    let run : IsRun traces (pair p ∷ placed (places ++ more)) =
    (stands_ready traces places more node column call to there stands, to.run) in
    record {
      run = subst (λ ps. IsRun traces (placed ps)) (sym whole)
          (subst (λ ps. IsRun traces ps) (sym (placed_more (places ++ more) p)) run);
      same = subst (λ ps. IsSame traces ps) (sym whole) (one_more_same traces (places ++ more) p to.same);
      rest = λ n low.
          ap (λ ps. count_at n ps) whole ∙ counted_else n (places ++ more) p (λ e. absurd (omega (arith, e, low)))
          ∙ to.rest n (omega (arith, low));
      sent = λ bytes h. subst (λ ps. IsSent traces (placed ps) bytes) (sym whole)
          (subst (λ ps. IsSent traces ps bytes) (sym (placed_more (places ++ more) p)) (inr (to.sent bytes h)));
    }

column_placed : (traces : Traces) (places : List Place) (column node : ℕ) → IsRun traces (placed places) →
    IsSame traces places → IsPlacedTo traces places (next_below traces places column node) node
unfolding next_at
column_placed traces places column zero run same =
    let none : places ≡ places ++ [] = sym (append-nil places) in
    record {
      run = subst (λ ps. IsRun traces (placed ps)) none run;
      same = subst (λ ps. IsSame traces ps) none same;
      rest = λ n low. ap (λ ps. count_at n ps) (sym none);
      sent = λ bytes h. subst (λ ps. IsSent traces (placed ps) bytes) none (same.sent bytes h);
    }
column_placed traces places column (suc node) run same =
    place_more traces places (next_below traces places column node) node column
    (call_at traces node (count_at node places)) refl
    (may_stand traces places (call_at traces node (count_at node places))) refl
    (column_placed traces places column node run same)

-- so it is with so many columns
pub record IsColumnsRun (traces : Traces) (columns : ℕ) : Type 0 where
  pub run : IsRun traces (placed (columns_of traces columns))
  pub same : IsSame traces (columns_of traces columns)

pub columns_run : (traces : Traces) (columns : ℕ) → IsColumnsRun traces columns
unfolding column_of
columns_run traces zero = record { run = tt; same = nothing_same traces }
columns_run traces (suc column) =
    let before = columns_run traces column in
    let to = column_placed traces (columns_of traces column) column (length traces) before.run before.same in
    record { run = to.run; same = to.same }

-- ---- in which columns they stand

abbrev pub AllIn : (Place → Type 0) → List Place → Type 0
AllIn P [] = Unit {0}
AllIn P (p ∷ places) = P p × AllIn P places

all_append : (P : Place → Type 0) (a b : List Place) → AllIn P a → AllIn P b → AllIn P (a ++ b)
all_append P [] b f g = g
all_append P (p ∷ a) b f g = (f.0, all_append P a b f.1 g)

all_weaker : (P Q : Place → Type 0) → ((p : Place) → P p → Q p) → (a : List Place) → AllIn P a → AllIn Q a
all_weaker P Q h [] f = tt
all_weaker P Q h (p ∷ a) f = (h p f.0, all_weaker P Q h a f.1)

abbrev pub IsAt : ℕ → Place → Type 0
IsAt column p = p.column ≡ column

abbrev pub IsBelow : ℕ → Place → Type 0
IsBelow column p = p.column < column

place_at : (t : Bool) (node index column : ℕ) → AllIn (IsAt column) (place_if t node index column)
place_at true node index column = (refl, tt)
place_at false node index column = tt

below_at : (traces : Traces) (places : List Place) (column node : ℕ) →
    AllIn (IsAt column) (next_below traces places column node)
unfolding next_at
below_at traces places column zero = tt
below_at traces places column (suc node) =
    all_append (IsAt column) (next_below traces places column node) (next_at traces places column node)
    (below_at traces places column node)
    (place_at (may_stand traces places (call_at traces node (count_at node places))) node (count_at node places) column)

pub column_at : (traces : Traces) (places : List Place) (column : ℕ) →
    AllIn (IsAt column) (column_of traces places column)
unfolding column_of
column_at traces places column = below_at traces places column (length traces)

pub columns_below : (traces : Traces) (columns : ℕ) → AllIn (IsBelow columns) (columns_of traces columns)
columns_below traces zero = tt
columns_below traces (suc column) =
    all_append (IsBelow (suc column)) (columns_of traces column)
    (column_of traces (columns_of traces column) column)
    (all_weaker (IsBelow column) (IsBelow (suc column)) (λ p low. omega (arith, low)) (columns_of traces column)
    (columns_below traces column))
    (all_weaker (IsAt column) (IsBelow (suc column)) (λ p is. omega (arith, is))
    (column_of traces (columns_of traces column) column) (column_at traces (columns_of traces column) column))
