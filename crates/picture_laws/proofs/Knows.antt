-- What a chart takes a node to know of its point is what the node knows.
use Rattle.std.proofs.Common.{◌≡◌, ◌≢◌, ◌⊎◌, inl, inr, ℕ, suc, ◌+◌, ◌<◌, ◌≤◌, ◌==◌, ◌&&◌, ◌||◌, max, min, cond, Bool, true, false, List, [], ◌∷◌, ◌++◌, length, map, fold, nat_lt, refl, sym, ◌∙◌, ap, subst, arith, ⊎_elim, Option, Some, None, Result, Ok, Err, option_map}
use Rattle.std.proofs.lemmas.Bool.{true≢false, eqb-true, eq-eqb, and_parts, and_from, lt-ltb}
use Rattle.std.proofs.lemmas.Bool.Decides.{leb_tells, eqb_tells}
use Rattle.std.specs.List.{flat_map}
use Rattle.std.specs.Str.{bytes_eq}
use Rattle.std.specs.Ordering.{nat_cmp, is_le, ordering_then}
use Rattle.std.specs.Cmp.Lexicographic.{slice_cmp}
use Rattle.std.specs.declared.cmp.Ordering.TheVariants.{Less, Equal, Greater}
use Rattle.actions.specs.Value.{TermValue}
use Rattle.actions.specs.declared.fault.SettingFault.{SettingFault}
use Rattle.actions.specs.SettingReading.{setting_reading}
use Rattle.actions.specs.Canonical.{canonical}
use Rattle.stamp_register.specs.declared.key.Stamp.{Stamp}
use Rattle.stamp_register.specs.Keys.{KeyValue, stamp_of, key_le, body_rank}
use Rattle.operations.specs.Operations.{Operation, Set, Count, Hits, Execs, Shifts, IsIn}
use Rattle.operations.proofs.Members.{IsIn-append_left, IsIn-append_right, IsIn-append_cases}
use Rattle.message_format.specs.declared.fault.WireFault.{WireFault}
use Rattle.message_format.specs.Messages.{EntryValue, MessageValue, operations_of, hits_in, execs_in, shifts_in, grants_in}
use Rattle.message_format.specs.Reading.{message_at}
use Rattle.message_format.proofs.Told.{IsTold, told_of}
use Rattle.replica_state.specs.States.{State, with_key}
use Rattle.replica_state.specs.Folds.{fold as fold_ops, key_in, key_of, greater, clock_of, clock_in}
use Rattle.replica_state.proofs.Orders.{same_key-true}
use Rattle.replica_state.proofs.Sets.{KeyUpto, KeyUpto-trans, KeyUpto-antisym, KeyUpto-same, greater-left, greater-right, greater-least, key_of-is_in, key_of-least, key_of-mono}
use Rattle.node_calls.specs.Told.{AskTold, ReplyTold}
use Rattle.node_calls.specs.Told as tells
use Rattle.node_calls.specs.Asks.{Asked, Message, read_of, message_read, emit_of, emit_asked_by, asked_from, answered_from}
use Rattle.node_calls.specs.Asks as asks
use Rattle.node_steps.specs.Nodes.{Node, state_shown}
use Rattle.node_steps.specs.Outcomes.{state_set}
use Rattle.node_steps.specs.Settings.{settings_of, operations_issued, new_key, points_in, points_read}
use Rattle.node_steps.specs.Refusals.{message_in}
use Rattle.node_steps.proofs.Overspent.{clock-append}
use Rattle.node_core.specs.Steps.{after, reply}
use Rattle.node_core.proofs.SettingSteps.{fold_issued}
use Rattle.cluster_model.specs.Worlds.{node_after}
use Rattle.cluster_model.specs.Histories.{ops_issued, keys_by, is_key}
use Rattle.cluster_model.proofs.Steps.{keeps}
use Rattle.cluster_model.proofs.Stamps.{own_carries}
use Rattle.cluster_model.proofs.OwnCells.{OneHere}
use Rattle.cluster_model.proofs.Rights.{is_key-some}
use Rattle.drill_picture.specs.Stories.{KnownTold as Known}
use Rattle.drill_picture.specs.Knowing.{made, loaded, is_above, later, heard, told_by, entries_in, points_of, points_loaded, known_after, is_stamp}

abbrev pub most : ℕ
most = 18446744073709551615

abbrev pub stamp_in : Option KeyValue → Option Stamp
stamp_in key = option_map stamp_of key

-- what a node knows of a name, as a chart has it
abbrev pub known_of : List ℕ → Node → Known
known_of name n = record { clock = n.marks.clock; stamp = stamp_in ((state_shown n).key name) }

abbrev known_with : ℕ → Option Stamp → Known
known_with clock stamp = record { clock = clock; stamp = stamp }

-- ---- settings

stamp_if : (t : Bool) (key : KeyValue) (o : Option KeyValue) →
    cond t (Some (stamp_of key)) (stamp_in o) ≡ stamp_in (cond t (Some key) o)
stamp_if true key o = refl
stamp_if false key o = refl

made_is : (name other : List ℕ) (key : KeyValue) (clock : ℕ) (v : State) →
    made name other (stamp_of key) (known_with clock (stamp_in (v.key name)))
    ≡ known_with key.clock (stamp_in ((with_key other key v).key name))
unfolding with_key
made_is name other key clock v = ap (known_with key.clock) (stamp_if (bytes_eq other name) key (v.key name))

loaded_is : (name : List ℕ) (i clock : ℕ) (points : List (List ℕ × List TermValue)) (v : State) →
    clock + length points ≤ most →
    loaded name i points (known_with clock (stamp_in (v.key name)))
    ≡ known_with (clock + length points) (stamp_in ((state_set i clock (settings_of points) v).key name))
loaded_is name i clock [] v few = ap (λ k. known_with k (stamp_in (v.key name))) (omega arith)
loaded_is name i clock (point ∷ points) v few =
    let key : KeyValue = new_key i clock (Some (canonical point.1)) in
    let next : min (clock + 1) most ≡ clock + 1 = omega (arith, few) in
    let far : clock + 1 + length points ≡ clock + length (point ∷ points) = omega arith in
    ap (λ k. loaded name i points (made name point.0 (record { clock = k; node = i })
    (known_with clock (stamp_in (v.key name))))) next
    ∙ ap (loaded name i points) (made_is name point.0 key clock v)
    ∙ loaded_is name i (clock + 1) points (with_key point.0 key v) (omega (arith, few))
    ∙ ap (λ k. known_with k (stamp_in ((state_set i (clock + 1) (settings_of points)
    (with_key point.0 key v)).key name))) far

same_points : (r : Result (List (List ℕ × List TermValue)) SettingFault) → points_of r ≡ points_read r
same_points (Ok points) = refl
same_points (Err fault) = refl

-- ---- of two keys the greater one's stamp is the later one

cmp_less : (x y : ℕ) → x < y → nat_cmp x y ≡ Less
cmp_less x y l = ap (λ t. cond t Less (cond (x == y) Equal Greater)) (lt-ltb x y l)

cmp_same : (x y : ℕ) → x ≡ y → nat_cmp x y ≡ Equal
cmp_same x y e = elim (leb_tells (suc x) y) [
  | inl w ↦ (let less = w.1 in absurd (omega (arith, less, e)))
  | inr w ↦ ap (λ t. cond t Less (cond (x == y) Equal Greater)) w.0 ∙ ap (λ t. cond t Equal Greater) (eq-eqb x y e)
]

cmp_more : (x y : ℕ) → y < x → nat_cmp x y ≡ Greater
cmp_more x y l = elim (leb_tells (suc x) y) [
  | inl w ↦ (let less = w.1 in absurd (omega (arith, less, l)))
  | inr w ↦ ap (λ t. cond t Less (cond (x == y) Equal Greater)) w.0 ∙ (elim (eqb_tells x y) [
    | inl v ↦ (let same = v.1 in absurd (omega (arith, same, l)))
    | inr v ↦ ap (λ t. cond t Equal Greater) v.0
  ])
]

-- how two keys stand, by their stamps
record IsLess (a b : KeyValue) : Type 0 where
  pub above : is_above (stamp_of a) (stamp_of b) ≡ false
  pub le : key_le a b ≡ true

record IsMore (a b : KeyValue) : Type 0 where
  pub above : is_above (stamp_of a) (stamp_of b) ≡ true
  pub le : key_le a b ≡ false

record IsTied (a b : KeyValue) : Type 0 where
  pub above : is_above (stamp_of a) (stamp_of b) ≡ false
  pub stamps : stamp_of a ≡ stamp_of b

pub not_below : (x y : ℕ) → y ≤ x → nat_lt x y ≡ false
not_below x y l = elim (leb_tells (suc x) y) [
  | inl w ↦ (let less = w.1 in absurd (omega (arith, less, l)))
  | inr w ↦ w.0
]

not_same : (x y : ℕ) → x ≢ y → (x == y) ≡ false
not_same x y ne = elim (eqb_tells x y) [
  | inl w ↦ absurd (ne w.1)
  | inr w ↦ w.0
]

or_is : (a b c d : Bool) → a ≡ b → c ≡ d → (a || c) ≡ (b || d)
or_is a b c d e f = λ i. e i || f i

and_is : (a b c d : Bool) → a ≡ b → c ≡ d → (a && c) ≡ (b && d)
and_is a b c d e f = λ i. e i && f i

below_false : (b : Bool) → (b && false) ≡ false
below_false true = refl
below_false false = refl

clock_less : (a b : KeyValue) → a.clock < b.clock → IsLess a b
clock_less a b l = record {
  above = or_is (nat_lt b.clock a.clock) false ((a.clock == b.clock) && nat_lt b.node a.node) false
      (not_below b.clock a.clock (omega (arith, l)))
      (and_is (a.clock == b.clock) false (nat_lt b.node a.node) (nat_lt b.node a.node)
      (not_same a.clock b.clock (λ e. absurd (omega (arith, e, l)))) refl);
  le = ap (λ o. is_le (ordering_then o (slice_cmp nat_cmp (a.node ∷ body_rank a.body) (b.node ∷ body_rank b.body))))
      (cmp_less a.clock b.clock l);
}

clock_more : (a b : KeyValue) → b.clock < a.clock → IsMore a b
clock_more a b l = record {
  above = ap (λ t. t || ((a.clock == b.clock) && nat_lt b.node a.node)) (lt-ltb b.clock a.clock l);
  le = ap (λ o. is_le (ordering_then o (slice_cmp nat_cmp (a.node ∷ body_rank a.body) (b.node ∷ body_rank b.body))))
      (cmp_more a.clock b.clock l);
}

node_less : (a b : KeyValue) → a.clock ≡ b.clock → a.node < b.node → IsLess a b
node_less a b e l = record {
  above = or_is (nat_lt b.clock a.clock) false ((a.clock == b.clock) && nat_lt b.node a.node) false
      (not_below b.clock a.clock (omega (arith, e)))
      (and_is (a.clock == b.clock) (a.clock == b.clock) (nat_lt b.node a.node) false refl
      (not_below b.node a.node (omega (arith, l))) ∙ below_false (a.clock == b.clock));
  le = ap (λ o. is_le (ordering_then o (slice_cmp nat_cmp (a.node ∷ body_rank a.body) (b.node ∷ body_rank b.body))))
      (cmp_same a.clock b.clock e)
      ∙ ap (λ o. is_le (ordering_then o (slice_cmp nat_cmp (body_rank a.body) (body_rank b.body))))
      (cmp_less a.node b.node l);
}

node_more : (a b : KeyValue) → a.clock ≡ b.clock → b.node < a.node → IsMore a b
node_more a b e l = record {
  above = or_is (nat_lt b.clock a.clock) false ((a.clock == b.clock) && nat_lt b.node a.node) true
      (not_below b.clock a.clock (omega (arith, e)))
      (and_from (a.clock == b.clock) (nat_lt b.node a.node) (eq-eqb a.clock b.clock e) (lt-ltb b.node a.node l));
  le = ap (λ o. is_le (ordering_then o (slice_cmp nat_cmp (a.node ∷ body_rank a.body) (b.node ∷ body_rank b.body))))
      (cmp_same a.clock b.clock e)
      ∙ ap (λ o. is_le (ordering_then o (slice_cmp nat_cmp (body_rank a.body) (body_rank b.body))))
      (cmp_more a.node b.node l);
}

tied : (a b : KeyValue) → a.clock ≡ b.clock → a.node ≡ b.node → IsTied a b
tied a b e f = record {
  above = or_is (nat_lt b.clock a.clock) false ((a.clock == b.clock) && nat_lt b.node a.node) false
      (not_below b.clock a.clock (omega (arith, e)))
      (and_is (a.clock == b.clock) (a.clock == b.clock) (nat_lt b.node a.node) false refl
      (not_below b.node a.node (omega (arith, f))) ∙ below_false (a.clock == b.clock));
  stamps = λ i. record { clock = e i; node = f i };
}

how : (a b : KeyValue) → IsLess a b ⊎ (IsMore a b ⊎ IsTied a b)
how a b = elim (leb_tells (suc a.clock) b.clock) [
  | inl v ↦ inl (clock_less a b v.1)
  | inr v ↦ (elim (leb_tells (suc b.clock) a.clock) [
    | inl w ↦ inr (inl (clock_more a b w.1))
    | inr w ↦ (
        let one = v.1 in
        let other = w.1 in
        let same : a.clock ≡ b.clock = omega (arith, one, other) in
        by_node same)
  ])
]
  where
    by_node : a.clock ≡ b.clock → IsLess a b ⊎ (IsMore a b ⊎ IsTied a b)
    by_node e = elim (leb_tells (suc a.node) b.node) [
      | inl v ↦ inl (node_less a b e v.1)
      | inr v ↦ (elim (leb_tells (suc b.node) a.node) [
        | inl w ↦ inr (inl (node_more a b e w.1))
        | inr w ↦ (
            let one = v.1 in
            let other = w.1 in
            inr (inr (tied a b e (omega (arith, one, other)))))
      ])
    ]

later_is : (a : KeyValue) (o : Option KeyValue) → later (stamp_of a) (stamp_in o) ≡ stamp_in (greater (Some a) o)
later_is a None = refl
later_is a (Some b) = ⊎_elim
    (λ (l : IsLess a b).
    ap (λ t. cond t (Some (stamp_of a)) (Some (stamp_of b))) l.above
    ∙ sym (ap (λ t. Some (stamp_of (cond t b a))) l.le))
    (λ k. ⊎_elim
    (λ (m : IsMore a b).
    ap (λ t. cond t (Some (stamp_of a)) (Some (stamp_of b))) m.above
    ∙ sym (ap (λ t. Some (stamp_of (cond t b a))) m.le))
    (λ (e : IsTied a b).
    ap (λ t. cond t (Some (stamp_of a)) (Some (stamp_of b))) e.above ∙ tied_as e.stamps (key_le a b)) k)
    (how a b)
  where
    tied_as : stamp_of a ≡ stamp_of b → (t : Bool) → Some (stamp_of b) ≡ Some (stamp_of (cond t b a))
    tied_as e true = refl
    tied_as e false = ap Some (sym e)

-- ---- what a message tells

-- an operation of an entry carries its key, or none
carries_own : (e : EntryValue) (name : List ℕ) (op : Operation) → IsIn op (operations_of e) →
    KeyUpto (key_in name op) (cond (bytes_eq e.name name) (Some e.key) None)
carries_own e name op h = by_kind (told_of e op h)
  where
    whole : Option KeyValue
    whole = cond (bytes_eq e.name name) (Some e.key) None

    by_kind : IsTold e op → KeyUpto (key_in name op) whole
    by_kind (inl s) = KeyUpto-same _ _ (ap (key_in name) s)
    by_kind (inr (inl (c, k, s))) = subst (λ o. KeyUpto (key_in name o) whole) (sym s) tt
    by_kind (inr (inr (inl (c, k, s)))) = KeyUpto-same _ _ (ap (key_in name) s)
    by_kind (inr (inr (inr (inl (c, k, s))))) = KeyUpto-same _ _ (ap (key_in name) s)
    by_kind (inr (inr (inr (inr (c, k, s))))) = KeyUpto-same _ _ (ap (key_in name) s)

-- with an entry a node has the greater of its key and the entry's
key_with : (e : EntryValue) (name : List ℕ) (ops : List Operation) →
    key_of name (operations_of e ++ ops) ≡ greater (cond (bytes_eq e.name name) (Some e.key) None) (key_of name ops)
key_with e name ops = KeyUpto-antisym _ _
    (key_of-least name (greater own held) (operations_of e ++ ops) (λ op h. ⊎_elim
    (λ k. KeyUpto-trans (key_in name op) own (greater own held) (carries_own e name op k) (greater-left own held))
    (λ k. KeyUpto-trans (key_in name op) held (greater own held) (key_of-is_in name op ops k) (greater-right own held))
    (IsIn-append_cases op (operations_of e) ops h)))
    (greater-least own held (key_of name (operations_of e ++ ops))
    (key_of-is_in name (Set e.name e.key) (operations_of e ++ ops) (inl refl))
    (key_of-mono name ops (operations_of e ++ ops) (λ op h. IsIn-append_right op (operations_of e) ops h)))
  where
    own : Option KeyValue
    own = cond (bytes_eq e.name name) (Some e.key) None

    held : Option KeyValue
    held = key_of name ops

later_if : (t : Bool) (a : KeyValue) (o : Option KeyValue) →
    cond t (later (stamp_of a) (stamp_in o)) (stamp_in o) ≡ stamp_in (greater (cond t (Some a) None) o)
later_if true a o = later_is a o
later_if false a o = refl

none_later : {C : Type 0} (f : C → Operation) (clock : ℕ) → ((c : C) → clock_in (f c) ≤ clock) → (cs : List C) →
    clock_of (map f cs) ≤ clock
none_later f clock h [] = omega arith
none_later f clock h (c ∷ cs) = let first = h c in let rest = none_later f clock h cs in omega (arith, first, rest)

entry_clock : (e : EntryValue) → clock_of (operations_of e) ≡ e.key.clock
entry_clock e =
    let hits = none_later (λ (c : ℕ × ℕ). Count (Hits e.name c.0) c.1) e.key.clock (λ c. omega arith) e.hits in
    let execs = none_later (λ (c : ℕ × ℕ × ℕ). Count (Execs e.name e.key c.0 c.1) c.2) e.key.clock (λ c. omega arith)
    e.execs in
    let shifts = none_later (λ (c : ℕ × ℕ × ℕ × ℕ). Count (Shifts e.name e.key c.0 c.1 c.2) c.3) e.key.clock
    (λ c. omega arith) e.shifts in
    let grants = none_later (λ (c : ℕ × ℕ × ℕ). Count (Shifts e.name e.key c.0 c.1 c.1) c.2) e.key.clock
    (λ c. omega arith) e.grants in
    let first = clock-append (hits_in e.name e.hits) (execs_in e.name e.key e.execs ++
    (shifts_in e.name e.key e.shifts ++ grants_in e.name e.key e.grants)) in
    let second = clock-append (execs_in e.name e.key e.execs)
    (shifts_in e.name e.key e.shifts ++ grants_in e.name e.key e.grants) in
    let third = clock-append (shifts_in e.name e.key e.shifts) (grants_in e.name e.key e.grants) in
    omega (arith, hits, execs, shifts, grants, first, second, third)

heard_is : (name : List ℕ) (clock : ℕ) (ops : List Operation) (e : EntryValue) →
    heard name (known_with clock (stamp_in (key_of name ops))) e
    ≡ known_with (max clock e.key.clock) (stamp_in (key_of name (operations_of e ++ ops)))
unfolding heard
heard_is name clock ops e =
    ap (known_with (max clock e.key.clock)) (later_if (bytes_eq e.name name) e.key (key_of name ops)
    ∙ ap stamp_in (sym (key_with e name ops)))

-- neither the order of two lists of operations nor where they stand matters to a key
key_turned : (name : List ℕ) (a b c : List Operation) → key_of name (a ++ (b ++ c)) ≡ key_of name ((b ++ a) ++ c)
key_turned name a b c = KeyUpto-antisym _ _
    (key_of-mono name (a ++ (b ++ c)) ((b ++ a) ++ c) (λ op h. ⊎_elim
    (λ k. IsIn-append_left op (b ++ a) c (IsIn-append_right op b a k))
    (λ k. ⊎_elim (λ l. IsIn-append_left op (b ++ a) c (IsIn-append_left op b a l))
    (λ l. IsIn-append_right op (b ++ a) c l) (IsIn-append_cases op b c k))
    (IsIn-append_cases op a (b ++ c) h)))
    (key_of-mono name ((b ++ a) ++ c) (a ++ (b ++ c)) (λ op h. ⊎_elim
    (λ k. ⊎_elim (λ l. IsIn-append_right op a (b ++ c) (IsIn-append_left op b c l))
    (λ l. IsIn-append_left op a (b ++ c) l) (IsIn-append_cases op b a k))
    (λ k. IsIn-append_right op a (b ++ c) (IsIn-append_right op b c k))
    (IsIn-append_cases op (b ++ a) c h)))

heard_all_is : (name : List ℕ) (entries : List EntryValue) (clock : ℕ) (ops : List Operation) →
    fold (heard name) (known_with clock (stamp_in (key_of name ops))) entries
    ≡ known_with (max clock (clock_of (flat_map operations_of entries)))
    (stamp_in (key_of name (flat_map operations_of entries ++ ops)))
heard_all_is name [] clock ops = ap (λ k. known_with k (stamp_in (key_of name ops))) (omega arith)
heard_all_is name (e ∷ entries) clock ops =
    let rest : List Operation = flat_map operations_of entries in
    let both = clock-append (operations_of e) rest in
    let own = entry_clock e in
    let clocks : max (max clock e.key.clock) (clock_of rest) ≡ max clock (clock_of (operations_of e ++ rest)) =
    omega (arith, both, own) in
    ap (λ k. fold (heard name) k entries) (heard_is name clock ops e)
    ∙ heard_all_is name entries (max clock e.key.clock) (operations_of e ++ ops)
    ∙ (λ i. known_with (clocks i) (stamp_in (key_turned name rest (operations_of e) ops i)))

-- ---- a call that sets nothing and hears of nothing

pub kept_key : (i : ℕ) (n : Node) (a : Option Asked) (words name : List ℕ) →
    ((op : Operation) → IsIn op (keys_by i n a) → ⊥) → ((op : Operation) → IsIn op (node_after i n a words).ops →
    IsIn op (ops_issued i n a words) ⊎ IsIn op n.ops) →
    (state_shown (node_after i n a words)).key name ≡ (state_shown n).key name
unfolding fold_ops
kept_key i n a words name no_keys from = KeyUpto-antisym _ _
    (key_of-least name (key_of name n.ops) (node_after i n a words).ops (λ op h. ⊎_elim
    (λ k. new op k (key_in name op) refl)
    (λ k. key_of-is_in name op n.ops k)
    (from op h)))
    (key_of-mono name n.ops (node_after i n a words).ops (keeps i n a words))
  where
    new : (op : Operation) → IsIn op (ops_issued i n a words) → (o : Option KeyValue) → key_in name op ≡ o →
        KeyUpto o (key_of name n.ops)
    new op k None e = tt
    new op k (Some key) e = KeyUpto-same _ _ (sym (⊎_elim (λ m. absurd (no_keys _ m)) (λ m. m)
        (own_carries i n a words name key op k e)))

-- ---- one call

set_clock : (stamp : Stamp) (clock i : ℕ) → asks.IsSet stamp ≡ asks.IsSet (record { clock = clock; node = i }) →
    stamp ≡ record { clock = clock; node = i }
set_clock stamp clock i h = cc

removed_clock : (stamp : Stamp) (clock i : ℕ) → asks.IsRemoved stamp ≡ asks.IsRemoved (record { clock = clock; node = i }) →
    stamp ≡ record { clock = clock; node = i }
removed_clock stamp clock i h = cc

set_is : (name other : List ℕ) (i : ℕ) (n : Node) (body : Option (List ℕ)) → clock_of n.ops ≤ n.marks.clock →
    made name other (record { clock = n.marks.clock + 1; node = i }) (known_of name n)
    ≡ known_with (n.marks.clock + 1) (stamp_in ((fold_ops (operations_issued i n.marks.clock ((other, body) ∷ []) ++ n.ops)).key name))
set_is name other i n body low =
    let key : KeyValue = new_key i n.marks.clock body in
    made_is name other key n.marks.clock (state_shown n)
    ∙ ap (λ (v : State). known_with (n.marks.clock + 1) (stamp_in (v.key name)))
    (sym (fold_issued i n.marks.clock ((other, body) ∷ []) n.ops low))

heard_of : (name : List ℕ) (n : Node) (r : Result MessageValue WireFault) →
    fold (heard name) (known_of name n) (told_by r)
    ≡ known_with (max n.marks.clock (clock_of (message_in (read_of r)).ops))
    (stamp_in ((fold_ops ((message_in (read_of r)).ops ++ n.ops)).key name))
unfolding fold_ops
heard_of name n (Ok m) = heard_all_is name m.entries n.marks.clock n.ops
heard_of name n (Err fault) = heard_all_is name [] n.marks.clock n.ops

emit_keeps : (name : List ℕ) (i to : ℕ) (n : Node) (words : List ℕ) (r : Result Message WireFault) →
    known_of name n ≡ known_of name (after i n (emit_of to r) words)
unfolding after
emit_keeps name i to n words (Ok m) = refl
emit_keeps name i to n words (Err fault) = refl

emits_keep : (name : List ℕ) (nodes i to : ℕ) (n : Node) (words : List ℕ) (r : ReplyTold) →
    known_of name n ≡ known_of name (after i n (emit_asked_by nodes to r) words)
unfolding after
emits_keep name nodes i to n words (tells.was_emitted bytes) = emit_keeps name i to n words (message_read nodes bytes)
emits_keep name nodes i to n words (tells.was_set stamp) = refl
emits_keep name nodes i to n words (tells.was_removed stamp) = refl
emits_keep name nodes i to n words (tells.was_loaded entries) = refl
emits_keep name nodes i to n words (tells.was_passed passed) = refl
emits_keep name nodes i to n words (tells.was_shifted total) = refl
emits_keep name nodes i to n words (tells.was_granted total) = refl
emits_keep name nodes i to n words (tells.was_delivered changed) = refl

-- the clock has room for what a load sets
abbrev pub HasRoom : Node → AskTold → Type 0
HasRoom n (tells.loads text) = n.marks.clock + length (points_in text) ≤ most
HasRoom n _ = Unit {0}

-- after a call the chart takes the node to know what it knows
pub knows_after : (name : List ℕ) (nodes i : ℕ) (n : Node) (ask : AskTold) (r : ReplyTold) (words : List ℕ) →
    clock_of n.ops ≤ n.marks.clock → HasRoom n ask →
    answered_from nodes r ≡ reply i n (asked_from nodes ask r) words →
    known_after nodes name i ask r (known_of name n) ≡ known_of name (after i n (asked_from nodes ask r) words)
unfolding after entries_in points_loaded message_read
knows_after name nodes i n (tells.sets other text) (tells.was_set stamp) words low few is =
    ap (λ s. made name other s (known_of name n)) (set_clock stamp (n.marks.clock + 1) i is)
    ∙ set_is name other i n _ low
knows_after name nodes i n (tells.removes other) (tells.was_removed stamp) words low few is =
    ap (λ s. made name other s (known_of name n)) (removed_clock stamp (n.marks.clock + 1) i is)
    ∙ set_is name other i n _ low
knows_after name nodes i n (tells.loads text) r words low few is =
    ap (λ points. loaded name i points (known_of name n)) (same_points (setting_reading text))
    ∙ loaded_is name i n.marks.clock (points_in text) (state_shown n) few
    ∙ ap (λ (v : State). known_with (n.marks.clock + length (points_in text)) (stamp_in (v.key name)))
    (sym (fold_issued i n.marks.clock (settings_of (points_in text)) n.ops low))
knows_after name nodes i n (tells.passes other) r words low few is =
    ap (λ k. known_with n.marks.clock (stamp_in k))
    (sym (kept_key i n (Some (asks.Pass other)) words name (λ op h. h) (λ op h. IsIn-append_cases op _ _ h)))
knows_after name nodes i n (tells.shifts other term to amount) r words low few is =
    ap (λ k. known_with n.marks.clock (stamp_in k))
    (sym (kept_key i n (Some (asks.Shift other term to amount)) words name (λ op h. h)
    (λ op h. IsIn-append_cases op _ _ h)))
knows_after name nodes i n (tells.grants other term amount) r words low few is =
    ap (λ k. known_with n.marks.clock (stamp_in k))
    (sym (kept_key i n (Some (asks.Grant other term amount)) words name (λ op h. h)
    (λ op h. IsIn-append_cases op _ _ h)))
knows_after name nodes i n (tells.emits to) r words low few is = emits_keep name nodes i to n words r
knows_after name nodes i n (tells.delivers bytes) r words low few is = heard_of name n (message_at nodes bytes)
knows_after name nodes i n (tells.sets other text) r words low few is = absurd (cc)
knows_after name nodes i n (tells.removes other) r words low few is = absurd (cc)

-- ---- whether the node has the setting

pub under_is : (name : List ℕ) (key : KeyValue) (v : State) → OneHere v name key →
    is_stamp (stamp_of key) (stamp_in (v.key name)) ≡ is_key key (v.key name)
under_is name key v one = at (v.key name) refl
  where
    other : (k : KeyValue) → v.key name ≡ Some k → (t : Bool) → ((k.clock == key.clock) && (k.node == key.node)) ≡ t →
        ((k.clock == key.clock) && (k.node == key.node)) ≡ is_key key (Some k)
    other k e true f =
        let p = and_parts (k.clock == key.clock) (k.node == key.node) f in
        let both = one name k e (eqb-true k.clock key.clock p.0) (eqb-true k.node key.node p.1) in
        f ∙ sym (is_key-some key (Some k) (ap Some both.1))
    other k e false f = f ∙ sym (unlike (is_key key (Some k)) (λ g.
        let same : k ≡ key = same_key-true k key g in
        true≢false (sym (and_from (k.clock == key.clock) (k.node == key.node)
        (eq-eqb k.clock key.clock (ap (λ (l : KeyValue). l.clock) same))
        (eq-eqb k.node key.node (ap (λ (l : KeyValue). l.node) same))) ∙ f)))
      where
        unlike : (b : Bool) → (b ≡ true → ⊥) → b ≡ false
        unlike true h = absurd (h refl)
        unlike false h = refl

    at : (o : Option KeyValue) → v.key name ≡ o → is_stamp (stamp_of key) (stamp_in o) ≡ is_key key o
    at None e = refl
    at (Some k) e = other k e ((k.clock == key.clock) && (k.node == key.node)) refl
