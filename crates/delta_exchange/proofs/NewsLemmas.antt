-- What is known of what is told, by how its key stands.
use Rattle.std.proofs.Common.{◌≡◌, ℕ, ◌+◌, ◌<◌, Bool, true, false, cond, not, nat_le, List, [], ◌∷◌, ◌++◌, map, take, length, get_or, Option, Some, None, refl, sym, ◌∙◌, ap, append_assoc, add-one}
use Rattle.std.specs.List.{flat_map}
use Rattle.std.proofs.lemmas.List.{map-append}
use Rattle.std.proofs.lemmas.List.Elements.{filter-append}
use Rattle.std.proofs.Math.Seq.{take-suc}
use Rattle.std.specs.Prelude.{filter, unwrap_or}
use Rattle.std.specs.List.{AllByRecursion}
use Rattle.operations.specs.Operations as cells
use Rattle.operations.specs.Operations.{Operation, Set, Count, name_in}
use Rattle.replica_state.specs.States.{State}
use Rattle.message_format.specs.declared.message.NameEntry.{NameEntry}
use Rattle.message_format.specs.Messages.{EntryValue, entry_value, hits_in, execs_in, shifts_in, operations_of}
use Rattle.replica_state.specs.Cells.{held_at}
use Rattle.operations.specs.Counts.{count_told, key_told, operation_told}
use Rattle.delta_exchange.specs.News.{brings_key, knows_held, news_held, unknown_in, news_in}
use Rattle.delta_exchange.proofs.ToldSteps.{next_entry}
use Rattle.std.proofs.lemmas.Bool.{true≢false}
use Rattle.std.specs.Ordering.{nat_cmp, match_ordering, is_eq, is_le, is_gt}
use Rattle.std.specs.declared.cmp.Ordering.{Ordering}
use Rattle.std.specs.declared.cmp.Ordering.TheVariants.{Less, Equal, Greater}
use Rattle.std.specs.Cmp.Lexicographic.{slice_cmp}
use Rattle.stamp_register.specs.Keys.{KeyValue, key_rank, same_key}
use Rattle.replica_state.specs.Knowledge.{is_upto, knows_count, knows}
use Rattle.replica_state.specs.Points.{Held, order_to_held}
use Rattle.replica_state.proofs.Orders.{same_key-true, same_key-cmp}
use Rattle.stamp_register.proofs.KeyLemmas.{true-same_key}

pub known_by_order : (key : KeyValue) (number here : ℕ) (o : Option KeyValue) →
    match_ordering (order_to_held key o) true (nat_le number here) false ≡ knows_count key number here o
known_by_order key number here None = refl
known_by_order key number here (Some other) = by_test (same_key other key) refl
    (slice_cmp nat_cmp (key_rank key) (key_rank other)) refl
  where
    by_test : (t : Bool) → same_key other key ≡ t → (o : Ordering) →
        slice_cmp nat_cmp (key_rank key) (key_rank other) ≡ o →
        match_ordering o true (nat_le number here) false ≡ cond t (nat_le number here)
        (is_le (slice_cmp nat_cmp (key_rank key) (key_rank other)))
    by_test t e Equal f = same t e
      where
        equal : same_key key other ≡ true
        equal = same_key-cmp key other ∙ ap is_eq f

        same : (t : Bool) → same_key other key ≡ t → nat_le number here ≡ cond t (nat_le number here)
            (is_le (slice_cmp nat_cmp (key_rank key) (key_rank other)))
        same true e = refl
        same false e = absurd (true≢false (sym (true-same_key other key (sym (same_key-true key other equal))) ∙ e))
    by_test true e Less f = absurd (true≢false (sym (true-same_key key other (sym (same_key-true other key e))) ∙
        same_key-cmp key other ∙ ap is_eq f))
    by_test true e Greater f = absurd (true≢false (sym (true-same_key key other (sym (same_key-true other key e))) ∙
        same_key-cmp key other ∙ ap is_eq f))
    by_test false e Less f = ap is_le (sym f)
    by_test false e Greater f = ap is_le (sym f)

-- a key stands above the one that is held where it isn't up to it
pub new_by_order : (key : KeyValue) (o : Option KeyValue) → is_gt (order_to_held key o) ≡ not (is_upto (Some key) o)
new_by_order key None = refl
new_by_order key (Some other) = by_order (slice_cmp nat_cmp (key_rank key) (key_rank other))
  where
    by_order : (o : Ordering) → is_gt o ≡ not (is_le o)
    by_order Less = refl
    by_order Equal = refl
    by_order Greater = refl

-- ---- news of one list after another

pub held_append : (h : Held) (a b : List Operation) → news_held h (a ++ b) ≡ news_held h a ++ news_held h b
held_append h a b =
    ap (map (λ op. (op, not (is_upto (key_told op) h.key)))) (filter-append (λ op. not (knows_held h op)) a b)
    ∙ map-append (λ op. (op, not (is_upto (key_told op) h.key))) (filter (λ op. not (knows_held h op)) a)
    (filter (λ op. not (knows_held h op)) b)

pub held_both : (h : Held) (before now after : List (Operation × Bool)) (a b : List Operation) →
    now ≡ before ++ news_held h a → after ≡ now ++ news_held h b → after ≡ before ++ news_held h (a ++ b)
held_both h before now after a b p q =
    q ∙ ap (λ ns. ns ++ news_held h b) p ∙ append_assoc before (news_held h a) (news_held h b) ∙
    ap (λ ns. before ++ ns) (sym (held_append h a b))

-- what is held of its name knows an operation where the state does
knows_of_name : (v : State) (op : Operation) → knows_held (held_at v (name_in op)) op ≡ knows v op
knows_of_name v (Set name key) = refl
knows_of_name v (Count (cells.Hits name node) number) = refl
knows_of_name v (Count (cells.Execs name key term node) number) = refl
knows_of_name v (Count (cells.Shifts name key term from to) number) = refl

-- so the news of operations of a name are those by what is held of it
pub news_of_name : (v : State) (name : List ℕ) (ops : List Operation) → AllByRecursion (λ op. name_in op ≡ name) ops →
    news_held (held_at v name) ops ≡ news_in v ops
news_of_name v name [] h = refl
news_of_name v name (op ∷ ops) h =
    ap (λ t. map flag_held (cond (not t) (op ∷ filter (λ o. not (knows_held (held_at v name) o)) ops)
    (filter (λ o. not (knows_held (held_at v name) o)) ops))) same
    ∙ by_test (news_of_name v name ops h.1) (knows v op)
  where
    flag_held : Operation → Operation × Bool
    flag_held o = (o, not (is_upto (key_told o) (v.key name)))

    same : knows_held (held_at v name) op ≡ knows v op
    same = ap (λ n. knows_held (held_at v n) op) (sym h.0) ∙ knows_of_name v op

    flag : not (is_upto (key_told op) (v.key name)) ≡ brings_key v op
    flag = ap (λ n. not (is_upto (key_told op) (v.key n))) (sym h.0)

    by_test : news_held (held_at v name) ops ≡ news_in v ops → (t : Bool) →
        map flag_held (cond (not t) (op ∷ filter (λ o. not (knows_held (held_at v name) o)) ops)
        (filter (λ o. not (knows_held (held_at v name) o)) ops))
        ≡ map (λ o. (o, brings_key v o)) (cond (not t) (op ∷ unknown_in v ops) (unknown_in v ops))
    by_test rest true = rest
    by_test rest false = λ i. (op, flag i) ∷ rest i

module _ {C : Type 0} (told : C → Operation) (name : List ℕ) (named : (c : C) → name_in (told c) ≡ name) where
  pub all_named : (cells : List C) → AllByRecursion (λ op. name_in op ≡ name) (map told cells)
  all_named [] = tt
  all_named (c ∷ cells) = (named c, all_named cells)

module _ {C : Type 0} (told : C → Operation) (cells : List C) where
  next_told : (i : ℕ) (d : C) → i < length cells → map told (take (i + 1) cells) ≡ map told (take i cells) ++
      (told (get_or cells i d) ∷ [])
  next_told i d below = ap (λ n. map told (take n cells)) (add-one i) ∙ ap (map told) (take-suc cells i d below) ∙
      map-append told (take i cells) (get_or cells i d ∷ [])

  pub held_next : (h : Held) (before now after : List (Operation × Bool)) (i : ℕ) (d : C) → i < length cells →
      now ≡ before ++ news_held h (map told (take i cells)) →
      after ≡ now ++ news_held h (told (get_or cells i d) ∷ []) →
      after ≡ before ++ news_held h (map told (take (i + 1) cells))
  held_next h before now after i d below p q = held_both h before now after (map told (take i cells))
      (told (get_or cells i d) ∷ []) p q ∙ ap (λ os. before ++ news_held h os) (sym (next_told i d below))

pub news_append : (v : State) (a b : List Operation) → news_in v (a ++ b) ≡ news_in v a ++ news_in v b
news_append v a b = ap (map (λ op. (op, brings_key v op))) (filter-append (λ op. not (knows v op)) a b) ∙
    map-append (λ op. (op, brings_key v op)) (unknown_in v a) (unknown_in v b)

pub news_both : (v : State) (before now after : List (Operation × Bool)) (a b : List Operation) →
    now ≡ before ++ news_in v a → after ≡ now ++ news_in v b → after ≡ before ++ news_in v (a ++ b)
news_both v before now after a b h k =
    k ∙ ap (λ ns. ns ++ news_in v b) h ∙ append_assoc before (news_in v a) (news_in v b) ∙
    ap (λ ns. before ++ ns) (sym (news_append v a b))

-- one more operation
module _ {C : Type 0} (told : C → Operation) (cells : List C) where
  pub news_next : (v : State) (before now after : List (Operation × Bool)) (i : ℕ) (d : C) → i < length cells →
      now ≡ before ++ news_in v (map told (take i cells)) → after ≡ now ++ news_in v (told (get_or cells i d) ∷ []) →
      after ≡ before ++ news_in v (map told (take (i + 1) cells))
  news_next v before now after i d below h k = news_both v before now after (map told (take i cells))
      (told (get_or cells i d) ∷ []) h k ∙ ap (λ os. before ++ news_in v os) (sym (next_told told cells i d below))

-- one more entry
pub news_next_entry : (entries : List NameEntry) (v : State) (now after : List (Operation × Bool)) (i : ℕ)
    (d : NameEntry) → i < length entries → now ≡ news_in v (flat_map operations_of (map entry_value (take i entries))) →
    after ≡ now ++ news_in v (operations_of (entry_value (get_or entries i d))) →
    after ≡ news_in v (flat_map operations_of (map entry_value (take (i + 1) entries)))
news_next_entry entries v now after i d below h k = news_both v [] now after
    (flat_map operations_of (map entry_value (take i entries))) (operations_of (entry_value (get_or entries i d))) h k ∙
    ap (news_in v) (sym (next_entry entries i d below))

-- what an entry tells is of its name
pub entry_named : (e : EntryValue) → AllByRecursion (λ op. name_in op ≡ e.name) (operations_of e)
entry_named e = (
  refl,
  both (hits_in e.name e.hits) _ (all_named (λ (c : ℕ × ℕ). Count (cells.Hits e.name c.0) c.1) e.name (λ c. refl)
      e.hits)
      (both (execs_in e.name e.key e.execs) _ (all_named (λ (c : ℕ × ℕ × ℕ). Count (cells.Execs e.name e.key c.0 c.1)
      c.2) e.name (λ c. refl) e.execs)
      (both (shifts_in e.name e.key e.shifts) _ (all_named (λ (c : ℕ × ℕ × ℕ × ℕ). Count
      (cells.Shifts e.name e.key c.0 c.1 c.2) c.3) e.name (λ c. refl) e.shifts)
      (all_named (λ (c : ℕ × ℕ × ℕ). Count (cells.Shifts e.name e.key c.0 c.1 c.1) c.2) e.name (λ c. refl) e.grants))),
)
  where
    both : (xs ys : List Operation) → AllByRecursion (λ op. name_in op ≡ e.name) xs →
        AllByRecursion (λ op. name_in op ≡ e.name) ys → AllByRecursion (λ op. name_in op ≡ e.name) (xs ++ ys)
    both [] ys h k = k
    both (x ∷ xs) ys h k = (h.0, both xs ys h.1 k)

-- an operation is told again by its name, its key or any, and its count
pub told_again : (op : Operation) (key : KeyValue) → operation_told (name_in op) (unwrap_or (key_told op) key)
    (count_told op) ≡ op
told_again (Set name k) key = refl
told_again (Count (cells.Hits name node) number) key = refl
told_again (Count (cells.Execs name k term node) number) key = refl
told_again (Count (cells.Shifts name k term from to) number) key = refl
