-- What a state learns of news, and what changes by it.
use Rattle.std.proofs.Common.{◌≡◌, ℕ, ◌≤◌, Bool, true, false, cond, not, nat_le, nat_lt, ◌&&◌, ◌||◌, List, [], ◌∷◌, ◌++◌, map, length, inl, inr, ⊎_elim, Option, Some, None, refl, sym, ◌∙◌, ap, subst, append_assoc, arith}
use Rattle.std.proofs.lemmas.Bool.{true≢false, and_parts, and_from, not-false}
use Rattle.std.specs.List.{list_any, filter, AllByRecursion}
use Rattle.std.specs.Str.{bytes_eq}
use Rattle.stamp_register.specs.Keys.{KeyValue}
use Rattle.operations.specs.declared.counted.Counted.{Counted}
use Rattle.operations.specs.declared.counted.Counted.TheVariants as counted
use Rattle.operations.specs.Counts.{same_counted, is_hits, key_told, count_told}
use Rattle.operations.specs.Operations.{Operation, Cell, Set, Count, Hits, Execs, Shifts, IsIn, IsWellFormed, name_in}
use Rattle.replica_state.specs.States.{State}
use Rattle.replica_state.specs.Folds.{fold, key_in, key_in_cell, at_key, key_of, number_at}
use Rattle.replica_state.specs.Cells.{cell_of}
use Rattle.replica_state.specs.Knowledge.{is_upto, knows, knows_count, changes}
use Rattle.replica_state.proofs.Orders.{bytes_eq-true, bytes_eq-refl}
use Rattle.replica_state.proofs.Sets.{number_at-is_in, number_at-least, KeyUpto, KeyUpto-antisym, key_of-is_in, key_of-least, key_of-mono}
use Rattle.operations.proofs.Members.{IsIn-append_left, IsIn-append_right, IsIn-append_cases}
use Rattle.replica_state.proofs.KnownSets.{own_name, same_members}
use Rattle.replica_state.proofs.Changes.{any_false, false_any, upto_true, true_upto, known_key, at_one, le_both, is_known, no_change}
use Rattle.replica_state.proofs.Unions.{fold-union}
use Rattle.operations.proofs.Counts.{same_counted-refl, same_counted-true}
use Rattle.delta_exchange.specs.Changes.{IsSameKey, IsSameCell, ChangesAt}
use Rattle.delta_exchange.specs.Marks.{MarksValue, AreUpto, is_of, with_mark, last_changes}
use Rattle.delta_exchange.specs.News.{brings_key, unknown_in, news_in, counted_of, with_news}
use Rattle.delta_exchange.proofs.ChangeLemmas.{Tells, changes_told, upto_marked}

-- ---- what is unknown is a part

module _ (test : Operation → Bool) where
  in_part : (ops : List Operation) (op : Operation) → IsIn op (filter test ops) → IsIn op ops × (test op ≡ true)
  in_part [] op m = absurd m
  in_part (o ∷ ops) op m = by_test (test o) refl m (in_part ops op)
    where
      by_test : (b : Bool) → test o ≡ b → IsIn op (cond b (o ∷ filter test ops) (filter test ops)) →
          (IsIn op (filter test ops) → IsIn op ops × (test op ≡ true)) → IsIn op (o ∷ ops) × (test op ≡ true)
      by_test true e (inl same) go = (inl same, ap test same ∙ e)
      by_test true e (inr rest) go = (inr (go rest).0, (go rest).1)
      by_test false e rest go = (inr (go rest).0, (go rest).1)

  part_in : (ops : List Operation) (op : Operation) → IsIn op ops → test op ≡ true → IsIn op (filter test ops)
  part_in [] op m e = absurd m
  part_in (o ∷ ops) op m e = by_test (test o) refl m (λ rest. part_in ops op rest e)
    where
      by_test : (b : Bool) → test o ≡ b → IsIn op (o ∷ ops) → (IsIn op ops → IsIn op (filter test ops)) →
          IsIn op (cond b (o ∷ filter test ops) (filter test ops))
      by_test true f (inl same) go = inl same
      by_test true f (inr rest) go = inr (go rest)
      by_test false f (inl same) go = absurd (true≢false (sym e ∙ ap test same ∙ f))
      by_test false f (inr rest) go = go rest

  -- some passes where the part has any
  pub any_in_part : (ops : List Operation) → list_any test ops ≡ nat_lt 0 (length (filter test ops))
  any_in_part [] = refl
  any_in_part (o ∷ ops) = by_test (test o) (any_in_part ops)
    where
      by_test : (b : Bool) → list_any test ops ≡ nat_lt 0 (length (filter test ops)) →
          (b || list_any test ops) ≡ nat_lt 0 (length (cond b (o ∷ filter test ops) (filter test ops)))
      by_test true e = grind arith
      by_test false e = e

  pub all_in_part : (ops : List Operation) → AllByRecursion IsWellFormed ops →
      AllByRecursion IsWellFormed (filter test ops)
  all_in_part [] h = tt
  all_in_part (o ∷ ops) h = by_test (test o) (all_in_part ops h.1)
    where
      by_test : (b : Bool) → AllByRecursion IsWellFormed (filter test ops) →
          AllByRecursion IsWellFormed (cond b (o ∷ filter test ops) (filter test ops))
      by_test true rest = (h.0, rest)
      by_test false rest = rest

-- the set with the news is the set with all that was told
pub news_suffice : (base told : List Operation) → fold (unknown_in (fold base) told ++ base) ≡ fold (told ++ base)
news_suffice base told =
    fold-union fresh base fresh (known ++ base) refl (sym (no_change known base unchanged)) ∙
    ap fold (sym (append_assoc fresh known base)) ∙ same_members ((fresh ++ known) ++ base) (told ++ base) there back
  where
    fresh : List Operation
    fresh = unknown_in (fold base) told

    known : List Operation
    known = filter (knows (fold base)) told

    unchanged : changes (fold base) known ≡ false
    unchanged = false_any (λ op. not (knows (fold base) op)) known
        (λ op m. ap not (in_part (knows (fold base)) told op m).1)

    there : (op : Operation) → IsIn op ((fresh ++ known) ++ base) → IsIn op (told ++ base)
    there op h = ⊎_elim
        (λ k. IsIn-append_left op told base (⊎_elim (λ m. (in_part (λ o. not (knows (fold base) o)) told op m).0)
        (λ m. (in_part (knows (fold base)) told op m).0) (IsIn-append_cases op fresh known k)))
        (λ m. IsIn-append_right op told base m) (IsIn-append_cases op (fresh ++ known) base h)

    back : (op : Operation) → IsIn op (told ++ base) → IsIn op ((fresh ++ known) ++ base)
    back op h = ⊎_elim (λ m. IsIn-append_left op (fresh ++ known) base (by_test op m (knows (fold base) op) refl))
        (λ m. IsIn-append_right op (fresh ++ known) base m) (IsIn-append_cases op told base h)
      where
        by_test : (op : Operation) → IsIn op told → (b : Bool) → knows (fold base) op ≡ b → IsIn op (fresh ++ known)
        by_test op m true e = IsIn-append_right op fresh known (part_in (knows (fold base)) told op m e)
        by_test op m false e = IsIn-append_left op fresh known
            (part_in (λ o. not (knows (fold base) o)) told op m (ap not e))

-- ---- the marks of news

abbrev pub changes_key : State → List ℕ → Operation → Bool
changes_key v n op = bytes_eq (name_in op) n && brings_key v op

abbrev pub changes_cell : List ℕ → Counted → Operation → Bool
changes_cell n c op = bytes_eq (name_in op) n && is_of (counted_of (count_told op)) c

pub upto_more : (m : MarksValue) (u version : ℕ) → u ≤ version → AreUpto m u → AreUpto m version
upto_more m u version low h = record {
  key = h.key;
  cell = h.cell;
  latest = λ name. let l = h.latest name in omega (arith, low, l);
}

pub marks_upto : (version : ℕ) (ns : List (Operation × Bool)) (m : MarksValue) → AreUpto m version →
    AreUpto (with_news version ns m) version
marks_upto version [] m upto = upto
marks_upto version (n ∷ ns) m upto = marks_upto version ns (with_mark (name_in n.0) n.1 (counted_of (count_told n.0))
    version m) (upto_marked m (name_in n.0) n.1 (counted_of (count_told n.0)) version version (omega arith) upto)

module _ (v : State) (version : ℕ) where
  abbrev pub marked_by : List Operation → MarksValue → MarksValue
  marked_by ops m = with_news version (map (λ op. (op, brings_key v op)) ops) m

  either : (a b : Bool) (x : ℕ) → cond b version (cond a version x) ≡ cond (a || b) version x
  either true true x = refl
  either true false x = refl
  either false b x = refl

  pub keys_marked : (ops : List Operation) (m : MarksValue) (n : List ℕ) →
      (marked_by ops m).key n ≡ cond (list_any (changes_key v n) ops) version (m.key n)
  unfolding with_mark
  keys_marked [] m n = refl
  keys_marked (op ∷ ops) m n = keys_marked ops (with_mark (name_in op) (brings_key v op) (counted_of (count_told op))
      version m) n ∙ either (changes_key v n op) (list_any (changes_key v n) ops) (m.key n)

  pub cells_marked : (ops : List Operation) (m : MarksValue) (n : List ℕ) (c : Counted) →
      (marked_by ops m).cell n c ≡ cond (list_any (changes_cell n c) ops) version (m.cell n c)
  unfolding with_mark
  cells_marked [] m n c = refl
  cells_marked (op ∷ ops) m n c = cells_marked ops (with_mark (name_in op) (brings_key v op)
      (counted_of (count_told op)) version m) n c ∙ either (changes_cell n c op) (list_any (changes_cell n c) ops)
      (m.cell n c)

-- ---- a state and what it is with news

some_true : (test : Operation → Bool) (ops : List Operation) → list_any test ops ≡ true →
    (op : Operation) × IsIn op ops × (test op ≡ true)
some_true test [] e = absurd (true≢false (sym e))
some_true test (o ∷ ops) e = by_test (test o) refl e (some_true test ops)
  where
    by_test : (b : Bool) → test o ≡ b → (b || list_any test ops) ≡ true →
        (list_any test ops ≡ true → (op : Operation) × IsIn op ops × (test op ≡ true)) →
        (op : Operation) × IsIn op (o ∷ ops) × (test op ≡ true)
    by_test true f h go = (o, inl refl, f)
    by_test false f h go = let found = go h in (found.0, inr found.1, found.2)

not_true : (a : Bool) → not a ≡ true → a ≡ false
not_true true e = absurd (true≢false (sym e))
not_true false e = refl

at_none : (k : Option KeyValue) (f : KeyValue → ℕ) → ((key : KeyValue) → k ≡ Some key → f key ≡ 0) → at_key k f ≡ 0
at_none None f h = refl
at_none (Some key) f h = h key refl

own_key : (op : Operation) → key_in (name_in op) op ≡ key_told op
own_key (Set n key) = own_name n key
own_key (Count (Hits n i) k) = refl
own_key (Count (Execs n key t i) k) = own_name n key
own_key (Count (Shifts n key t i j) k) = own_name n key

carried : (v : State) (m n : List ℕ) (key : KeyValue) → (bytes_eq m n && not (is_upto (Some key) (v.key m))) ≡ false →
    KeyUpto (cond (bytes_eq m n) (Some key) None) (v.key n)
carried v m n key e = by_name (bytes_eq m n) refl e
  where
    by_name : (b : Bool) → bytes_eq m n ≡ b → (b && not (is_upto (Some key) (v.key m))) ≡ false →
        KeyUpto (cond b (Some key) None) (v.key n)
    by_name true f h = subst (λ q. KeyUpto (Some key) (v.key q)) (bytes_eq-true m n f)
        (upto_true (Some key) (v.key m) (not-false (is_upto (Some key) (v.key m)) h))
    by_name false f h = tt

not_received : (v : State) (n : List ℕ) (op : Operation) → changes_key v n op ≡ false → KeyUpto (key_in n op) (v.key n)
not_received v n (Set m key) e = carried v m n key e
not_received v n (Count (Hits m i) k) e = tt
not_received v n (Count (Execs m key t i) k) e = carried v m n key e
not_received v n (Count (Shifts m key t i j) k) e = carried v m n key e

-- where neither its key nor its cell differs, an operation is known of both or of none
alike : (v w : State) (op : Operation) (c : Counted) → is_of (counted_of (count_told op)) c ≡ true →
    IsSameCell v w (name_in op) c → knows v op ≡ knows w op
alike v w (Set m key) c e same = absurd (true≢false (sym e))
alike v w (Count (Hits m i) k) c e same =
    let here = subst (λ d. IsSameCell v w m d) (sym (same_counted-true (counted.Hits i) c e)) same in
    ap (λ x. nat_le k x) here.1
alike v w (Count (Execs m key t i) k) c e same =
    let here = subst (λ d. IsSameCell v w m d) (sym (same_counted-true (counted.Execs t i) c e)) same in
    let keys = here.0 refl in
    λ x. knows_count key k (here.1 x) (keys x)
alike v w (Count (Shifts m key t i j) k) c e same =
    let here = subst (λ d. IsSameCell v w m d) (sym (same_counted-true (counted.Shifts t i j) c e)) same in
    let keys = here.0 refl in
    λ x. knows_count key k (here.1 x) (keys x)

module _ (base fresh : List Operation) (unknown : (op : Operation) → IsIn op fresh → knows (fold base) op ≡ false) where
  learned : (op : Operation) → IsIn op fresh → knows (fold (fresh ++ base)) op ≡ true
  learned op m = is_known fresh (fresh ++ base) (same_members (fresh ++ (fresh ++ base)) (fresh ++ base)
      (λ o h. ⊎_elim (λ k. IsIn-append_left o fresh base k) (λ k. k) (IsIn-append_cases o fresh (fresh ++ base) h))
      (λ o h. IsIn-append_right o fresh (fresh ++ base) h)) op m

  received : (op : Operation) → IsIn op fresh → (n : List ℕ) → changes_key (fold base) n op ≡ true →
      IsSameKey (fold base) (fold (fresh ++ base)) n → ⊥
  received op m n e same =
      let v = fold base in
      let w = fold (fresh ++ base) in
      let parts = and_parts (bytes_eq (name_in op) n) (brings_key v op) e in
      let here : v.key (name_in op) ≡ w.key (name_in op) = subst (λ q. v.key q ≡ w.key q)
      (sym (bytes_eq-true (name_in op) n parts.0)) same in
      let upto : KeyUpto (key_told op) (w.key (name_in op)) =
      subst (λ k. KeyUpto k (w.key (name_in op))) (own_key op) (known_key (name_in op) w op (learned op m)) in
      let known : is_upto (key_told op) (v.key (name_in op)) ≡ true =
      true_upto (key_told op) (v.key (name_in op)) (subst (KeyUpto (key_told op)) (sym here) upto) in
      true≢false (sym parts.1 ∙ ap not known)

  kept_key : (n : List ℕ) → list_any (changes_key (fold base) n) fresh ≡ false →
      IsSameKey (fold base) (fold (fresh ++ base)) n
  unfolding fold
  kept_key n e = KeyUpto-antisym _ _ (key_of-mono n base (fresh ++ base) (λ op. IsIn-append_right op fresh base))
      (key_of-least n (key_of n base) (fresh ++ base) (λ op m. ⊎_elim
      (λ k. not_received (fold base) n op (any_false (changes_key (fold base) n) fresh e op k))
      (key_of-is_in n op base) (IsIn-append_cases op fresh base m)))

  kept_number : (c : Cell) → ((k : ℕ) → IsIn (Count c k) fresh → ⊥) → number_at c base ≡ number_at c (fresh ++ base)
  kept_number c none = le_both _ _
      (number_at-least c _ base (λ k m. number_at-is_in c k (fresh ++ base)
      (IsIn-append_right (Count c k) fresh base m)))
      (number_at-least c _ (fresh ++ base) (λ k m. ⊎_elim (λ h. absurd (none k h)) (number_at-is_in c k base)
      (IsIn-append_cases (Count c k) fresh base m)))

  none_told : (n : List ℕ) (c : Counted) → list_any (changes_cell n c) fresh ≡ false → (op : Operation) →
      name_in op ≡ n → counted_of (count_told op) ≡ Some c → IsIn op fresh → ⊥
  none_told n c e op named told m =
      let itself : changes_cell n c op ≡ true = (λ x. bytes_eq (named x) n && is_of (told x) c) ∙
      and_from (bytes_eq n n) (same_counted c c) (bytes_eq-refl n) (same_counted-refl c) in
      true≢false (sym itself ∙ any_false (changes_cell n c) fresh e op m)

  kept_cell : (n : List ℕ) (c : Counted) → list_any (changes_cell n c) fresh ≡ false →
      (is_hits c ≡ false → IsSameKey (fold base) (fold (fresh ++ base)) n) →
      cell_of (fold base) n c ≡ cell_of (fold (fresh ++ base)) n c
  unfolding fold
  kept_cell n (counted.Hits i) e k = kept_number (Hits n i) (λ number m. none_told n (counted.Hits i) e
      (Count (Hits n i) number) refl refl m)
  kept_cell n (counted.Execs t i) e k = at_one (key_of n base) (key_of n (fresh ++ base)) _ _ (k refl)
      (λ key f. kept_number (Execs n key t i) (λ number m. none_told n (counted.Execs t i) e
      (Count (Execs n key t i) number) refl refl m))
  kept_cell n (counted.Shifts t i j) e k = at_one (key_of n base) (key_of n (fresh ++ base)) _ _ (k refl)
      (λ key f. kept_number (Shifts n key t i j) (λ number m. none_told n (counted.Shifts t i j) e
      (Count (Shifts n key t i j) number) refl refl m))

  -- under a key that the state didn't have there is no more than what is told
  no_number : (n : List ℕ) → (IsSameKey (fold base) (fold (fresh ++ base)) n → ⊥) → (key : KeyValue) →
      key_of n (fresh ++ base) ≡ Some key → (c : Cell) → key_in_cell n c ≡ Some key →
      ((k : ℕ) → IsIn (Count c k) fresh → ⊥) → number_at c (fresh ++ base) ≡ 0
  unfolding fold
  no_number n other key here c carries none = no_more (number_at-least c 0 (fresh ++ base)
      (λ k m. ⊎_elim (λ h. absurd (none k h)) (λ h. absurd (old k h)) (IsIn-append_cases (Count c k) fresh base m)))
    where
      no_more : {x : ℕ} → x ≤ 0 → x ≡ 0
      no_more h = omega arith

      old : (k : ℕ) → IsIn (Count c k) base → ⊥
      old k h = other (KeyUpto-antisym _ _ (key_of-mono n base (fresh ++ base) (λ op. IsIn-append_right op fresh base))
          (subst (λ o. KeyUpto o (key_of n base)) (carries ∙ sym here) (key_of-is_in n (Count c k) base h)))

  new_cell : (n : List ℕ) (c : Counted) → is_hits c ≡ false → (IsSameKey (fold base) (fold (fresh ++ base)) n → ⊥) →
      list_any (changes_cell n c) fresh ≡ false → cell_of (fold (fresh ++ base)) n c ≡ 0
  unfolding fold
  new_cell n (counted.Hits i) h other e = absurd (true≢false h)
  new_cell n (counted.Execs t i) h other e = at_none (key_of n (fresh ++ base)) _
      (λ key f. no_number n other key f (Execs n key t i) (own_name n key)
      (λ k m. none_told n (counted.Execs t i) e (Count (Execs n key t i) k) refl refl m))
  new_cell n (counted.Shifts t i j) h other e = at_none (key_of n (fresh ++ base)) _
      (λ key f. no_number n other key f (Shifts n key t i j) (own_name n key)
      (λ k m. none_told n (counted.Shifts t i j) e (Count (Shifts n key t i j) k) refl refl m))

  differs : (n : List ℕ) (c : Counted) (op : Operation) → IsIn op fresh → changes_cell n c op ≡ true →
      IsSameCell (fold base) (fold (fresh ++ base)) n c → ⊥
  differs n c op m e same =
      let parts = and_parts (bytes_eq (name_in op) n) (is_of (counted_of (count_told op)) c) e in
      let here = subst (λ q. IsSameCell (fold base) (fold (fresh ++ base)) q c)
      (sym (bytes_eq-true (name_in op) n parts.0)) same in
      true≢false (sym (learned op m) ∙ sym (alike (fold base) (fold (fresh ++ base)) op c parts.1 here) ∙ unknown op m)

  key_differs : (n : List ℕ) → list_any (changes_key (fold base) n) fresh ≡ true →
      IsSameKey (fold base) (fold (fresh ++ base)) n → ⊥
  key_differs n e same = let found = some_true (changes_key (fold base) n) fresh e in
      received found.0 found.1 n found.2 same

  pub news_tell : Tells (fold base) (fold (fresh ++ base)) (λ n. list_any (changes_key (fold base) n) fresh)
      (λ n c. list_any (changes_cell n c) fresh)
  news_tell = record {
    key_differs = key_differs;
    key_stays = kept_key;
    cell_differs = λ n c some e same.
        let found = some_true (changes_cell n c) fresh e in
        differs n c found.0 found.1 found.2 same;
    cell_stays = λ n c some e k. (λ h. kept_key n (k h), kept_cell n c e (λ h. kept_key n (k h)));
    cell_new = λ n c h k e. new_cell n c h (key_differs n k) e;
  }

-- all that is unknown is told, and marked
pub news_change : (base told : List Operation) (m : MarksValue) (version : ℕ) → 1 ≤ version → AreUpto m version →
    ChangesAt (fold base) (fold (unknown_in (fold base) told ++ base)) version (last_changes m)
    (last_changes (with_news version (news_in (fold base) told) m))
news_change base told m version some upto =
    changes_told (fold base) (fold (unknown_in (fold base) told ++ base)) _ _
    (news_tell base (unknown_in (fold base) told) (λ op h. not_true (knows (fold base) op)
    (in_part (λ o. not (knows (fold base) o)) told op h).1))
    version some m (with_news version (news_in (fold base) told) m)
    (marks_upto version (news_in (fold base) told) m upto)
    (keys_marked (fold base) version (unknown_in (fold base) told) m)
    (λ n c _. cells_marked (fold base) version (unknown_in (fold base) told) m n c)
