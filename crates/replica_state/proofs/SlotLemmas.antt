-- What a slot counts after a number of it was raised.
use Rattle.std.proofs.Common.{◌≡◌, ◌≢◌, ℕ, ◌+◌, ◌≤◌, ◌==◌, ◌&&◌, max, Bool, true, false, cond, [], Option, Some, None, refl, sym, ◌∙◌, ap, subst, arith}
use Rattle.std.proofs.lemmas.Bool.{true≢false, eqb-true, eqb-false, eq-eqb}
use Rattle.std.proofs.lemmas.Map.Lookups.{exact_unsigned}
use Rattle.std.specs.Prelude.{unwrap_or, option_map, IfNone, IfSome}
use Rattle.std.specs.Prelude.{pos}
use Rattle.std.specs.Option.{IsSome, option_map_or}
use Rattle.std.proofs.lemmas.Int.{ints}
use Rattle.counters.specs.Sums.{node_numbers}
use Rattle.counters.specs.Budgets.{Budget, rights, total_spent}
use Rattle.counters.proofs.SumLemmas.{sum_others-zero, sum-zero}
use Rattle.operations.specs.Operations.{count_of}
use Rattle.std.specs.Ordering.{nat_cmp}
use Rattle.std.specs.declared.cmp.Ordering.TheVariants.{Equal}
use Rattle.lattice_laws.specs.Order.{IsCopy, IsJoin, Same}
use Rattle.lattice_laws.specs.Map.{stored_at, value_at, PutsOnly, RaisesOnly, put_same}
use Rattle.lattice_laws.proofs.Joins.{copy_from_bottom}
use Rattle.counters.specs.Cells.{Cells, Shares, cell, row_cell, spent_cell, moved_cell, no_shares, budget_of, WritesCell}
use Rattle.operations.specs.declared.counted.Counted.{Counted}
use Rattle.operations.specs.declared.counted.Counted.TheVariants.{Hits, Execs, Shifts}
use Rattle.operations.specs.declared.counted.Count.{Count}
use Rattle.stamp_register.specs.declared.key.Key.{Key}
use Rattle.stamp_register.specs.Keys.{key_value}
use Rattle.replica_state.specs.Points.{Held, empty_held, raised_numbers, only_hits, held_after_key, spending, held_after_pass, budget_in, budget_under}
use Rattle.operations.specs.Counts.{same_counted, is_hits, term_of}
use Rattle.replica_state.specs.MatrixStates.{share_upto, cell_upto}
use Rattle.replica_state.specs.MatrixOrder.{cells_order, are_cells, shares_order, are_shares, shares_laws}
use Rattle.replica_state.specs.declared.slot.Slot.{Slot}
use Rattle.replica_state.specs.Slots.{Budgets, slot_held, slot_key, slot_number, under_key, share_number, budgets_number, IsShareRaised}

-- ---- budgets, by their cells

le_both : (a b : ℕ) → a ≤ b → b ≤ a → a ≡ b
le_both a b h k = omega arith

pub share_same : (x y : Shares) → Same shares_order x y → (c : Counted) → share_number x c ≡ share_number y c
share_same x y h c = le_both _ _ (share_upto x y h.0 c) (share_upto y x h.1 c)

-- ---- one budget of many

budgets_at : (budgets : Budgets) (term : ℕ) (c : Counted) → term_of c ≡ Some term →
    budgets_number budgets c ≡ share_number (value_at nat_cmp no_shares budgets term) c
budgets_at budgets term (Hits node) e = absurd (let impossible : ◌≡◌ {A = Option ℕ} None (Some term) = e in cc)
budgets_at budgets term (Execs t node) e = let same : t ≡ term = cc in
    ap (λ k. share_number (value_at nat_cmp no_shares budgets k) (Execs t node)) same
budgets_at budgets term (Shifts t from to) e = let same : t ≡ term = cc in
    ap (λ k. share_number (value_at nat_cmp no_shares budgets k) (Shifts t from to)) same

pub found_at : (budgets : Budgets) (term : ℕ) (held : Shares) → stored_at nat_cmp budgets term ≡ Some held →
    (c : Counted) → term_of c ≡ Some term → budgets_number budgets c ≡ share_number held c
found_at budgets term held found c e = budgets_at budgets term c e ∙
    ap (λ (o : Option Shares). share_number (unwrap_or o no_shares) c) found

no_share : (c : Counted) → share_number no_shares c ≡ 0
unfolding cell row_cell
no_share (Hits node) = refl
no_share (Execs term node) = refl
no_share (Shifts term from to) = refl

pub absent_at : (budgets : Budgets) (term : ℕ) → stored_at nat_cmp budgets term ≡ None → (c : Counted) →
    term_of c ≡ Some term → budgets_number budgets c ≡ 0
absent_at budgets term none c e = budgets_at budgets term c e ∙
    ap (λ (o : Option Shares). share_number (unwrap_or o no_shares) c) none ∙ no_share c

pub not_found : {A : Type 0} (o : Option A) → (IsSome o → false ≡ true) → o ≡ None
not_found None h = refl
not_found (Some held) h = absurd (true≢false (sym (h refl)))

-- ---- a number of one of them raised

other_term : (counted d : Counted) (term t : ℕ) → term_of counted ≡ Some term → term_of d ≡ Some t → t ≢ term →
    same_counted counted d ≡ false
other_term (Hits node) d term t e f ne = absurd (let impossible : ◌≡◌ {A = Option ℕ} None (Some term) = e in cc)
other_term (Execs k node) (Hits j) term t e f ne = refl
other_term (Execs k node) (Execs l j) term t e f ne = apart (k == l) (eqb-true k l)
    (λ s. let a : k ≡ term = cc in let b : l ≡ t = cc in ne (sym b ∙ sym s ∙ a))
  where
    apart : (r : Bool) → (r ≡ true → k ≡ l) → (k ≡ l → ⊥) → (r && (node == j)) ≡ false
    apart true g n = absurd (n (g refl))
    apart false g n = refl
other_term (Execs k node) (Shifts l i o) term t e f ne = refl
other_term (Shifts k i o) (Hits j) term t e f ne = refl
other_term (Shifts k i o) (Execs l j) term t e f ne = refl
other_term (Shifts k i o) (Shifts l p q) term t e f ne = apart (k == l) (eqb-true k l)
    (λ s. let a : k ≡ term = cc in let b : l ≡ t = cc in ne (sym b ∙ sym s ∙ a))
  where
    apart : (r : Bool) → (r ≡ true → k ≡ l) → (k ≡ l → ⊥) → (r && ((i == p) && (o == q))) ≡ false
    apart true g n = absurd (n (g refl))
    apart false g n = refl

max_swapped : (a b : ℕ) → max a b ≡ max b a
max_swapped a b = omega arith

-- what is counted of the budget's own term
share_raised : (old new : Shares) (counted d : Counted) (number term : ℕ) → IsShareRaised old new counted number →
    term_of counted ≡ Some term → term_of d ≡ Some term →
    share_number new d ≡ raised_numbers (Some (record { counted = counted; number = number })) (share_number old) d
share_raised old new (Hits node) d number term w e f = absurd
    (let impossible : ◌≡◌ {A = Option ℕ} None (Some term) = e in cc)
share_raised old new (Execs k node) (Hits j) number term w e f = refl
share_raised old new (Execs k node) (Execs l j) number term w e f =
    at (k == l) (node == j) (eq-eqb k l (let a : k ≡ term = cc in let b : l ≡ term = cc in a ∙ sym b)) refl
  where
    at : (r s : Bool) → r ≡ true → (node == j) ≡ s → spent_cell new j ≡ cond (r && s) (max number (spent_cell old j))
        (spent_cell old j)
    at false s g h = absurd (true≢false (sym g))
    at true true g h =
        let same : node ≡ j = eqb-true node j h in
        subst (λ i. spent_cell new i ≡ max number (spent_cell old i)) same (w.spent.this_cell ∙ max_swapped _ number)
    at true false g h = w.spent.other_cells j (λ e. eqb-false node j h (sym e))
share_raised old new (Execs k node) (Shifts l i o) number term w e f = w.moved i o
share_raised old new (Shifts k i o) (Hits j) number term w e f = refl
share_raised old new (Shifts k i o) (Execs l j) number term w e f = w.spent j
share_raised old new (Shifts k i o) (Shifts l p q) number term w e f =
    at (k == l) (i == p) (o == q) (eq-eqb k l (let a : k ≡ term = cc in let b : l ≡ term = cc in a ∙ sym b)) refl refl
  where
    at : (r s t : Bool) → r ≡ true → (i == p) ≡ s → (o == q) ≡ t →
        moved_cell new p q ≡ cond (r && (s && t)) (max number (moved_cell old p q)) (moved_cell old p q)
    at false s t g h m = absurd (true≢false (sym g))
    at true true true g h m =
        let same : i ≡ p = eqb-true i p h in
        let ends : o ≡ q = eqb-true o q m in
        subst (λ b. moved_cell new p b ≡ max number (moved_cell old p b)) ends
        (subst (λ a. moved_cell new a o ≡ max number (moved_cell old a o)) same
        (w.moved.this_cell ∙ max_swapped _ number))
    at true true false g h m = w.moved.other_cells p q (λ both. eqb-false o q m (sym both.1))
    at true false t g h m = w.moved.other_cells p q (λ both. eqb-false i p h (sym both.0))

abbrev others_kept : Budgets → Budgets → ℕ → Type 0
others_kept old new term = (q : ℕ) → nat_cmp term q ≢ Equal → stored_at nat_cmp new q ≡ stored_at nat_cmp old q

module _ (old new : Budgets) (term number : ℕ) (counted : Counted) (is : term_of counted ≡ Some term)
    (others : others_kept old new term)
    (here : (d : Counted) → term_of d ≡ Some term → budgets_number new d ≡ raised_numbers
    (Some (record { counted = counted; number = number })) (budgets_number old) d) where
  by_term : (d : Counted) (o : Option ℕ) → term_of d ≡ o → budgets_number new d ≡ raised_numbers
      (Some (record { counted = counted; number = number })) (budgets_number old) d
  by_term d None e = no_term d e
    where
      unlike : (c : Counted) (node : ℕ) → term_of c ≡ Some term → same_counted c (Hits node) ≡ false
      unlike (Hits j) node f = absurd (let impossible : ◌≡◌ {A = Option ℕ} None (Some term) = f in cc)
      unlike (Execs k j) node f = refl
      unlike (Shifts k i o) node f = refl

      no_term : (d : Counted) → term_of d ≡ None → budgets_number new d ≡ raised_numbers
          (Some (record { counted = counted; number = number })) (budgets_number old) d
      no_term (Hits node) f = ap (λ b. cond b (max number 0) 0) (sym (unlike counted node is))
      no_term (Execs k j) f = absurd (let impossible : ◌≡◌ {A = Option ℕ} (Some k) None = f in cc)
      no_term (Shifts k i o) f = absurd (let impossible : ◌≡◌ {A = Option ℕ} (Some k) None = f in cc)
  by_term d (Some t) e = at (t == term) (eqb-true t term) (eqb-false t term)
    where
      at : (b : Bool) → (b ≡ true → t ≡ term) → (b ≡ false → t ≢ term) →
          budgets_number new d ≡ raised_numbers (Some (record { counted = counted; number = number }))
          (budgets_number old) d
      at true f g = here d (e ∙ ap Some (f refl))
      at false f g =
          let kept : budgets_number new d ≡ budgets_number old d =
          budgets_at new t d e ∙ ap (λ (o : Option Shares). share_number (unwrap_or o no_shares) d)
          (others t (λ s. g refl (sym (exact_unsigned term t s)))) ∙ sym (budgets_at old t d e) in
          kept ∙ ap (λ b. cond b (max number (budgets_number old d)) (budgets_number old d))
          (sym (other_term counted d term t is e (g refl)))

  pub all_raised : (d : Counted) → budgets_number new d ≡ raised_numbers
      (Some (record { counted = counted; number = number })) (budgets_number old) d
  all_raised d = by_term d (term_of d) refl

raised_same : (counted d : Counted) (number : ℕ) (f g : Counted → ℕ) → f d ≡ g d →
    raised_numbers (Some (record { counted = counted; number = number })) f d ≡ raised_numbers
    (Some (record { counted = counted; number = number })) g d
raised_same counted d number f g e = ap (λ n. cond (same_counted counted d) (max number n) n) e

-- where the budget was there
pub put_raised : (old new : Budgets) (term number : ℕ) (counted : Counted) (held left : Shares) →
    term_of counted ≡ Some term → stored_at nat_cmp old term ≡ Some held → IsShareRaised held left counted number →
    PutsOnly nat_cmp are_shares shares_order no_shares old new term left → (d : Counted) →
    budgets_number new d ≡ raised_numbers (Some (record { counted = counted; number = number }))
    (budgets_number old) d
put_raised old new term number counted held left is found wrote put =
    all_raised old new term number counted is put.other_keys
    (λ d e.
    budgets_at new term d e ∙ share_same _ left (put_same nat_cmp shares_laws old new term left put) d ∙
    share_raised held left counted d number term wrote is e
    ∙ raised_same counted d number (share_number held) (budgets_number old) (sym (found_at old term held found d e)))

-- where it is new
pub new_raised : (old new : Budgets) (term number : ℕ) (counted : Counted) (share : Shares) →
    term_of counted ≡ Some term → stored_at nat_cmp old term ≡ None → IsShareRaised no_shares share counted number →
    RaisesOnly nat_cmp are_shares shares_order no_shares old new term share → (d : Counted) →
    budgets_number new d ≡ raised_numbers (Some (record { counted = counted; number = number }))
    (budgets_number old) d
new_raised old new term number counted share is none wrote raises =
    all_raised old new term number counted is raises.other_keys
    (λ d e.
    let joins : IsJoin are_shares shares_order no_shares share (value_at nat_cmp no_shares new term) =
    subst (λ (o : Option Shares). IsJoin are_shares shares_order (unwrap_or o no_shares) share
    (value_at nat_cmp no_shares new term)) none raises.this_key in
    let copy = copy_from_bottom shares_laws share (value_at nat_cmp no_shares new term) joins in
    budgets_at new term d e ∙ share_same _ share (copy.below, copy.above) d ∙
    share_raised no_shares share counted d number term wrote is e
    ∙ raised_same counted d number (share_number no_shares) (budgets_number old)
    (no_share d ∙ sym (absent_at old term none d e)))

-- ---- where nothing is counted yet

pub none_counted : (c : Counted) → budgets_number [] c ≡ 0
none_counted (Hits node) = refl
none_counted (Execs term node) = no_share (Execs term node)
none_counted (Shifts term from to) = no_share (Shifts term from to)

pub raised_on : (count : Option Count) (f g : Counted → ℕ) → ((d : Counted) → f d ≡ g d) → (d : Counted) →
    raised_numbers count f d ≡ raised_numbers count g d
raised_on None f g h d = h d
raised_on (Some c) f g h d = ap (λ n. cond (same_counted c.counted d) (max c.number n) n) (h d)

-- ---- slots

pub nothing_held : (first : Option (Key × Budgets)) (second : Cells) → first ≡ None → second ≡ [] →
    slot_held (record { parts = record { first = first; second = second } }) ≡ empty_held
unfolding slot_held empty_held cell
nothing_held first second e f = (λ i. slot_held (record { parts = record { first = e i; second = f i } })) ∙
    (λ i. record { key = None; number = λ d. node_numbers d i })
  where
    node_numbers : (d : Counted) → slot_number (record { parts = record { first = None; second = [] } }) d ≡ 0
    node_numbers (Hits node) = refl
    node_numbers (Execs term node) = refl
    node_numbers (Shifts term from to) = refl

pub taken_held : (slot : Slot) (key : Key) (first : Option (Key × Budgets)) (budgets : Budgets) →
    first ≡ Some (key, budgets) → budgets ≡ [] → slot_held (record
    { parts = record { first = first; second = slot.parts.second } }) ≡ held_after_key (key_value key) (slot_held slot)
unfolding slot_held held_after_key
taken_held slot key first budgets e f = (λ i. slot_held (record
    { parts = record { first = (e ∙ ap (λ b. Some (key, b)) f) i; second = slot.parts.second } })) ∙
    (λ i. record { key = Some (key_value key); number = λ d. node_numbers d i })
  where
    node_numbers : (d : Counted) → slot_number (record {
      parts =
          record { first = Some (key, []); second = slot.parts.second };
    }) d ≡ only_hits (slot_number slot) d
    node_numbers (Hits node) = refl
    node_numbers (Execs term node) = none_counted (Execs term node)
    node_numbers (Shifts term from to) = none_counted (Shifts term from to)

-- what is held of a term under a key
pub under : (slot : Slot) (c : Counted) (term : ℕ) → term_of c ≡ Some term →
    slot_number slot c ≡ under_key slot.parts.first c
under slot (Hits node) term e = absurd (let impossible : ◌≡◌ {A = Option ℕ} None (Some term) = e in cc)
under slot (Execs k node) term e = refl
under slot (Shifts k from to) term e = refl

-- nothing is counted of a term without a budget, or without a key
pub no_number : (slot : Slot) (key : Key) (budgets : Budgets) (term : ℕ) → slot.parts.first ≡ Some (key, budgets) →
    stored_at nat_cmp budgets term ≡ None → (c : Counted) → term_of c ≡ Some term → slot_number slot c ≡ 0
no_number slot key budgets term e none c is = under slot c term is ∙ ap (λ o. under_key o c) e ∙
    absent_at budgets term none c is

pub if_none : {A B : Type 0} (view : A → B) (r : Option A) (o : Option B) (P : Type 0) → option_map view r ≡ o →
    (o ≡ None → P) → IfNone r P
if_none view None o P e f = f (sym e)
if_none view (Some a) o P e f = tt

-- a count that is no hit, of a term
pub has_term : (c : Counted) → is_hits c ≡ false → (o : Option ℕ) → o ≡ term_of c → o ≡ None → ⊥
has_term (Hits node) h o e f = true≢false h
has_term (Execs term node) h o e f = let impossible : ◌≡◌ {A = Option ℕ} (Some term) None = sym e ∙ f in cc
has_term (Shifts term from to) h o e f = let impossible : ◌≡◌ {A = Option ℕ} (Some term) None = sym e ∙ f in cc

-- under a new key, what is counted with it
pub replaced : (slot : Slot) (key : Key) (budgets : Budgets) (told : Option Count) →
    IfSome told (λ c. is_hits c.counted ≡ false) → ((d : Counted) →
    budgets_number budgets d ≡ raised_numbers told (λ c. 0) d) →
    (d : Counted) → slot_number (record { parts = record { first = Some (key, budgets); second = slot.parts.second } })
    d ≡ raised_numbers told (only_hits (slot_number slot)) d
replaced slot key budgets None kinds h (Hits node) = refl
replaced slot key budgets (Some c) kinds h (Hits node) = unlike c.counted kinds
  where
    unlike : (counted : Counted) → is_hits counted ≡ false →
        cell slot.parts.second node ≡ cond (same_counted counted (Hits node))
        (max c.number (cell slot.parts.second node)) (cell slot.parts.second node)
    unlike (Hits j) k = absurd (true≢false k)
    unlike (Execs t j) k = refl
    unlike (Shifts t i o) k = refl
replaced slot key budgets None kinds h (Execs t j) = h (Execs t j)
replaced slot key budgets (Some c) kinds h (Execs t j) = h (Execs t j)
replaced slot key budgets None kinds h (Shifts t i o) = h (Shifts t i o)
replaced slot key budgets (Some c) kinds h (Shifts t i o) = h (Shifts t i o)

-- ---- passes

-- a hit and an execution, in either order
swapped : (node term : ℕ) (n m : ℕ) (f : Counted → ℕ) (d : Counted) →
    raised_numbers (Some (record { counted = Hits node; number = n }))
    (raised_numbers (Some (record { counted = Execs term node; number = m })) f) d ≡ raised_numbers
    (Some (record { counted = Execs term node; number = m }))
    (raised_numbers (Some (record { counted = Hits node; number = n })) f) d
swapped node term n m f (Hits j) = refl
swapped node term n m f (Execs t j) = refl
swapped node term n m f (Shifts t i o) = refl

module _ (h w : Held) (node : ℕ) (spent : Option ℕ) (keys : w.key ≡ h.key) where
  pub held_hit : spent ≡ None → ((d : Counted) → w.number d ≡ raised_numbers
      (Some (record { counted = Hits node; number = h.number (Hits node) + 1 })) h.number d) →
      w ≡ held_after_pass node spent h
  unfolding held_after_pass
  held_hit e f = (λ i. record {
    key = keys i;
    number = λ d. (f d ∙
        ap (λ (s : Option ℕ). raised_numbers (spending node s h)
        (raised_numbers (Some (record { counted = Hits node; number = h.number (Hits node) + 1 })) h.number) d) (sym e))
        i;
  })

  pub held_pass : (term : ℕ) → spent ≡ Some term → ((d : Counted) →
      w.number d ≡ raised_numbers (Some (record { counted = Hits node; number = h.number (Hits node) + 1 }))
      (raised_numbers (Some (record { counted = Execs term node; number = h.number (Execs term node) + 1 })) h.number)
      d) → w ≡ held_after_pass node spent h
  unfolding held_after_pass
  held_pass term e f = λ i. record {
    key = keys i;
    number = λ d.
        (f d ∙ swapped node term (h.number (Hits node) + 1) (h.number (Execs term node) + 1) h.number d ∙
        ap (λ (s : Option ℕ). raised_numbers (spending node s h)
        (raised_numbers (Some (record { counted = Hits node; number = h.number (Hits node) + 1 })) h.number) d) (sym e))
        i;
  }

-- the hit was counted aside
pub aside : (old mid : Slot) (copy new : Cells) (node term m : ℕ) →
    ((d : Counted) → slot_number mid d ≡ raised_numbers (Some (record { counted = Execs term node; number = m }))
    (slot_number old) d) →
    IsCopy are_cells cells_order old.parts.second copy → WritesCell copy new node (max (cell copy node) 1) →
    cell old.parts.second node + 1 ≡ 1 →
    (d : Counted) → slot_number (record { parts = record { first = mid.parts.first; second = new } }) d ≡ raised_numbers
    (Some (record { counted = Hits node; number = cell old.parts.second node + 1 }))
    (raised_numbers (Some (record { counted = Execs term node; number = m })) (slot_number old)) d
aside old mid copy new node term m h same wrote none (Hits j) = at (node == j) refl
  where
    cells : (q : ℕ) → cell copy q ≡ cell old.parts.second q
    cells q = le_both _ _ (cell_upto copy old.parts.second same.below q) (cell_upto old.parts.second copy same.above q)

    at : (b : Bool) → (node == j) ≡ b → cell new j ≡ cond b (max (cell old.parts.second node + 1)
        (cell old.parts.second j)) (cell old.parts.second j)
    at true e =
        let is : node ≡ j = eqb-true node j e in
        let zero = cells node in
        let one : cell new node ≡ max (cell old.parts.second node + 1) (cell old.parts.second node) = wrote.this_cell ∙
        (omega (arith, zero, none)) in
        subst (λ q. cell new q ≡ max (cell old.parts.second node + 1) (cell old.parts.second q)) is one
    at false e = wrote.other_cells j (λ s. eqb-false node j e (sym s)) ∙ cells j
aside old mid copy new node term m h same wrote none (Execs t j) = h (Execs t j)
aside old mid copy new node term m h same wrote none (Shifts t i o) = h (Shifts t i o)

-- ---- rights

pub budget_seen : (slot : Slot) (key : Key) (budgets : Budgets) (term setter count : ℕ) (shares : Shares) →
    slot.parts.first ≡ Some (key, budgets) → Some shares ≡ stored_at nat_cmp budgets term →
    budget_of shares setter count ≡ budget_in (slot_number slot) term setter count
budget_seen slot key budgets term setter count shares held found = λ i. record {
  setter = setter;
  count = count;
  shifted = λ from to. number (Shifts term from to) refl i;
  spent = λ node. number (Execs term node) refl i;
}
  where
    number : (c : Counted) → term_of c ≡ Some term → share_number shares c ≡ slot_number slot c
    number c is = sym (under slot c term is ∙ ap (λ o. under_key o c) held ∙
        found_at budgets term shares (sym found) c is)

module _ (slot : Slot) (key : Key) (budgets : Budgets) (term count : ℕ) (held : slot.parts.first ≡ Some (key, budgets))
    (counted : Some count ≡ count_of (key_value key) term) where
  under_it : budget_under (slot_key slot) (slot_number slot) term ≡ Some
      (budget_in (slot_number slot) term key.node count)
  under_it = ap (λ o. budget_under (option_map (λ p. key_value p.0) o) (slot_number slot) term) held ∙
      ap (λ (n : Option ℕ). option_map (λ m. budget_in (slot_number slot) term key.node m) n) (sym counted)

  pub rights_under : (node : ℕ) → rights (budget_in (slot_number slot) term key.node count) node ≡ option_map_or
      (λ b. rights b node) (budget_under (slot_key slot) (slot_number slot) term) (pos 0)
  rights_under node = ap (λ (o : Option Budget). option_map_or (λ b. rights b node) o (pos 0)) (sym under_it)

  pub spent_under : total_spent (budget_in (slot_number slot) term key.node count) ≡ option_map_or total_spent
      (budget_under (slot_key slot) (slot_number slot) term) 0
  spent_under = ap (λ (o : Option Budget). option_map_or total_spent o 0) (sym under_it)

  module _ (none : stored_at nat_cmp budgets term ≡ None) where
    zero_at : (c : Counted) → term_of c ≡ Some term → slot_number slot c ≡ 0
    zero_at c is = no_number slot key budgets term held none c is

    pub fresh_rights : (node : ℕ) → rights (budget_in (slot_number slot) term key.node count) node ≡ pos
        (cond (node == key.node) count 0)
    fresh_rights node =
        let came = sum_others-zero node_numbers node (λ j. slot_number slot (Shifts term j node))
        (λ j. zero_at (Shifts term j node) refl) in
        let went = sum_others-zero node_numbers node (λ j. slot_number slot (Shifts term node j))
        (λ j. zero_at (Shifts term node j) refl) in
        let spent = zero_at (Execs term node) refl in
        let granted = zero_at (Shifts term node node) refl in
        omega (arith, ints, came, went, spent, granted)

    pub fresh_spent : total_spent (budget_in (slot_number slot) term key.node count) ≡ 0
    fresh_spent = sum-zero node_numbers (λ node. slot_number slot (Execs term node))
        (λ node. zero_at (Execs term node) refl)

pub for_setter : (node setter count : ℕ) → node ≡ setter → pos count ≡ pos (cond (node == setter) count 0)
for_setter node setter count e = ap (λ b. pos (cond b count 0)) (sym (eq-eqb node setter e))

pub for_others : (node setter count : ℕ) → (node ≡ setter → ⊥) → pos 0 ≡ pos (cond (node == setter) count 0)
for_others node setter count ne = at (node == setter) (eqb-true node setter)
  where
    at : (b : Bool) → (b ≡ true → node ≡ setter) → pos 0 ≡ pos (cond b count 0)
    at true f = absurd (ne (f refl))
    at false f = refl
