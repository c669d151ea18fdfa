-- Lists that are read where they agree with what was asked for.
use Rattle.std.proofs.Common.{◌≡◌, ℕ, ◌+◌, ◌<◌, ◌≤◌, Bool, cond, List, [], ◌∷◌, get_or, map, refl, sym, subst, ◌∙◌, ap, arith}
use Rattle.std.specs.Prelude.{nat_lt, not, ◌==◌, ◌&&◌, slice_index, slice_index_or, vec_len, ◌<ℤ◌, Option, ℤ, pos, Result, Ok, Err, IfOk, OnOk}
use Rattle.std.specs.Int.{int_gap}
use Rattle.std.specs.List.{All, filter, fold, insert, position_or_len, range_with_len}
use Rattle.std.proofs.lemmas.List.Elements.{All-cons, All-head, All-nil, All-tail}
use Rattle.std.proofs.lemmas.List.FromFn.{get_or-map-range_with_len}
use Rattle.std.proofs.lemmas.List.Sorted.{All-permutation, IsPermutation-insert}
use Rattle.operations.specs.declared.counted.Counted.TheVariants.{Execs, Hits}
use Rattle.replica_state.proofs.StoredSlots.{held_rights}
use Rattle.replica_state.specs.Cells.{held_at}
use Rattle.replica_state.specs.Points.{Held, rights_of_key}
use Rattle.replica_state.specs.States.{State, rights_of}
use Rattle.sharing.proofs.Due.{all_below}
use Rattle.sharing.proofs.Lines.{some_right}
use Rattle.sharing.specs.declared.room.Room.{Room}
use Rattle.sharing.specs.Rooms.{HasPlaces, IsAsLarge, IsRoomForOthers}
use Rattle.sharing.specs.Memory.{Recalled, seen}
use Rattle.sharing.specs.Shares.{line_of, passers, placed, waiting}

-- what follows of an answer
pub if_ok : {A E : Type 0} (P Q : A → Type 0) (r : Result A E) → ((x : A) → P x → Q x) → IfOk r P → IfOk r Q
if_ok P Q (Ok x) f h = f x h
if_ok P Q (Err e) f h = tt

pub on_ok : {A E : Type 0} (P Q : Type 0) (r : Result A E) → (P → Q) → OnOk r P → OnOk r Q
on_ok P Q (Ok x) f h = f h
on_ok P Q (Err e) f h = tt

-- tests that agree on each element choose the same
pub filter_alike : (p q : ℕ → Bool) (xs : List ℕ) → All (λ x. p x ≡ q x) xs → filter p xs ≡ filter q xs
filter_alike p q [] h = refl
filter_alike p q (x ∷ xs) h =
    let P : ℕ → Type 0 = λ y. p y ≡ q y in
    let here = All-head P x xs h in
    let rest = filter_alike p q xs (All-tail P x xs h) in
    λ i. cond (here i) (x ∷ rest i) (rest i)

position_alike : (p q : ℕ → Bool) (xs : List ℕ) → All (λ x. p x ≡ q x) xs → position_or_len p xs ≡ position_or_len q xs
position_alike p q [] h = refl
position_alike p q (x ∷ xs) h =
    let P : ℕ → Type 0 = λ y. p y ≡ q y in
    let here = All-head P x xs h in
    let rest = position_alike p q xs (All-tail P x xs h) in
    λ i. cond (not (here i)) (1 + rest i) 0

-- executions that agree on each node make the same line
later_alike : (e f : ℕ → ℕ) (x : ℕ) → e x ≡ f x → (xs : List ℕ) → All (λ y. e y ≡ f y) xs →
    All (λ y. nat_lt (e x) (e y) ≡ nat_lt (f x) (f y)) xs
later_alike e f x same xs h i d low = let other = h i d low in λ j. nat_lt (same j) (other j)

placed_alike : (e f : ℕ → ℕ) (line : List ℕ) (x : ℕ) → e x ≡ f x → All (λ y. e y ≡ f y) line →
    placed e line x ≡ placed f line x
placed_alike e f line x same h = ap (λ place. insert line place x)
    (position_alike (λ y. nat_lt (e x) (e y)) (λ y. nat_lt (f x) (f y)) line (later_alike e f x same line h))

line_alike_from : (e f : ℕ → ℕ) (line nodes : List ℕ) → All (λ y. e y ≡ f y) line → All (λ y. e y ≡ f y) nodes →
    fold (placed e) line nodes ≡ fold (placed f) line nodes
line_alike_from e f line [] h k = refl
line_alike_from e f line (x ∷ xs) h k =
    let P : ℕ → Type 0 = λ y. e y ≡ f y in
    let here = All-head P x xs k in
    let place = position_or_len (λ y. nat_lt (f x) (f y)) line in
    let all : All P (placed f line x) =
    All-permutation P (x ∷ line) (insert line place x) (IsPermutation-insert line place x) (All-cons P x line here h) in
    ap (λ l. fold (placed e) l xs) (placed_alike e f line x here h)
    ∙ line_alike_from e f (placed f line x) xs all (All-tail P x xs k)

pub line_alike : (e f : ℕ → ℕ) (nodes : List ℕ) → All (λ y. e y ≡ f y) nodes → line_of e nodes ≡ line_of f nodes
line_alike e f nodes h = line_alike_from e f [] nodes (All-nil (λ y. e y ≡ f y)) h

-- room that is as large is room for the same nodes
pub room_kept : (old new : Room) → IsRoomForOthers old → IsAsLarge old new → IsRoomForOthers new
room_kept old new h kept =
    let few_rights = h.few_rights in
    let few_executions = h.few_executions in
    let rights = kept.rights in
    let executions = kept.executions in
    record {
      rights = subst (All (λ node. node < vec_len new.rights)) (sym kept.others)
          (λ i d low. let here = h.rights i d low in omega (arith, here, rights));
      executions = subst (All (λ node. node < vec_len new.executions)) (sym kept.others)
          (λ i d low. let here = h.executions i d low in omega (arith, here, executions));
      few_rights = omega (arith, few_rights, rights);
      few_executions = omega (arith, few_executions, executions);
    }

pub room_for : (nodes : ℕ) (others : List ℕ) (room : Room) → nodes ≤ 256 → All (λ other. other < nodes) others →
    HasPlaces nodes room → room.others.items ≡ others → IsRoomForOthers room
room_for nodes others room few within has passed =
    let rights = has.rights in
    let executions = has.executions in
    record {
      rights = subst (All (λ node. node < vec_len room.rights)) (sym passed)
          (λ i d low. let here = within i d low in omega (arith, here, rights));
      executions = subst (All (λ node. node < vec_len room.executions)) (sym passed)
          (λ i d low. let here = within i d low in omega (arith, here, executions));
      few_rights = omega (arith, few, rights);
      few_executions = omega (arith, few, executions);
    }

pub kept_twice : (a b c : Room) → IsAsLarge a b → IsAsLarge b c → IsAsLarge a c
kept_twice a b c h k = record {
  rights = k.rights ∙ h.rights;
  executions = k.executions ∙ h.executions;
  others = k.others ∙ h.others;
}

-- ---- what is stored of a point, read into places

module _ (v : State) (name : List ℕ) (h : Held) (same : h ≡ held_at v name) where
  -- the rights of a node
  pub own_read : (term node : ℕ) → rights_of_key h.key h.number term node ≡ rights_of v name term node
  own_read term node = ap (λ (k : Held). rights_of_key k.key k.number term node) same ∙ held_rights v name term node

  -- where each of these has a right, none of them waits
  pub nobody_waits : (term : ℕ) (others : List ℕ) → All (λ o. pos 0 <ℤ rights_of_key h.key h.number term o) others →
      waiting v name term others ≡ []
  nobody_waits term [] have = refl
  nobody_waits term (x ∷ xs) have =
      let P : ℕ → Type 0 = λ o. pos 0 <ℤ rights_of_key h.key h.number term o in
      let free : ℕ → Bool = λ o. int_gap (pos 0) (rights_of v name term o) == 0 in
      let right = some_right (rights_of v name term x)
      (subst (λ r. pos 0 <ℤ r) (own_read term x) (All-head P x xs have)) in
      ap (λ b. cond b (x ∷ filter free xs) (filter free xs)) right ∙ nobody_waits term xs (All-tail P x xs have)

  -- of these nodes those wait that have no right by what was read
  pub waiting_read : (term n : ℕ) (rights : List ℤ) (others : List ℕ) → All (λ o. o < n) others →
      rights ≡ map (rights_of_key h.key h.number term) (range_with_len 0 n) →
      filter (λ o. int_gap (pos 0) (slice_index_or rights o (pos 0)) == 0) others ≡ waiting v name term others
  waiting_read term n rights others within read = filter_alike
      (λ o. int_gap (pos 0) (slice_index_or rights o (pos 0)) == 0)
      (λ o. int_gap (pos 0) (rights_of v name term o) == 0) others
      (λ i d low. let o = get_or others i d in
      let few : o < n = within i d low in
      let is : slice_index_or rights o (pos 0) ≡ rights_of v name term o =
      ap (λ (xs : List ℤ). slice_index_or xs o (pos 0)) read
      ∙ get_or-map-range_with_len (rights_of_key h.key h.number term) 0 n o o (pos 0) few (omega arith)
      ∙ ap (λ (k : Held). rights_of_key k.key k.number term o) same
      ∙ held_rights v name term o in
      ap (λ (r : ℤ). int_gap (pos 0) r == 0) is)

  -- and they stand in their line by the executions that were read
  pub line_read : (term m : ℕ) (executions nodes : List ℕ) → All (λ o. o < m) nodes →
      executions ≡ map (λ node. h.number (Execs term node)) (range_with_len 0 m) →
      line_of (slice_index executions) nodes ≡ line_of (v.execs name term) nodes
  line_read term m executions nodes within read = line_alike (slice_index executions) (v.execs name term) nodes
      (λ i d low. let o = get_or nodes i d in
      let few : o < m = within i d low in
      ap (λ (xs : List ℕ). slice_index xs o) read
      ∙ get_or-map-range_with_len (λ node. h.number (Execs term node)) 0 m o o 0 few (omega arith)
      ∙ ap (λ (k : Held). k.number (Execs term o)) same)

  -- who passed, by the hits that were read
  pub passers_read : (recalled : Option Recalled) (node nodes : ℕ) (hits : List ℕ) →
      hits ≡ map (λ other. h.number (Hits other)) (range_with_len 0 nodes) →
      filter (λ other. not (other == node) && nat_lt (seen recalled other) (slice_index hits other))
      (range_with_len 0 nodes)
      ≡ passers v name recalled node nodes
  passers_read recalled node nodes hits read = filter_alike
      (λ other. not (other == node) && nat_lt (seen recalled other) (slice_index hits other))
      (λ other. not (other == node) && nat_lt (seen recalled other) (v.hits name other))
      (range_with_len 0 nodes)
      (λ i d low. let o = get_or (range_with_len 0 nodes) i d in
      let few : o < nodes = all_below nodes i d low in
      let is : slice_index hits o ≡ v.hits name o =
      ap (λ (xs : List ℕ). slice_index xs o) read
      ∙ get_or-map-range_with_len (λ other. h.number (Hits other)) 0 nodes o o 0 few (omega arith)
      ∙ ap (λ (k : Held). k.number (Hits o)) same in
      ap (λ number. not (o == node) && nat_lt (seen recalled o) number) is)
