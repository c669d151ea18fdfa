-- The entries of a state: which they are, in which order they stand, and in how many bytes one is written.
use Rattle.std.proofs.Common.{◌≡◌, ℕ, zero, suc, ◌<◌, ◌≤◌, true, false, List, [], ◌∷◌, length, map, ⊎_elim, inl, inr, Option, Some, None, refl, sym, ap, subst, ◌∙◌, arith}
use Rattle.std.specs.Prelude.{is_some, IsTrue, slice_get}
use Rattle.std.specs.Ordering.{nat_cmp}
use Rattle.std.specs.Cmp.Lexicographic.{slice_cmp}
use Rattle.std.specs.declared.cmp.Ordering.TheVariants.{Less}
use Rattle.std.proofs.lemmas.Bool.{cases_lt}
use Rattle.std.proofs.lemmas.Option.{slice_get_past}
use Rattle.actions.proofs.Complete.{reading_complete}
use Rattle.stamp_register.specs.Keys.{KeyValue, terms_read, terms_in_text, terms_set}
use Rattle.operations.specs.Operations.{IsIn, count_in, count_under, count_of}
use Rattle.replica_state.specs.States.{State}
use Rattle.replica_state.proofs.Names.{IsAscending}
use Rattle.message_format.specs.Messages.{EntryValue}
use Rattle.message_format.specs.Spelling.{IsBody, IsKey}
use Rattle.delta_exchange.specs.Cells.{entry_of, entry_under, entry_at, entries_of}
use Rattle.delta_exchange.proofs.BelowLemmas.{below_in, in_below, ascending_below}

-- ---- names by their places

pub place_in : (names : List (List ℕ)) (name : List ℕ) → IsIn name names →
    (i : ℕ) × (i < length names) × (slice_get names i ≡ Some name)
place_in [] name h = absurd h
place_in (n ∷ names) name (inl e) = (0, omega arith, ap Some (sym e))
place_in (n ∷ names) name (inr h) =
    let r = place_in names name h in
    (suc r.0, omega (arith, r.1), r.2)

pub get_in : (names : List (List ℕ)) (i : ℕ) (name : List ℕ) → slice_get names i ≡ Some name → IsIn name names
get_in [] i name e = absurd cc
get_in (n ∷ names) zero name e = let same : n ≡ name = cc in inl (sym same)
get_in (n ∷ names) (suc i) name e = inr (get_in names i name e)

pub get_less : (names : List (List ℕ)) (i j : ℕ) (a b : List ℕ) → IsAscending names → i < j →
    slice_get names i ≡ Some a → slice_get names j ≡ Some b → slice_cmp nat_cmp a b ≡ Less
get_less [] i j a b h lt e f = absurd cc
get_less (n ∷ names) i zero a b h lt e f = absurd (omega (arith, lt))
get_less (n ∷ names) zero (suc j) a b h lt e f =
    let same : n ≡ a = cc in
    subst (λ m. slice_cmp nat_cmp m b ≡ Less) same (h.0 b (get_in names j b f))
get_less (n ∷ names) (suc i) (suc j) a b h lt e f = get_less names i j a b h.1 (omega (arith, lt)) e f

-- ---- terms of a key

body_below : (body : Option (List ℕ)) (term : ℕ) → IsBody body → IsTrue (is_some (count_under (terms_set body) term)) →
    term < 16
unfolding terms_in_text
body_below None term h counted = absurd cc
body_below (Some text) term h counted = ⊎_elim (λ lt. lt) (λ more. absurd (none more)) (cases_lt term 16)
  where
    read : terms_in_text text ≡ Some h.1
    read = ap terms_read (reading_complete text h.1 h.2)

    none : 16 ≤ term → ⊥
    none more =
        let few = h.2.few in
        let past = slice_get_past h.1 term (omega (arith, few, more)) in
        let uncounted : count_under (terms_in_text text) term ≡ None = ap (λ terms. count_under terms term) read ∙
        ap count_in past in
        let impossible : false ≡ true = subst (λ (count : Option ℕ). IsTrue (is_some count)) uncounted counted in
        cc

pub term_below : (nodes : ℕ) (key : KeyValue) (term : ℕ) → IsKey nodes key → IsTrue (is_some (count_of key term)) →
    term < 16
term_below nodes key term h counted = body_below key.body term h.body counted

-- ---- which entries there are

module _ (v : State) (nodes : ℕ) where
  record IsEntryAt (place : Option (List ℕ)) (e : EntryValue) : Type 0 where
    pub name : List ℕ
    pub key : KeyValue
    pub found : place ≡ Some name
    pub keyed : v.key name ≡ Some key
    pub is : e ≡ entry_of v nodes name key

  pub record IsEntryHeld (e : EntryValue) : Type 0 where
    pub name : List ℕ
    pub key : KeyValue
    pub held : IsIn name v.names
    pub keyed : v.key name ≡ Some key
    pub is : e ≡ entry_of v nodes name key

  in_under : (name : List ℕ) (k : Option KeyValue) (e : EntryValue) → IsIn e (entry_under v nodes name k) →
      (key : KeyValue) × (k ≡ Some key) × (e ≡ entry_of v nodes name key)
  in_under name None e h = absurd h
  in_under name (Some key) e (inl s) = (key, refl, s)
  in_under name (Some key) e (inr h) = absurd h

  in_place : (place : Option (List ℕ)) (e : EntryValue) → IsIn e (entry_at v nodes place) → IsEntryAt place e
  in_place None e h = absurd h
  in_place (Some name) e h =
      let r = in_under name (v.key name) e h in
      record { name = name; key = r.0; found = refl; keyed = r.1; is = r.2 }

  pub entry_member : (e : EntryValue) → IsIn e (entries_of v nodes) → IsEntryHeld e
  entry_member e h =
      let r = below_in (λ index. entry_at v nodes (slice_get v.names index)) (length v.names) e h in
      let one = in_place (slice_get v.names r.0) e r.2 in
      record {
        name = one.name;
        key = one.key;
        held = get_in v.names r.0 one.name one.found;
        keyed = one.keyed;
        is =
            one.is;
      }

  pub member_entry : (name : List ℕ) (key : KeyValue) → IsIn name v.names → v.key name ≡ Some key →
      IsIn (entry_of v nodes name key) (entries_of v nodes)
  member_entry name key h e =
      let r = place_in v.names name h in
      in_below (λ index. entry_at v nodes (slice_get v.names index)) (length v.names) r.0 (entry_of v nodes name key)
      r.1
      (subst (λ place. IsIn (entry_of v nodes name key) (entry_at v nodes place)) (sym r.2)
      (subst (λ k. IsIn (entry_of v nodes name key) (entry_under v nodes name k)) (sym e) (inl refl)))

  under_ascends : (name : List ℕ) (k : Option KeyValue) → IsAscending (map (λ e. e.name) (entry_under v nodes name k))
  under_ascends name None = tt
  under_ascends name (Some key) = (λ m h. absurd h, tt)

  at_ascends : (place : Option (List ℕ)) → IsAscending (map (λ e. e.name) (entry_at v nodes place))
  at_ascends None = tt
  at_ascends (Some name) = under_ascends name (v.key name)

  pub entries_ascend : IsAscending v.names → IsAscending (map (λ e. e.name) (entries_of v nodes))
  entries_ascend h = ascending_below (λ index. entry_at v nodes (slice_get v.names index)) (λ (e : EntryValue). e.name)
      (length v.names)
      (λ index. at_ascends (slice_get v.names index))
      (λ i j c d lt k l.
      let a = in_place (slice_get v.names i) c k in
      let b = in_place (slice_get v.names j) d l in
      rw (a.is, b.is) (get_less v.names i j a.name b.name h lt a.found b.found))
