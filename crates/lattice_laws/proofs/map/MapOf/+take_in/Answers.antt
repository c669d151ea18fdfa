use Rattle.std.proofs.Common.{◌≡◌, Some, None, [], ap, sym, ◌∙◌}
use Rattle.std.specs.BTreeMap.{insert_entry}
use Rattle.std.specs.Prelude.{List, ◌∷◌}
use Rattle.lattice_laws.specs.Map.{IsMap, stored_at}
use Rattle.lattice_laws.proofs.Entries.{found_may_be_stored, inserted_is_map, is_eq-false}
use Rattle.lattice_laws.proofs.Takings.{joins-after, joins-below, joins-beside, joins-none, joins-one, no-entries, no-first, still-stored, taken-back}
use Rattle.lattice_laws.proofs.map.MapOf.+take_in.Goals as goal

-- there is nothing to take in
pub returns-in_default-clause-ok : goal.returns-in_default-clause-ok
returns-in_default-clause-ok g n c =
    let m = g.J.Join in
    let cmp = g.K.Ord.cmp in
    let empty : c.args.other ≡ [] = sym c.other.view_is ∙ no-first c.other.inside.map.entries
    c.in_default.ensures.variant.1 in
    let start : IsMap cmp m.admitted m.order m.bottom c.args.self.now = rw (← c.self.view_is) c.self.invariant in
    let other : IsMap cmp m.admitted m.order m.bottom [] = rw (c.other.view_is ∙ empty) at c.other.invariant in
    rw empty (joins-none g.met.K.Ord.total m.admitted m.order m.bottom g.met.J.Join.laws c.args.self.now start other)

-- there is one key
pub returns-then-is_empty-clause-ok : goal.returns-then-is_empty-clause-ok
returns-then-is_empty-clause-ok g n c =
    let m = g.J.Join in
    let cmp = g.K.Ord.cmp in
    let key = c.in-Some.key in
    let value = c.in-Some.value in
    let none : c.pop_first.new.self.entries ≡ [] = no-entries c.pop_first.new.self.entries
    (c.is_empty.ensures.0 c.if-is_empty.true) in
    let all : c.other.inside.map.entries ≡ (key, value) ∷ [] = c.in-Some.ensures.removal ∙
    ap (λ (es : List _). (key, value) ∷ es) none in
    let start : IsMap cmp m.admitted m.order m.bottom c.args.self.now = rw (← c.self.view_is) c.self.invariant in
    let other : IsMap cmp m.admitted m.order m.bottom ((key, value) ∷ []) = rw all at c.other.invariant in
    let new : IsMap cmp m.admitted m.order m.bottom c.raise.new.self =
    rw (← c.self-then-is_empty.view_is) c.self-then-is_empty.invariant in
    rw (sym c.other.view_is ∙ all)
    (joins-one g.met.K.Ord.total m.admitted m.order m.bottom g.met.J.Join.laws c.args.self.now c.raise.new.self key
    value start other new c.in_ok-raise.ensures.ok)

-- a key that has a value keeps one while the others go in
pub replace-requires-clause-found : goal.replace-requires-clause-found
replace-requires-clause-found g n c =
    let m = g.J.Join in
    let cmp = g.K.Ord.cmp in
    let found : Some c.in-Some-get.held.now ≡ stored_at cmp c.args.self.now c.in-Some.key =
    rw (← c.self.view_is) c.in-Some-get.ensures.value in
    let start : IsMap cmp m.admitted m.order m.bottom c.args.self.now = rw (← c.self.view_is) c.self.invariant in
    still-stored g.met.K.Ord.total m.admitted m.order m.bottom g.met.J.Join.laws c.args.self.now
    c.pop_first.new.self.entries c.take_in-in-Some-get.new.self c.in-Some.key c.in-Some-get.held.now
    (found_may_be_stored cmp m.admitted m.order m.bottom g.met.J.Join.laws c.args.self.now c.in-Some.key
    c.in-Some-get.held.now start found) found c.in_ok-take_in-in-Some-get-2.ensures.ok

pub returns-in_ok-take_in-in-Some-get-2-clause-ok : goal.returns-in_ok-take_in-in-Some-get-2-clause-ok
returns-in_ok-take_in-in-Some-get-2-clause-ok g n c =
    let m = g.J.Join in
    let cmp = g.K.Ord.cmp in
    let key = c.in-Some.key in
    let value = c.in-Some.value in
    let rest = c.pop_first.new.self.entries in
    let found : Some c.in-Some-get.held.now ≡ stored_at cmp c.args.self.now key =
    rw (← c.self.view_is) c.in-Some-get.ensures.value in
    let other : IsMap cmp m.admitted m.order m.bottom ((key, value) ∷ rest) =
    rw c.in-Some.ensures.removal at c.other.invariant in
    rw (sym c.other.view_is ∙ c.in-Some.ensures.removal)
    (joins-beside g.met.K.Ord.total m.admitted m.order m.bottom g.met.J.Join.laws c.args.self.now rest
    c.take_in-in-Some-get.new.self c.replace.new.self key c.in-Some-get.held.now value
    c.in_ok-joined-in-Some-get.joined other c.replace.ensures.is_map found c.in_ok-joined-in-Some-get.ensures
    c.in_ok-take_in-in-Some-get-2.ensures.ok c.replace.ensures.this_key c.replace.ensures.other_keys)

-- a value that is below changes nothing
pub returns-then-below-clause-ok : goal.returns-then-below-clause-ok
returns-then-below-clause-ok g n c =
    let m = g.J.Join in
    let cmp = g.K.Ord.cmp in
    let key = c.in-Some.key in
    let value = c.in-Some.value in
    let rest = c.pop_first.new.self.entries in
    let held = c.in-Some-get.held.now in
    let found : Some held ≡ stored_at cmp c.args.self.now key = rw (← c.self.view_is) c.in-Some-get.ensures.value in
    let other : IsMap cmp m.admitted m.order m.bottom ((key, value) ∷ rest) =
    rw c.in-Some.ensures.removal at c.other.invariant in
    rw (sym c.other.view_is ∙ c.in-Some.ensures.removal)
    (joins-below g.met.K.Ord.total m.admitted m.order m.bottom g.met.J.Join.laws c.args.self.now rest c.take_in.new.self
    key held value other found (c.below.ensures.value.0 c.if-below.true) c.in_ok-take_in-in-Some-get.ensures.ok)

-- a new key goes in before the others
pub invariant_of-self-in-None : goal.invariant_of-self-in-None
invariant_of-self-in-None g n c =
    let m = g.J.Join in
    let cmp = g.K.Ord.cmp in
    let other = rw c.in-Some.ensures.removal at c.other.invariant.stored in
    inserted_is_map cmp m.admitted m.order m.bottom g.met.J.Join.laws c.self.inside.map.entries
    c.insert.new.self.entries c.in-Some.key c.in-Some.value c.self.invariant c.in_ok-insert-in-None.ensures.entries
    c.insert.ensures.ordered other.0

pub returns-in_default-take_in-clause-ok : goal.returns-in_default-take_in-clause-ok
returns-in_default-take_in-clause-ok g n c =
    let m = g.J.Join in
    let cmp = g.K.Ord.cmp in
    let key = c.in-Some.key in
    let value = c.in-Some.value in
    let rest = c.pop_first.new.self.entries in
    let start : IsMap cmp m.admitted m.order m.bottom c.args.self.now = rw (← c.self.view_is) c.self.invariant in
    let other : IsMap cmp m.admitted m.order m.bottom ((key, value) ∷ rest) =
    rw c.in-Some.ensures.removal at c.other.invariant in
    let absent : stored_at cmp c.args.self.now key ≡ None = rw (← c.self.view_is) (sym c.in-None.ensures.value) in
    rw (sym c.other.view_is ∙ c.in-Some.ensures.removal)
    (joins-after g.met.K.Ord.total m.admitted m.order m.bottom g.met.J.Join.laws c.args.self.now
    c.insert.new.self.entries rest c.take_in-in-None.new.self key value start other absent
    c.in_ok-insert-in-None.ensures.updates.1 (λ q h. rw (← c.self.view_is)
    (c.in_ok-insert-in-None.ensures.updates.2 q (is_eq-false (cmp key q) h))) c.in_default-take_in.ensures.ok)

-- and leaves again
pub returns-in-Err-clause-err : goal.returns-in-Err-clause-err
returns-in-Err-clause-err g n c =
    let cmp = g.K.Ord.cmp in
    let before = c.self.inside.map.entries in
    let entered = c.self-in-None.inside.map.entries in
    let inserted : entered ≡ insert_entry cmp before c.in-Some.key c.in-Some.value =
    c.self-in-None.view_is ∙ c.in-Err.ensures.err ∙ c.in_ok-insert-in-None.ensures.entries in
    taken-back g.met.K.Ord.total before entered c.remove.new.self.entries c.in-Some.key c.in_ok-taken-in-None.taken
    c.in-Some.value c.in_ok-taken-in-None.ensures (sym c.in-None.ensures.value) inserted c.remove.ensures.entries ∙
    c.self.view_is

pub invariant_of-self-in-Err : goal.invariant_of-self-in-Err
invariant_of-self-in-Err g n c =
    let cmp = g.K.Ord.cmp in
    let before = c.self.inside.map.entries in
    let entered = c.self-in-None.inside.map.entries in
    let inserted : entered ≡ insert_entry cmp before c.in-Some.key c.in-Some.value =
    c.self-in-None.view_is ∙ c.in-Err.ensures.err ∙ c.in_ok-insert-in-None.ensures.entries in
    let back : c.remove.new.self.entries ≡ before =
    taken-back g.met.K.Ord.total before entered c.remove.new.self.entries c.in-Some.key c.in_ok-taken-in-None.taken
    c.in-Some.value c.in_ok-taken-in-None.ensures (sym c.in-None.ensures.value) inserted c.remove.ensures.entries in
    rw back c.self.invariant
