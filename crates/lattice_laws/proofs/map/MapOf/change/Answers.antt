use Rattle.std.proofs.Common.{◌≡◌, Some, refl, rules, sym, ◌∙◌}
use mathlib.Core.Bool.{false≢true}
use Rattle.std.specs.BTreeMap.{is_at, Updates}
use Rattle.lattice_laws.specs.Map.{MayBeStored, PutsOnly, stored_at}
use Rattle.lattice_laws.proofs.Entries.{found_may_be_stored, put-removed, put-written, removed_is_map, written_is_map, written_over_itself}
use Rattle.lattice_laws.proofs.map.MapOf.change.Goals.{then-is_bottom+in-Some-1, then-is_bottom+in-None-1, else-is_bottom}
use Rattle.lattice_laws.proofs.map.MapOf.change.Goals as goal

-- the bottom is taken out
pub invariant_of-self-then-is_bottom : goal.invariant_of-self-then-is_bottom
invariant_of-self-then-is_bottom g c =
    let m = g.J.Join in
    let cmp = g.K.Ord.cmp in
    let left = c.change-answer.new.arg2 in
    removed_is_map cmp m.admitted m.order m.bottom c.self.inside.map.entries
    (c.get_mut.follows.lender left).entries c.remove.new.self.entries
    (is_at (cmp c.args.key.now)) left c.self.invariant
    (c.get_mut.follows.holds left).0 c.remove.ensures.entries c.remove.ensures.ordered

-- anything else stays
pub invariant_of-self-else-is_bottom : goal.invariant_of-self-else-is_bottom
invariant_of-self-else-is_bottom g c =
    let m = g.J.Join in
    let cmp = g.K.Ord.cmp in
    let left = c.change-answer.new.arg2 in
    let stored : MayBeStored cmp m.admitted m.order m.bottom left = (
      c.is_bottom.ensures.admitted_self,
      λ below. false≢true (sym c.if-is_bottom.false ∙
          c.is_bottom.ensures.value.1 below),
    ) in
    written_is_map cmp m.admitted m.order m.bottom c.self.inside.map.entries (c.get_mut.follows.lender left).entries
    (is_at (cmp c.args.key.now)) left c.self.invariant (c.get_mut.follows.holds left).0
    (c.get_mut.follows.holds left).4 stored

-- at any other key nothing changes
pub returns-clause-changed : goal.returns-clause-changed
returns-clause-changed g c =
    let m = g.J.Join in
    let cmp = g.K.Ord.cmp in
    let left = c.change-answer.new.arg2 in
    let key = c.args.key.now in
    let before = c.self.inside.map in
    let lent = c.get_mut.follows.lender left in
    let found : stored_at cmp before.entries key ≡ Some c.in_ok-value.value.now = sym c.in_ok-value.ensures.value in
    let written : Updates cmp before lent key (Some left) = (c.get_mut.follows.holds left).3 (rw found refl) in
    let put : PutsOnly cmp m.admitted m.order m.bottom before.entries c.if-is_bottom.self key left =
    elim c.if-is_bottom.branch [
      | then-is_bottom+in-Some-1 w ↦ rw w.self-is (put-removed cmp m.admitted m.order m.bottom before lent
          w.remove.new.self key left c.is_bottom.ensures.admitted_self (c.is_bottom.ensures.value.0 w.if-is_bottom.true)
          written w.remove.ensures.updates)
      | then-is_bottom+in-None-1 w ↦ rw w.self-is (put-removed cmp m.admitted m.order m.bottom before lent
          w.remove.new.self key left c.is_bottom.ensures.admitted_self (c.is_bottom.ensures.value.0 w.if-is_bottom.true)
          written w.remove.ensures.updates)
      | else-is_bottom w ↦ rw w.self-is (put-written cmp m.admitted m.order m.bottom before lent key left (
        c.is_bottom.ensures.admitted_self,
        λ below. false≢true
            (sym w.if-is_bottom.false ∙ c.is_bottom.ensures.value.1 below),
      ) written)
    ] in
    let held = c.in_ok-value.value.now in
    let held_stored : MayBeStored cmp m.admitted m.order m.bottom held =
    found_may_be_stored cmp m.admitted m.order m.bottom g.met.J.Join.laws before.entries key held c.self.invariant
    (sym found) in
    let not_bottom : left ≡ held → ¬ (m.order left m.bottom) = λ same. rw same held_stored.1 in
    let kept : left ≡ held → c.if-is_bottom.self ≡ before.entries = λ same. elim c.if-is_bottom.branch [
      | then-is_bottom+in-Some-1 w ↦ absurd (not_bottom same (c.is_bottom.ensures.value.0 w.if-is_bottom.true))
      | then-is_bottom+in-None-1 w ↦ absurd (not_bottom same (c.is_bottom.ensures.value.0 w.if-is_bottom.true))
      | else-is_bottom w ↦ w.self-is ∙ written_over_itself (is_at (cmp key)) before.entries lent.entries held left
          (sym found) same (c.get_mut.follows.holds left).0
    ] in
    rw (← c.self.view_is) (record {
      held = held;
      left = left;
      found = found;
      called = search rules;
      put = put;
      kept =
          kept;
    })
