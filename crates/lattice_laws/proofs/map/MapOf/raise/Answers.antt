use Rattle.std.proofs.Common.{◌≡◌, sym, ◌∙◌}
use mathlib.Core.Bool.{false≢true}
use Rattle.std.proofs.lemmas.Result.{err_from_is_err_and}
use Rattle.std.specs.BTreeMap.{is_at}
use Rattle.lattice_laws.specs.Map.{IsMap, MayBeStored}
use Rattle.lattice_laws.proofs.Entries.{found_may_be_stored, inserted_is_map, join_may_be_stored, written_is_map, written_over_itself}
use Rattle.lattice_laws.proofs.map.MapOf.raise.Goals as goal

-- a join that was refused leaves the map
pub invariant_of-self : goal.invariant_of-self
invariant_of-self g c =
    let left = c.join_in.new.self in
    let before = c.self.inside.map.entries in
    let same : (c.get_mut.follows.lender left).entries ≡ before =
    written_over_itself (is_at (g.K.Ord.cmp c.args.key)) before
    (c.get_mut.follows.lender left).entries c.in-Some.held.now left c.in-Some.ensures.value
    c.in_err-join_in-in-Some.ensures.err (c.get_mut.follows.holds left).0 in
    rw same c.self.invariant

pub returns-in_err-join_in-in-Some-clause-err : goal.returns-in_err-join_in-in-Some-clause-err
returns-in_err-join_in-in-Some-clause-err g c =
    let left = c.join_in.new.self in
    let before = c.self.inside.map.entries in
    let same : (c.get_mut.follows.lender left).entries ≡ before =
    written_over_itself (is_at (g.K.Ord.cmp c.args.key)) before
    (c.get_mut.follows.lender left).entries c.in-Some.held.now left c.in-Some.ensures.value
    c.in_err-join_in-in-Some.ensures.err (c.get_mut.follows.holds left).0 in
    let p = err_from_is_err_and c.from_residual.result c.from_residual.ensures.1 in
    rw p.1 (same ∙ c.self.view_is)

-- what is joined isn't the bottom, so the map stays one
pub invariant_of-self-in-Some-1 : goal.invariant_of-self-in-Some-1
invariant_of-self-in-Some-1 g c =
    let m = g.J.Join in
    let cmp = g.K.Ord.cmp in
    let left = c.join_in.new.self in
    let before = c.self.inside.map.entries in
    let found : MayBeStored cmp m.admitted m.order m.bottom c.in-Some.held.now =
    found_may_be_stored cmp m.admitted m.order m.bottom g.met.J.Join.laws before c.args.key c.in-Some.held.now
    c.self.invariant c.in-Some.ensures.value in
    let stored : MayBeStored cmp m.admitted m.order m.bottom left =
    join_may_be_stored cmp m.admitted m.order m.bottom g.met.J.Join.laws c.in-Some.held.now c.args.value left
    c.in_ok-join_in-in-Some.ensures.ok found in
    written_is_map cmp m.admitted m.order m.bottom before (c.get_mut.follows.lender left).entries
    (is_at (cmp c.args.key)) left c.self.invariant (c.get_mut.follows.holds left).0
    (c.get_mut.follows.holds left).4 stored

-- nor is what is inserted
pub invariant_of-self-in_ok-insert-in-None-2 : goal.invariant_of-self-in_ok-insert-in-None-2
invariant_of-self-in_ok-insert-in-None-2 g c =
    let m = g.J.Join in
    let cmp = g.K.Ord.cmp in
    let lent = c.get_mut.follows.lender-at-none in
    let same : lent ≡ c.self.inside.map = c.get_mut.follows.holds-at-none in
    let before : IsMap cmp m.admitted m.order m.bottom lent.entries = rw same c.self.invariant in
    let stored : MayBeStored cmp m.admitted m.order m.bottom c.args.value = (
      c.is_bottom.ensures.admitted_self,
      λ below. false≢true (sym c.if-not-is_bottom.true ∙
          c.is_bottom.ensures.value.1 below),
    ) in
    inserted_is_map cmp m.admitted m.order m.bottom g.met.J.Join.laws lent.entries c.insert.new.self.entries c.args.key
    c.args.value before c.in_ok-insert-in-None.ensures.entries c.insert.ensures.ordered stored
