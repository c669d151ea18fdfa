use Rattle.std.proofs.Common.{◌≡◌}
use Rattle.std.specs.BTreeMap.{is_at}
use Rattle.lattice_laws.proofs.Entries.{written_is_map}
use Rattle.lattice_laws.proofs.map.MapOf.replace.Goals.{in-Some, in_default}
use Rattle.lattice_laws.proofs.map.MapOf.replace.Goals as goal

pub invariant_of-self : goal.invariant_of-self
invariant_of-self g c =
    let m = g.J.Join in
    let cmp = g.K.Ord.cmp in
    elim c.match-get_mut.branch [
      | in-Some w ↦ rw w.self-inside-is (written_is_map cmp m.admitted m.order m.bottom c.self.inside.map.entries
          (c.get_mut.follows.lender c.args.value).entries (is_at (cmp c.args.key.now)) c.args.value c.self.invariant
          (c.get_mut.follows.holds c.args.value).0 (c.get_mut.follows.holds c.args.value).4 c.requires.stored)
      | in_default w ↦ let same : c.get_mut.follows.lender-at-none ≡ c.self.inside.map =
          c.get_mut.follows.holds-at-none in rw (w.self-inside-is, same) c.self.invariant
    ]

pub returns-clause-is_map : goal.returns-clause-is_map
returns-clause-is_map g c = invariant_of-self g c
