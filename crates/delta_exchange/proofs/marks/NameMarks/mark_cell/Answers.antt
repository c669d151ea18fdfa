use Rattle.std.proofs.Common.{◌≡◌, length, sym, ◌∙◌, rules}
use Rattle.delta_exchange.proofs.PassMarkLemmas.{marked_again, marked_anew, still_among, still_found}
use Rattle.delta_exchange.proofs.marks.NameMarks.mark_cell.Goals as goal

pub returns-then-passed-ne0-clause-cells : goal.returns-then-passed-ne0-clause-cells
returns-then-passed-ne0-clause-cells c =
    let old = c.args.self.now in
    let few : length old.passes.execs ≡ 16 = search rules in
    marked_again old.cells.entries old.passes c.mark.new.self c.args.counted c.args.version c.requires.version
    c.requires.room few c.mark.ensures (λ z. c.if-passed-ne0.true (c.mark_of-passed.ensures ∙ z))

pub invariant_of-self-in-Some : goal.invariant_of-self-in-Some
invariant_of-self-in-Some c =
    let old = c.args.self.now in
    let few : length old.passes.execs ≡ 16 = search rules in
    let new = c.get_mut.follows.lender c.args.version in
    let at = ((c.get_mut.follows.holds c.args.version).3 c.requires.room).0 in
    record {
      among = still_among old.cells.entries old.passes c.mark.new.self c.args.counted c.args.version
          c.requires.version c.requires.room few c.mark.ensures new.entries
          (still_found old.cells.entries new.entries c.args.counted c.args.version at) old.among;
    }

pub returns-in-Some-clause-cells : goal.returns-in-Some-clause-cells
returns-in-Some-clause-cells c =
    let old = c.args.self.now in
    let few : length old.passes.execs ≡ 16 = search rules in
    let new = c.get_mut.follows.lender c.args.version in
    let at = ((c.get_mut.follows.holds c.args.version).3 c.requires.room).0 in
    marked_anew old.cells.entries old.passes c.mark.new.self c.args.counted c.args.version c.requires.version
    c.requires.room few c.mark.ensures new.entries (sym c.mark_of-passed.ensures ∙ c.if-passed-ne0.false) at
