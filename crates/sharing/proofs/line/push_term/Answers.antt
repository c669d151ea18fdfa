use Rattle.std.proofs.Common.{◌≡◌, ◌++◌, ap, arith, sym, ◌∙◌}
use Rattle.std.proofs.lemmas.List.{append-nil}
use Rattle.replica_state.specs.States.{rights_of}
use Rattle.sharing.specs.Shares.{line_of, shares_in, spare_of, term_shifts, waiting}
use Rattle.sharing.proofs.Alike.{kept_twice, on_ok, own_read, room_kept}
use Rattle.sharing.proofs.line.push_term.Goals as goal

pub returns-then-spare-eq0-clause-shifts : goal.returns-then-spare-eq0-clause-shifts
returns-then-spare-eq0-clause-shifts g c = λ v same.
    let name = c.args.name.now in
    let items = c.args.shifts.now.items in
    let none = ap (λ o. term_shifts v name c.args.giver.node c.args.giver.still o c.args.term) (sym c.deref.ensures.value)
    ∙ c.spare_for-spare.ensures.idle c.if-spare-eq0.true v name same in
    sym (append-nil items) ∙ ap (λ xs. items ++ xs) (sym none)

pub line_up-requires : goal.line_up-requires
line_up-requires g c =
    let kept = c.read_rights.ensures.kept in
    record {
      room = room_kept c.args.room.now c.read_rights.new.self c.requires kept;
      rights = c.read_rights.ensures.rights;
    }

pub returns : goal.returns
unfolding term_shifts
returns g c =
    let kept = c.read_rights.ensures.kept in
    record {
      shifts = on_ok _ _ c.push_shares.result
          (λ made v same.
          let name = c.args.name.now in
          let node = c.args.giver.node in
          let still = c.args.giver.still in
          let term = c.args.term in
          let items = c.args.shifts.now.items in
          let h = g.S.Stored.held c.args.stored.now in
          let spare : c.spare_for-spare.result ≡ spare_of (rights_of v name term node) still =
          c.spare_for-spare.ensures.spare (omega (arith, c.if-spare-eq0.false))
          ∙ ap (λ r. spare_of r still) (own_read v name h same term node) in
          let line = line_of (v.execs name term) (waiting v name term c.args.room.now.others.items) in
          let there = c.deref-2.ensures.value ∙ c.in_ok-line_up.ensures.line v name same
          ∙ ap (λ o. line_of (v.execs name term) (waiting v name term o)) kept.others in
          made ∙ ap (λ l. items ++ shares_in name term c.spare_for-spare.result l) there
          ∙ ap (λ s. items ++ shares_in name term s line) spare)
          c.push_shares.ensures;
      kept = kept_twice c.args.room.now c.read_rights.new.self c.line_up.new.room kept c.line_up.ensures.kept;
    }
