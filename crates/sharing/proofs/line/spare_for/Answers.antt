use Rattle.std.proofs.Common.{◌≡◌, List, ℕ, ap, sym, ◌∙◌}
use Rattle.std.proofs.lemmas.Int.{to_z-of_z}
use mir.Syntax.{w128}
use Rattle.replica_state.specs.States.{rights_of}
use Rattle.sharing.specs.Shares.{line_of, shares_in, spare_of, term_shifts, waiting}
use Rattle.sharing.proofs.Alike.{nobody_waits, own_read}
use Rattle.sharing.proofs.Lines.{nobody_served, none_spared}
use Rattle.sharing.proofs.line.spare_for.Goals as goal

pub returns-then-have_rights-clause-idle : goal.returns-then-have_rights-clause-idle
unfolding term_shifts
returns-then-have_rights-clause-idle g c = λ _ v name same.
    let term = c.args.term in
    let h = g.S.Stored.held c.args.stored.now in
    let spare = spare_of (rights_of v name term c.args.giver.node) c.args.giver.still in
    ap (λ (w : List ℕ). shares_in name term spare (line_of (v.execs name term) w))
    (nobody_waits v name h same term c.args.others.now (c.have_rights.ensures.0 c.if-have_rights.true))
    ∙ nobody_served name term spare

pub returns-clause-idle : goal.returns-clause-idle
unfolding term_shifts
returns-clause-idle g c = λ none v name same.
    let node = c.args.giver.node in
    let still = c.args.giver.still in
    let term = c.args.term in
    let h = g.S.Stored.held c.args.stored.now in
    let spared : c.spare.result ≡ spare_of (rights_of v name term node) still = c.spare.ensures
    ∙ ap (λ r. spare_of r still) (to_z-of_z w128 c.rights.result (record { sfits = c.rights.type_inv })
    ∙ c.rights.ensures ∙ own_read v name h same term node) in
    none_spared name term (spare_of (rights_of v name term node) still)
    (line_of (v.execs name term) (waiting v name term c.args.others.now)) (sym spared ∙ none)
