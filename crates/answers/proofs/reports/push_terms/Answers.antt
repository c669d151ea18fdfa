use Rattle.std.proofs.Common.{ap, sym, ◌∙◌, option_map}
use Rattle.std.specs.Vec.{vec_items}
use Rattle.stamp_register.specs.Keys.{key_value}
use Rattle.report_text.specs.Report.{counted_row, term_row}
use Rattle.report_text.proofs.Walks.{text_of_number, told_from, none_told}
use Rattle.answers.specs.Objects.{term_object}
use Rattle.answers.proofs.reports.push_terms.Goals as goal
use Rattle.answers.proofs.reports.push_terms.Goals.{in-Some+in_ok-push_term, in_default}

pub loop-term-preserved : goal.loop-term-preserved
loop-term-preserved g c =
    let v = g.R.Replica.state c.args.replica.now in
    let counted = option_map (counted_row v c.args.nodes c.args.name.now c.loop-term.term) in
    let next = text_of_number term_object (term_row v c.args.nodes c.args.name.now (key_value c.args.key.now))
    c.loop-term.term in
    elim c.match-count_of.branch [
      | in-Some+in_ok-push_term w ↦
          told_from _ _ _ (ap vec_items w.out-is ∙ w.in_ok-push_term.ensures) c.loop-term.invariant
          (next _ (ap counted (sym w.in-Some.ensures)))
      | in_default w ↦ told_from _ _ _ (none_told (ap vec_items w.out-is)) c.loop-term.invariant
          (next _ (ap counted (sym w.in_default.ensures)))
    ]
