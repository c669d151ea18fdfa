use Rattle.std.proofs.Common.{◌≡◌, ◌++◌, [], map, sym, ◌∙◌, ap}
use Rattle.std.proofs.lemmas.List.{append-nil}
use Rattle.audit.proofs.TotalsMade.{total_of, place_total, totals_made}
use Rattle.audit.proofs.tally.Tally.into_totals.Goals as goal

pub returns : goal.returns
returns c =
    let gives = c.into_iter-name-iterator.ensures.into_iter_gives in
    let whole : c.loop-name.totals.items ++ map (total_of c.args.self) c.loop-name.name-iterator ≡ map
    (total_of c.args.self) c.args.self.counts.counts.entries = c.loop-name.invariant in
    let over : c.loop-name.name-iterator ≡ [] = c.in-None.ensures.steps.0 in
    let all : c.loop-name.totals.items ≡ map (total_of c.args.self) c.args.self.counts.counts.entries =
    sym (append-nil c.loop-name.totals.items) ∙ ap (λ es. c.loop-name.totals.items ++ map (total_of c.args.self) es)
    (sym over) ∙ whole in
    totals_made c.args.self c.loop-name.totals.items place_total gives.5 all
