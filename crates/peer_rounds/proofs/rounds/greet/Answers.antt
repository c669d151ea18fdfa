use Rattle.std.proofs.Common.{[], length-set, refl, subst, sym, ◌∙◌, arith}
use Rattle.gossip.proofs.NewsLemmas.{same_on}
use Rattle.peer_rounds.specs.Rounds.{AreGreeted, nobody}
use Rattle.peer_rounds.proofs.Greetings.{asked_is, greeted_on, left_is}
use Rattle.peer_rounds.proofs.rounds.greet.Goals as goal
use Rattle.peer_rounds.proofs.rounds.greet.Goals.{then-has_asked, else-has_asked}

pub loop-pace-init : goal.loop-pace-init
loop-pace-init g c = record {
  greeted = subst (λ l. AreGreeted l [] []) (sym c.new-asked.ensures) nobody;
  same = refl;
  long = refl;
}

pub loop-pace-preserved : goal.loop-pace-preserved
loop-pace-preserved g c =
    let was = c.loop-pace.invariant in
    elim c.if-has_asked.branch [
      | then-has_asked w ↦
          rw (w.paces-is, c.add.ensures) (record {
            greeted = greeted_on c.loop-pace.asked.items c.has_asked-asking.result c.args.paces.now c.loop-pace.paces
                c.loop-pace.pace-index _ _ (omega (arith, c.loop-pace-test.true, was.long)) was.long was.same was.greeted
                c.has_asked-asking.ensures
                (w.asked.ensures ∙ asked_is c.has_asked-asking.result _ (sym c.has_asked.ensures ∙ w.if-has_asked.true));
            same = same_on c.args.paces.now c.loop-pace.paces c.loop-pace.pace-index _ was.same;
            long = length-set c.loop-pace.paces c.loop-pace.pace-index _ ∙ was.long;
          })
      | else-has_asked w ↦
          rw (w.paces-is, c.add.ensures) (record {
            greeted = greeted_on c.loop-pace.asked.items c.has_asked-asking.result c.args.paces.now c.loop-pace.paces
                c.loop-pace.pace-index _ _ (omega (arith, c.loop-pace-test.true, was.long)) was.long was.same was.greeted
                c.has_asked-asking.ensures
                (left_is c.has_asked-asking.result _ (sym c.has_asked.ensures ∙ w.if-has_asked.false));
            same = same_on c.args.paces.now c.loop-pace.paces c.loop-pace.pace-index _ was.same;
            long = length-set c.loop-pace.paces c.loop-pace.pace-index _ ∙ was.long;
          })
    ]
