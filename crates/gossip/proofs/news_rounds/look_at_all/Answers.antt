use Rattle.std.proofs.Common.{◌≡◌, ◌≤◌, ◌+◌, ℕ, length-set, length-take, ◌∙◌, refl, arith}
use Rattle.gossip.proofs.CarryLemmas.{on_err}
use Rattle.gossip.proofs.NewsLemmas.{breaks_on, breaks_since, looks_nobody, looks_on, looks_since, same_on}
use Rattle.gossip.proofs.news_rounds.look_at_all.Goals as goal

-- a seat that made calls more had made as many
begun : (was now more : ℕ) → now ≡ was + more → was ≤ now
begun was now more is = omega (arith, is)

pub loop-pace-init : goal.loop-pace-init
loop-pace-init g c = record { looks = looks_nobody _ _ _ _ _ _ _; same = refl; long = refl }

pub look_at-requires : goal.look_at-requires
look_at-requires g c =
    let was = c.loop-pace.invariant in
    omega (arith, c.requires.few, c.requires.room, was.looks.few, length-take c.loop-pace.pace-index c.args.paces.now)

pub returns-in_err-pace-clause-breaks : goal.returns-in_err-pace-clause-breaks
returns-in_err-pace-clause-breaks g c =
    let was = c.loop-pace.invariant in
    on_err _ (breaks_on c.args.paces.now c.loop-pace.paces c.loop-pace.pace-index _
    (omega (arith, c.loop-pace-test.true, was.long)) was.long was.same was.looks
    (breaks_since (begun _ _ _ was.looks.adds.calls) c.in_err-pace.ensures.breaks))

pub loop-pace-preserved : goal.loop-pace-preserved
loop-pace-preserved g c =
    let was = c.loop-pace.invariant in
    let next = c.in_ok-pace.field-0 in
    record {
      looks = looks_on c.args.paces.now c.loop-pace.paces c.loop-pace.pace-index _ next
          (omega (arith, c.loop-pace-test.true, was.long)) was.long was.same was.looks
          (looks_since (begun _ _ _ was.looks.adds.calls) c.in_ok-pace.ensures.looks);
      same = same_on c.args.paces.now c.loop-pace.paces c.loop-pace.pace-index next was.same;
      long = length-set c.loop-pace.paces c.loop-pace.pace-index next ∙ was.long;
    }

pub returns-clause-few : goal.returns-clause-few
returns-clause-few g c =
    let was = c.loop-pace.invariant in
    omega (arith, was.looks.few, length-take c.loop-pace.pace-index c.args.paces.now)

pub returns-in_err-pace-clause-few : goal.returns-in_err-pace-clause-few
returns-in_err-pace-clause-few g c =
    let was = c.loop-pace.invariant in
    omega (
      arith,
      was.looks.few,
      c.look_at.ensures.few,
      c.loop-pace-test.true,
      was.long,
      length-take c.loop-pace.pace-index c.args.paces.now,
    )
