use Rattle.std.proofs.Common.{refl, subst, ap, ◌∙◌, length}
use Rattle.std.specs.Prelude.{◌==◌, ◌&&◌, not, is_none, is_some}
use Rattle.http_routes.specs.Asked.{asked_value}
use Rattle.http_routes.specs.Requests.{wanted_asked}
use Rattle.node_for_c.specs.Cluster.{AnswersBy, LacksMemoryBy, awaited_in, may_set, version_in}
use Rattle.node_for_c.proofs.registry.Registry.answer_known.Goals as goal

pub returns-clause-told : goal.returns-clause-told
returns-clause-told c =
    let k = c.args.self.now in
    let l = c.answer_by-answer.new.self in
    let asked = asked_value c.args.asked.now in
    let answer = c.answer_by-answer.result in
    let wanted = wanted_asked asked c.args.body.now in
    let changed = c.has_changed.ensures
    ∙ ap (λ b. b && not (c.version.result == c.version-version.result)) c.may_set.ensures
    ∙ ap (λ v. may_set asked && not (v == c.version-version.result)) c.version.ensures
    ∙ ap (λ v. may_set asked && not (version_in l == v)) c.version-version.ensures in
    let ended = c.has_ended.ensures
    ∙ ap (λ n. is_some n && is_none c.awaited.result) c.awaited-awaited.ensures
    ∙ ap (λ n. is_some (awaited_in k) && is_none n) c.awaited.ensures in (
      answer,
      (refl, c.fault_number.ensures, changed, ended),
      subst (λ o. AnswersBy o wanted c.args.body.now c.args.now answer k l) c.course-course.ensures
          c.answer_by-answer.ensures.answers,
      subst (λ o. LacksMemoryBy o wanted answer k l) c.course-course.ensures c.answer_by-answer.ensures.memory,
    )
