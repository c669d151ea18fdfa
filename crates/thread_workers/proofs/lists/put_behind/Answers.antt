use Rattle.std.proofs.Common.{◌∙◌, ◌++◌, ap, sym}
use Rattle.std.proofs.lemmas.List.{map-id}
use Rattle.std.proofs.lemmas.Iterator.Adapters.{YieldsList-from_vec, fact_from_extend}
use Rattle.thread_workers.proofs.lists.put_behind.Goals as goal

pub returns : goal.returns
returns g c =
    fact_from_extend (λ x. x) c.extend.result c.extend.ensures.ran
    (λ it b. YieldsList-from_vec {s = it} _ b.0 (b.1 ∙ c.args.more.ok.0))
    (λ xs e h. h.0 ∙ ap (λ ys. c.args.all.now.items ++ ys) (sym (map-id xs) ∙ e))
