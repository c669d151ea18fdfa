use Rattle.std.proofs.lemmas.Result.{IfOk-weaker}
use Rattle.thread_scripts.proofs.output.output_of.Goals as goal

pub returns : goal.returns
returns c =
    IfOk-weaker c.printed.result _ _ (λ bytes printed. (c.in_ok-judged.judged, c.in_ok-judged.ensures, printed))
    c.printed.ensures
