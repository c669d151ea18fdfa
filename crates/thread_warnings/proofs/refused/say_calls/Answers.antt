use Rattle.std.proofs.Common.{◌≡◌, ◌∷◌, ◌∙◌, ◌++◌, ap, append_assoc, sym}
use Rattle.std.specs.Prelude.{codes, decimal, string_bytes}
use Rattle.streams.specs.Fields.{first_word, space}
use Rattle.thread_plans.proofs.Naming.{pushed}
use Rattle.thread_warnings.specs.RefusedCalls.{first_words, rest_of}
use Rattle.thread_warnings.proofs.refused.say_calls.Goals as goal

pub returns : goal.returns
returns c =
    let code = first_word c.args.text.now in
    let name = first_word (rest_of c.args.text.now) in
    let number = codes ": " ++ decimal c.args.calls in
    let parts = rw (c.first_word-code.ensures, c.first_word-name.ensures, c.rest_of.ensures)
    at c.in_ok-format.ensures.ok in
    pushed _ _ _ _ c.push_text.result c.push_text.ensures.ok
    (parts ∙ ap (λ t. codes "calls of workers rejected with " ++ t) (sym (append_assoc code (space ∷ name) number)))
