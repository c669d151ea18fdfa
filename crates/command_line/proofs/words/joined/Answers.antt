use Rattle.std.proofs.Common.{◌≡◌, ◌++◌, ◌∷◌, string_bytes, rules, ◌∙◌}
use Rattle.std.specs.List.{flat_map}
use Rattle.command_line.proofs.WordLemmas.{first_and_others}
use Rattle.command_line.proofs.words.joined.Goals as goal

pub returns : goal.returns
returns c =
    let pushed : string_bytes c.push_words.new.text
    ≡ c.in-Some.first.now.now ++ flat_map (λ word. 32 ∷ word.now) c.in-Some.rest.now = search rules in
    pushed ∙ first_and_others c.args.words.now c.in-Some.rest.now c.in-Some.first.now c.in-Some.ensures.cases.0
