use Rattle.std.proofs.Common.{◌∙◌, ◌++◌, ◌∷◌, [], ap, map}
use Rattle.std.proofs.lemmas.List.{map_push}
use Rattle.node_registry.specs.Refusals.{refusal_of}
use Rattle.node_registry.proofs.noted.Refusals.note.Goals as goal

pub returns : goal.returns
returns c =
    ap (map refusal_of) c.add.ensures ∙ map_push refusal_of _ _
    ∙ ap (λ was. was ++ (c.args.ask.value, c.args.fault) ∷ []) c.self.view_is
