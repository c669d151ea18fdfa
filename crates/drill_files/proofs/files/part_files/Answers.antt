use Rattle.std.proofs.Common.{◌≡◌, ◌+◌, ◌++◌, ◌∷◌, [], false, ap, ◌∙◌}
use Rattle.std.proofs.lemmas.List.{length_push}
use Rattle.std.proofs.lemmas.List.Elements.{All-push}
use Rattle.streams.specs.Watched.{has_failed}
use Rattle.drill_files.proofs.files.part_files.Goals as goal

pub loop-node-preserved : goal.loop-node-preserved
loop-node-preserved g c =
    let pushed = c.push_reserved.ensures.items ∙ ap (λ files. files ++ c.in_ok-file.file ∷ []) c.reserve.ensures.items in
    record {
      number = rw pushed (length_push c.loop-node.files.items c.in_ok-file.file
          ∙ ap (λ n. n + 1) c.loop-node.invariant.number);
      sound = rw pushed (All-push (λ file. has_failed file ≡ false) c.loop-node.files.items c.in_ok-file.file
          c.loop-node.invariant.sound c.in_ok-file.ensures.sound);
    }
