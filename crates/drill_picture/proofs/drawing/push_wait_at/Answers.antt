use Rattle.std.proofs.Common.{◌++◌, codes, string_bytes}
use Rattle.drill_picture.specs.Marks.{at_text, use_text}
use Rattle.drill_picture.specs.Picture.{missing_text, wait_at}
use Rattle.drill_picture.proofs.Texts.{also, lastly}
use Rattle.drill_picture.proofs.drawing.push_wait_at.Goals as goal

pub returns : goal.returns
unfolding wait_at
returns c =
    let out = string_bytes c.args.out.now in
    let a = use_text (codes "stuck") c.args.x c.args.y in
    let b = codes "/><text class='no'" in
    let d = at_text c.args.x c.args.y in
    let e = codes " dx='12' dy='4'>" in
    let f = missing_text c.args.index c.args.missing in
    let first = also out _ _ a b c.in_ok-push_use.ensures c.in_ok-push_str.ensures.bytes in
    let second = also out _ _ (a ++ b) d first c.in_ok-push_at.ensures in
    let third = also out _ _ (a ++ b ++ d) e second c.in_ok-push_str-2.ensures.bytes in
    lastly c.push_missing.result out _ _ (a ++ b ++ d ++ e) f third c.push_missing.ensures
