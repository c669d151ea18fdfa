use Rattle.std.proofs.Common.{◌++◌, codes, string_bytes}
use Rattle.stamp_register.specs.Keys.{stamp_text}
use Rattle.drill_picture.specs.Escaped.{escaped}
use Rattle.drill_picture.specs.Marks.{at_text, name_at}
use Rattle.drill_picture.proofs.Texts.{also, lastly}
use Rattle.drill_picture.proofs.marks.push_name_at.Goals as goal

pub returns : goal.returns
unfolding name_at
returns c =
    let out = string_bytes c.args.out.now in
    let a = codes "<text class='name'" in
    let b = at_text c.args.x c.args.y in
    let d = codes " dx='9' dy='-14'>" in
    let e = escaped c.args.name.now in
    let f = codes " " ++ (stamp_text c.args.stamp ++ codes "</text>\n") in
    let first = also out _ _ a b c.in_ok-push_str.ensures.bytes c.in_ok-push_at.ensures in
    let second = also out _ _ (a ++ b) d first c.in_ok-push_str-2.ensures.bytes in
    let third = also out _ _ (a ++ b ++ d) e second c.in_ok-push_escaped.ensures in
    lastly c.writeln.result out _ _ (a ++ b ++ d ++ e) f third c.writeln.ensures.bytes
