use Rattle.std.proofs.Common.{◌++◌, codes, decimal, string_bytes}
use Rattle.drill_picture.specs.Charts.{axis_at}
use Rattle.drill_picture.specs.Marks.{at_text}
use Rattle.drill_picture.proofs.Texts.{also, lastly}
use Rattle.drill_picture.proofs.charts.push_axis_at.Goals as goal

pub returns : goal.returns
unfolding axis_at
returns c =
    let out = string_bytes c.args.out.now in
    let a = codes "<text class='end'" in
    let b = at_text 70 c.args.y in
    let d = codes ">" ++ decimal c.args.most in
    let f = codes "</text><path class='count' d='M76 " ++ (decimal c.args.count_y ++ codes "H888'/>\n") in
    let first = also out _ _ a b c.in_ok-push_str.ensures.bytes c.in_ok-push_at.ensures in
    let second = also out _ _ (a ++ b) d first c.in_ok-write.ensures.bytes in
    lastly c.writeln.result out _ _ (a ++ b ++ d) f second c.writeln.ensures.bytes
