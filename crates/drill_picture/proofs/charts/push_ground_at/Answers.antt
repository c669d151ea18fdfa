use Rattle.std.proofs.Common.{◌++◌, codes, decimal, string_bytes}
use Rattle.drill_picture.specs.Charts.{ground_at}
use Rattle.drill_picture.specs.Marks.{point_text}
use Rattle.drill_picture.proofs.Texts.{also, lastly}
use Rattle.drill_picture.proofs.charts.push_ground_at.Goals as goal

pub returns : goal.returns
unfolding ground_at
returns c =
    let out = string_bytes c.args.out.now in
    let a = codes "<path class='spent' d='M" in
    let b = point_text c.args.x c.args.top in
    let d = codes "V" ++ (decimal c.args.base ++ (codes "H888V" ++ (decimal c.args.top ++ codes "z'/>\n"))) in
    let first = also out _ _ a b c.in_ok-push_str.ensures.bytes c.in_ok-push_point.ensures in
    lastly c.writeln.result out _ _ (a ++ b) d first c.writeln.ensures.bytes
