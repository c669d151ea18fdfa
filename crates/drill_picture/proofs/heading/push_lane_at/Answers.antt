use Rattle.std.proofs.Common.{◌++◌, codes, decimal, string_bytes}
use Rattle.drill_picture.specs.Picture.{colour_text, lane_at, node_text}
use Rattle.drill_picture.proofs.Texts.{also, lastly}
use Rattle.drill_picture.proofs.heading.push_lane_at.Goals as goal

pub returns : goal.returns
unfolding lane_at
returns c =
    let out = string_bytes c.args.out.now in
    let a = colour_text c.args.node c.args.y in
    let b = node_text c.args.node c.args.y in
    let d = codes "<path class='lane' d='M76 " ++ (decimal c.args.y ++ codes "H888'/>\n") in
    let first = also out _ _ a b c.in_ok-push_colour.ensures c.in_ok-push_node.ensures in
    lastly c.writeln.result out _ _ (a ++ b) d first c.writeln.ensures.bytes
