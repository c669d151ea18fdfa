use Rattle.std.proofs.Common.{◌++◌, codes, decimal, map, string_bytes}
use Rattle.drill_picture.specs.Charts.{area_text, band_at, levels_of}
use Rattle.drill_picture.proofs.Texts.{lastly}
use Rattle.drill_picture.proofs.charts.push_band_at.Goals as goal

pub returns : goal.returns
unfolding band_at
returns c =
    let out = string_bytes c.args.out.now in
    let a = codes "<path class='" ++ (c.args.kind.now ++ (decimal c.args.colour ++ codes "' d='M")) in
    let b = area_text c.args.scale.now c.args.frame.top c.args.frame.most c.args.level (map levels_of c.args.columns.now) in
    lastly c.push_area.result out _ _ a b c.in_ok-write.ensures.bytes c.push_area.ensures
