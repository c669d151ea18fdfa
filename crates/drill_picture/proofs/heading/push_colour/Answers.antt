use Rattle.std.proofs.Common.{◌++◌, ◌%◌, codes, decimal, string_bytes}
use Rattle.drill_picture.specs.Marks.{at_text}
use Rattle.drill_picture.specs.Picture.{colour_text}
use Rattle.drill_picture.proofs.Texts.{also, pushed}
use Rattle.drill_picture.proofs.heading.push_colour.Goals as goal

pub returns : goal.returns
unfolding colour_text
returns c =
    let out = string_bytes c.args.out.now in
    let a = codes "<use href='#n" ++ (decimal (c.args.node % 8) ++ codes "'") in
    let first = also out _ _ a (at_text 17 c.args.y) c.in_ok-write.ensures.bytes c.in_ok-push_at.ensures in
    pushed c.push_str.result out _ _ (a ++ at_text 17 c.args.y) (codes "/>") first c.push_str.ensures.bytes
