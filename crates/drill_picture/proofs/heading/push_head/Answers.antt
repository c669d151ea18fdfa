use Rattle.std.proofs.Common.{◌++◌, codes, string_bytes}
use Rattle.drill_picture.specs.Picture.{head_text, size_text}
use Rattle.drill_picture.proofs.Texts.{also, pushed}
use Rattle.drill_picture.proofs.heading.push_head.Goals as goal

pub returns : goal.returns
unfolding head_text
returns c =
    let out = string_bytes c.args.out.now in
    let a = codes "<svg xmlns='http://www.w3.org/2000/svg' " in
    let b = size_text c.args.height in
    let d = codes " role='img'>\n" in
    let first = also out _ _ a b c.in_ok-push_str.ensures.bytes c.in_ok-push_size.ensures in
    let second = also out _ _ (a ++ b) d first c.in_ok-push_str-2.ensures.bytes in
    pushed c.push_str-3.result out _ _ (a ++ b ++ d) c.args.shapes.now second c.push_str-3.ensures.bytes
