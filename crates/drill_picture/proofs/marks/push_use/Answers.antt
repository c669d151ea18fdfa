use Rattle.std.proofs.Common.{◌++◌, codes, string_bytes}
use Rattle.drill_picture.specs.Marks.{at_text, use_text}
use Rattle.drill_picture.proofs.Texts.{lastly}
use Rattle.drill_picture.proofs.marks.push_use.Goals as goal

pub returns : goal.returns
unfolding use_text
returns c =
    let out = string_bytes c.args.out.now in
    lastly c.push_at.result out _ _ (codes "<use href='#" ++ (c.args.shape.now ++ codes "'")) (at_text c.args.x c.args.y)
    c.in_ok-write.ensures.bytes c.push_at.ensures
