use Rattle.std.proofs.Common.{ap, ◌∙◌}
use Rattle.op_set.specs.Shown.{shown}
use Rattle.op_set.proofs.Shown.{shown_none}
use Rattle.op_set.proofs.SetJoins.{copied_state}
use Rattle.op_set.proofs.point_map.Points.copied.Goals as goal

pub returns : goal.returns
returns c = copied_state c.args.self.now c.take_in.new.self (shown c.new-copy.result) c.len.ensures.ordered
    c.in_ok-take_in.ensures (ap shown c.new-copy.ensures ∙ shown_none)
