use Rattle.std.proofs.Common.{arith}
use Rattle.thread_scripts.proofs.nodes.seats_at.Goals as goal

pub overflow_cast-result : goal.overflow_cast-result
overflow_cast-result c =
    let few = c.args.plan.now.few_blocks c.args.job.now.config.node in
    let all = rw c.deref.ensures.value at c.blocks_at.ensures in
    omega arith

pub overflow_add-result : goal.overflow_add-result
overflow_add-result c =
    let few = c.args.plan.now.few_blocks c.args.job.now.config.node in
    let all = rw c.deref.ensures.value at c.blocks_at.ensures in
    omega arith

pub overflow_add-result-2 : goal.overflow_add-result-2
overflow_add-result-2 c =
    let few = c.args.plan.now.few_blocks c.args.job.now.config.node in
    let all = rw c.deref.ensures.value at c.blocks_at.ensures in
    grind arith
