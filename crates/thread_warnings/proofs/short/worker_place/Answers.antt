use Rattle.std.proofs.Common.{rules}
use Rattle.std.proofs.lemmas.List.{take-map}
use Rattle.thread_plans.specs.Plans.{block_value}
use Rattle.thread_warnings.proofs.short.worker_place.Goals as goal

pub returns : goal.returns
returns c = search (rules, take-map block_value c.args.before c.args.plan.now.blocks.items)
