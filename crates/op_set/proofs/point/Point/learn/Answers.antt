use Rattle.std.proofs.Common.{ap, sym}
use Rattle.std.specs.Option.{option_map, option_copied}
use Rattle.stamp_register.specs.Keys.{key_value}
use Rattle.replica_state.proofs.Learned.{on_ok, both_ok, on_err}
use Rattle.op_set.proofs.Learned.{same_held, learned_none, learned_less, learned_equal, learned_greater}
use Rattle.op_set.proofs.point.Point.learn.Goals as goal

pub returns-in-None-clause-ok : goal.returns-in-None-clause-ok
returns-in-None-clause-ok c = on_ok c.count.result (learned_none c.args.self.now c.count.new.self _ c.args.count
    (ap (λ k. option_map key_value (option_copied k)) c.in-None.is) c.count.ensures.key) c.count.ensures.ok

pub returns-in-None-clause-err : goal.returns-in-None-clause-err
returns-in-None-clause-err c = on_err c.count.result (same_held c.args.self.now c.count.new.self c.count.ensures.key)
    c.count.ensures.err

pub returns-in-Less-clause-ok : goal.returns-in-Less-clause-ok
returns-in-Less-clause-ok c = learned_less c.args.self.now c.args.self.now _ c.args.count (key_value c.in-Some.key.now)
    (ap (λ k. option_map key_value (option_copied k)) c.in-Some.is) (sym c.in-Less.ensures)

pub returns-in-Equal-clause-ok : goal.returns-in-Equal-clause-ok
returns-in-Equal-clause-ok c = on_ok c.count-in-Equal.result
    (learned_equal c.args.self.now c.count-in-Equal.new.self _ c.args.count (key_value c.in-Some.key.now)
    (ap (λ k. option_map key_value (option_copied k)) c.in-Some.is) (sym c.in-Equal.ensures)
    c.count-in-Equal.ensures.key) c.count-in-Equal.ensures.ok

pub returns-in-Equal-clause-err : goal.returns-in-Equal-clause-err
returns-in-Equal-clause-err c = on_err c.count-in-Equal.result
    (same_held c.args.self.now c.count-in-Equal.new.self c.count-in-Equal.ensures.key) c.count-in-Equal.ensures.err

pub returns-in_ok-copied-in-Greater-clause-ok : goal.returns-in_ok-copied-in-Greater-clause-ok
returns-in_ok-copied-in-Greater-clause-ok c = both_ok c.replace.result
    (λ took h. learned_greater c.args.self.now c.replace.new.self _ c.args.count (key_value c.in-Some.key.now)
    (ap (λ k. option_map key_value (option_copied k)) c.in-Some.is) (sym c.in-Greater.ensures)
    c.in_ok-copied-in-Greater.field-0 c.in_ok-copied-in-Greater.ensures took h) c.replace.ensures.key
    c.replace.ensures.ok
