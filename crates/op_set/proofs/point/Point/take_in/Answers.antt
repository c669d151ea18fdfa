use Rattle.std.proofs.Common.{max, true, Some, Option, option_map, ap, ◌∙◌, sym}
use Rattle.stamp_register.specs.Keys.{KeyValue, key_value}
use Rattle.stamp_register.specs.declared.key.Key.{Key}
use Rattle.op_set.specs.Counts.{number_of}
use Rattle.replica_state.specs.Unions.{key_order, if_counts}
use Rattle.replica_state.proofs.Learned.{both_ok}
use Rattle.op_set.proofs.PointJoins.{took_hits, took_all, took_key}
use Rattle.op_set.proofs.point.Point.take_in.Goals as goal

pub returns-in-None-key : goal.returns-in-None-key
returns-in-None-key c = both_ok c.count_all.result (took_all c.args.self.now c.count_all.new.self c.args.other.now
    c.deref.result.now c.deref.ensures.value (λ i. key_order (option_map key_value (c.in-None.is i))
    (option_map key_value (c.in-None-key.is i)))) c.count_all.ensures.key c.count_all.ensures.ok

pub returns-in-Some-key : goal.returns-in-Some-key
returns-in-Some-key c = both_ok c.count_all-in-Some-key.result
    (took_hits c.args.self.now c.count_all-in-Some-key.new.self c.args.other.now c.deref-in-Some-key.result.now
    c.deref-in-Some-key.ensures.value (λ i. key_order (option_map key_value (c.in-None.is i))
    (option_map key_value (c.in-Some-key.is i)))) c.count_all-in-Some-key.ensures.key c.count_all-in-Some-key.ensures.ok

pub returns-in-Less : goal.returns-in-Less
returns-in-Less c = both_ok c.count_all-in-Less.result (took_hits c.args.self.now c.count_all-in-Less.new.self
    c.args.other.now c.deref-in-Less.result.now c.deref-in-Less.ensures.value
    (ap (λ (o : Option Key). key_order (option_map key_value o) (option_map key_value c.args.self.now.key))
    c.in-Some.is ∙ sym c.in-Less.ensures)) c.count_all-in-Less.ensures.key c.count_all-in-Less.ensures.ok

pub returns-in-Equal : goal.returns-in-Equal
returns-in-Equal c = both_ok c.count_all-in-Equal.result (took_all c.args.self.now c.count_all-in-Equal.new.self
    c.args.other.now c.deref-in-Equal.result.now c.deref-in-Equal.ensures.value
    (ap (λ (o : Option Key). key_order (option_map key_value o) (option_map key_value c.args.self.now.key))
    c.in-Some.is ∙ sym c.in-Equal.ensures)) c.count_all-in-Equal.ensures.key c.count_all-in-Equal.ensures.ok

pub returns-in_ok-copied-in-Greater : goal.returns-in_ok-copied-in-Greater
returns-in_ok-copied-in-Greater c = both_ok c.count_all-in-Greater.result
    (λ kept learned. took_key c.args.self.now c.count_all-in-Greater.new.self c.args.other.now
    c.deref-in-Greater.result.now c.deref-in-Greater.ensures.value
    (ap (λ (o : Option Key). key_order (option_map key_value o) (option_map key_value c.args.self.now.key))
    c.in-Some.is ∙ sym c.in-Greater.ensures)
    (ap (λ (o : Option Key). option_map key_value o) (kept ∙ c.take.ensures.key) ∙
    ap (λ (k : KeyValue). Some k) c.in_ok-copied-in-Greater.ensures ∙
    ap (λ (o : Option Key). option_map key_value o) (sym c.in-Some.is))
    (λ d. learned d ∙ ap (λ n. max n (if_counts true d (number_of c.deref-in-Greater.result.now d)))
    (c.take.ensures.number d)))
    c.count_all-in-Greater.ensures.key c.count_all-in-Greater.ensures.ok
