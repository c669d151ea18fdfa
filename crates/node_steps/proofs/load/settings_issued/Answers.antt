use Rattle.std.proofs.Common.{◌++◌, ◌∷◌, [], ℕ, List, Option, Some, length, map, sym, ◌∙◌, ap, arith, append_assoc, length-append, ⊎_elim, subst, ◌+◌}
use Rattle.std.proofs.lemmas.List.{map-append, length-map}
use Rattle.actions.specs.Value.{TermValue}
use Rattle.actions.specs.Canonical.{canonical}
use Rattle.operations.specs.declared.op.Op.{Op}
use Rattle.operations.specs.declared.op.Op.TheVariants as ops
use Rattle.operations.specs.Operations.{Operation, Set, operation}
use Rattle.operations.proofs.Members.{IsIn-append_cases}
use Rattle.message_format.specs.Spelling.{IsBody}
use Rattle.node_steps.specs.Settings.{operations_issued}
use Rattle.node_steps.proofs.LoadSteps.{issued-more}
use Rattle.node_steps.proofs.load.settings_issued.Goals as goal

setting : List ℕ × List TermValue → List ℕ × Option (List ℕ)
setting point = (point.0, Some (canonical point.1))

pub loop-name-init : goal.loop-name-init
loop-name-init c =
    record {
      last = omega arith;
      ops = ap (map operation) c.in_ok-ops.ensures.items;
      many = c.in_ok-ops.ensures.len;
      room = c.in_ok-ops.ensures.exact ∙ c.len.ensures ∙ c.args.points.ok.0;
      left = c.into_iter-name-iterator.ensures.into_iter_gives.1 ∙ c.args.points.ok.0 ∙
          ap length (sym c.into_iter-name-iterator.ensures.into_iter_gives.0);
      bodies = λ s h. absurd h;
      whole = sym c.into_iter-name-iterator.ensures.into_iter_gives.0;
    }

pub loop-name-preserved : goal.loop-name-preserved
unfolding setting
loop-name-preserved c =
    let before = c.loop-name.invariant in
    let settings = map setting c.loop-name.yielded in
    let body = Some (canonical c.in-Some.actions) in
    let longer = length-append c.loop-name.yielded ((c.in-Some.name, c.in-Some.actions) ∷ []) in
    let last = before.last in
    let many = before.many in
    let grown = c.push_reserved.ensures.len in
    let same = length-map c.loop-name.yielded setting in
    let issued : Op = ops.Set c.in-Some.name (record {
      clock = c.loop-name.last + 1;
      node = c.args.me;
      body =
          c.set_to.result;
    }) in
    record {
      last = omega (arith, longer, last);
      ops =
          ap (map operation) c.push_reserved.ensures.items
          ∙ map-append operation c.loop-name.ops.items (issued ∷ [])
          ∙ ap (λ (told : List Operation). told ++ operation issued ∷ []) before.ops
          ∙ ap (λ b. operations_issued c.args.me c.args.clock settings ++
          Set c.in-Some.name (record { clock = c.loop-name.last + 1; node = c.args.me; body = b }) ∷ [])
          c.set_to.ensures.value
          ∙ sym (issued-more c.args.me c.args.clock c.loop-name.last settings (c.in-Some.name, body)
          (omega (arith, last, same)))
          ∙ ap (operations_issued c.args.me c.args.clock) (sym
          (map-append setting c.loop-name.yielded ((c.in-Some.name, c.in-Some.actions) ∷ [])));
      many = omega (arith, longer, many, grown);
      room = c.push_reserved.ensures.capacity ∙ before.room;
      left = (let taken = c.in-Some.ensures.steps.1 in let items = ap length c.in-Some.ensures.steps.0 in
          let left = before.left in omega (arith, taken, items, left));
      bodies = λ s h. ⊎_elim (before.bodies s) (λ k. ⊎_elim (λ e. subst
          (λ (p : List ℕ × List TermValue). IsBody (Some (canonical p.1))) (sym e)
          (subst IsBody c.set_to.ensures.value c.set_to.ensures.tellable)) (λ none. absurd none) k)
          (IsIn-append_cases s c.loop-name.yielded ((c.in-Some.name, c.in-Some.actions) ∷ []) h);
      whole = before.whole ∙ ap (λ rest. c.loop-name.yielded ++ rest) c.in-Some.ensures.steps.0 ∙
          sym (append_assoc c.loop-name.yielded ((c.in-Some.name, c.in-Some.actions) ∷ []) c.next.new.self.rest.items);
    }
