use Rattle.std.proofs.Common.{ℕ, List, [], map, take, sym, ◌∙◌, ap}
use Rattle.std.proofs.lemmas.List.{take_all}
use Rattle.actions.specs.Value.{TermValue}
use Rattle.replica_state.specs.Folds.{fold}
use Rattle.replica_state.specs.States.{State, with_name}
use Rattle.replica_state.specs.Unions.{with_names}
use Rattle.node_steps.specs.Replicas.{state_in}
use Rattle.node_steps.proofs.LoadSteps.{known_next, names_more, names_next}
use Rattle.node_steps.proofs.load.state_of_names.Goals as goal

pub loop-name-init : goal.loop-name-init
unfolding fold
loop-name-init c = record {
  known = ([], c.empty-named.ensures);
  names =
      ap (λ (v : State). v.names) c.empty-named.ensures;
}

pub loop-name-preserved : goal.loop-name-preserved
loop-name-preserved c =
    let before = c.loop-name.invariant in
    let item = c.loop-name-item.result in
    let points = c.args.points.now in
    let so_far = with_names (map (λ (point : List ℕ × List TermValue). point.0) (take c.loop-name.name-index points))
    [] in
    record {
      known = known_next (state_in c.loop-name.named) (state_in c.learn.new.self) item.0 _ before.known
          c.in_ok-learn.ensures.ok;
      names =
          names_more (state_in c.loop-name.named) (state_in c.learn.new.self) item.0 _ before.known
          c.in_ok-learn.ensures.ok
          ∙ ap (with_name item.0) before.names
          ∙ ap (λ (point : List ℕ × List TermValue). with_name point.0 so_far) c.loop-name-item.is
          ∙ sym (names_next points c.loop-name.name-index item c.loop-name-test.true);
    }

pub returns : goal.returns
returns c =
    c.loop-name.invariant.names
    ∙ ap (λ (points : List (List ℕ × List TermValue)). with_names (map (λ point. point.0) points) [])
    (take_all c.loop-name.name-index c.args.points.now c.loop-name-test.false)
