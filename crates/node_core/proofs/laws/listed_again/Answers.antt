use Rattle.node_core.specs.Traces.{node_of}
use Rattle.node_core.proofs.ListedAgain.{read_again, loaded_again}
use Rattle.node_core.proofs.laws.listed_again.Goals as goal

pub returns-clause-read : goal.returns-clause-read
returns-clause-read c =
    let node = c.args.node.now in
    read_again node.config.nodes (node_of node).ops c.is_lawful.ensures

pub returns-clause-load : goal.returns-clause-load
returns-clause-load c =
    let node = c.args.node.now in
    loaded_again node.config.nodes (node_of node).ops c.is_lawful.ensures
