use Rattle.node_service.proofs.telling.serve_alone.Goals as goal

pub returns-clause-ok : goal.returns-clause-ok
returns-clause-ok g c = c.of.ensures c.args.serving.requests c.in_ok-served.ensures.ok
