use Rattle.node_registry.proofs.guarded.Guarded.submit.Goals as goal

pub returns-clause-ok : goal.returns-clause-ok
returns-clause-ok g c = rw (← c.self.view_is) c.in_ok-reply.ensures.ok
