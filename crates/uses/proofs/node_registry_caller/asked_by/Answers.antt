use Rattle.uses.proofs.node_registry_caller.asked_by.Goals as goal

pub returns-clause-legal : goal.returns-clause-legal
returns-clause-legal g c = rw c.requires.config (c.close.ensures.all c.requires.keeps).legal

pub returns-clause-entries : goal.returns-clause-entries
returns-clause-entries g c = (c.close.ensures.all c.requires.keeps).entries
