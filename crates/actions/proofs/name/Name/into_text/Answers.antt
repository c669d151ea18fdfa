use Rattle.actions.proofs.name.Name.into_text.Goals as goal

pub returns : goal.returns
returns c = c.self.view_is
