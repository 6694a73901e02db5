use Rattle.port_links.proofs.links.Links.owner.Goals as goal

pub returns-clause-below : goal.returns-clause-below
returns-clause-below c = rw (← c.self.view_is) c.self.invariant.within
