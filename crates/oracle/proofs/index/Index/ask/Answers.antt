use Rattle.oracle.proofs.index.Index.ask.Goals as goal

pub returns-clause-moment : goal.returns-clause-moment
returns-clause-moment g c = rw (c.in_ok-reply.ensures.0, c.saturating_add-self.ensures)
