use Rattle.hpr_reach.proofs.search.reach.Goals as goal

pub returns-clause-exact : goal.returns-clause-exact
returns-clause-exact c = rw (← c.nest.ensures.nest) c.reach_past.ensures.exact
