use Rattle.hpr_graph.proofs.graph.Graph.of_vertices.Goals as goal

pub returns-clause-none : goal.returns-clause-none
returns-clause-none c = λ to l h. c.in_ok-draft.ensures.none to l ((c.finish.ensures.links to l).0 h)
