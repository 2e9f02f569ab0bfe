use Rattle.hpr_engine.proofs.programs.limited_graphs.Goals as goal

pub returns-clause-base : goal.returns-clause-base
returns-clause-base c =
    let made = c.in_ok-base_graph.ensures in
    record { program = made.program; numbered = made.numbered; same = made.graph }

pub returns-clause-a : goal.returns-clause-a
returns-clause-a c =
    let made = c.in_ok-a_graph.ensures in
    record { program = made.program; numbered = made.numbered; same = made.graph }

pub returns-clause-b : goal.returns-clause-b
returns-clause-b c =
    let made = c.in_ok-b_graph.ensures in
    record { program = made.program; numbered = made.numbered; same = made.graph }
