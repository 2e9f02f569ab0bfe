use Rattle.hpr_graph.specs.Numbered.{graph_in}
use Rattle.hpr_graph.specs.ProgramGraph.{graph_of}
use Rattle.hpr_closure.proofs.ProgramWhole.{program_whole}
use Rattle.hpr_closure.proofs.WholeSlices.{whole_same}
use Rattle.hpr_data.proofs.AffectedLemmas.{points_between}
use Rattle.hpr_data.proofs.affected.affected_between.Goals as goal

pub affected-requires-clause-variant : goal.affected-requires-clause-variant
affected-requires-clause-variant c =
    whole_same (graph_in c.in_ok-a_graph.a_graph) (graph_of c.args.a_program.now) c.in_ok-a_graph.ensures.0 (program_whole c.args.a_program.now c.body-a_body.ensures.program)

pub affected-requires-clause-base : goal.affected-requires-clause-base
affected-requires-clause-base c =
    whole_same (graph_in c.in_ok-base_graph.base_graph) (graph_of c.args.base_program.now) c.in_ok-base_graph.ensures.0 (program_whole c.args.base_program.now c.body-base_body.ensures.program)

pub returns : goal.returns
returns c = (
  c.in_ok-points.ensures.within,
  points_between c.in_ok-base_graph.base_graph c.in_ok-a_graph.a_graph c.in_ok-points.points.items c.in_ok-points.ensures c.args.base_program.now c.args.a_program.now
      c.in_ok-base_graph.ensures.0 c.in_ok-a_graph.ensures.0 c.args.base.now c.args.a.now c.in_ok-base_graph.ensures.1 c.in_ok-a_graph.ensures.1,
)
