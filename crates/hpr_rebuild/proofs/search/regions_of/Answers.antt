use Rattle.hpr_graph.specs.Numbered.{graph_in}
use Rattle.hpr_rebuild.proofs.Regular.{refused}
use Rattle.hpr_rebuild.proofs.Refused.{never_arranged}
use Rattle.hpr_rebuild.proofs.search.regions_of.Goals as goal

pub returns-else-is_memory-clause-no_program : goal.returns-else-is_memory-clause-no_program
returns-else-is_memory-clause-no_program c =
    refused (graph_in c.args.graph.now) c.in-Err.error c.in-Err.ensures.refused (c.is_memory.ensures c.if-is_memory.false)

pub returns-else-is_memory-clause-no_arrangement : goal.returns-else-is_memory-clause-no_arrangement
returns-else-is_memory-clause-no_arrangement c =
    never_arranged (graph_in c.args.graph.now) c.in-Err.error c.in-Err.ensures.refused (c.is_memory.ensures c.if-is_memory.false)
