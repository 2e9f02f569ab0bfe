use Rattle.std.proofs.lemmas.Result.{err_from_is_err_and}
use Rattle.hpr_graph.specs.Numbered.{graph_in}
use Rattle.hpr_graph.specs.ProgramGraph.{graph_of}
use Rattle.hpr_closure.proofs.ProgramWhole.{program_whole}
use Rattle.hpr_closure.proofs.WholeSlices.{whole_same}
use Rattle.hpr_kit.specs.Graphs.{AreReasonsTold}
use Rattle.hpr_kit.proofs.GraphLemmas.{second_too_many}
use Rattle.hpr_located.specs.Sources.{standing_of}
use Rattle.hpr_kit.proofs.affected.affected_reply.Goals as goal

pub returns-in_err-graph : goal.returns-in_err-graph
returns-in_err-graph c =
    let e = err_from_is_err_and c.from_residual-in_err-graph.result c.from_residual-in_err-graph.ensures.1 in
    let base = c.in_ok-base_graph.ensures in
    rw (e.1, e.2) (second_too_many c.args.base.now c.args.base_program.now c.in_ok-base_graph.base_graph base.0 base.1 c.args.variant.now c.args.program.now
    (λ h g a. AreReasonsTold g h (standing_of c.args.source) a) c.in_err-graph.field-0.0 c.in_err-graph.ensures)

pub reasons_told-requires-clause-graph : goal.reasons_told-requires-clause-graph
reasons_told-requires-clause-graph c =
    whole_same (graph_in c.in_ok-graph.graph) (graph_of c.args.program.now) c.in_ok-graph.ensures.0 (program_whole c.args.program.now c.body-body.ensures.program)

pub reasons_told-requires-clause-base : goal.reasons_told-requires-clause-base
reasons_told-requires-clause-base c =
    whole_same (graph_in c.in_ok-base_graph.base_graph) (graph_of c.args.base_program.now) c.in_ok-base_graph.ensures.0
    (program_whole c.args.base_program.now c.body-base_body.ensures.program)
