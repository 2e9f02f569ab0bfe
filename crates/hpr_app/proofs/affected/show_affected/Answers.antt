use Rattle.std.proofs.lemmas.Result.{err_from_is_err_and}
use Rattle.hpr_graph.specs.Numbered.{graph_in}
use Rattle.hpr_graph.specs.ProgramGraph.{graph_of}
use Rattle.hpr_closure.proofs.ProgramWhole.{program_whole}
use Rattle.hpr_closure.proofs.WholeSlices.{whole_same}
use Rattle.hpr_app.proofs.AffectedLemmas.{a_graph_fails, affected_points, base_graph_fails}
use Rattle.hpr_app.proofs.affected.show_affected.Goals as goal

pub points_text-requires-clause-base : goal.points_text-requires-clause-base
points_text-requires-clause-base c =
    whole_same (graph_in c.in_ok-base_graph.base_graph) (graph_of c.args.base_program.now) c.in_ok-base_graph.ensures.0 (program_whole c.args.base_program.now c.body-base_body.ensures.program)

pub points_text-requires-clause-a : goal.points_text-requires-clause-a
points_text-requires-clause-a c =
    whole_same (graph_in c.in_ok-a_graph.a_graph) (graph_of c.args.a_program.now) c.in_ok-a_graph.ensures.0 (program_whole c.args.a_program.now c.body-a_body.ensures.program)

pub returns-in_err-base_graph : goal.returns-in_err-base_graph
returns-in_err-base_graph c =
    let p = err_from_is_err_and c.from_residual.result c.from_residual.ensures.1 in
    rw (p.1, p.2) (base_graph_fails c.args.base.now c.args.a.now c.args.base_program.now c.args.a_program.now _ c.in_err-base_graph.ensures)

pub returns-in_err-a_graph : goal.returns-in_err-a_graph
returns-in_err-a_graph c =
    let p = err_from_is_err_and c.from_residual-in_err-a_graph.result c.from_residual-in_err-a_graph.ensures.1 in
    rw (p.1, p.2) (a_graph_fails c.args.base.now c.args.a.now c.args.base_program.now c.args.a_program.now c.in_ok-base_graph.ensures.1 _ c.in_err-a_graph.ensures)

pub returns-in_err-text : goal.returns-in_err-text
returns-in_err-text c =
    let p = err_from_is_err_and c.from_residual-in_err-text.result c.from_residual-in_err-text.ensures.1 in
    rw (p.1, p.2) tt

pub returns : goal.returns
returns c =
    affected_points c.args.base_program.now c.args.a_program.now c.in_ok-base_graph.base_graph c.in_ok-a_graph.a_graph c.in_ok-base_graph.ensures.0 c.in_ok-a_graph.ensures.0
    c.args.base.now c.args.a.now c.in_ok-text.text.items c.in_ok-base_graph.ensures.1 c.in_ok-a_graph.ensures.1 c.in_ok-text.ensures
