use Rattle.std.proofs.Common.{Err, ap}
use Rattle.hpr_graph.specs.Numbered.{graph_in}
use Rattle.hpr_rebuild.proofs.Fitting.{fits_by_same, same_by_fits, misfit_by_count}
use Rattle.hpr_rebuild.proofs.candidates.fits.Goals as goal

pub returns-in-Ok : goal.returns-in-Ok
returns-in-Ok c =
    let g = graph_in c.args.graph.now in
    let own = graph_in c.in-Ok.own in (
      λ t. fits_by_same g own c.args.program.now c.in-Ok.ensures.graph (c.same.ensures.0 t),
      λ f. c.same.ensures.1 (same_by_fits g own c.args.program.now c.in-Ok.ensures.graph f),
    )

pub returns-in-Err-TooManyEdges : goal.returns-in-Err-TooManyEdges
returns-in-Err-TooManyEdges c =
    let more = c.in-Err-TooManyEdges.ensures.too_many (ap Err c.in-Err-TooManyEdges.field-0-is) in
    (λ t. absurd cc, λ f. absurd (misfit_by_count (graph_in c.args.graph.now) c.args.program.now c.edge_count.result c.edge_count.ensures.edges more f))
