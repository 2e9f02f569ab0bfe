use Rattle.std.proofs.Common.{map, subst}
use Rattle.std.proofs.lemmas.Result.{err_from_is_err_and}
use Rattle.hpr_graph.specs.Numbered.{graph_in}
use Rattle.hpr_graph.specs.Slices.{slice_of}
use Rattle.hpr_slice.specs.Vertices.{IsOneOf}
use Rattle.hpr_decisions.specs.SliceFile.{IsSliceShown}
use Rattle.hpr_app.proofs.SliceLemmas.{point_refused, points_sliced}
use Rattle.hpr_app.proofs.slice.show_points.Goals as goal

pub returns-in_err-numbers : goal.returns-in_err-numbers
returns-in_err-numbers c =
    let p = err_from_is_err_and c.from_residual.result c.from_residual.ensures.1 in
    rw (p.1, p.2) (point_refused c.args.program.now c.args.graph.now (map (λ w. w.now) c.args.points.now) c.args.as_program _ c.in_err-numbers.ensures)

pub returns : goal.returns
returns c =
    let program = c.args.program.now in
    let graph = c.args.graph.now in
    let text =
    subst (λ ns. IsSliceShown c.args.as_program program (slice_of (graph_in graph) (IsOneOf graph ns)) c.in_ok-text.text.items) c.deref.ensures.value c.in_ok-text.ensures in
    points_sliced program graph (map (λ w. w.now) c.args.points.now) c.args.as_program c.in_ok-numbers.numbers.items c.in_ok-text.text.items c.in_ok-numbers.ensures.0 c.in_ok-numbers.ensures.1 text
