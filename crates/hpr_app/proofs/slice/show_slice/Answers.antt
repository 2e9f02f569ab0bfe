use Rattle.std.proofs.Common.{map}
use Rattle.hpr_app.proofs.SliceLemmas.{sliced}
use Rattle.hpr_app.proofs.slice.show_slice.Goals as goal

pub returns : goal.returns
returns c =
    let points = map (λ w. w.now) c.args.points.now in
    sliced c.args.program.now c.in_ok-graph.graph points c.args.as_program c.args.file.now c.in_ok-graph.ensures.0 c.in_ok-graph.ensures.1 c.show_points.result c.show_points.ensures
