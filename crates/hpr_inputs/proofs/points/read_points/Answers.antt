use Rattle.std.proofs.Common.{ap, map}
use Rattle.std.proofs.lemmas.Result.{err_from_is_err_and}
use Rattle.hpr_inputs.specs.Points.{point_text}
use Rattle.hpr_inputs.proofs.PointLemmas.{named_all, named_refused, numbers_for}
use Rattle.hpr_inputs.proofs.points.read_points.Goals as goal

pub returns-in_err-refuse_strangers : goal.returns-in_err-refuse_strangers
returns-in_err-refuse_strangers c =
    let p = err_from_is_err_and c.from_residual.result c.from_residual.ensures.1 in
    rw (p.1, p.2) (named_refused c.args.graph.now _ (map (λ w. w.now) c.args.words.now) (ap (map point_text) c.vertices.ensures.vertices) _ c.in_err-refuse_strangers.ensures)

pub returns : goal.returns
returns c =
    let words = map (λ w. w.now) c.args.words.now in (
      named_all c.args.graph.now _ words (ap (map point_text) c.vertices.ensures.vertices) c.in_ok-refuse_strangers.ensures,
      numbers_for c.args.graph.now _ words (ap (map point_text) c.vertices-2.ensures.vertices) _ c.in_ok-numbers_among.ensures,
    )
