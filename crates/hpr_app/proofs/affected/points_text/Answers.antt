use Rattle.std.proofs.Common.{subst, sym}
use Rattle.std.proofs.lemmas.Result.{IfOk-weaker}
use Rattle.hpr_affected.specs.Numbers.{AreNumbersOf}
use Rattle.hpr_graph.specs.Numbered.{graph_in}
use Rattle.hpr_graph.specs.Points.{IsAffected}
use Rattle.hpr_app.proofs.AffectedLemmas.{numbers_text}
use Rattle.hpr_app.proofs.affected.points_text.Goals as goal

pub returns : goal.returns
returns c =
    let g = c.args.base.now in
    let h = c.args.a.now in
    let exact = subst (λ ns. AreNumbersOf h (IsAffected (graph_in h) (graph_in g)) ns) (sym c.deref.ensures.value) c.in_ok-points.ensures in
    IfOk-weaker c.affected_text.result _ _ (λ text k. numbers_text g h c.deref.result.now exact text.items k) c.affected_text.ensures
