use Rattle.std.proofs.Common.{subst}
use Rattle.hpr_graph.specs.Numbered.{graph_in}
use Rattle.hpr_graph.specs.Answer.{Fits}
use Rattle.hpr_rebuild.proofs.Searched.{for_ok}
use Rattle.hpr_rebuild.proofs.candidates.Candidates.has_graph.Goals as goal

pub returns : goal.returns
returns c =
    let g = graph_in c.args.self.now.graph.now in
    let m = c.in_ok-program.program in
    let made = c.in_ok-program.ensures in
    for_ok c.fits.result c.fits.ensures
    (λ yes_ decides. (
      λ t. (m, made.arrangement, made.parts, decides.0 t),
      λ (p, arrangement, parts, fit). decides.1 (subst (Fits g) (made.only p arrangement parts) fit),
    ))
