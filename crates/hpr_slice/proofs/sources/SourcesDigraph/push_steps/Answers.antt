use Rattle.std.proofs.Common.{◌<◌, All, length, subst}
use Rattle.hpr_graph.specs.Numbered.{Numbered}
use Rattle.hpr_slice.specs.Neighbours.{sources_at}
use Rattle.hpr_slice.proofs.SourceRows.{sources_within}
use Rattle.hpr_slice.proofs.sources.SourcesDigraph.push_steps.Goals as goal

pub returns-clause-within : goal.returns-clause-within
returns-clause-within c =
    subst (λ (g : Numbered). All (λ n. n < length g.vertices) (sources_at g c.args.point)) c.self.view_is (sources_within c.self.inside.graph.now c.self.invariant c.args.point)
