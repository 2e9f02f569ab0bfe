use Rattle.std.proofs.Common.{false, IsTrue, List, get_or, subst}
use Rattle.std.proofs.lemmas.List.{drop_more}
use Rattle.hpr_graph.specs.declared.link.LinkKind.TheVariants.{Control}
use Rattle.hpr_graph.specs.declared.link.Link.{Link}
use Rattle.hpr_slice.specs.Neighbours.{HasSource}
use Rattle.hpr_impact.proofs.Rows.{source_later}
use Rattle.hpr_impact.proofs.edges.link_from.Goals as goal

no_link : Link
no_link = record { from = 0; kind = Control false }

pub loop-link-preserved : goal.loop-link-preserved
unfolding no_link
loop-link-preserved c =
    let links = c.args.links.now in
    let i = c.loop-link.link-index in
    source_later (get_or links i no_link) _ c.args.from (λ p. let found : IsTrue c.is_from.result = c.is_from.ensures.1 p in cc)
    (subst (λ (ls : List Link). HasSource ls c.args.from) (drop_more links i no_link c.loop-link-test.true) c.loop-link.invariant)
