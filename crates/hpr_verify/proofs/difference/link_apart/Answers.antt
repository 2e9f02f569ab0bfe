use Rattle.std.proofs.Common.{List, ap, length, arith, subst}
use Rattle.hpr_graph.specs.declared.link.Link.{Link}
use Rattle.hpr_graph.specs.InOrder.{Ascends}
use Rattle.hpr_graph.specs.Numbered.{row_items}
use Rattle.hpr_graph.proofs.LinkOrder.{link_cmp}
use Rattle.hpr_verify.proofs.EdgesApart.{agree_more, first_link, none_whole}
use Rattle.hpr_verify.proofs.difference.link_apart.Goals as goal

pub row_apart-requires-clause-offered : goal.row_apart-requires-clause-offered
row_apart-requires-clause-offered c =
    subst (λ (links : List Link). Ascends link_cmp links) (ap row_items c.edges_into.ensures.row) (c.vertices-to-end.ensures.rows c.loop-to.to)

pub row_apart-requires-clause-merged : goal.row_apart-requires-clause-merged
row_apart-requires-clause-merged c =
    subst (λ (links : List Link). Ascends link_cmp links) (ap row_items c.edges_into-in-loop-to.ensures.row) (c.vertices-merged.ensures.rows c.loop-to.to)

pub returns-in-Some : goal.returns-in-Some
returns-in-Some c =
    first_link c.args.offered.now c.args.merged.now c.vertices-to-end.ensures.numbered c.vertices-merged.ensures.numbered c.requires c.loop-to.to
    c.edges_into.result.now c.edges_into-in-loop-to.result.now c.in-Some.link c.in-Some.holder (ap row_items c.edges_into.ensures.row) (ap row_items c.edges_into-in-loop-to.ensures.row)
    c.in-Some.ensures c.loop-to.invariant

pub loop-to-preserved : goal.loop-to-preserved
loop-to-preserved c =
    agree_more c.args.offered.now c.args.merged.now c.vertices-to-end.ensures.numbered c.vertices-merged.ensures.numbered c.requires c.loop-to.to
    c.edges_into.result.now c.edges_into-in-loop-to.result.now (ap row_items c.edges_into.ensures.row) (ap row_items c.edges_into-in-loop-to.ensures.row)
    c.in_default.ensures c.loop-to.invariant

pub returns : goal.returns
returns c =
    none_whole c.args.offered.now c.args.merged.now c.vertices-to-end.ensures.numbered c.vertices-merged.ensures.numbered c.requires c.loop-to.to
    (let same = ap length c.vertices-to-end.ensures.vertices in omega (arith, same, c.loop-to-test.false)) c.loop-to.invariant
