use Rattle.std.proofs.Common.{List, sym, subst}
use Rattle.std.proofs.lemmas.Option.{slice_get_within}
use Rattle.hpr_graph.specs.declared.vertex.Vertex.{Vertex}
use Rattle.hpr_graph.specs.Moves.{ArePlaced}
use Rattle.hpr_graph.proofs.Lists.{member_at}
use Rattle.hpr_graph.proofs.Moving.{row_begun, row_known, row_more, row_whole, elsewhere_itself, elsewhere_then}
use Rattle.hpr_graph.proofs.sets.add_row.Goals as goal

pub add_moved-requires-clause-known : goal.add_moved-requires-clause-known
add_moved-requires-clause-known c =
    row_known c.args.source.now c.args.target.now c.args.numbers.now c.requires.placed c.args.at c.args.to c.requires.number
    c.edges_into-link-items.result.now c.args.known.now c.loop-link.link-index _ c.loop-link.target c.loop-link-test.true c.loop-link.invariant.moved
    c.edges_into-link-items.ensures.numbered c.vertices-vertices.ensures.numbered c.edges_into-link-items.ensures.row c.edges_into-link-items.ensures.links c.requires.known

pub loop-link-preserved : goal.loop-link-preserved
loop-link-preserved c = record {
  moved =
      row_more c.args.source.now c.args.target.now c.args.numbers.now c.requires.placed c.args.at c.args.to c.requires.number
      c.edges_into-link-items.result.now c.loop-link.link-index _ c.loop-link-test.true c.loop-link.target c.loop-link.invariant.moved c.add_moved.new.target
      c.in_ok-add_moved.ensures.vertices c.in_ok-add_moved.ensures.edges;
  elsewhere = elsewhere_then c.args.target.now c.loop-link.target c.add_moved.new.target c.args.to c.loop-link.invariant.elsewhere c.in_ok-add_moved.ensures.elsewhere;
}

pub returns-clause-edges : goal.returns-clause-edges
returns-clause-edges c =
    row_whole c.args.source.now c.args.target.now c.args.numbers.now c.requires.placed c.args.at c.args.to c.requires.number
    c.edges_into-link-items.result.now c.loop-link.link-index c.loop-link.target c.loop-link-test.false c.loop-link.invariant.moved c.edges_into-link-items.ensures.row

pub loop-link-init : goal.loop-link-init
loop-link-init c = record {
  moved = row_begun c.args.source.now c.args.target.now c.args.numbers.now c.requires.placed c.args.at c.args.to c.requires.number;
  elsewhere = elsewhere_itself c.args.target.now c.args.to;
}

pub add_moved-requires-clause-placed : goal.add_moved-requires-clause-placed
add_moved-requires-clause-placed c = subst (λ (us : List Vertex). ArePlaced c.args.source.now.vertices c.args.numbers.now us) (sym c.loop-link.invariant.moved.vertices) c.requires.placed

pub add_moved-requires-clause-link : goal.add_moved-requires-clause-link
add_moved-requires-clause-link c = c.edges_into-link-items.ensures.links _ (member_at c.edges_into-link-items.result.now c.loop-link.link-index _ c.loop-link-test.true)

pub returns-clause-elsewhere : goal.returns-clause-elsewhere
returns-clause-elsewhere c = c.loop-link.invariant.elsewhere

pub edges_into-link-items-requires : goal.edges_into-link-items-requires
edges_into-link-items-requires c = let (v, there, _) = c.requires.placed c.args.at c.args.to c.requires.number in slice_get_within _ _ v there
