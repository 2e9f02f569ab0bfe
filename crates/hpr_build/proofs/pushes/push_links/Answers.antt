use Rattle.std.proofs.Common.{◌≡◌, Err, List, Contains, get_or, sym, ap, ◌∙◌, subst, arith}
use Rattle.std.proofs.lemmas.List.{get_or_default}
use Rattle.std.proofs.lemmas.Result.{err_from_is_err_and}
use Rattle.hpr_graph.specs.declared.edge.Edge.{Edge}
use Rattle.hpr_graph.specs.declared.vertex.Vertex.{Vertex}
use Rattle.hpr_graph.specs.Numbered.{HasLink, IsEdgeAt}
use Rattle.hpr_build.specs.declared.error.BuildError.{BuildError}
use Rattle.hpr_build.specs.declared.error.BuildError.TheVariants.{TooManyEdges}
use Rattle.hpr_build.specs.declared.pushes.NewLink.{NewLink}
use Rattle.hpr_build.proofs.Bridge.{link_stands}
use Rattle.hpr_build.proofs.LinkTurns.{into, no_link, turn_link, among_links, fresh_link, all_links, same_error, begun_more, more_links}
use Rattle.hpr_build.proofs.pushes.push_links.Goals as goal

pub push_link-requires-clause-link : goal.push_link-requires-clause-link
push_link-requires-clause-link c =
    let t = c.args.tables.now in
    let xs = c.args.links.now in
    let k = c.loop-new.new-index in
    let n : NewLink = get_or xs k no_link in
    let is : n ≡ get_or xs k n = get_or_default xs k no_link n c.loop-new-test.true in
    subst (λ (vs : List Vertex). (e : Edge) × IsEdgeAt vs n.to n.link e) (sym (c.loop-new.invariant.vertices ∙ c.requires.begun.vertices))
    (link_stands t.program.now t.inits.items c.requires.tables.program c.requires.tables.inits n.to n.link (c.requires.links n (k, c.loop-new-test.true, sym is)))

pub push_link-requires-clause-fresh : goal.push_link-requires-clause-fresh
push_link-requires-clause-fresh c =
    let xs = c.args.links.now in
    let k = c.loop-new.new-index in
    let n : NewLink = get_or xs k no_link in
    let is : n ≡ get_or xs k n = get_or_default xs k no_link n c.loop-new-test.true in
    fresh_link xs k n c.loop-new-test.true is (HasLink c.loop-new.graph n.to n.link) (HasLink c.args.graph.now n.to n.link) c.requires.once
    (c.requires.fresh n (k, c.loop-new-test.true, sym is)) (c.loop-new.invariant.added n.to n.link)

pub returns-in_err-push_link-clause-too_many : goal.returns-in_err-push_link-clause-too_many
returns-in_err-push_link-clause-too_many c = λ e.
    let t = c.args.tables.now in
    let xs = c.args.links.now in
    let k = c.loop-new.new-index in
    let n : NewLink = get_or xs k no_link in
    let is : n ≡ get_or xs k n = get_or_default xs k no_link n c.loop-new-test.true in
    let p = err_from_is_err_and c.from_residual.result c.from_residual.ensures.1 in
    let w = ap (λ (z : BuildError). Err z) (same_error c.from_residual.result p.0 _ TooManyEdges p.1 p.2 e) in
    more_links t.program.now t.inits.items t.most c.args.graph.now c.push_link.new.graph (λ to l. Contains xs (into to l)) c.requires.begun
    (c.in_err-push_link.ensures.vertices ∙ c.loop-new.invariant.vertices)
    (λ to l. among_links xs k n c.loop-new-test.true is to l (HasLink c.loop-new.graph to l) (HasLink c.push_link.new.graph to l) (HasLink c.args.graph.now to l)
    (c.in_err-push_link.ensures.only w to l) (c.loop-new.invariant.added to l))
    (λ to l. c.requires.links (into to l)) (c.in_err-push_link.ensures.numbered w) (c.in_err-push_link.ensures.full w)

pub loop-new-preserved : goal.loop-new-preserved
loop-new-preserved c =
    let xs = c.args.links.now in
    let k = c.loop-new.new-index in
    let n : NewLink = get_or xs k no_link in
    let is : n ≡ get_or xs k n = get_or_default xs k no_link n c.loop-new-test.true in
    record {
      vertices = c.in_ok-push_link.ensures.vertices ∙ c.loop-new.invariant.vertices;
      added = λ to l. turn_link xs k n c.loop-new-test.true is to l (HasLink c.loop-new.graph to l) (HasLink c.push_link.new.graph to l) (HasLink c.args.graph.now to l)
          (c.in_ok-push_link.ensures.added to l) (c.loop-new.invariant.added to l);
      room = c.in_ok-push_link.ensures.room;
    }

pub returns-clause-added : goal.returns-clause-added
returns-clause-added c = λ to l.
    all_links c.args.links.now c.loop-new.new-index to l (HasLink c.loop-new.graph to l) (HasLink c.args.graph.now to l) (omega (arith, c.loop-new-test.false)) (c.loop-new.invariant.added to l)

pub returns-clause-begun : goal.returns-clause-begun
returns-clause-begun c =
    let t = c.args.tables.now in
    begun_more t.program.now t.inits.items t.most c.args.graph.now c.loop-new.graph (λ to l. Contains c.args.links.now (into to l)) c.requires.begun c.loop-new.invariant.vertices
    (λ to l. (all_links c.args.links.now c.loop-new.new-index to l (HasLink c.loop-new.graph to l) (HasLink c.args.graph.now to l) (omega (arith, c.loop-new-test.false)) (c.loop-new.invariant.added to l)).0)
    (λ to l. c.requires.links (into to l)) c.loop-new.invariant.room
