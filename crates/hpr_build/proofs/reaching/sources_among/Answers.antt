use Rattle.std.proofs.Common.{◌↔◌, List, Contains, subst, arith}
use Rattle.std.proofs.lemmas.List.{take_all, get_or_default}
use Rattle.hpr_search.specs.Marks.{IsMarked}
use Rattle.hpr_graph.specs.declared.link.Link.{Link}
use Rattle.hpr_build.specs.Reaching.{HasFlowFrom}
use Rattle.hpr_build.proofs.Sources.{from_none, from_more}
use Rattle.hpr_build.proofs.reaching.sources_among.Goals as goal

pub loop-link-init : goal.loop-link-init
loop-link-init c = from_none c.args.definers.now c.in_ok-sources.sources.items c.in_ok-sources.ensures.items

pub loop-link-preserved : goal.loop-link-preserved
loop-link-preserved c =
    from_more c.args.definers.now c.args.links.now c.loop-link.link-index _ c.loop-link-test.true
    (get_or_default c.args.links.now c.loop-link.link-index _ _ c.loop-link-test.true)
    c.loop-link.sources.items c.push_if.new.into.items c.is_from.result c.is_from.ensures c.loop-link.invariant c.in_ok-push_if.ensures.exact

pub returns-clause-exact : goal.returns-clause-exact
returns-clause-exact c = λ p.
    let whole = subst (λ (ls : List Link). Contains c.loop-link.sources.items p ↔ (IsMarked c.args.definers.now p × HasFlowFrom ls p))
    (take_all c.loop-link.link-index c.args.links.now (omega (arith, c.loop-link-test.false))) (c.loop-link.invariant p) in
    let same = c.ascending.ensures.same p in
    ((λ h. whole.0 (same.0 h)), (λ h. same.1 (whole.1 h)))
