use Rattle.std.proofs.Common.{false, get_or, arith}
use Rattle.std.proofs.lemmas.List.Elements.{Contains-get_or}
use Rattle.hpr_graph.specs.declared.link.LinkKind.TheVariants.{Control}
use Rattle.hpr_graph.specs.declared.link.Link.{Link}
use Rattle.hpr_slice.proofs.TargetRows.{pushed_next, pushed_whole}
use Rattle.hpr_slice.proofs.targets.push_target.Goals as goal

no_link : Link
no_link = record { from = 0; kind = Control false }

pub push_by-requires-clause-from : goal.push_by-requires-clause-from
unfolding no_link
push_by-requires-clause-from c =
    omega (arith, c.requires.links (get_or c.args.links.now c.loop-link.link-index no_link) (Contains-get_or c.args.links.now c.loop-link.link-index no_link c.loop-link-test.true), c.loop-link.invariant.count)

pub loop-link-preserved : goal.loop-link-preserved
unfolding no_link
loop-link-preserved c = record {
  count = omega (arith, c.in_ok-push_by.ensures.count, c.loop-link.invariant.count);
  rows = pushed_next no_link _ _ _ c.args.links.now c.loop-link.link-index c.args.number c.loop-link-test.true c.loop-link.invariant.rows c.in_ok-push_by.ensures.rows;
}

pub returns-clause-rows : goal.returns-clause-rows
returns-clause-rows c = pushed_whole _ _ c.args.links.now c.loop-link.link-index c.args.number c.loop-link-test.false c.loop-link.invariant.rows
