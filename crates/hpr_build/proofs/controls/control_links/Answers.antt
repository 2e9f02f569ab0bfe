use Rattle.std.proofs.Common.{◌∙◌, ap, subst, arith}
use Rattle.hpr_build.specs.NewLinks.{link_under}
use Rattle.hpr_build.proofs.ControlFamily.{ExactTo, rows_more, rows_once}
use Rattle.hpr_build.proofs.controls.control_links.Goals as goal

pub loop-to-preserved : goal.loop-to-preserved
loop-to-preserved c =
    let is = c.link_under.ensures ∙ ap link_under c.parent_of.ensures in
    record {
      exact = rows_more c.args.places.now c.loop-to.to c.loop-to.auto.to c.link_under.result is c.loop-to.links.items c.push.new.self.items c.in_ok-push.ensures.items c.loop-to.invariant.exact;
      once = rows_once c.args.places.now c.loop-to.to c.loop-to.auto.to c.link_under.result is c.loop-to.links.items c.push.new.self.items c.in_ok-push.ensures.items c.loop-to.invariant.exact c.loop-to.invariant.once;
    }

pub returns-clause-exact : goal.returns-clause-exact
returns-clause-exact c = subst (λ to. ExactTo c.args.places.now to c.loop-to.links.items) (omega (arith, c.loop-to-test.false, c.loop-to.auto.to-end, c.requires)) c.loop-to.invariant.exact
