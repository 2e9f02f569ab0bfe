use Rattle.hpr_build.proofs.LinkTurns.{added_link}
use Rattle.hpr_build.proofs.pushes.push_link.Goals as goal

pub returns-clause-added : goal.returns-clause-added
returns-clause-added c =
    added_link c.args.graph.now c.push_new_link.new.self c.args.new.to c.args.new.link c.in_ok-push_new_link.ensures.there c.in_ok-push_new_link.ensures.kept c.in_ok-push_new_link.ensures.only
