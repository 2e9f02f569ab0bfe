use Rattle.std.proofs.lemmas.Result.{on_ok_weaker}
use Rattle.hpr_reach.proofs.Grown.{pushed_if, kept_if}
use Rattle.hpr_reach.proofs.live.push_if.Goals as goal

pub returns-then-test : goal.returns-then-test
returns-then-test c = on_ok_weaker c.push_copy.result (λ is x. rw is (pushed_if c.args.into.now.items c.args.name.now x c.args.test c.if-test.true)) c.push_copy.ensures

pub returns-else-test : goal.returns-else-test
returns-else-test c = λ x. kept_if c.args.into.now.items c.args.name.now x c.args.test c.if-test.false
