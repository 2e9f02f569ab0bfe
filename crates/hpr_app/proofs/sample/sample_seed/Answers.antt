use Rattle.hpr_app.proofs.SampleLemmas.{of_set}
use Rattle.hpr_app.proofs.sample.sample_seed.Goals as goal

pub returns : goal.returns
returns c =
    of_set c.args.seed c.args.parts c.requires c.in_ok-set.set.base c.in_ok-set.set.a c.in_ok-set.set.b
    c.in_ok-set.ensures.base c.in_ok-set.ensures.a c.in_ok-set.ensures.b c.integrate_set.result c.integrate_set.ensures
