use Rattle.hpr_kit.proofs.LoadLemmas.{judged}
use Rattle.hpr_kit.proofs.load.load.Goals as goal

pub returns-in-Ok-clause-loads : goal.returns-in-Ok-clause-loads
returns-in-Ok-clause-loads g c =
    judged (g.S.Shelf.files c.args.shelf.now) c.args.file.now c.in-Ok.bytes.items _ _ c.judge.result c.in-Ok.ensures.fetches.0 c.in-Ok.ensures.fetches.1
    c.judge.ensures
