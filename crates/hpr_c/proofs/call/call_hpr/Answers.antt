use Rattle.hpr_c.specs.Call.{change}
use Rattle.hpr_c.proofs.EndsLemmas.{ends_as_hpr}
use Rattle.hpr_c.proofs.call.call_hpr.Goals as goal

pub returns : goal.returns
returns g c =
    let before = g.S.Shelf.faults c.args.shelf.now in
    let now = g.S.Shelf.faults c.hpr.new.shelf in
    let out = change c.args.out.now.faults c.hpr.new.out.faults c.args.out.now.taken.items c.hpr.new.out.taken.items in
    let err = change c.args.err.now.faults c.hpr.new.err.faults c.args.err.now.taken.items c.hpr.new.err.taken.items in
    ends_as_hpr _ _ c.args.words.now (g.S.Shelf.files c.args.shelf.now) c.hpr.result before now out err c.hpr.ensures
