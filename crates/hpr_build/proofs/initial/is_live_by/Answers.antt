use Rattle.hpr_build.proofs.InitialNames.{live_by_row}
use Rattle.hpr_build.proofs.initial.is_live_by.Goals as goal

pub returns : goal.returns
returns c = live_by_row c.args.succ.now c.args.name.now c.in_ok-row.row c.args.users.now c.has_any.result c.in_ok-row.ensures.exact c.requires.users
    c.has_any.ensures
