use Rattle.hpr_run.proofs.States.{get-entries_of}
use Rattle.hpr_run.proofs.state.State.listed.Goals as goal

pub returns : goal.returns
returns c =
    let k = get-entries_of c.args.name.now c.self.inside.values.entries in
    rw (← c.self.view_is, k) cc
