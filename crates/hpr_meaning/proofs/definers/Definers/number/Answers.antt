use Rattle.hpr_run.proofs.States.{get-entries_of}
use Rattle.hpr_meaning.proofs.definers.Definers.number.Goals as goal

pub returns : goal.returns
returns c =
    let k = get-entries_of c.args.name.now c.self.inside.numbers.entries in
    rw (← c.self.view_is, k) cc
