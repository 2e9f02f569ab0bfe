use Rattle.std.proofs.Common.{rules}
use Rattle.hpr_run.proofs.States.{insert-entries_of}
use Rattle.hpr_meaning.proofs.definers.Definers.set.Goals as goal

pub returns-in-Some : goal.returns-in-Some
returns-in-Some c =
    let updates = (c.get_mut.follows.holds c.args.number).3 (search rules) in
    rw (← c.self.view_is) (insert-entries_of c.self.inside.numbers.entries (c.get_mut.follows.lender c.args.number).entries c.args.name.now c.args.number updates.0)
