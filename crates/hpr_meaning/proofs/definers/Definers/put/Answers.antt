use Rattle.hpr_run.proofs.States.{insert-entries_of}
use Rattle.hpr_meaning.proofs.definers.Definers.put.Goals as goal

pub returns : goal.returns
returns c =
    rw (← c.self.view_is) (insert-entries_of c.self.inside.numbers.entries c.insert.new.self.entries c.args.name c.args.number c.in_ok-insert.ensures.updates.0)
