use Rattle.hpr_run.proofs.States.{insert-entries_of}
use Rattle.hpr_run.proofs.state.State.put.Goals as goal

pub returns-clause-ok : goal.returns-clause-ok
returns-clause-ok c =
    rw (← c.self.view_is) (insert-entries_of c.self.inside.values.entries c.insert.new.self.entries c.args.name c.args.value c.in_ok-insert.ensures.updates.0)
