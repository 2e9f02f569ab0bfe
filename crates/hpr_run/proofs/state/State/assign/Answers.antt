use Rattle.std.proofs.Common.{rules, FitsSigned, w64}
use Rattle.std.proofs.lemmas.Int.{to_z-of_z}
use Rattle.hpr_syntax.specs.declared.value.Value.TheVariants.{Number}
use Rattle.hpr_run.proofs.States.{insert-entries_of}
use Rattle.hpr_run.proofs.state.State.assign.Goals as goal

pub returns-in-Some-clause-ok : goal.returns-in-Some-clause-ok
returns-in-Some-clause-ok c =
    let fits : FitsSigned w64 c.args.number = search rules in
    let updates = (c.get_mut.follows.holds (Number c.args.number)).3 (search rules) in
    rw (to_z-of_z, ← c.self.view_is)
    (insert-entries_of c.self.inside.values.entries (c.get_mut.follows.lender (Number c.args.number)).entries c.args.name.now (Number c.args.number) updates.0)
