use Rattle.hpr_conflicts.proofs.Placed.{placed}
use Rattle.hpr_conflicts.proofs.groups.place_of.Goals as goal

pub returns : goal.returns
returns c =
    let (found, stored, same) = c.in_ok-place.ensures.stored in
    placed c.args.keys.now.keys c.args.key c.insert_full.new.self.keys c.in_ok-place.place c.in_ok-place.ensures.keys c.in_ok-place.ensures.index found stored same
