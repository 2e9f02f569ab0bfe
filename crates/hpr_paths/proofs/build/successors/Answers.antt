use Rattle.hpr_paths.proofs.Sound.{are_spots}
use Rattle.hpr_paths.proofs.build.successors.Goals as goal

pub new-requires : goal.new-requires
new-requires c = rw c.in_ok-all_spots.ensures (are_spots c.args.program.now)
