use Rattle.hpr_order.proofs.levels.+level_in.Given as goal

abbrev pub decreases-level_in : goal.decreases-level_in
decreases-level_in l = l.most
