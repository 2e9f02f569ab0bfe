use Rattle.std.proofs.Common.{subst}
use Rattle.hpr_told.specs.Clashes.{IsClashWithin}
use Rattle.hpr_told.proofs.clash.with_clash.Goals as goal

pub clash_value-requires : goal.clash_value-requires
clash_value-requires c = subst (IsClashWithin c.args.graph.now) c.in-Some.is c.requires
