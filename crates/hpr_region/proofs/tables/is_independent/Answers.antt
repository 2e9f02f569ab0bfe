use Rattle.std.proofs.Common.{refl}
use Rattle.hpr_region.proofs.tables.is_independent.Goals as goal

pub returns-in-Independent : goal.returns-in-Independent
returns-in-Independent c = (λ _. c.in-Independent.is, λ _. refl)
