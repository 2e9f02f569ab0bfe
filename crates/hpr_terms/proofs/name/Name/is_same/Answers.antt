use Rattle.hpr_terms.proofs.Equal.{name_equal}
use Rattle.hpr_terms.proofs.name.Name.is_same.Goals as goal

pub returns : goal.returns
returns c = name_equal c.args.self.now c.args.other.now c.eq.result c.eq.ensures
