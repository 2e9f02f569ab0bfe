use Rattle.hpr_terms.specs.TermOf.{term_of}
use Rattle.hpr_syntax.proofs.ValueByUses.{value_by_uses}
use Rattle.hpr_run.proofs.laws.value_by_uses.Goals as goal

pub returns : goal.returns
returns c = λ e s t same. value_by_uses (term_of e) s t same
