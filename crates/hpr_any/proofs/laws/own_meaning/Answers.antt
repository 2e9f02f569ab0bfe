use Rattle.hpr_meaning.specs.Any.Standard.{standard}
use Rattle.hpr_meaning.proofs.Standard.{standard_laws, run_is, keeps_standard}
use Rattle.hpr_rename.proofs.SplitKeeps.{split_kept}
use Rattle.hpr_any.proofs.laws.own_meaning.Goals as goal

pub returns-clause-laws : goal.returns-clause-laws
returns-clause-laws c = standard_laws

pub returns-clause-runs : goal.returns-clause-runs
returns-clause-runs c = λ p s n. run_is p s n

pub returns-clause-keeps : goal.returns-clause-keeps
returns-clause-keeps c = λ base p vs keeps. keeps_standard base p vs keeps

pub returns-clause-theorem : goal.returns-clause-theorem
returns-clause-theorem c = λ base p vs rs is all is_p free split fits. split_kept standard standard_laws base p vs rs is all is_p free split fits
