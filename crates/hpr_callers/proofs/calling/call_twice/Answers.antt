use Rattle.std.proofs.Common.{◌∙◌, IsTrue, subst, sym}
use Rattle.hpr_callers.proofs.calling.call_twice.Goals as goal

pub hpr-second_status-requires : goal.hpr-second_status-requires
hpr-second_status-requires g c = λ i name low. subst IsTrue (sym (c.hpr-first_status.ensures.same_names _)) (c.requires.second i name low)

pub returns-clause-second : goal.returns-clause-second
returns-clause-second g c = λ asked files is told. c.hpr-second_status.ensures.keeps asked files is (c.hpr-first_status.ensures.same_files ∙ told)
