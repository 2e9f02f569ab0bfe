use Rattle.hpr_any.proofs.ByReads.{by_reads_lawful}
use Rattle.hpr_any.specs.MeaningOf.{by_reads}
use Rattle.hpr_rename.proofs.Courses.{renamed_run, renamed_instances}
use Rattle.hpr_any.proofs.laws.renaming.Goals as goal

pub returns-clause-run : goal.returns-clause-run
returns-clause-run g c = λ m f issued t s n. renamed_run (by_reads m) (by_reads_lawful m) f issued t s n

pub returns-clause-instances : goal.returns-clause-instances
returns-clause-instances g c = λ m f issued t s n. renamed_instances (by_reads m) (by_reads_lawful m) f issued t s n
