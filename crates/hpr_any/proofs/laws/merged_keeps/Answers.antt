use Rattle.hpr_any.proofs.ByReads.{by_reads_lawful}
use Rattle.hpr_any.specs.MeaningOf.{by_reads}
use Rattle.hpr_meaning.proofs.WithoutConflict.{all_kept}
use Rattle.hpr_meaning.proofs.KeptMeaning.{meaning_kept, keeps_two}
use Rattle.hpr_rename.proofs.SplitKeeps.{split_kept}
use Rattle.hpr_any.proofs.laws.merged_keeps.Goals as goal

pub returns-clause-all : goal.returns-clause-all
returns-clause-all g c = λ m base p vs is all is_m free fits. all_kept (by_reads m) (by_reads_lawful m) base p vs is all is_m free fits

pub returns-clause-split : goal.returns-clause-split
returns-clause-split g c = λ m base p vs rs is all is_m free split fits. split_kept (by_reads m) (by_reads_lawful m) base p vs rs is all is_m free split fits

pub returns-clause-kept : goal.returns-clause-kept
returns-clause-kept g c = λ m base p vs is all is_p fits keeps. meaning_kept (by_reads m) (by_reads_lawful m) base p vs is all is_p fits keeps

pub returns-clause-as_two : goal.returns-clause-as_two
returns-clause-as_two g c = λ m base a b p keeps. keeps_two (by_reads m) (by_reads_lawful m) base a b p keeps
