use Rattle.hpr_any.proofs.ByReads.{by_reads_lawful}
use Rattle.hpr_any.specs.MeaningOf.{by_reads}
use Rattle.hpr_meaning.proofs.WithoutConflict.{all_kept}
use Rattle.hpr_rename.proofs.SplitKeeps.{split_kept}
use Rattle.hpr_any.proofs.laws.merged_end.Goals as goal

pub returns-clause-all : goal.returns-clause-all
returns-clause-all g c = λ m base p vs is all is_p fits free s n0 f0 rs same e0 ended.
    let (f, finish, kept) = all_kept (by_reads m) (by_reads_lawful m) base p vs is all is_p free fits s n0 f0 rs same e0 ended in (f, finish)

pub returns-clause-split : goal.returns-clause-split
returns-clause-split g c = λ m base p vs parts is all is_p split_off fits free s n0 f0 rs same e0 ended.
    let (f, finish, kept) = split_kept (by_reads m) (by_reads_lawful m) base p vs parts is all is_p free split_off fits s n0 f0 rs same e0 ended in (f, finish)
