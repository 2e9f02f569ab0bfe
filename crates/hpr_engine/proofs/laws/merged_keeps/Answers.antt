use Rattle.hpr_meaning.proofs.Own.{all_kept, kept_without_conflict}
use Rattle.hpr_rename.proofs.Own.{split_kept}
use Rattle.hpr_engine.proofs.PrintedKeeps.{split_kept_two}
use Rattle.hpr_engine.proofs.laws.merged_keeps.Goals as goal

pub returns-clause-all : goal.returns-clause-all
returns-clause-all c = all_kept

pub returns-clause-two : goal.returns-clause-two
returns-clause-two c = kept_without_conflict

pub returns-clause-split : goal.returns-clause-split
returns-clause-split c = split_kept

pub returns-clause-split_two : goal.returns-clause-split_two
returns-clause-split_two c = split_kept_two
