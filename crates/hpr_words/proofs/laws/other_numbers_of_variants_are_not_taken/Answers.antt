use Rattle.hpr_words.proofs.OtherVariants.{more_not_taken, none_not_taken, one_not_taken}
use Rattle.hpr_words.proofs.laws.other_numbers_of_variants_are_not_taken.Goals as goal

pub returns-clause-more : goal.returns-clause-more
returns-clause-more c = more_not_taken

pub returns-clause-one : goal.returns-clause-one
returns-clause-one c = one_not_taken

pub returns-clause-none : goal.returns-clause-none
returns-clause-none c = none_not_taken
