use Rattle.hpr_words.proofs.PlaceLemmas.{slice-alone, slice-first, slice-last, slice-second}
use Rattle.hpr_words.proofs.laws.slice_words_are_plain.Goals as goal

pub returns-clause-alone : goal.returns-clause-alone
returns-clause-alone c file point points p q = slice-alone file point points p q

pub returns-clause-first : goal.returns-clause-first
returns-clause-first c file point points p q = slice-first file point points p q

pub returns-clause-second : goal.returns-clause-second
returns-clause-second c file point points p q = slice-second file point points p q

pub returns-clause-last : goal.returns-clause-last
returns-clause-last c file point points p q = slice-last file point points p q
