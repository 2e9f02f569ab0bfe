use Rattle.hpr_words.proofs.TrialPlaceLemmas.{trial-alone, trial-first, trial-fourth, trial-last, trial-second, trial-third}
use Rattle.hpr_words.proofs.laws.trial_words_are_plain.Goals as goal

pub returns-clause-alone : goal.returns-clause-alone
returns-clause-alone c base a b states p q r s = trial-alone base a b states p q r s

pub returns-clause-first : goal.returns-clause-first
returns-clause-first c base a b n states steps p q r s = trial-first base a b states p q r s n steps

pub returns-clause-second : goal.returns-clause-second
returns-clause-second c base a b n states steps p q r s = trial-second base a b states p q r s n steps

pub returns-clause-third : goal.returns-clause-third
returns-clause-third c base a b n states steps p q r s = trial-third base a b states p q r s n steps

pub returns-clause-fourth : goal.returns-clause-fourth
returns-clause-fourth c base a b n states steps p q r s = trial-fourth base a b states p q r s n steps

pub returns-clause-last : goal.returns-clause-last
returns-clause-last c base a b n states steps p q r s = trial-last base a b states p q r s n steps
