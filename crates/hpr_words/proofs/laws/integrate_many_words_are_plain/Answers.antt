use Rattle.hpr_words.proofs.IntegratePlaceLemmas.{integrate_many-alone, integrate_many-first, integrate_many-last, integrate_many-second}
use Rattle.hpr_words.proofs.laws.integrate_many_words_are_plain.Goals as goal

pub returns-clause-alone : goal.returns-clause-alone
returns-clause-alone c base variants p q some few = integrate_many-alone base variants p q some few

pub returns-clause-first : goal.returns-clause-first
returns-clause-first c base n variants tries p q some few = integrate_many-first base variants p q some few n tries

pub returns-clause-second : goal.returns-clause-second
returns-clause-second c base n variants tries p q some few = integrate_many-second base variants p q some few n tries

pub returns-clause-last : goal.returns-clause-last
returns-clause-last c base n variants tries p q some few = integrate_many-last base variants p q some few n tries
