use Rattle.hpr_words.proofs.IntegratePlaceLemmas.{integrate-alone, integrate-first, integrate-last, integrate-second}
use Rattle.hpr_words.proofs.laws.integrate_words_are_plain.Goals as goal

pub returns-clause-alone : goal.returns-clause-alone
returns-clause-alone c base a b p q r = integrate-alone base a b p q r

pub returns-clause-first : goal.returns-clause-first
returns-clause-first c base a b n tries p q r = integrate-first base a b p q r n tries

pub returns-clause-second : goal.returns-clause-second
returns-clause-second c base a b n tries p q r = integrate-second base a b p q r n tries

pub returns-clause-last : goal.returns-clause-last
returns-clause-last c base a b n tries p q r = integrate-last base a b p q r n tries
