use Rattle.hpr_words.proofs.RunPlaceLemmas.{run-alone, run-both, run-both_apart, run-first, run-last, run-second, run-traced_first, run-traced_last, run-traced_second}
use Rattle.hpr_words.proofs.laws.run_words_are_plain.Goals as goal

pub returns-clause-alone : goal.returns-clause-alone
returns-clause-alone c file states p q = run-alone file states p q

pub returns-clause-first : goal.returns-clause-first
returns-clause-first c file n states steps p q = run-first file states p q n steps

pub returns-clause-second : goal.returns-clause-second
returns-clause-second c file n states steps p q = run-second file states p q n steps

pub returns-clause-last : goal.returns-clause-last
returns-clause-last c file n states steps p q = run-last file states p q n steps

pub returns-clause-traced_first : goal.returns-clause-traced_first
returns-clause-traced_first c file states p q = run-traced_first file states p q

pub returns-clause-traced_second : goal.returns-clause-traced_second
returns-clause-traced_second c file states p q = run-traced_second file states p q

pub returns-clause-traced_last : goal.returns-clause-traced_last
returns-clause-traced_last c file states p q = run-traced_last file states p q

pub returns-clause-both : goal.returns-clause-both
returns-clause-both c file n states steps p q = run-both file states p q n steps

pub returns-clause-both_apart : goal.returns-clause-both_apart
returns-clause-both_apart c file n states steps p q = run-both_apart file states p q n steps
