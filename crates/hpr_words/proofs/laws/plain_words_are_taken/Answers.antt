use Rattle.hpr_words.proofs.PlainLemmas.{plain_taken}
use Rattle.hpr_words.proofs.laws.plain_words_are_taken.Goals as goal

pub returns : goal.returns
returns c = plain_taken
