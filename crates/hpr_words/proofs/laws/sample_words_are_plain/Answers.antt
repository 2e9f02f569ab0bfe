use Rattle.hpr_words.proofs.SamplePlaceLemmas.{sample-plain}
use Rattle.hpr_words.proofs.laws.sample_words_are_plain.Goals as goal

pub returns : goal.returns
returns c = sample-plain
