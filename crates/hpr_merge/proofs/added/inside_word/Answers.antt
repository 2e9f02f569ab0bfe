use Rattle.hpr_merge.proofs.Bits.{both_marked}
use Rattle.hpr_merge.proofs.added.inside_word.Goals as goal

pub returns-in-Carried : goal.returns-in-Carried
returns-in-Carried c = λ i. rw c.in-Carried.is (rw c.word_at-source.ensures (rw c.word_at.ensures (both_marked c.args.words.now c.args.link.from c.in-Carried.w i)))

pub returns-in-Order : goal.returns-in-Order
returns-in-Order c = λ i. rw c.in-Order.is (rw c.word_at-source.ensures (rw c.word_at-in-Order.ensures (both_marked c.args.words.now c.args.link.from c.in-Order.u i)))
