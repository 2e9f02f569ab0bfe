use Rattle.std.proofs.Common.{arith}
use Rattle.hpr_words.proofs.NumberLemmas.{number_within-Ok, number_within-Err}
use Rattle.hpr_words.proofs.found.number_within.Goals as goal

pub returns-else-most-number : goal.returns-else-most-number
returns-else-most-number c =
    number_within-Ok c.args.least c.args.most c.in-Ok.number c.args.text.now (c.in-Ok.ensures.value.0) (omega (arith, c.if-number-least.false)) (omega (arith, c.if-most-number.false))

pub returns-in-Err : goal.returns-in-Err
returns-in-Err c = number_within-Err c.args.least c.args.most c.args.text.now (c.in-Err.ensures.value.0)
