use Rattle.std.proofs.Common.{◌≡◌, max, drop}
use Rattle.hpr_tagging.specs.declared.lexemes.Kind.TheVariants.{Other}
use Rattle.hpr_tagging.specs.Tagging.{greatest_in}
use Rattle.hpr_tagging.proofs.counts.greatest_in.Given as goal

abbrev pub invariant-loop-lexeme : goal.invariant-loop-lexeme
invariant-loop-lexeme l = max l.most (greatest_in l.author l.two_before l.before (drop l.lexeme-index l.lexemes)) ≡ greatest_in l.author Other Other l.lexemes
