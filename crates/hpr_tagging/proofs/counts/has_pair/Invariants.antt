use Rattle.std.proofs.Common.{◌≡◌, drop}
use Rattle.hpr_tagging.specs.declared.lexemes.Kind.TheVariants.{Other}
use Rattle.hpr_tagging.specs.Tagging.{has_pair}
use Rattle.hpr_tagging.proofs.counts.has_pair.Given as goal

abbrev pub invariant-loop-lexeme : goal.invariant-loop-lexeme
invariant-loop-lexeme l = has_pair l.author Other Other l.lexemes ≡ has_pair l.author l.two_before l.before (drop l.lexeme-index l.lexemes)
