use Rattle.std.proofs.Common.{◌≡◌, ◌≤◌, ◌+◌, drop}
use Rattle.hpr_tagging.specs.declared.lexemes.Kind.TheVariants.{Other}
use Rattle.hpr_tagging.specs.Tagging.{untagged}
use Rattle.hpr_tagging.proofs.counts.untagged.Given as goal

abbrev pub invariant-loop-lexeme : goal.invariant-loop-lexeme
invariant-loop-lexeme l = record {
  count : l.count + untagged l.two_before l.before (drop l.lexeme-index l.lexemes) ≡ untagged Other Other l.lexemes;
  most : l.count ≤ l.lexeme-index;
}
