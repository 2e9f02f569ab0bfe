use Rattle.std.proofs.Common.{◌≡◌, ◌<◌, ◌+◌, ◌^◌, ◌++◌, drop}
use Rattle.hpr_tagging.specs.declared.lexemes.Kind.TheVariants.{Other}
use Rattle.hpr_tagging.specs.Tagging.{untagged, changes}
use Rattle.hpr_tagging.proofs.changes.changes.Given as goal

abbrev pub invariant-loop-lexeme : goal.invariant-loop-lexeme
invariant-loop-lexeme l = record {
  fits : l.serial + untagged l.two_before l.before (drop l.lexeme-index l.lexemes) < 2 ^ 32;
  found : l.found.items ++ changes l.numbering l.serial l.two_before l.before (drop l.lexeme-index l.lexemes)
      ≡ changes l.numbering l.numbering.greatest Other Other l.lexemes;
}
