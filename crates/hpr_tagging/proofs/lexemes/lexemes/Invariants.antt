use Rattle.std.proofs.Common.{◌≡◌, ◌++◌, drop}
use Rattle.hpr_tagging.specs.declared.lexemes.Begun.TheVariants.{Nothing}
use Rattle.hpr_tagging.specs.Lexemes.{lexemes}
use Rattle.hpr_tagging.proofs.lexemes.lexemes.Given as goal

abbrev pub invariant-loop-place : goal.invariant-loop-place
invariant-loop-place l = l.found.items ++ lexemes l.begun l.place (drop l.place l.bytes) ≡ lexemes Nothing 0 l.bytes
