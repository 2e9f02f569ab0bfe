use Rattle.std.proofs.Common.{◌≡◌, drop}
use Rattle.hpr_syntax.specs.BodyOf.{body_of}
use Rattle.hpr_syntax.specs.Parts.{find_stmt}
use Rattle.hpr_syntax.proofs.tree.+find.Given as goal

abbrev pub invariant-Block::find-loop-stmt : goal.invariant-Block::find-loop-stmt
invariant-Block::find-loop-stmt l =
    (body_of l.stmt-items ≡ l.self) × (find_stmt l.tag l.self ≡ find_stmt l.tag (body_of (drop l.stmt-index l.stmt-items)))
