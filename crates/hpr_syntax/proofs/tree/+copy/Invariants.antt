use Rattle.std.proofs.Common.{◌≡◌, take}
use Rattle.hpr_syntax.specs.BodyOf.{body_of}
use Rattle.hpr_syntax.proofs.tree.+copy.Given as goal

abbrev pub invariant-Block::copy-loop-stmt : goal.invariant-Block::copy-loop-stmt
invariant-Block::copy-loop-stmt l = (body_of l.stmt-items ≡ l.self) × (l.stmts.items ≡ take l.stmt-index l.stmt-items)
