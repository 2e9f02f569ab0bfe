use Rattle.std.proofs.Common.{◌≡◌, ◌+◌, drop}
use Rattle.hpr_syntax.specs.Body.{part_count}
use Rattle.hpr_syntax.specs.BodyOf.{body_of}
use Rattle.hpr_syntax.proofs.tree.+part_count.Given as goal

abbrev pub invariant-Block::part_count-loop-stmt : goal.invariant-Block::part_count-loop-stmt
invariant-Block::part_count-loop-stmt l =
    (body_of l.stmt-items ≡ l.self) × (l.count + part_count (body_of (drop l.stmt-index l.stmt-items)) ≡ part_count l.self)
