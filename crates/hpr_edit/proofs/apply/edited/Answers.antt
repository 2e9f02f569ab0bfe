use Rattle.std.proofs.Common.{subst, arith}
use Rattle.hpr_syntax.specs.Shape.{IsProgram}
use Rattle.hpr_edit.specs.InPlace.{tree_of}
use Rattle.hpr_edit.proofs.Proper.{carried_program, same_tree}
use Rattle.hpr_edit.proofs.apply.edited.Goals as goal

pub from_parts-requires : goal.from_parts-requires
from_parts-requires c =
    let old = c.into_parts-issued.result in
    let new = c.carry_out-made.new in
    let is : IsProgram (tree_of old.0 old.1 old.2.items) = subst (λ x. IsProgram x) c.into_parts-issued.ensures.parts c.into_parts-issued.ensures.program in
    let made = c.carry_out-made.ensures in
    carried_program (tree_of old.0 old.1 old.2.items) is c.args.command.now c.read_command.ensures c.args.author (omega arith)
    (tree_of new.issued new.body new.finals.items) c.carry_out-made.result made.made
    (same_tree c.carry_out-made.result new.issued old.0 new.body old.1 new.finals.items old.2.items made.issued made.body made.finals)
