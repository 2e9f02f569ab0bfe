use Rattle.hpr_syntax.specs.Shape.{IsProgram}
use Rattle.hpr_edit.specs.Reverted.{reverted}
use Rattle.hpr_edit.proofs.Back.{back_program}
use Rattle.hpr_edit.proofs.revert.reverted.Goals as goal

pub from_parts-requires : goal.from_parts-requires
from_parts-requires c =
    let i = c.args.inverse.now in
    let p = c.args.program.now in
    let back : IsProgram (reverted i p) = back_program i p c.issued.ensures.program c.requires.undoes.0 c.requires.undoes.1 c.requires.issued in
    rw (c.in_ok-issued.ensures, c.issued.ensures.issued, c.in_ok-finals.ensures, c.finals.ensures.finals, c.in_ok-body.ensures) back
