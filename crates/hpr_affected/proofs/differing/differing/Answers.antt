use Rattle.hpr_affected.proofs.DirectTests.{own_read}
use Rattle.hpr_affected.proofs.differing.differing.Goals as goal

pub returns : goal.returns
returns c =
    own_read c.args.graph.now c.args.other.now c.vertices-vertices.ensures.numbered c.vertices-others.ensures.numbered c.in_ok-numbers.numbers.items c.deref.result.now c.in_ok-marks.marks.items c.in_ok-numbers.ensures c.deref.ensures.value c.in_ok-marks.ensures
