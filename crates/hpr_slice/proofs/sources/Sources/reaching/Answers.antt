use Rattle.std.proofs.Common.{subst}
use Rattle.hpr_graph.specs.Numbered.{IsNumbered}
use Rattle.hpr_slice.proofs.Marked.{marks_slice}
use Rattle.hpr_slice.proofs.sources.Sources.reaching.Goals as goal

pub returns : goal.returns
returns c =
    marks_slice c.args.self.now (subst IsNumbered c.self.view_is c.self.invariant) c.args.numbers.now c.requires c.in_ok-reachable.field-0.items
    c.in_ok-reachable.ensures.row c.in_ok-reachable.ensures.sound c.in_ok-reachable.ensures.complete
