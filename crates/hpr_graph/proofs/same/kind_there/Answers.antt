use Rattle.hpr_graph.proofs.Twinned.{control_there, independent_there}
use Rattle.hpr_graph.proofs.same.kind_there.Goals as goal

pub returns-in-Control : goal.returns-in-Control
returns-in-Control c = rw c.in-Control.is (control_there c.args.vertices.now c.args.other.now.vertices c.requires.once c.in-Control.label)

pub returns-in-Independent : goal.returns-in-Independent
returns-in-Independent c = rw c.in-Independent.is (independent_there c.args.vertices.now c.args.other.now.vertices c.requires.once)
