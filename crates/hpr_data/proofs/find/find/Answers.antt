use Rattle.hpr_data.proofs.find.find.Goals as goal

pub returns-in-Integrate : goal.returns-in-Integrate
returns-in-Integrate c = rw c.in-Integrate.is c.integrated.ensures

pub returns-in-IntegrateMany : goal.returns-in-IntegrateMany
returns-in-IntegrateMany c = rw c.in-IntegrateMany.is (rw c.as_slice.ensures.value at c.integrated-in-IntegrateMany.ensures)

pub returns-in-Affected : goal.returns-in-Affected
returns-in-Affected c = rw c.in-Affected.is c.affected_points.ensures

pub returns-in-Graph : goal.returns-in-Graph
returns-in-Graph c = rw c.in-Graph.is c.graph_shown.ensures

pub returns-in-Run : goal.returns-in-Run
returns-in-Run c = rw c.in-Run.is (rw c.as_slice-in-Run.ensures.value at c.run_named.ensures)

pub returns-in-Verify : goal.returns-in-Verify
returns-in-Verify c = rw c.in-Verify.is c.verified.ensures
