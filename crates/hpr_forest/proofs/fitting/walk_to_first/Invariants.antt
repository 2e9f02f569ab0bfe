use Rattle.std.proofs.Common.{◌<◌, [], length}
use Rattle.hpr_forest.specs.Choices.{Follows}
use Rattle.hpr_forest.proofs.CutStates.{State, all_steps}
use Rattle.hpr_forest.proofs.Spending.{Spends}
use Rattle.hpr_forest.proofs.fitting.walk_to_first.Given as goal

abbrev pub invariant-walk : goal.invariant-walk
invariant-walk g l =
    let search = g.T.Backtracking in
    let first = l.fn.search in
    search.is_same first l.search
    × Follows (search.can first) [] (search.placed l.search)
    × (length (search.placed l.search) < search.size first)
    × State (search.can first) (search.fits first) (search.size first) (search.clash first) l.tries l.left (search.placed l.search) l.from
    × Spends (search.can first) (search.size first) (search.clash first) l.tries l.left (search.placed l.search) l.from

abbrev pub decreases-walk : goal.decreases-walk
decreases-walk g l = all_steps (g.T.Backtracking.size l.fn.search) l.left (length (g.T.Backtracking.placed l.search)) l.from
