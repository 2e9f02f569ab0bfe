use Rattle.std.proofs.Common.{◌<◌, ◌-◌, [], length}
use Rattle.hpr_forest.specs.Choices.{Follows}
use Rattle.hpr_forest.proofs.FirstLeaf.{AreAllLeft}
use Rattle.hpr_forest.proofs.first.walk_to_clash.Given as goal

abbrev pub invariant-walk : goal.invariant-walk
invariant-walk g l =
    let search = g.T.Backtracking in
    let first = l.fn.search in
    search.is_same first l.search
    × Follows (search.can first) [] (search.placed l.search)
    × (length (search.placed l.search) < search.size first)
    × AreAllLeft (search.can first) (search.size first) (search.clash first) (search.placed l.search)

abbrev pub decreases-walk : goal.decreases-walk
decreases-walk g l = g.T.Backtracking.size l.fn.search - length (g.T.Backtracking.placed l.search)
