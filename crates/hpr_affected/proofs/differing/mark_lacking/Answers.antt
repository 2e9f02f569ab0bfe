use Rattle.std.proofs.Common.{[], ap, sym}
use Rattle.hpr_graph.specs.Numbered.{row_items, row_of}
use Rattle.hpr_affected.specs.Differing.{CountsWithout}
use Rattle.hpr_affected.specs.Lacking.{IsKnown, IsThere}
use Rattle.hpr_affected.proofs.MarkRows.{known_there, marked_same, none_there, without_same}
use Rattle.hpr_affected.proofs.differing.mark_lacking.Goals as goal

pub returns-in-Some-clause-exact : goal.returns-in-Some-clause-exact
returns-in-Some-clause-exact c =
    let g = c.args.graph.now in
    let h = c.args.other.now in
    let ns = c.args.numbers.now in
    let at = c.args.at in
    let links = c.edges_into-links.result.now in
    let known = c.edges_into.result.now in
    marked_same c.args.marks.now.items c.mark_unknown.new.marks.items (CountsWithout (IsKnown ns known) links at) (CountsWithout (IsThere h ns at) (row_of g at) at)
    (λ n. without_same (IsKnown ns known) (IsThere h ns at) links (row_of g at) at n (sym (ap row_items c.edges_into-links.ensures.row)) (known_there g h ns at c.in-Some.to known (sym c.in-Some.ensures) (sym (ap row_items c.edges_into.ensures.row))))
    c.mark_unknown.ensures.exact

pub returns-in-None-clause-exact : goal.returns-in-None-clause-exact
returns-in-None-clause-exact c =
    let g = c.args.graph.now in
    let h = c.args.other.now in
    let ns = c.args.numbers.now in
    let at = c.args.at in
    let links = c.edges_into-links.result.now in
    marked_same c.args.marks.now.items c.mark_unknown-in-None.new.marks.items (CountsWithout (IsKnown ns []) links at) (CountsWithout (IsThere h ns at) (row_of g at) at)
    (λ n. without_same (IsKnown ns []) (IsThere h ns at) links (row_of g at) at n (sym (ap row_items c.edges_into-links.ensures.row)) (none_there g h ns at (sym c.in-None.ensures)))
    c.mark_unknown-in-None.ensures.exact
