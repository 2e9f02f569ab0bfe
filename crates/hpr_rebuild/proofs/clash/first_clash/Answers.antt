use Rattle.hpr_syntax.specs.Issued.{Issued}
use Rattle.hpr_syntax.specs.Tree.{Tree}
use Rattle.hpr_graph.specs.Arrangements.{IsArrangement}
use Rattle.hpr_graph.specs.Numbered.{graph_in}
use Rattle.hpr_rebuild.proofs.Refused.{clear_at_all, where_none}
use Rattle.hpr_rebuild.proofs.clash.first_clash.Goals as goal

pub returns-in_default-clause-none : goal.returns-in_default-clause-none
returns-in_default-clause-none c =
    let g = graph_in c.args.graph.now in
    let none =
    where_none c.in_ok-tree.field-0 ((issued : Issued) (p : Tree) → ¬ IsArrangement g issued p) c.in_default.is c.in_ok-tree.ensures.no_arrangement in
    clear_at_all g c.args.rank.now c.args.issued.now (none c.args.issued.now)
