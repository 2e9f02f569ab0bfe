use Rattle.std.proofs.Common.{◌↔◌, sym, subst}
use Rattle.hpr_graph.specs.Graphs.{Same}
use Rattle.hpr_graph.specs.Numbered.{Numbered, HasLink, graph_in}
use Rattle.hpr_graph.proofs.Reordered.{same_links}
use Rattle.hpr_graph.proofs.draft.Draft.finish.Goals as goal

pub returns-clause-links : goal.returns-clause-links
returns-clause-links c = λ at l. subst (λ (g : Numbered). HasLink g at l ↔ HasLink c.args.self at l) (sym c.of_sorted.ensures) (c.sort_rows.ensures.links at l)

pub returns-clause-same : goal.returns-clause-same
returns-clause-same c =
    subst (λ (g : Numbered). Same (graph_in g) (graph_in c.args.self)) (sym c.of_sorted.ensures) (same_links c.args.self c.sort_rows.new.self c.sort_rows.ensures.vertices c.sort_rows.ensures.links)
