use Rattle.std.proofs.Common.{ap, map, ◌∙◌}
use Rattle.serde_json.specs.View.{view}
use Rattle.serde_json.specs.Written.{has_float}
use Rattle.hpr_graph.specs.Numbered.{graph_in}
use Rattle.hpr_located.specs.Sources.{standing_of}
use Rattle.hpr_drawn.proofs.Whole.{answer_whole}
use Rattle.hpr_drawn.proofs.told.graph_json.Goals as goal

pub returns-clause-data : goal.returns-clause-data
returns-clause-data c =
    let l = c.in_ok-listed.listed in
    (map view l.edges.items, map view l.vertices.items, c.in_ok-listed.ensures, c.in_ok-listed_answer.ensures)

pub returns-clause-whole : goal.returns-clause-whole
returns-clause-whole c =
    let l = c.in_ok-listed.listed in
    ap has_float c.in_ok-listed_answer.ensures
    ∙ answer_whole (map standing_of c.args.sources.now) (graph_in c.args.graph.now) (map view l.edges.items) (map view l.vertices.items) c.in_ok-listed.ensures
