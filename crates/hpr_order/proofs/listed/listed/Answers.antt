use Rattle.std.proofs.Common.{◌≡◌, ◌∙◌, List, [], ap}
use Rattle.indexmap.proofs.CallerLemmas.{Drains-YieldsInOrder}
use Rattle.indexmap.specs.IndexSet.{insert_all}
use Rattle.hpr_graph.specs.declared.vertex.Vertex.{Vertex}
use Rattle.hpr_graph.proofs.Indexed.{eq, all_listed}
use Rattle.hpr_order.proofs.listed.listed.Goals as goal

pub returns : goal.returns
returns c =
    let ran = c.in_ok-list.ensures.ran in
    let all : ran.1 ≡ c.args.vertices.items = Drains-YieldsInOrder _ _ ran.0 ran.1 ran.2.3 (let end = ran.3.2 tt in (end.0, (ran.3.0, ran.3.1, end.1))) ∙ ran.2.0 in
    ran.4.0 ∙ ap (λ (l : List Vertex). insert_all eq [] l) all ∙ all_listed c.args.vertices.items c.requires
