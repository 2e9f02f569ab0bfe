use Rattle.std.proofs.Common.{◌++◌, List, ap, codes, take, ◌∙◌}
use Rattle.std.proofs.lemmas.Result.{on_ok_weaker}
use Rattle.hpr_graph.specs.declared.vertex.Vertex.{Vertex}
use Rattle.hpr_graph.specs.declared.vertex.Vertex.TheVariants.{Entry}
use Rattle.hpr_drawn.specs.Pictures.{name, names_text}
use Rattle.hpr_drawn.proofs.Texts.{joined}
use Rattle.hpr_drawn.proofs.nodes.put_column.Goals as goal

pub returns : goal.returns
returns c =
    let o = c.args.out.now.items in
    let head = codes "  {edge [style=invis weight=0]; " ++ name Entry in
    let names = λ (vs : List Vertex). names_text (codes " -> ") vs in
    let inits = names (take 1 c.args.inits.now) in
    let parts = names c.args.parts.now in
    let finals = names (take 1 c.args.finals.now) in
    let after_head = c.put.new.out.items in
    let after_parts = c.put_names-2.new.out.items in
    let first = joined o head inits _ _ c.in_ok-put.ensures (c.in_ok-put_names.ensures ∙ ap (λ (vs : List Vertex). after_head ++ names vs) c.first.ensures) in
    let second = joined o (head ++ inits) parts _ _ first c.in_ok-put_names-2.ensures in
    let put_finals = c.in_ok-put_names-3.ensures ∙ ap (λ (vs : List Vertex). after_parts ++ names vs) c.first-2.ensures in
    let third = joined o (head ++ inits ++ parts) finals _ _ second put_finals in
    on_ok_weaker c.put-2.result (λ last. joined o (head ++ inits ++ parts ++ finals) (codes "}\n") _ _ third last) c.put-2.ensures
