use Rattle.std.proofs.Common.{◌≡◌, ◌∙◌, true, false, sym}
use Rattle.hpr_graph.proofs.Lists.{some_inj}
use Rattle.hpr_order.proofs.Places.{row_is, row_once, region_is}
use Rattle.hpr_order.proofs.tree.parent_at.Goals as goal

pub only_control-requires : goal.only_control-requires
only_control-requires c = row_once c.args.graph.now c.edges_into.ensures.numbered c.args.at c.edges_into.result.now c.edges_into.ensures.row

pub returns : goal.returns
returns c = λ v is_v.
    region_is c.args.graph.now c.edges_into.ensures.numbered c.args.at v is_v c.only_control.result c.edges_into.result.now
    (row_is c.args.graph.now c.args.at c.edges_into.result.now c.edges_into.ensures.row) c.only_control.ensures.found c.only_control.ensures.none c.requires.possible
    (λ e.
    let t = c.is_entry.ensures.1 (some_inj c.vertex.result.now v (sym c.vertex.ensures ∙ is_v) ∙ e) in
    let both : true ≡ false = sym t ∙ c.if-is_entry.false in
    absurd cc)
