use Rattle.std.proofs.Common.{rules, refl, sym, ◌∙◌, None}
use Rattle.std.specs.Option.{option_copied}
use Rattle.std.proofs.lemmas.List.{length-map}
use Rattle.hpr_graph.proofs.NameOrder.{names_up}
use Rattle.hpr_report.proofs.TableRows.{empty_cells, next_beside, places_within}
use Rattle.hpr_report.proofs.table.column.Goals as goal

pub loop-name-init : goal.loop-name-init
loop-name-init c = empty_cells option_copied c.args.names.now _ None refl (search rules)

pub fill-requires : goal.fill-requires
fill-requires c =
    let long = sym (length-map c.loop-name.cells.items option_copied) ∙ c.loop-name.invariant.beside in
    places_within c.args.names.now c.loop-name-item.result.0 _ c.place_of-place.result long c.place_of-place.ensures.some

pub loop-name-preserved : goal.loop-name-preserved
loop-name-preserved c =
    let names = c.args.names.now in
    next_beside names (names_up names c.requires.names) c.args.values.now c.requires.values c.loop-name.name-index c.loop-name-item.result c.loop-name-test.true c.loop-name-item.is
    c.place_of-place.result _ _ c.place_of-place.ensures.some c.place_of-place.ensures.none c.fill.ensures.filled c.fill.ensures.none c.loop-name.invariant
