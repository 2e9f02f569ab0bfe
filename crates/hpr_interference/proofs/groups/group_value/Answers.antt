use Rattle.std.proofs.Common.{◌≡◌, ◌∙◌, List, ap, map, refl}
use Rattle.std.proofs.lemmas.List.Elements.{Contains-get_or}
use Rattle.std.proofs.lemmas.Result.{IfOk-weaker}
use Rattle.serde_json.specs.View.{view}
use Rattle.hpr_graph.specs.declared.vertex.Vertex.{Vertex}
use Rattle.hpr_located.specs.Sources.{standing_of}
use Rattle.hpr_interference.specs.Answers.{group_data}
use Rattle.hpr_interference.specs.Groups.{Group}
use Rattle.hpr_interference.specs.Private.Rows.{IsRow, group_at}
use Rattle.hpr_interference.proofs.groups.group_value.Goals as goal

pub conflict_at-first-requires : goal.conflict_at-first-requires
conflict_at-first-requires c = c.requires.within _ (Contains-get_or c.args.row.now 0 0 c.requires.some)

pub returns : goal.returns
returns c =
    let ss = map standing_of c.args.sources.now in
    let first = c.conflict_at-first.result.now in
    let g = group_at c.args.conflicts.now first c.args.row.now in
    let points = ap (map (λ p. p.now)) c.deref.ensures.value ∙ c.in_ok-points.ensures first in
    let shape = λ (vs : List Vertex). group_data ss (record { variant = first.variant; edge = first.edge; places = c.args.row.now; points = vs }) in
    IfOk-weaker c.shown_group.result (λ value. view value ≡ shape (map (λ p. p.now) c.deref.result.now))
    (λ value. (h : Group) × IsRow c.args.conflicts.now c.args.row.now h × (view value ≡ group_data ss h))
    (λ value told. (g, (first, c.conflict_at-first.ensures first, refl), told ∙ ap shape points)) c.shown_group.ensures
