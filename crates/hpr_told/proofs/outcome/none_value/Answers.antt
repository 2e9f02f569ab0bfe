use Rattle.std.proofs.Common.{◌∙◌, ap, map}
use Rattle.std.proofs.lemmas.Result.{IfOk-weaker}
use Rattle.serde_json.specs.View.{view}
use Rattle.serde_json.specs.Written.{has_float}
use Rattle.hpr_located.specs.Sources.{standing_of}
use Rattle.hpr_told.specs.Clashes.{with_clash}
use Rattle.hpr_told.specs.Outcomes.{with_sought}
use Rattle.hpr_told.proofs.Whole.{none_whole}
use Rattle.hpr_told.proofs.outcome.none_value.Goals as goal

pub returns-clause-data : goal.returns-clause-data
returns-clause-data c =
    let ss = map standing_of c.args.sources.now in
    let s = c.args.sought.now in
    let graph = view c.in_ok-graph.graph in
    let told = c.in_ok-told.ensures ∙ ap (with_clash ss s.graph c.args.clash.now) c.in_ok-value.ensures.data in
    IfOk-weaker c.with_sought.result _ _
    (λ value is. (c.part_count.result, c.part_count.ensures, (graph, c.in_ok-graph.ensures.data, is ∙ ap (with_sought ss s graph) told)))
    c.with_sought.ensures

pub returns-clause-whole : goal.returns-clause-whole
returns-clause-whole c =
    let ss = map standing_of c.args.sources.now in
    let s = c.args.sought.now in
    let graph = view c.in_ok-graph.graph in
    let told = c.in_ok-told.ensures ∙ ap (with_clash ss s.graph c.args.clash.now) c.in_ok-value.ensures.data in
    let no_float = none_whole ss s graph c.in_ok-graph.ensures.whole c.args.clash.now c.part_count.result in
    IfOk-weaker c.with_sought.result _ _
    (λ value is. ap has_float (is ∙ ap (with_sought ss s graph) told) ∙ no_float)
    c.with_sought.ensures
