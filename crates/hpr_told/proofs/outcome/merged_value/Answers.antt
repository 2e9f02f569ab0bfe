use Rattle.std.proofs.Common.{◌∙◌, ap, map}
use Rattle.std.proofs.lemmas.Result.{IfOk-weaker}
use Rattle.serde_json.specs.View.{view}
use Rattle.serde_json.specs.Written.{has_float}
use Rattle.hpr_syntax.specs.Print.{text}
use Rattle.hpr_located.specs.Sources.{standing_of}
use Rattle.hpr_told.specs.Outcomes.{with_sought}
use Rattle.hpr_told.proofs.Whole.{merged_whole}
use Rattle.hpr_told.proofs.outcome.merged_value.Goals as goal

pub returns-clause-data : goal.returns-clause-data
returns-clause-data c =
    let graph = view c.in_ok-graph.graph in
    let with_all = with_sought (map standing_of c.args.sources.now) c.args.sought.now graph in
    IfOk-weaker c.with_sought.result _ _
    (λ value is. (graph, c.in_ok-graph.ensures.data, is ∙ ap with_all c.in_ok-value.ensures.data))
    c.with_sought.ensures

pub returns-clause-whole : goal.returns-clause-whole
returns-clause-whole c =
    let ss = map standing_of c.args.sources.now in
    let graph = view c.in_ok-graph.graph in
    let no_float = merged_whole ss c.args.sought.now graph c.in_ok-graph.ensures.whole (text c.args.program.now) in
    IfOk-weaker c.with_sought.result _ _
    (λ value is. ap has_float (is ∙ ap (with_sought ss c.args.sought.now graph) c.in_ok-value.ensures.data) ∙ no_float)
    c.with_sought.ensures
