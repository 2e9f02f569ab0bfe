use Rattle.std.proofs.Common.{List, map, subst, sym}
use Rattle.std.proofs.lemmas.Result.{IfOk-weaker}
use Rattle.serde_json.specs.View.{view}
use Rattle.hpr_graph.specs.declared.conflict.ManyConflict.{ManyConflict}
use Rattle.hpr_located.specs.Sources.{standing_of}
use Rattle.hpr_interference.specs.Answers.{Tells}
use Rattle.hpr_outcome.specs.declared.outcome.Outcome.{Outcome}
use Rattle.hpr_told.specs.Clashes.{HasClashInGraph}
use Rattle.hpr_told.specs.Outcomes.{IsOutcomeTold}
use Rattle.hpr_told.proofs.outcome.outcome_value.Goals as goal

pub none_value-requires : goal.none_value-requires
none_value-requires c = subst HasClashInGraph c.in-NoProgram.is c.requires.clash

pub unfound_value-requires : goal.unfound_value-requires
unfound_value-requires c = subst HasClashInGraph c.in-Spent.is c.requires.clash

pub returns-in-Interference-clause-data : goal.returns-in-Interference-clause-data
returns-in-Interference-clause-data c =
    let ss = map standing_of c.args.sources.now in
    IfOk-weaker c.conflicts_value.result _ _
    (λ value told. subst (λ (o : Outcome). IsOutcomeTold ss o (view value)) (sym c.in-Interference.is)
    (subst (λ (cs : List ManyConflict). Tells ss cs (view value)) c.deref.ensures.value told))
    c.conflicts_value.ensures.data

pub returns-in-Merged-clause-data : goal.returns-in-Merged-clause-data
returns-in-Merged-clause-data c =
    let ss = map standing_of c.args.sources.now in
    IfOk-weaker c.merged_value.result _ _
    (λ value told. subst (λ (o : Outcome). IsOutcomeTold ss o (view value)) (sym c.in-Merged.is) told)
    c.merged_value.ensures.data

pub returns-in-NoProgram-clause-data : goal.returns-in-NoProgram-clause-data
returns-in-NoProgram-clause-data c =
    let ss = map standing_of c.args.sources.now in
    IfOk-weaker c.none_value.result _ _
    (λ value told. subst (λ (o : Outcome). IsOutcomeTold ss o (view value)) (sym c.in-NoProgram.is) told)
    c.none_value.ensures.data

pub returns-in-Spent-clause-data : goal.returns-in-Spent-clause-data
returns-in-Spent-clause-data c =
    let ss = map standing_of c.args.sources.now in
    IfOk-weaker c.unfound_value.result _ _
    (λ value told. subst (λ (o : Outcome). IsOutcomeTold ss o (view value)) (sym c.in-Spent.is) told)
    c.unfound_value.ensures.data
