use Rattle.std.proofs.Common.{◌∙◌, sym, ap}
use Rattle.std.proofs.lemmas.Result.{IfOk-weaker}
use Rattle.hpr_terms.specs.declared.tag.Tag.{Tag}
use Rattle.hpr_graph.specs.Split.{with_tag}
use Rattle.hpr_graph.proofs.Reordered.{ascending_vertices_once}
use Rattle.hpr_split.proofs.Renamed.{renamed_there, renamed_stranger}
use Rattle.hpr_split.proofs.renaming.renamed.Goals as goal

pub returns-in-Some : goal.returns-in-Some
returns-in-Some c =
    let there = renamed_there c.args.serial c.args.parts.now c.in-Some.at c.args.vertex.now (ascending_vertices_once c.args.parts.now c.requires.ascend) c.in-Some.ensures.found in
    IfOk-weaker c.with_tag.result _ _ (λ v is. is ∙ ap (λ (t : Tag). with_tag t c.args.vertex.now) c.new_tag.ensures ∙ sym there) c.with_tag.ensures

pub returns-in-None : goal.returns-in-None
returns-in-None c =
    let stranger = renamed_stranger c.args.serial c.args.parts.now c.args.vertex.now (λ h. absurd (let some = c.in-None.ensures.there h in cc)) in
    IfOk-weaker c.copy.result _ _ (λ v is. is ∙ sym stranger) c.copy.ensures
