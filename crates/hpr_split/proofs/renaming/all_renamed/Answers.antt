use Rattle.std.proofs.Common.{◌∙◌, ap, map}
use Rattle.std.proofs.lemmas.List.{take_all}
use Rattle.hpr_graph.specs.Split.{renamed, with_new_tags}
use Rattle.hpr_split.proofs.renaming.all_renamed.Goals as goal

pub returns : goal.returns
returns c = c.loop-vertex.invariant ∙ ap (map (renamed (with_new_tags c.args.serial c.args.parts.now))) (take_all c.loop-vertex.vertex-index c.args.vertices.now c.loop-vertex-test.false)

pub renamed-requires-clause-ascend : goal.renamed-requires-clause-ascend
renamed-requires-clause-ascend c = c.requires.ascend

pub renamed-requires-clause-serials : goal.renamed-requires-clause-serials
renamed-requires-clause-serials c = c.requires.serials
