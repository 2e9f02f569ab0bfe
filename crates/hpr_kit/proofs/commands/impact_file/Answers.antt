use Rattle.std.proofs.Common.{Some, map}
use Rattle.hprkit_words.specs.Ask.{impact}
use Rattle.hpr_located.specs.Sources.{standing_of}
use Rattle.hpr_kit.specs.Comes.{Names}
use Rattle.hpr_kit.specs.Graphs.{IsImpactTold, OnGraph, OnPoints}
use Rattle.hpr_kit.proofs.GraphLemmas.{impact_said}
use Rattle.hpr_kit.proofs.LoadLemmas.{of_source}
use Rattle.hpr_kit.proofs.commands.impact_file.Goals as goal

pub returns-clause-halts : goal.returns-clause-halts
returns-clause-halts g c =
    let file = c.args.file.now in
    let form = c.args.form in
    let words = map (λ w. w.now) c.args.points.now in
    of_source (g.S.Shelf.files c.args.shelf.now) (Names (Some (impact file words form))) file c.in_ok-bytes.bytes.items c.in_ok-bytes.program (standing_of c.in_ok-bytes.source)
    (λ bytes p s a. OnGraph file p (λ h. OnPoints h words (λ ns. IsImpactTold form h ns bytes s a) a) a) _ _ (λ a told. (impact_said file c.in_ok-bytes.program a form words c.in_ok-bytes.bytes.items (standing_of c.in_ok-bytes.source) told).taken)
    c.in_ok-bytes.ensures.loads.0 c.in_ok-bytes.ensures.loads.1 c.impact_reply.result (rw c.as_slice.ensures.value at c.impact_reply.ensures)
