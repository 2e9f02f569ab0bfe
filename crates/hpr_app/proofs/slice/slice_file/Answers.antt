use Rattle.std.proofs.Common.{map}
use Rattle.hpr_decisions.specs.SliceFile.{Sliced}
use Rattle.hpr_inputs.proofs.ReadLemmas.{past_last_file}
use Rattle.hpr_decisions.proofs.KindLemmas.{in_kind, slice_suits}
use Rattle.hpr_words.specs.Request.{slice}
use Rattle.hpr_app.proofs.slice.slice_file.Goals as goal

pub returns-clause-answers : goal.returns-clause-answers
returns-clause-answers g c =
    let name = c.args.file.now in
    let points = map (λ w. w.now) c.args.points.now in
    past_last_file (g.S.Shelf.files c.args.shelf.now) _ _ _ name (λ p r. Sliced name p points c.args.as_program r) c.in_ok-program.program c.show_slice.result
    c.in_ok-program.ensures.reads.0 c.in_ok-program.ensures.reads.1 c.show_slice.ensures

pub returns-clause-kind : goal.returns-clause-kind
returns-clause-kind g c =
    let file = c.args.file.now in
    let points = map (λ w. w.now) c.args.points.now in
    let p = c.in_ok-program.program in
    in_kind (slice file points c.args.as_program) (Sliced file p points c.args.as_program) (slice_suits file p points c.args.as_program) c.show_slice.result c.show_slice.ensures
