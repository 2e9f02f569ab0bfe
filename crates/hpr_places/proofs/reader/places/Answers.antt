use Rattle.std.proofs.Common.{◌++◌, sym, ap, subst, ◌∙◌}
use Rattle.hpr_syntax.specs.Body.{Body}
use Rattle.hpr_places.specs.Places.{ArePlaces}
use Rattle.hpr_places.specs.Private.Walk.{walk}
use Rattle.hpr_places.proofs.Whole.{are_places}
use Rattle.hpr_places.proofs.reader.places.Goals as goal

pub returns-in-Ok-clause-places : goal.returns-in-Ok-clause-places
returns-in-Ok-clause-places c =
    let bytes = c.args.bytes.now in
    let m = c.header_end.result in
    let h = are_places bytes c.in_ok-program.program m c.in_ok-program.ensures.spelled c.in_ok-program.ensures.program c.header_end.ensures.header in
    let e = c.in-Ok.ensures.found ∙ ap (λ ps. ps ++ (walk bytes c.body.result.now m).places) c.new-found.ensures.items ∙ ap (λ (b : Body). (walk bytes b m).places) c.body.ensures.body in
    subst (ArePlaces bytes) (sym e) h
