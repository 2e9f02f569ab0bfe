use Rattle.std.proofs.Common.{◌∷◌, map, refl, sym, ap, ◌∙◌, suc}
use Rattle.std.proofs.lemmas.List.{length-map}
use Rattle.hpr_graph.specs.Answer.{interference, no_program, printed, spent}
use Rattle.hpr_graph.specs.Conflicts.{told_many}
use Rattle.hpr_data.specs.Findings.{conflicting, merged, over_budget, unmatched}
use Rattle.hpr_data.proofs.ManyLemmas.{first_too_large, told_back, within_all}
use Rattle.hpr_data.proofs.integrate.answered.Goals as goal

pub returns-in-Ok : goal.returns-in-Ok
returns-in-Ok c =
    let e = c.in-Ok.ensures in
    within_all (c.args.base.now ∷ map (λ s. s.now) c.args.names.now) (c.args.program.now ∷ c.args.programs.now) _ (merged c.in-Ok.merged) e.within (printed c.in-Ok.merged, e.printed, refl)

pub returns-in-Err-TooManyEdges : goal.returns-in-Err-TooManyEdges
returns-in-Err-TooManyEdges c =
    let names = map (λ s. s.now) c.args.names.now in
    let e = c.in-Err-TooManyEdges.ensures in
    let count = ap suc (c.requires.count ∙ sym (length-map c.args.names.now (λ s. s.now))) in
    first_too_large _ c.name_of.result.now c.args.base.now (c.args.base.now ∷ names) (c.args.program.now ∷ c.args.programs.now) count c.in-Err-TooManyEdges.number
    (rw c.in-Err-TooManyEdges.field-0-is at e.too_many) c.name_of.ensures

pub returns-in-Err-Interference : goal.returns-in-Err-Interference
returns-in-Err-Interference c =
    let names = map (λ s. s.now) c.args.names.now in
    let cs = c.in-Err-Interference.conflicts.items in
    let e = c.in-Err-Interference.ensures in
    let is = c.in-Err-Interference.field-0-is in
    within_all (c.args.base.now ∷ names) (c.args.program.now ∷ c.args.programs.now) _ (conflicting cs) (rw is at e.within)
    (interference (map told_many cs), rw is at e.interference, ap conflicting (sym (told_back cs (rw is at e.numbers))))

pub returns-in-Err-NoProgram : goal.returns-in-Err-NoProgram
returns-in-Err-NoProgram c =
    let names = map (λ s. s.now) c.args.names.now in
    let e = c.in-Err-NoProgram.ensures in
    let is = c.in-Err-NoProgram.field-0-is in
    within_all (c.args.base.now ∷ names) (c.args.program.now ∷ c.args.programs.now) _ (unmatched c.in-Err-NoProgram.parts) (rw is at e.within)
    (no_program c.in-Err-NoProgram.parts, rw is at e.no_program, refl)

pub returns-in-Err-Spent : goal.returns-in-Err-Spent
returns-in-Err-Spent c =
    let names = map (λ s. s.now) c.args.names.now in
    let e = c.in-Err-Spent.ensures in
    let is = c.in-Err-Spent.field-0-is in
    within_all (c.args.base.now ∷ names) (c.args.program.now ∷ c.args.programs.now) _ (over_budget c.args.tries) (rw is at e.within)
    (spent, (rw is at e.spent) refl, refl)
