use Rattle.std.proofs.Common.{◌∙◌}
use Rattle.std.proofs.lemmas.Result.{err_from_is_err_and}
use Rattle.hpr_io.specs.Files.{bytes_of}
use Rattle.hpr_refusals.specs.Refusals.{IsFileOf}
use Rattle.hpr_app.proofs.AffectedLemmas.{base_fails, a_fails, decided}
use Rattle.hpr_inputs.proofs.ReadLemmas.{told_same, fails_same}
use Rattle.hpr_decisions.proofs.KindLemmas.{in_kind, affected_suits}
use Rattle.hpr_words.specs.Request.{affected}
use Rattle.hpr_decisions.specs.AffectedFiles.{AffectedPoints}
use Rattle.hpr_app.proofs.affected.affected_files.Goals as goal

pub returns-in_err-base_program-clause-answers : goal.returns-in_err-base_program-clause-answers
returns-in_err-base_program-clause-answers g c =
    let p = err_from_is_err_and c.from_residual.result c.from_residual.ensures.1 in
    rw (p.1, p.2) (base_fails (g.S.Shelf.files c.args.shelf.now) c.args.base.now c.args.a.now
    (g.S.Shelf.faults c.args.shelf.now) (g.S.Shelf.faults c.read_program.new.shelf) _ (c.in_err-base_program.ensures.reads))

pub returns-in_err-a_program-clause-answers : goal.returns-in_err-a_program-clause-answers
returns-in_err-a_program-clause-answers g c =
    let p = err_from_is_err_and c.from_residual-in_err-a_program.result c.from_residual-in_err-a_program.ensures.1 in
    let base = c.in_ok-base_program.ensures in
    let told = g.S.Shelf.files c.args.shelf.now in
    let name = c.args.a.now in
    rw (p.1, p.2) (a_fails told c.args.base.now name
    (g.S.Shelf.faults c.args.shelf.now) (g.S.Shelf.faults c.read_program-2.new.shelf) (g.S.Shelf.faults c.read_program.new.shelf)
    c.in_ok-base_program.base_program _ base.reads.0 base.reads.1
    (fails_same told (g.S.Shelf.files c.read_program.new.shelf) name _ _ _ base.same_files c.in_err-a_program.ensures.reads))

pub returns-clause-answers : goal.returns-clause-answers
returns-clause-answers g c =
    let base = c.in_ok-base_program.ensures in
    let a = c.in_ok-a_program.ensures in
    let told = g.S.Shelf.files c.args.shelf.now in
    decided told c.args.base.now c.args.a.now (g.S.Shelf.faults c.args.shelf.now) (g.S.Shelf.faults c.read_program-2.new.shelf)
    c.in_ok-base_program.base_program c.in_ok-a_program.a_program c.show_affected.result base.reads.0
    (told_same told (g.S.Shelf.files c.read_program.new.shelf) (λ fs. IsFileOf (bytes_of fs c.args.a.now) c.in_ok-a_program.a_program) base.same_files a.reads.0)
    (a.reads.1 ∙ base.reads.1)
    c.show_affected.ensures

pub returns-clause-kind : goal.returns-clause-kind
returns-clause-kind g c =
    let base = c.args.base.now in
    let a = c.args.a.now in
    let p = c.in_ok-base_program.base_program in
    let q = c.in_ok-a_program.a_program in
    in_kind (affected base a) (AffectedPoints base p a q) (affected_suits base p a q) c.show_affected.result c.show_affected.ensures
