use Rattle.std.proofs.Common.{List, map}
use Rattle.std.proofs.lemmas.Result.{err_from_is_err_and}
use Rattle.hpr_syntax.specs.Tree.{Tree}
use Rattle.hpr_inputs.specs.Decision.{Decision}
use Rattle.hpr_decisions.specs.IntegrateMany.{IntegratedMany}
use Rattle.hpr_app.proofs.ManyFiles.{base_fails, variants_fail, variants_read}
use Rattle.hpr_decisions.proofs.KindLemmas.{in_kind, integrate_many_suits}
use Rattle.hpr_words.specs.Request.{integrate_many}
use Rattle.hpr_app.proofs.integrate_many.integrate_many_files.Goals as goal

pub returns-in_err-base_program-clause-answers : goal.returns-in_err-base_program-clause-answers
returns-in_err-base_program-clause-answers g c =
    let p = err_from_is_err_and c.from_residual.result c.from_residual.ensures.1 in
    let base = c.args.base.now in
    let names = map (λ s. s.now) c.args.variants.now in
    rw (p.1, p.2) (base_fails (g.S.Shelf.files c.args.shelf.now) base names (λ (q : Tree) (qs : List Tree) (d : Decision). IntegratedMany base q names qs c.args.tries d)
    (g.S.Shelf.faults c.args.shelf.now) (g.S.Shelf.faults c.read_program.new.shelf) _ c.in_err-base_program.ensures.reads)

pub returns-in_err-programs-clause-answers : goal.returns-in_err-programs-clause-answers
returns-in_err-programs-clause-answers g c =
    let p = err_from_is_err_and c.from_residual-in_err-programs.result c.from_residual-in_err-programs.ensures.1 in
    let base = c.args.base.now in
    let names = map (λ s. s.now) c.args.variants.now in
    let read = c.in_ok-base_program.ensures in
    rw (p.1, p.2) (variants_fail (g.S.Shelf.files c.args.shelf.now) base names (λ (q : Tree) (qs : List Tree) (d : Decision). IntegratedMany base q names qs c.args.tries d)
    (g.S.Shelf.faults c.args.shelf.now) c.in_ok-base_program.base_program read.reads.0 (g.S.Shelf.faults c.read_programs.new.shelf)
    (g.S.Shelf.files c.read_program.new.shelf) (g.S.Shelf.faults c.read_program.new.shelf) read.same_files read.reads.1 _ c.in_err-programs.ensures.reads)

pub returns-clause-answers : goal.returns-clause-answers
returns-clause-answers g c =
    let base = c.args.base.now in
    let names = map (λ s. s.now) c.args.variants.now in
    let read = c.in_ok-base_program.ensures in
    variants_read (g.S.Shelf.files c.args.shelf.now) base names (λ (q : Tree) (qs : List Tree) (d : Decision). IntegratedMany base q names qs c.args.tries d)
    (g.S.Shelf.faults c.args.shelf.now) c.in_ok-base_program.base_program read.reads.0 (g.S.Shelf.faults c.read_programs.new.shelf)
    (g.S.Shelf.files c.read_program.new.shelf) (g.S.Shelf.faults c.read_program.new.shelf) read.same_files read.reads.1 c.in_ok-programs.programs.items c.integrate_programs.result
    c.in_ok-programs.ensures.reads.0 c.in_ok-programs.ensures.reads.1 (rw c.deref.ensures.value at c.integrate_programs.ensures)

pub returns-clause-kind : goal.returns-clause-kind
returns-clause-kind g c =
    let base = c.args.base.now in
    let names = map (λ s. s.now) c.args.variants.now in
    let p = c.in_ok-base_program.base_program in
    let ps = c.deref.result.now in
    in_kind (integrate_many base names c.args.tries) (IntegratedMany base p names ps c.args.tries) (integrate_many_suits base p names ps c.args.tries) c.integrate_programs.result
    c.integrate_programs.ensures
