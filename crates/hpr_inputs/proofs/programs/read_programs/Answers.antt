use Rattle.std.proofs.Common.{◌∙◌, IsTrue, List, ap, arith, length, length-append, subst, sym}
use Rattle.std.proofs.lemmas.Result.{err_from_is_err_and}
use Rattle.hpr_io.specs.Files.{bytes_of}
use Rattle.hpr_syntax.specs.Tree.{Tree}
use Rattle.hpr_refusals.specs.Refusals.{IsFileOf}
use Rattle.hpr_inputs.specs.ReadsAll.{AreAllFilesOf}
use Rattle.hpr_inputs.proofs.AllFiles.{more_read, read_fails_at, served_at}
use Rattle.hpr_inputs.proofs.ReadLemmas.{fails_from, fails_same, told_same}
use Rattle.hpr_inputs.proofs.programs.read_programs.Goals as goal

pub read_program-requires : goal.read_program-requires
read_program-requires g c =
    subst IsTrue (sym (c.loop-file.invariant.same_names _)) (served_at (g.S.Shelf.serves c.args.shelf.now) c.args.files.now c.loop-file.file-index _ c.loop-file-test.true c.requires)

pub returns-in_err-program-clause-reads : goal.returns-in_err-program-clause-reads
returns-in_err-program-clause-reads g c =
    let p = err_from_is_err_and c.from_residual.result c.from_residual.ensures.1 in
    let told = g.S.Shelf.files c.args.shelf.now in
    let before = g.S.Shelf.faults c.args.shelf.now in
    let then = g.S.Shelf.faults c.loop-file.shelf in
    let now = g.S.Shelf.faults c.read_program.new.shelf in
    rw (p.1, p.2) (read_fails_at told c.args.files.now c.loop-file.file-index c.loop-file.programs.items c.loop-file.invariant.read _ c.loop-file-test.true before now _
    (fails_from told _ before then now _ c.loop-file.invariant.same_count
    (fails_same told (g.S.Shelf.files c.loop-file.shelf) _ then now _ c.loop-file.invariant.same_files c.in_err-program.ensures.reads)))

pub loop-file-preserved : goal.loop-file-preserved
loop-file-preserved g c =
    let told = g.S.Shelf.files c.args.shelf.now in
    let file = c.in_ok-program.ensures in
    let so_far = c.loop-file.invariant in
    record {
      read = λ fs t. subst (AreAllFilesOf fs _) (sym {A = List Tree} c.in_ok-push_program.ensures)
          (more_read told c.args.files.now c.loop-file.file-index c.loop-file.programs.items so_far.read _ c.loop-file-test.true c.in_ok-program.program
          (told_same told (g.S.Shelf.files c.loop-file.shelf) (λ gs. IsFileOf (bytes_of gs _) c.in_ok-program.program) so_far.same_files file.reads.0) fs t);
      count = (let more = ap (λ (ps : List Tree). length ps) c.in_ok-push_program.ensures ∙ length-append c.loop-file.programs.items _ in let was = so_far.count in omega (arith, more, was));
      within = omega (arith, c.loop-file-test.true);
      same_files = file.same_files ∙ so_far.same_files;
      same_names = λ n. file.same_names n ∙ so_far.same_names n;
      same_count = file.reads.1 ∙ so_far.same_count;
    }

pub returns-clause-count : goal.returns-clause-count
returns-clause-count g c =
    let was = c.loop-file.invariant.count in
    let within = c.loop-file.invariant.within in
    let past = c.loop-file-test.false in
    omega (arith, was, within, past)
