use Rattle.std.proofs.Common.{◌∙◌, List, ap, arith, length, length-append, subst, sym, take, ◌+◌}
use Rattle.std.proofs.lemmas.Result.{err_from_is_err_and}
use Rattle.hpr_io.specs.Files.{files_in}
use Rattle.hpr_syntax.specs.Tree.{Tree}
use Rattle.hpr_data.specs.Private.Comes.{AreAllTexts}
use Rattle.hpr_data.proofs.TextLemmas.{more_texts, named, text_fails_at}
use Rattle.hpr_data.proofs.texts.programs_named.Goals as goal

pub returns-in_err-program-clause-programs : goal.returns-in_err-program-clause-programs
returns-in_err-program-clause-programs c =
    let p = err_from_is_err_and c.from_residual.result c.from_residual.ensures.1 in
    let so_far = c.loop-name.invariant in
    rw (p.1, p.2) (text_fails_at (files_in c.args.files.now) c.args.names.now c.loop-name.name-index c.loop-name.programs.items so_far.read _ c.loop-name-test.true _ c.in_err-program.ensures)

pub loop-name-preserved : goal.loop-name-preserved
loop-name-preserved c =
    let so_far = c.loop-name.invariant in
    record {
      read = subst (AreAllTexts (files_in c.args.files.now) (take (c.loop-name.name-index + 1) (named c.args.names.now))) (sym {A = List Tree} c.in_ok-push_program.ensures)
          (more_texts (files_in c.args.files.now) c.args.names.now c.loop-name.name-index c.loop-name.programs.items so_far.read _ c.loop-name-test.true c.in_ok-program.program c.in_ok-program.ensures);
      count = (let more = ap (λ (ps : List Tree). length ps) c.in_ok-push_program.ensures ∙ length-append c.loop-name.programs.items _ in let was = so_far.count in omega (arith, more, was));
      within = omega (arith, c.loop-name-test.true);
    }
