use Rattle.std.proofs.Common.{map}
use Rattle.std.proofs.lemmas.Result.{err_from_is_err_and}
use Rattle.hpr_io.specs.Files.{files_in}
use Rattle.hpr_syntax.specs.Tree.{Tree}
use Rattle.hpr_data.specs.Findings.{Finding, Integrated, OnAllTexts}
use Rattle.hpr_data.proofs.TextLemmas.{all_fail, past_all, past_text, stop_behind}
use Rattle.hpr_data.proofs.integrate.integrated.Goals as goal

pub returns-in_err-programs : goal.returns-in_err-programs
returns-in_err-programs c =
    let e = err_from_is_err_and c.from_residual-in_err-programs.result c.from_residual-in_err-programs.ensures.1 in
    let files = files_in c.args.files.now in
    let base = c.args.base.now in
    let names = map (λ s. s.now) c.args.names.now in
    let next = λ (p : Tree) (f : Finding). OnAllTexts files names (λ ps. Integrated base p names ps c.args.tries f) f in
    let p = c.in_ok-program.program in
    rw (e.1, e.2) (stop_behind files base next p _ c.in_ok-program.ensures (all_fail files names (λ ps f. Integrated base p names ps c.args.tries f) _ c.in_err-programs.ensures.programs))

pub returns : goal.returns
returns c =
    let files = files_in c.args.files.now in
    let base = c.args.base.now in
    let names = map (λ s. s.now) c.args.names.now in
    let next = λ (p : Tree) (f : Finding). OnAllTexts files names (λ ps. Integrated base p names ps c.args.tries f) f in
    let p = c.in_ok-program.program in
    past_text files base next p c.answered.result c.in_ok-program.ensures
    (past_all files names (λ ps f. Integrated base p names ps c.args.tries f) c.in_ok-programs.programs.items c.answered.result c.in_ok-programs.ensures.programs
    (rw c.deref.ensures.value at c.answered.ensures))
