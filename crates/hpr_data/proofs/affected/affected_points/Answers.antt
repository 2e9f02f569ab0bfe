use Rattle.std.proofs.lemmas.Result.{err_from_is_err_and}
use Rattle.hpr_io.specs.Files.{files_in}
use Rattle.hpr_syntax.specs.Tree.{Tree}
use Rattle.hpr_data.specs.Findings.{AffectedBetween, Finding, OnText}
use Rattle.hpr_data.proofs.TextLemmas.{past_text, stop_behind, text_fails}
use Rattle.hpr_data.proofs.affected.affected_points.Goals as goal

pub returns-in_err-a_program : goal.returns-in_err-a_program
returns-in_err-a_program c =
    let e = err_from_is_err_and c.from_residual-in_err-a_program.result c.from_residual-in_err-a_program.ensures.1 in
    let files = files_in c.args.files.now in
    let base = c.args.base.now in
    let a = c.args.a.now in
    let p = c.in_ok-base_program.base_program in
    rw (e.1, e.2) (stop_behind files base (λ (p : Tree) (f : Finding). OnText files a (λ q. AffectedBetween base p a q f) f) p _ c.in_ok-base_program.ensures
    (text_fails files a (λ (q : Tree) (f : Finding). AffectedBetween base p a q f) _ c.in_err-a_program.ensures))

pub returns : goal.returns
returns c =
    let files = files_in c.args.files.now in
    let base = c.args.base.now in
    let a = c.args.a.now in
    let p = c.in_ok-base_program.base_program in
    past_text files base (λ (p : Tree) (f : Finding). OnText files a (λ q. AffectedBetween base p a q f) f) p c.affected_between.result c.in_ok-base_program.ensures
    (past_text files a (λ (q : Tree) (f : Finding). AffectedBetween base p a q f) c.in_ok-a_program.a_program c.affected_between.result c.in_ok-a_program.ensures c.affected_between.ensures)
