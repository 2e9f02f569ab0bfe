use Rattle.std.proofs.lemmas.Result.{err_from_is_err_and}
use Rattle.hpr_syntax.specs.Tree.{Tree}
use Rattle.hpr_inputs.specs.Decision.{Decision}
use Rattle.hpr_decisions.specs.Integrate.{Integrated}
use Rattle.hpr_inputs.proofs.VersionLemmas.{files_fail, past_files}
use Rattle.hpr_decisions.proofs.KindLemmas.{in_kind, integrate_suits}
use Rattle.hpr_words.specs.Request.{integrate}
use Rattle.hpr_app.proofs.integrate.integrate_files.Goals as goal

pub returns-in_err-versions-clause-answers : goal.returns-in_err-versions-clause-answers
returns-in_err-versions-clause-answers g c =
    let p = err_from_is_err_and c.from_residual.result c.from_residual.ensures.1 in
    let base = c.args.base.now in
    let a = c.args.a.now in
    let b = c.args.b.now in
    rw (p.1, p.2) (files_fail (g.S.Shelf.files c.args.shelf.now) base a b (λ (p q s : Tree) (d : Decision). Integrated base p a q b s c.args.tries d)
    (g.S.Shelf.faults c.args.shelf.now) (g.S.Shelf.faults c.read_versions.new.shelf) _ c.in_err-versions.ensures.reads)

pub returns-clause-answers : goal.returns-clause-answers
returns-clause-answers g c =
    let base = c.args.base.now in
    let a = c.args.a.now in
    let b = c.args.b.now in
    past_files (g.S.Shelf.files c.args.shelf.now) base a b (λ (p q s : Tree) (d : Decision). Integrated base p a q b s c.args.tries d)
    (g.S.Shelf.faults c.args.shelf.now) (g.S.Shelf.faults c.read_versions.new.shelf) c.in_ok-versions.versions c.integrate_versions.result
    c.in_ok-versions.ensures.reads.0 c.in_ok-versions.ensures.reads.1 c.integrate_versions.ensures

pub returns-clause-kind : goal.returns-clause-kind
returns-clause-kind g c =
    let base = c.args.base.now in
    let a = c.args.a.now in
    let b = c.args.b.now in
    let v = c.in_ok-versions.versions in
    in_kind (integrate base a b c.args.tries) (Integrated base v.base a v.a b v.b c.args.tries) (integrate_suits base v.base a v.a b v.b c.args.tries) c.integrate_versions.result
    c.integrate_versions.ensures
