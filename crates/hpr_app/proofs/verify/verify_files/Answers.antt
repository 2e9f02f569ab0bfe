use Rattle.std.proofs.Common.{[], ◌∷◌}
use Rattle.std.proofs.lemmas.Result.{err_from_is_err_and}
use Rattle.hpr_app.specs.Private.VerifiedOf.{IsVerifiedOf}
use Rattle.hpr_inputs.proofs.AllFiles.{all_fail, past_all}
use Rattle.hpr_decisions.proofs.KindLemmas.{in_kind}
use Rattle.hpr_words.specs.Request.{verify}
use Rattle.hpr_app.proofs.VerifyLemmas.{verified_suits}
use Rattle.hpr_app.proofs.verify.verify_files.Goals as goal

pub returns-in_err-programs-clause-answers : goal.returns-in_err-programs-clause-answers
returns-in_err-programs-clause-answers g c =
    let p = err_from_is_err_and c.from_residual.result c.from_residual.ensures.1 in
    let names = c.args.base.now ∷ c.args.a.now ∷ c.args.b.now ∷ c.args.offered.now ∷ [] in
    rw (p.1, p.2) (all_fail (g.S.Shelf.files c.args.shelf.now) (g.S.Shelf.faults c.args.shelf.now) (g.S.Shelf.faults c.read_programs.new.shelf) names (IsVerifiedOf names) _ c.in_err-programs.ensures.reads)

pub returns-clause-answers : goal.returns-clause-answers
returns-clause-answers g c =
    let names = c.args.base.now ∷ c.args.a.now ∷ c.args.b.now ∷ c.args.offered.now ∷ [] in
    past_all (g.S.Shelf.files c.args.shelf.now) (g.S.Shelf.faults c.args.shelf.now) (g.S.Shelf.faults c.read_programs.new.shelf) names (IsVerifiedOf names) c.in_ok-programs.programs.items
    c.verify_programs.result c.in_ok-programs.ensures.reads.0 c.in_ok-programs.ensures.reads.1 (rw c.deref.ensures.value at c.verify_programs.ensures)

pub returns-clause-kind : goal.returns-clause-kind
returns-clause-kind g c =
    let base = c.args.base.now in
    let a = c.args.a.now in
    let b = c.args.b.now in
    let offered = c.args.offered.now in
    let names = base ∷ a ∷ b ∷ offered ∷ [] in
    let ps = c.deref.result.now in
    in_kind (verify base a b offered) (IsVerifiedOf names ps) (verified_suits base a b offered names ps) c.verify_programs.result c.verify_programs.ensures
