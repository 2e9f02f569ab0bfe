use Rattle.std.proofs.Common.{Bor, List, ℕ, map, Err, None, refl, inl, ap, is_ok}
use Rattle.std.proofs.lemmas.Result.{err_from_is_err_and}
use Rattle.hpr_app.proofs.TrialLemmas.{Next, trial_decides}
use Rattle.hpr_inputs.proofs.VersionLemmas.{files_fail, past_files}
use Rattle.hpr_decisions.proofs.KindLemmas.{in_kind, trial_suits}
use Rattle.hpr_words.specs.Request.{trial}
use Rattle.hpr_decisions.specs.TrialFiles.{Tried}
use Rattle.hpr_app.proofs.trial.trial_files.Goals as goal

pub returns-in_err-versions-clause-answers : goal.returns-in_err-versions-clause-answers
returns-in_err-versions-clause-answers g c =
    let p = err_from_is_err_and c.from_residual-in_err-versions.result c.from_residual-in_err-versions.ensures.1 in
    let told = g.S.Shelf.files c.args.shelf.now in
    let base = c.args.base.now in
    let a = c.args.a.now in
    let b = c.args.b.now in
    let words = map (λ (w : Bor (List ℕ)). w.now) c.args.words.now in
    let state = c.in_ok-state.state in
    let is = c.in_ok-state.ensures in
    rw (p.1, p.2) (trial_decides told base a b words c.args.steps state is (g.S.Shelf.faults c.args.shelf.now) (g.S.Shelf.faults c.read_versions.new.shelf) (Err c.in_err-versions.field-0.0)
    (files_fail told base a b (Next told base a b words c.args.steps state is) (g.S.Shelf.faults c.args.shelf.now) (g.S.Shelf.faults c.read_versions.new.shelf) _ c.in_err-versions.ensures.reads))

pub returns-clause-answers : goal.returns-clause-answers
returns-clause-answers g c =
    let told = g.S.Shelf.files c.args.shelf.now in
    let base = c.args.base.now in
    let a = c.args.a.now in
    let b = c.args.b.now in
    let words = map (λ (w : Bor (List ℕ)). w.now) c.args.words.now in
    let state = c.in_ok-state.state in
    let is = c.in_ok-state.ensures in
    trial_decides told base a b words c.args.steps state is (g.S.Shelf.faults c.args.shelf.now) (g.S.Shelf.faults c.read_versions.new.shelf) c.try_versions.result
    (past_files told base a b (Next told base a b words c.args.steps state is) (g.S.Shelf.faults c.args.shelf.now) (g.S.Shelf.faults c.read_versions.new.shelf) c.in_ok-versions.versions c.try_versions.result
    c.in_ok-versions.ensures.reads.0 c.in_ok-versions.ensures.reads.1 c.try_versions.ensures)

pub returns-clause-kind : goal.returns-clause-kind
returns-clause-kind g c =
    let base = c.args.base.now in
    let a = c.args.a.now in
    let b = c.args.b.now in
    let words = map (λ (w : Bor (List ℕ)). w.now) c.args.words.now in
    let v = c.in_ok-versions.versions in
    let state = c.in_ok-state.state in
    in_kind (trial base a b words c.args.steps) (Tried base v.base a v.a b v.b state c.args.steps) (trial_suits base a b words c.args.steps v.base v.a v.b state) c.try_versions.result
    c.try_versions.ensures

-- a state that the words tell is no refused word

pub returns-in_err-versions-clause-unread : goal.returns-in_err-versions-clause-unread
returns-in_err-versions-clause-unread g c = λ none. absurd (none None c.args.base.now (inl refl, ap is_ok c.in_ok-state.ensures))

pub returns-clause-unread : goal.returns-clause-unread
returns-clause-unread g c = λ none. absurd (none None c.args.base.now (inl refl, ap is_ok c.in_ok-state.ensures))
