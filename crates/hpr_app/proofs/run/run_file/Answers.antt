use Rattle.std.proofs.Common.{Bor, List, ℕ, map, None, refl, ap, is_ok}
use Rattle.std.proofs.lemmas.Result.{err_from_is_err_and}
use Rattle.hpr_app.proofs.RunLemmas.{run_fails, run_shown}
use Rattle.hpr_decisions.proofs.KindLemmas.{in_kind, run_suits}
use Rattle.hpr_words.specs.Request.{run}
use Rattle.hpr_decisions.specs.RunFile.{Ran}
use Rattle.hpr_app.proofs.run.run_file.Goals as goal

pub returns-in_err-program-clause-answers : goal.returns-in_err-program-clause-answers
returns-in_err-program-clause-answers g c =
    let p = err_from_is_err_and c.from_residual-in_err-program.result c.from_residual-in_err-program.ensures.1 in
    let words = map (λ (w : Bor (List ℕ)). w.now) c.args.words.now in
    rw (p.1, p.2) (run_fails (g.S.Shelf.files c.args.shelf.now) c.args.file.now words c.args.steps c.args.trace c.in_ok-state.state c.in_ok-state.ensures
    (g.S.Shelf.faults c.args.shelf.now) (g.S.Shelf.faults c.read_program.new.shelf) _ c.in_err-program.ensures.reads)

pub returns-clause-answers : goal.returns-clause-answers
returns-clause-answers g c =
    let words = map (λ (w : Bor (List ℕ)). w.now) c.args.words.now in
    run_shown (g.S.Shelf.files c.args.shelf.now) c.args.file.now words c.args.steps c.args.trace c.in_ok-state.state c.in_ok-state.ensures
    (g.S.Shelf.faults c.args.shelf.now) (g.S.Shelf.faults c.read_program.new.shelf) c.in_ok-program.program c.run_program.result
    c.in_ok-program.ensures.reads.0 c.in_ok-program.ensures.reads.1 c.run_program.ensures

pub returns-clause-kind : goal.returns-clause-kind
returns-clause-kind g c =
    let file = c.args.file.now in
    let words = map (λ (w : Bor (List ℕ)). w.now) c.args.words.now in
    let p = c.in_ok-program.program in
    let state = c.in_ok-state.state in
    in_kind (run file words c.args.steps c.args.trace) (Ran p state c.args.steps c.args.trace) (run_suits file words p state c.args.steps c.args.trace) c.run_program.result
    c.run_program.ensures

-- a state that the words tell is no refused word

pub returns-in_err-program-clause-unread : goal.returns-in_err-program-clause-unread
returns-in_err-program-clause-unread g c = λ none. absurd (none None c.args.file.now (refl, ap is_ok c.in_ok-state.ensures))

pub returns-clause-unread : goal.returns-clause-unread
returns-clause-unread g c = λ none. absurd (none None c.args.file.now (refl, ap is_ok c.in_ok-state.ensures))
