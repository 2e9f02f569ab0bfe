use Rattle.std.proofs.Common.{Some, inl, inr, refl}
use Rattle.std.proofs.lemmas.Result.{err_from_is_err_and}
use Rattle.hprkit_words.specs.Ask.{affected}
use Rattle.hpr_located.specs.Sources.{standing_of}
use Rattle.hpr_kit.specs.Comes.{MayRead}
use Rattle.hpr_kit.specs.Graphs.{AreReasonsTold, OnGraph}
use Rattle.hpr_kit.proofs.GraphLemmas.{reasons_said}
use Rattle.hpr_kit.proofs.LoadLemmas.{of_second, second_halts}
use Rattle.hpr_kit.proofs.ReadLemmas.{spells_told}
use Rattle.hpr_kit.proofs.commands.affected_files.Goals as goal

pub returns-in_err-program-clause-halts : goal.returns-in_err-program-clause-halts
returns-in_err-program-clause-halts g c =
    let base = c.args.base.now in
    let variant = c.args.variant.now in
    let first = c.in_ok-base_program.ensures in
    let e = err_from_is_err_and c.from_residual-in_err-program.result c.from_residual-in_err-program.ensures.1 in
    rw (e.1, e.2) (second_halts (g.S.Shelf.files c.args.shelf.now) (MayRead (Some (affected base variant)) (g.S.Shelf.files c.args.shelf.now)) base c.in_ok-base_program.field-0-0.items c.in_ok-base_program.base_program
    (standing_of c.in_ok-base_program.field-0-2) _ (g.S.Shelf.faults c.load.new.shelf) first.loads.0 first.loads.1 (g.S.Shelf.files c.load.new.shelf) first.same_files variant
    (λ p q s a. OnGraph base p (λ h. OnGraph variant q (λ k. AreReasonsTold k h s a) a) a) _ c.in_err-program.field-0.0 (inr (spells_told _ base _ _ _ first.loads.0, inl refl)) c.in_err-program.ensures.loads)

pub returns-clause-halts : goal.returns-clause-halts
returns-clause-halts g c =
    let base = c.args.base.now in
    let variant = c.args.variant.now in
    let first = c.in_ok-base_program.ensures in
    of_second (g.S.Shelf.files c.args.shelf.now) (MayRead (Some (affected base variant)) (g.S.Shelf.files c.args.shelf.now)) base c.in_ok-base_program.field-0-0.items c.in_ok-base_program.base_program
    (standing_of c.in_ok-base_program.field-0-2) _ (g.S.Shelf.faults c.load.new.shelf) first.loads.0 first.loads.1 (g.S.Shelf.files c.load.new.shelf) first.same_files variant
    (λ p q s a. OnGraph base p (λ h. OnGraph variant q (λ k. AreReasonsTold k h s a) a) a) c.in_ok-program.field-0-0.items c.in_ok-program.program
    (standing_of c.in_ok-program.source) _ (λ a told. (reasons_said base c.in_ok-base_program.base_program variant c.in_ok-program.program (standing_of c.in_ok-program.source) a told).taken) c.in_ok-program.ensures.loads.0 c.in_ok-program.ensures.loads.1
    c.affected_reply.result c.affected_reply.ensures
