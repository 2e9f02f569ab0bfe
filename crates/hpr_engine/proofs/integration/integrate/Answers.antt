use Rattle.std.proofs.Common.{[], ◌∷◌, Err, ap}
use Rattle.hpr_syntax.specs.Tree.{Tree}
use Rattle.hpr_graph.specs.declared.conflict.Conflict.{Conflict}
use Rattle.hpr_graph.specs.Answer.{no_program, printed, spent}
use Rattle.hpr_rebuild.specs.declared.error.RebuildError.{RebuildError}
use Rattle.hpr_engine.proofs.PrintedKeeps.{printed_keeps}
use Rattle.hpr_engine.proofs.SplitOff.{found_for, leaves_of}
use Rattle.hpr_engine.proofs.Unsearched.{found_not_spent, memory_not_spent, none_not_spent}
use Rattle.hpr_engine.proofs.integration.integrate.Goals as goal

pub returns-in-Ok-clause-printed : goal.returns-in-Ok-clause-printed
returns-in-Ok-clause-printed c = (
  c.in_ok-graph.ensures.no_conflict,
  found_for Conflict c.args.base.now (c.args.a.now ∷ c.args.b.now ∷ []) c.in_ok-graph-2.field-0 c.deref.result.now c.deref.ensures.value c.args.tries (printed c.in-Ok.program)
      c.in_ok-graph-2.ensures.searched c.in-Ok.ensures.found,
)

pub returns-in-Err-NoProgram-clause-no_program : goal.returns-in-Err-NoProgram-clause-no_program
returns-in-Err-NoProgram-clause-no_program c = (
  c.in_ok-graph.ensures.no_conflict,
  found_for Conflict c.args.base.now (c.args.a.now ∷ c.args.b.now ∷ []) c.in_ok-graph-2.field-0 c.deref.result.now c.deref.ensures.value c.args.tries (no_program c.part_count.result)
      c.in_ok-graph-2.ensures.searched (c.in-Err-NoProgram.ensures.no_program (ap (λ (e : RebuildError). Err e) c.in-Err-NoProgram.field-0-is), c.part_count.ensures),
)

pub returns-in-Err-Spent-clause-spent : goal.returns-in-Err-Spent-clause-spent
returns-in-Err-Spent-clause-spent c = λ _. (
  c.in_ok-graph.ensures.no_conflict,
  found_for Conflict c.args.base.now (c.args.a.now ∷ c.args.b.now ∷ []) c.in_ok-graph-2.field-0 c.deref.result.now c.deref.ensures.value c.args.tries spent
      c.in_ok-graph-2.ensures.searched (c.in-Err-Spent.ensures.spent (ap (λ (e : RebuildError). Err e) c.in-Err-Spent.field-0-is)),
)

pub returns-in-Err-Spent-clause-leaves : goal.returns-in-Err-Spent-clause-leaves
returns-in-Err-Spent-clause-leaves c = λ _.
    leaves_of Conflict c.args.base.now (c.args.a.now ∷ c.args.b.now ∷ []) c.args.tries
    (found_for Conflict c.args.base.now (c.args.a.now ∷ c.args.b.now ∷ []) c.in_ok-graph-2.field-0 c.deref.result.now c.deref.ensures.value c.args.tries spent
    c.in_ok-graph-2.ensures.searched (c.in-Err-Spent.ensures.spent (ap (λ (e : RebuildError). Err e) c.in-Err-Spent.field-0-is)))

pub returns-in-Ok-clause-keeps : goal.returns-in-Ok-clause-keeps
returns-in-Ok-clause-keeps c =
    let base = c.args.base.now in
    let a = c.args.a.now in
    let b = c.args.b.now in
    let were = c.in_ok-graph-2.ensures in
    printed_keeps base a b c.args.tries c.in-Ok.program were.base were.a were.b
    (c.in_ok-graph.ensures.no_conflict, found_for Conflict base (a ∷ b ∷ []) c.in_ok-graph-2.field-0 c.deref.result.now c.deref.ensures.value c.args.tries (printed c.in-Ok.program) were.searched c.in-Ok.ensures.found)

pub returns-in-Ok-clause-spent : goal.returns-in-Ok-clause-spent
returns-in-Ok-clause-spent c = λ is. absurd (found_not_spent Tree c.in-Ok.program is)

pub returns-in-Ok-clause-leaves : goal.returns-in-Ok-clause-leaves
returns-in-Ok-clause-leaves c = λ is. absurd (found_not_spent Tree c.in-Ok.program is)

pub returns-in-Ok-clause-within : goal.returns-in-Ok-clause-within
returns-in-Ok-clause-within c = c.in_ok-graph.ensures.within

pub returns-in-Err-NoProgram-clause-spent : goal.returns-in-Err-NoProgram-clause-spent
returns-in-Err-NoProgram-clause-spent c = λ is. absurd (none_not_spent Tree c.part_count.result is)

pub returns-in-Err-NoProgram-clause-leaves : goal.returns-in-Err-NoProgram-clause-leaves
returns-in-Err-NoProgram-clause-leaves c = λ is. absurd (none_not_spent Tree c.part_count.result is)

pub returns-in-Err-NoProgram-clause-within : goal.returns-in-Err-NoProgram-clause-within
returns-in-Err-NoProgram-clause-within c = c.in_ok-graph.ensures.within

pub returns-in-Err-Spent-clause-within : goal.returns-in-Err-Spent-clause-within
returns-in-Err-Spent-clause-within c = c.in_ok-graph.ensures.within

pub returns-clause-spent : goal.returns-clause-spent
returns-clause-spent c = λ is. absurd (memory_not_spent Tree is)

pub returns-clause-leaves : goal.returns-clause-leaves
returns-clause-leaves c = λ is. absurd (memory_not_spent Tree is)
