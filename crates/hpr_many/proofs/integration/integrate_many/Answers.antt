use Rattle.std.proofs.Common.{◌≡◌, ◌≤◌, ◌∷◌, ℕ, List, Contains, Err, ap, length, map}
use Rattle.std.specs.Result.{IsErrAnd}
use Rattle.std.proofs.lemmas.Result.{IfOk-from_err}
use Rattle.hpr_graph.specs.declared.conflict.ManyConflict.{ManyConflict}
use Rattle.hpr_graph.specs.declared.edge.Edge.{Edge}
use Rattle.hpr_graph.specs.declared.vertex.Vertex.{Vertex}
use Rattle.hpr_graph.specs.Answer.{interference, no_program, printed, spent, graphs_of, IsAnswerBy}
use Rattle.hpr_graph.specs.Conflicts.{AreConflictsBy, told_many}
use Rattle.hpr_graph.specs.Numbered.{Numbered}
use Rattle.hpr_graph.specs.ProgramGraph.{graph_of}
use Rattle.hpr_syntax.specs.Tree.{Tree}
use Rattle.hpr_rebuild.specs.declared.error.RebuildError.{RebuildError}
use Rattle.hpr_engine.proofs.PrintedKeeps.{printed_keeps_by, triples_tell}
use Rattle.hpr_engine.proofs.SplitOff.{found_for, leaves_of}
use Rattle.hpr_engine.specs.Limit.{AreAllInLimit, IsFirstTooLargeOf}
use Rattle.hpr_meaning.specs.KeptLaw.{KeepsAll}
use Rattle.hpr_many.specs.Answers.{IfManyInterference, IfManyJudged, IfManyTooManyEdges}
use Rattle.hpr_many.specs.declared.stop.ManyStop.{ManyStop}
use Rattle.hpr_many.specs.declared.stop.ManyStop.TheVariants.{Memory}
use Rattle.hpr_many.proofs.Refused.{at_refusal, interference_passed, interference_told, judged_passed, never_spent, no_program_named, no_program_unspent, program_unspent, too_many_passed, unspent}
use Rattle.hpr_many.proofs.integration.integrate_many.Goals as goal

pub merge_all_programs-requires-clause-least : goal.merge_all_programs-requires-clause-least
merge_all_programs-requires-clause-least c = c.requires.least

pub merge_all_programs-requires-clause-most : goal.merge_all_programs-requires-clause-most
merge_all_programs-requires-clause-most c = c.requires.most

pub returns-in_err-graph : goal.returns-in_err-graph
returns-in_err-graph c =
    let base = c.args.base.now in
    let vs = c.args.variants.now in
    let r = c.from_residual.result in
    let e : ManyStop = c.in_err-graph.field-0.0 in
    let is : IsErrAnd r (λ y. y ≡ e) = c.from_residual.ensures.1 in
    let told = c.in_err-graph.ensures in
    record {
      printed = IfOk-from_err r (λ m. IsAnswerBy {X = ℕ × Vertex × Edge} (λ t. t) base vs c.args.tries (printed m)) c.from_residual.ensures.0;
      interference = at_refusal Tree r e is (λ s. IfManyInterference s (λ cs. IsAnswerBy {X = ℕ × Vertex × Edge} (λ t. t) base vs c.args.tries (interference (map told_many cs))))
          (interference_told Numbered Tree e (λ (ts : List (ℕ × Vertex × Edge)). AreConflictsBy {X = ℕ × Vertex × Edge} (λ t. t) (graph_of base) (graphs_of vs) ts) told.conflicts told.interferes);
      numbers = at_refusal Tree r e is (λ s. IfManyInterference s (λ cs. (d : ManyConflict) → Contains cs d → 1 ≤ d.variant)) (interference_passed Numbered Tree e (λ cs. (d : ManyConflict) → Contains cs d → 1 ≤ d.variant) told.numbers);
      no_program = no_program_named Tree r e is (λ n. IsAnswerBy {X = ℕ × Vertex × Edge} (λ t. t) base vs c.args.tries (no_program n)) told.unsearched;
      spent = λ is_spent. absurd (unspent Tree r e is told.unsearched is_spent);
      leaves = λ is_spent. absurd (unspent Tree r e is told.unsearched is_spent);
      keeps = IfOk-from_err r (λ m. KeepsAll base vs m) c.from_residual.ensures.0;
      within = at_refusal Tree r e is (λ s. IfManyJudged s (AreAllInLimit (base ∷ vs))) (judged_passed Numbered Tree e (AreAllInLimit (base ∷ vs)) told.within);
      too_many = at_refusal Tree r e is (λ s. IfManyTooManyEdges s (IsFirstTooLargeOf (base ∷ vs))) (too_many_passed Numbered Tree e (IsFirstTooLargeOf (base ∷ vs)) (IsFirstTooLargeOf (base ∷ vs)) (λ n h. h) told.too_many);
    }

pub searched_for_all-requires-clause-graph : goal.searched_for_all-requires-clause-graph
searched_for_all-requires-clause-graph c = c.in_ok-graph.ensures.graph

pub returns-in_err-graph-2 : goal.returns-in_err-graph-2
returns-in_err-graph-2 c =
    let base = c.args.base.now in
    let vs = c.args.variants.now in
    let r = c.from_residual-in_err-graph-2.result in
    let e : ManyStop = Memory in
    let is : IsErrAnd r (λ y. y ≡ e) = c.from_residual-in_err-graph-2.ensures.1 in
    record {
      printed = IfOk-from_err r (λ m. IsAnswerBy {X = ℕ × Vertex × Edge} (λ t. t) base vs c.args.tries (printed m)) c.from_residual-in_err-graph-2.ensures.0;
      interference = at_refusal Tree r e is (λ s. IfManyInterference s (λ cs. IsAnswerBy {X = ℕ × Vertex × Edge} (λ t. t) base vs c.args.tries (interference (map told_many cs))))
          tt;
      numbers = at_refusal Tree r e is (λ s. IfManyInterference s (λ cs. (d : ManyConflict) → Contains cs d → 1 ≤ d.variant)) tt;
      no_program = no_program_named Tree r e is (λ n. IsAnswerBy {X = ℕ × Vertex × Edge} (λ t. t) base vs c.args.tries (no_program n)) tt;
      spent = λ is_spent. absurd (unspent Tree r e is tt is_spent);
      leaves = λ is_spent. absurd (unspent Tree r e is tt is_spent);
      keeps = IfOk-from_err r (λ m. KeepsAll base vs m) c.from_residual-in_err-graph-2.ensures.0;
      within = at_refusal Tree r e is (λ s. IfManyJudged s (AreAllInLimit (base ∷ vs))) tt;
      too_many = at_refusal Tree r e is (λ s. IfManyTooManyEdges s (IsFirstTooLargeOf (base ∷ vs))) tt;
    }

pub rebuild-requires-clause-rank : goal.rebuild-requires-clause-rank
rebuild-requires-clause-rank c = rw c.deref.ensures.value c.in_ok-graph-2.ensures.ranking

pub rebuild-requires-clause-issued : goal.rebuild-requires-clause-issued
rebuild-requires-clause-issued c = c.in_ok-graph-2.ensures.issued

pub rebuild-requires-clause-tries : goal.rebuild-requires-clause-tries
rebuild-requires-clause-tries c = c.requires.tries

pub returns-in-Ok-clause-printed : goal.returns-in-Ok-clause-printed
returns-in-Ok-clause-printed c = (
  c.in_ok-graph.ensures.no_conflict,
  found_for (ℕ × Vertex × Edge) c.args.base.now c.args.variants.now c.in_ok-graph-2.field-0 c.deref.result.now c.deref.ensures.value c.args.tries (printed c.in-Ok.program)
      c.in_ok-graph-2.ensures.searched c.in-Ok.ensures.found,
)

pub returns-in-Ok-clause-interference : goal.returns-in-Ok-clause-interference
returns-in-Ok-clause-interference c = tt

pub returns-in-Ok-clause-numbers : goal.returns-in-Ok-clause-numbers
returns-in-Ok-clause-numbers c = tt

pub returns-in-Ok-clause-no_program : goal.returns-in-Ok-clause-no_program
returns-in-Ok-clause-no_program c = tt

pub returns-in-Ok-clause-spent : goal.returns-in-Ok-clause-spent
returns-in-Ok-clause-spent c = λ is. absurd (program_unspent Tree c.in-Ok.program is)

pub returns-in-Ok-clause-leaves : goal.returns-in-Ok-clause-leaves
returns-in-Ok-clause-leaves c = λ is. absurd (program_unspent Tree c.in-Ok.program is)

pub returns-in-Ok-clause-keeps : goal.returns-in-Ok-clause-keeps
returns-in-Ok-clause-keeps c =
    let base = c.args.base.now in
    let vs = c.args.variants.now in
    let were = c.in_ok-graph-2.ensures in
    printed_keeps_by {X = ℕ × Vertex × Edge} (λ t. t) base vs (triples_tell (length (graphs_of vs))) c.args.tries c.in-Ok.program were.base were.variants
    (c.in_ok-graph.ensures.no_conflict, found_for (ℕ × Vertex × Edge) base vs c.in_ok-graph-2.field-0 c.deref.result.now c.deref.ensures.value c.args.tries (printed c.in-Ok.program) were.searched c.in-Ok.ensures.found)

pub returns-in-Ok-clause-within : goal.returns-in-Ok-clause-within
returns-in-Ok-clause-within c = c.in_ok-graph.ensures.within

pub returns-in-Ok-clause-too_many : goal.returns-in-Ok-clause-too_many
returns-in-Ok-clause-too_many c = tt

pub returns-in-Err-NoProgram-clause-printed : goal.returns-in-Err-NoProgram-clause-printed
returns-in-Err-NoProgram-clause-printed c = tt

pub returns-in-Err-NoProgram-clause-interference : goal.returns-in-Err-NoProgram-clause-interference
returns-in-Err-NoProgram-clause-interference c = tt

pub returns-in-Err-NoProgram-clause-numbers : goal.returns-in-Err-NoProgram-clause-numbers
returns-in-Err-NoProgram-clause-numbers c = tt

pub returns-in-Err-NoProgram-clause-no_program : goal.returns-in-Err-NoProgram-clause-no_program
returns-in-Err-NoProgram-clause-no_program c = (
  c.in_ok-graph.ensures.no_conflict,
  found_for (ℕ × Vertex × Edge) c.args.base.now c.args.variants.now c.in_ok-graph-2.field-0 c.deref.result.now c.deref.ensures.value c.args.tries (no_program c.part_count.result)
      c.in_ok-graph-2.ensures.searched (c.in-Err-NoProgram.ensures.no_program (ap (λ (e : RebuildError). Err e) c.in-Err-NoProgram.field-0-is), c.part_count.ensures),
)

pub returns-in-Err-NoProgram-clause-spent : goal.returns-in-Err-NoProgram-clause-spent
returns-in-Err-NoProgram-clause-spent c = λ is. absurd (no_program_unspent Tree c.part_count.result is)

pub returns-in-Err-NoProgram-clause-leaves : goal.returns-in-Err-NoProgram-clause-leaves
returns-in-Err-NoProgram-clause-leaves c = λ is. absurd (no_program_unspent Tree c.part_count.result is)

pub returns-in-Err-NoProgram-clause-keeps : goal.returns-in-Err-NoProgram-clause-keeps
returns-in-Err-NoProgram-clause-keeps c = tt

pub returns-in-Err-NoProgram-clause-within : goal.returns-in-Err-NoProgram-clause-within
returns-in-Err-NoProgram-clause-within c = c.in_ok-graph.ensures.within

pub returns-in-Err-NoProgram-clause-too_many : goal.returns-in-Err-NoProgram-clause-too_many
returns-in-Err-NoProgram-clause-too_many c = tt

pub returns-in-Err-Spent-clause-printed : goal.returns-in-Err-Spent-clause-printed
returns-in-Err-Spent-clause-printed c = tt

pub returns-in-Err-Spent-clause-interference : goal.returns-in-Err-Spent-clause-interference
returns-in-Err-Spent-clause-interference c = tt

pub returns-in-Err-Spent-clause-numbers : goal.returns-in-Err-Spent-clause-numbers
returns-in-Err-Spent-clause-numbers c = tt

pub returns-in-Err-Spent-clause-no_program : goal.returns-in-Err-Spent-clause-no_program
returns-in-Err-Spent-clause-no_program c = tt

pub returns-in-Err-Spent-clause-spent : goal.returns-in-Err-Spent-clause-spent
returns-in-Err-Spent-clause-spent c = λ _. (
  c.in_ok-graph.ensures.no_conflict,
  found_for (ℕ × Vertex × Edge) c.args.base.now c.args.variants.now c.in_ok-graph-2.field-0 c.deref.result.now c.deref.ensures.value c.args.tries spent
      c.in_ok-graph-2.ensures.searched (c.in-Err-Spent.ensures.spent (ap (λ (e : RebuildError). Err e) c.in-Err-Spent.field-0-is)),
)

pub returns-in-Err-Spent-clause-leaves : goal.returns-in-Err-Spent-clause-leaves
returns-in-Err-Spent-clause-leaves c = λ _.
    leaves_of (ℕ × Vertex × Edge) c.args.base.now c.args.variants.now c.args.tries
    (found_for (ℕ × Vertex × Edge) c.args.base.now c.args.variants.now c.in_ok-graph-2.field-0 c.deref.result.now c.deref.ensures.value c.args.tries spent
    c.in_ok-graph-2.ensures.searched (c.in-Err-Spent.ensures.spent (ap (λ (e : RebuildError). Err e) c.in-Err-Spent.field-0-is)))

pub returns-in-Err-Spent-clause-keeps : goal.returns-in-Err-Spent-clause-keeps
returns-in-Err-Spent-clause-keeps c = tt

pub returns-in-Err-Spent-clause-within : goal.returns-in-Err-Spent-clause-within
returns-in-Err-Spent-clause-within c = c.in_ok-graph.ensures.within

pub returns-in-Err-Spent-clause-too_many : goal.returns-in-Err-Spent-clause-too_many
returns-in-Err-Spent-clause-too_many c = tt

pub returns-clause-printed : goal.returns-clause-printed
returns-clause-printed c = tt

pub returns-clause-interference : goal.returns-clause-interference
returns-clause-interference c = tt

pub returns-clause-numbers : goal.returns-clause-numbers
returns-clause-numbers c = tt

pub returns-clause-no_program : goal.returns-clause-no_program
returns-clause-no_program c = tt

pub returns-clause-spent : goal.returns-clause-spent
returns-clause-spent c = λ is. absurd (never_spent Tree Memory tt is)

pub returns-clause-leaves : goal.returns-clause-leaves
returns-clause-leaves c = λ is. absurd (never_spent Tree Memory tt is)

pub returns-clause-keeps : goal.returns-clause-keeps
returns-clause-keeps c = tt

pub returns-clause-within : goal.returns-clause-within
returns-clause-within c = tt

pub returns-clause-too_many : goal.returns-clause-too_many
returns-clause-too_many c = tt
