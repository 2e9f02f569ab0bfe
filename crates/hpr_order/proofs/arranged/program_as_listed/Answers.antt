use Rattle.std.proofs.Common.{length, sym, subst, ◌∙◌}
use Rattle.std.proofs.lemmas.Result.{IfOk-weaker}
use Rattle.hpr_syntax.specs.Shape.{IsProgram}
use Rattle.hpr_graph.specs.Numbered.{graph_in}
use Rattle.hpr_order.specs.Arranging.{AreFirstNumbers}
use Rattle.hpr_order.specs.Numbers.{AreFinals}
use Rattle.hpr_order.proofs.Coming.{numbers_once, numbers_within}
use Rattle.hpr_order.proofs.arranged.program_as_listed.Goals as goal

pub program_in-requires-clause-order : goal.program_in-requires-clause-order
program_in-requires-clause-order c =
    let finals : AreFinals (graph_in c.args.graph.now) c.deref-2.result.now = subst (AreFinals (graph_in c.args.graph.now)) (sym c.deref-2.ensures.value) c.in_ok-finals.ensures in
    let first : AreFirstNumbers (length c.args.items.now) c.deref.result.now = subst (AreFirstNumbers (length c.args.items.now)) (sym c.deref.ensures.value) c.in_ok-places.ensures in
    let (p, program, made) = c.requires.made in
    record {
      once = numbers_once (length c.args.items.now) c.deref.result.now first;
      within = numbers_within (length c.args.items.now) c.deref.result.now first;
      program = subst IsProgram (sym (made c.deref-2.result.now c.deref.result.now finals first)) program;
    }

pub returns : goal.returns
returns c =
    let finals : AreFinals (graph_in c.args.graph.now) c.deref-2.result.now = subst (AreFinals (graph_in c.args.graph.now)) (sym c.deref-2.ensures.value) c.in_ok-finals.ensures in
    let first : AreFirstNumbers (length c.args.items.now) c.deref.result.now = subst (AreFirstNumbers (length c.args.items.now)) (sym c.deref.ensures.value) c.in_ok-places.ensures in
    IfOk-weaker c.program_in.result _ _ (λ m e p made. e ∙ made c.deref-2.result.now c.deref.result.now finals first) c.program_in.ensures
