use Rattle.std.proofs.lemmas.Result.{IfOk-weaker}
use Rattle.hpr_graph.specs.Numbered.{graph_in}
use Rattle.hpr_decisions.proofs.GraphLemmas.{slice_shown_same}
use Rattle.hpr_app.proofs.slice.slice_text.Goals as goal

pub returns : goal.returns
returns c =
    IfOk-weaker c.shown.result _ _ (λ text h. slice_shown_same c.args.as_program c.args.program.now (graph_in c.in_ok-part.part) _ text.items c.in_ok-part.ensures h) c.shown.ensures
