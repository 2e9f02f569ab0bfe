use Rattle.std.proofs.Common.{◌∙◌, [], Bor, List, ℕ, ap, arith, length, length-append}
use Rattle.std.proofs.lemmas.Result.{err_from_is_err_and}
use Rattle.hpr_graph.specs.Numbered.{Numbered}
use Rattle.hpr_kit.proofs.ManyGraphs.{halts_at, next_graphs, next_made, next_whole}
use Rattle.hpr_kit.proofs.conflicts.graphs_for.Goals as goal

abbrev none : Bor (List ℕ)
none = record { ref_ptr = (0, 0); now = [] }

pub returns-in_err-graph-clause-makes : goal.returns-in_err-graph-clause-makes
returns-in_err-graph-clause-makes c =
    let e = err_from_is_err_and c.from_residual.result c.from_residual.ensures.1 in
    rw (e.1, e.2) (halts_at c.args.files.now c.args.programs.now c.loop-at.at c.loop-at.graphs.items none c.index-programs-at.result c.requires
    (omega (arith, c.requires, c.loop-at-test.true)) c.index-programs-at.is c.loop-at.invariant.made c.in_err-graph.field-0.0 c.in_err-graph.ensures)

pub loop-at-preserved : goal.loop-at-preserved
loop-at-preserved c =
    let graph = c.in_ok-graph.ensures in
    let so_far = c.loop-at.invariant in
    let more = c.in_ok-push_one.ensures in
    record {
      made = next_made c.args.programs.now c.loop-at.at c.loop-at.graphs.items _ c.index-programs-at.result c.in_ok-graph.graph (omega (arith, c.requires, c.loop-at-test.true)) c.index-programs-at.is so_far.made
          graph.0 graph.1 more;
      whole = next_whole c.loop-at.graphs.items _ c.in_ok-graph.graph c.index-programs-at.result so_far.whole c.body-body.ensures.program graph.0 more;
      programs = next_graphs c.args.programs.now c.loop-at.at c.loop-at.graphs.items _ c.index-programs-at.result c.in_ok-graph.graph (omega (arith, c.requires, c.loop-at-test.true)) c.index-programs-at.is
          so_far.programs (record { program = c.body-body.ensures.program; numbered = c.vertices-vertices.ensures.numbered; same = graph.0 }) more;
      count = (let now = ap (λ (gs : List Numbered). length gs) more ∙ length-append c.loop-at.graphs.items _ in let was = so_far.count in omega (arith, now, was));
      within = omega (arith, c.requires, c.loop-at-test.true);
    }
