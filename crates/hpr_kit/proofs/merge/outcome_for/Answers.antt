use Rattle.hpr_kit.proofs.Merging.{Clauses, clash_in, comes, comes_of, first_graph, other_graphs}
use Rattle.hpr_kit.proofs.merge.outcome_for.Goals as goal
use Rattle.std.proofs.Common.{◌-◌, List, drop, length, take}
use Rattle.hpr_syntax.specs.Tree.{Tree}

abbrev variants : List Tree → List Tree
variants ps = take (length ps - 1) (drop 1 ps)

pub merge_outcome-requires-clause-base : goal.merge_outcome-requires-clause-base
merge_outcome-requires-clause-base c =
    first_graph c.args.programs.now c.args.graphs.now c.index-programs-0.result c.index-graphs-0.result c.requires.least c.index-programs-0.is c.index-graphs-0.is c.requires.graphs

pub merge_outcome-requires-clause-graphs : goal.merge_outcome-requires-clause-graphs
merge_outcome-requires-clause-graphs c = other_graphs c.args.programs.now c.args.graphs.now c.requires.least c.requires.graphs

pub returns : goal.returns
returns c =
    let ps = c.args.programs.now in
    let base = c.index-programs-0.result in
    let o = c.in_ok-outcome.outcome in
    let told = c.in_ok-outcome.ensures in
    let clauses : Clauses base (variants ps) c.args.tries o =
    record {
      interference = told.interference;
      numbers = told.numbers;
      printed = told.printed;
      merged = told.merged;
      no_program = told.no_program;
      none = told.none;
      spent = told.spent;
      unfound = told.unfound;
    } in
    let come = comes base (variants ps) c.args.tries o clauses in
    record { comes = comes_of ps base c.args.tries o c.index-programs-0.is c.requires.least come; clash = clash_in base (variants ps) c.args.tries o come }
