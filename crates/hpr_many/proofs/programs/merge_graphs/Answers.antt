use Rattle.std.proofs.Common.{arith}
use Rattle.std.proofs.lemmas.List.{nil_from_length}
use Rattle.hpr_graph.specs.Numbered.{graph_in, graphs_in}
use Rattle.hpr_many.proofs.Refused.{none_told}
use Rattle.hpr_many.proofs.programs.merge_graphs.Goals as goal

pub returns-then-is_empty-clause-merged : goal.returns-then-is_empty-clause-merged
returns-then-is_empty-clause-merged c =
    let cs = c.in_ok-merged.merged.conflicts.items in
    record {
      numbered = c.vertices-vertices.ensures.numbered;
      same = c.in_ok-merged.ensures.graph;
      free = none_told (graph_in c.args.base.now) (graphs_in c.args.variants.now) cs
          (nil_from_length cs (grind (arith, c.is_empty.ensures, c.if-is_empty.true))) c.in_ok-merged.ensures.conflicts;
    }
