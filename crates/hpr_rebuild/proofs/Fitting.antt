-- A program whose graph has more edges than another graph hasn't that graph.
use Rattle.std.proofs.Common.{ℕ, arith}
use Rattle.hpr_syntax.specs.Tree.{Tree}
use Rattle.hpr_graph.specs.Graphs.{Graph, Same, HasEdges, HasMoreEdges}
use Rattle.hpr_graph.specs.ProgramGraph.{graph_of}
use Rattle.hpr_graph.specs.Answer.{Fits}
use Rattle.hpr_graph.proofs.Laws.{same_turned, same_then, no_more_edges}

pub fits_by_same : (g own : Graph) (p : Tree) → Same own (graph_of p) → Same own g → Fits g p
fits_by_same g own p is same = same_then (graph_of p) own g (same_turned own (graph_of p) is) same

pub same_by_fits : (g own : Graph) (p : Tree) → Same own (graph_of p) → Fits g p → Same own g
same_by_fits g own p is fits = same_then own (graph_of p) g is fits

pub misfit_by_count : (g : Graph) (p : Tree) (n : ℕ) → HasEdges g n → HasMoreEdges (graph_of p) n → ¬ Fits g p
misfit_by_count g p n has more fits = no_more_edges g (graph_of p) n n (λ e h. (fits.1 e).0 h) has (omega arith) more
