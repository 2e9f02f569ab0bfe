use Rattle.std.proofs.Common.{ℕ}
use Rattle.hpr_graph.specs.declared.edge.Edge.{Edge}
use Rattle.hpr_graph.specs.declared.vertex.Vertex.{Vertex}
use Rattle.hpr_engine.proofs.OneAnswer.{printed_fits, printed_fits_by}
use Rattle.hpr_engine.proofs.laws.printed_is_merged.Goals as goal

pub returns-clause-all : goal.returns-clause-all
returns-clause-all c = printed_fits_by {X = ℕ × Vertex × Edge} (λ t. t)

pub returns-clause-two : goal.returns-clause-two
returns-clause-two c = printed_fits
