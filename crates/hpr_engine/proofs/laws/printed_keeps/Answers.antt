use Rattle.std.proofs.Common.{ℕ, length}
use Rattle.hpr_graph.specs.declared.edge.Edge.{Edge}
use Rattle.hpr_graph.specs.declared.vertex.Vertex.{Vertex}
use Rattle.hpr_graph.specs.Answer.{graphs_of}
use Rattle.hpr_engine.proofs.PrintedKeeps.{printed_keeps, printed_keeps_by, triples_tell}
use Rattle.hpr_engine.proofs.laws.printed_keeps.Goals as goal

pub returns-clause-all : goal.returns-clause-all
returns-clause-all c = λ base vs tries m is all answer.
    printed_keeps_by {X = ℕ × Vertex × Edge} (λ t. t) base vs (triples_tell (length (graphs_of vs))) tries m is all answer

pub returns-clause-two : goal.returns-clause-two
returns-clause-two c = printed_keeps
