use Rattle.std.proofs.Common.{◌∙◌, subst, sym}
use Rattle.hpr_syntax.specs.Tree.{Tree}
use Rattle.hpr_graph.specs.Numbered.{HasVertex, graph_in}
use Rattle.hpr_prune.specs.Programs.{BlockLeft, IsPruned, NamesLeft}
use Rattle.hpr_prune.proofs.Shapes.{is_program}
use Rattle.hpr_prune.proofs.Sliced.{listed_does}
use Rattle.hpr_prune.proofs.left.prune.Goals as goal

pub from_parts-requires : goal.from_parts-requires
from_parts-requires c =
    let V = HasVertex c.args.slice.now in
    is_program V c.args.program.now _ c.issued.ensures.program (record {
      issued = c.in_ok-issued.ensures ∙ c.issued.ensures.issued;
      body = subst (λ b. BlockLeft V b c.in_ok-body.body) c.body.ensures.body c.in_ok-body.ensures;
      finals = subst (λ xs. NamesLeft V xs c.in_ok-finals.finals.items) c.finals.ensures.finals c.in_ok-finals.ensures;
    })

pub returns-clause-does : goal.returns-clause-does
returns-clause-does c = λ is.
    let V = HasVertex c.args.slice.now in
    let left : IsPruned V c.args.program.now (record { issued = c.in_ok-issued.issued; body = c.in_ok-body.body; finals = c.in_ok-finals.finals.items }) = record {
      issued = c.in_ok-issued.ensures ∙ c.issued.ensures.issued;
      body = subst (λ b. BlockLeft V b c.in_ok-body.body) c.body.ensures.body c.in_ok-body.ensures;
      finals = subst (λ xs. NamesLeft V xs c.in_ok-finals.finals.items) c.finals.ensures.finals c.in_ok-finals.ensures;
    } in
    listed_does c.args.program.now c.from_parts.result (graph_in c.args.slice.now) c.issued.ensures.program is
    (subst (λ (q : Tree). IsPruned V c.args.program.now q) (sym c.from_parts.ensures) left)
