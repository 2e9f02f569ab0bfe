use Rattle.std.proofs.Common.{◌≡◌, ◌∙◌, ◌↔◌, Some, List, Contains, length, sym, ap, subst, arith}
use Rattle.hpr_graph.specs.declared.vertex.Vertex.{Vertex}
use Rattle.hpr_graph.specs.declared.link.Link.{Link}
use Rattle.hpr_graph.specs.Numbered.{HasLink}
use Rattle.hpr_graph.specs.Moves.{ArePlaced, number_at}
use Rattle.hpr_graph.proofs.Moving.{rows_begun, rows_more, rows_past, rows_whole, known_more, known_past}
use Rattle.hpr_graph.proofs.sets.add_edges.Goals as goal
use Rattle.hpr_graph.proofs.sets.add_edges.Goals.{in-Some+in_ok-add_row, in_default}

pub add_row-requires-clause-known : goal.add_row-requires-clause-known
add_row-requires-clause-known c = λ l.
    let number : number_at c.args.numbers.now c.loop-at.at ≡ Some c.in-Some.to = sym c.number_at.ensures ∙ c.in-Some.is in
    subst (λ (row : List Link). Contains row l ↔ HasLink c.loop-at.target c.in-Some.to l) (sym c.row_at.ensures.row)
    (c.loop-at.invariant.known c.loop-at.at c.in-Some.to l (omega arith) number)

pub loop-at-init : goal.loop-at-init
loop-at-init c = record {
  moved = rows_begun c.args.source.now c.args.numbers.now c.args.target.now;
  known = λ i to l later number. c.requires.known to l;
}

pub loop-at-preserved : goal.loop-at-preserved
loop-at-preserved c =
    let placed : ArePlaced c.args.source.now.vertices c.args.numbers.now c.loop-at.target.vertices =
    subst (λ (us : List Vertex). ArePlaced c.args.source.now.vertices c.args.numbers.now us) (sym c.loop-at.invariant.moved.vertices) c.requires.placed in
    elim c.match-number_at.branch [
      | in-Some+in_ok-add_row w ↦
          rw w.target-is (record {
            moved = rows_more c.args.source.now c.args.numbers.now c.args.target.now c.loop-at.target c.loop-at.at c.loop-at.invariant.moved w.add_row.new.target w.in_ok-add_row.ensures.vertices w.in_ok-add_row.ensures.edges;
            known = known_more c.args.source.now c.args.known.now c.loop-at.target w.add_row.new.target c.args.numbers.now c.loop-at.at w.in-Some.to c.vertices-at-end.ensures.numbered.once placed
                (sym c.number_at.ensures ∙ w.in-Some.is) w.in_ok-add_row.ensures.elsewhere c.loop-at.invariant.known;
          })
      | in_default w ↦
          rw w.target-is (record {
            moved = rows_past c.args.source.now c.args.numbers.now c.args.target.now c.loop-at.target c.loop-at.at c.loop-at.invariant.moved (sym c.number_at.ensures ∙ w.in_default.is);
            known = known_past c.args.known.now c.loop-at.target c.args.numbers.now c.loop-at.at c.loop-at.invariant.known;
          })
    ]

pub returns-clause-edges : goal.returns-clause-edges
returns-clause-edges c =
    let all : length c.vertices-at-end.result.now ≡ length c.args.source.now.vertices = ap length c.vertices-at-end.ensures.vertices in
    rows_whole c.args.source.now c.args.numbers.now c.args.target.now c.loop-at.target c.loop-at.at c.loop-at.invariant.moved (omega (arith, all, c.loop-at-test.false))
