use Rattle.std.proofs.Common.{ℕ, ◌+◌, ◌↔◌, List, Contains, take, subst}
use Rattle.std.proofs.lemmas.List.{take_all}
use Rattle.hpr_terms.proofs.Facts.{taken_item}
use Rattle.hpr_search.specs.Marks.{IsMarked}
use Rattle.hpr_graph.specs.declared.vertex.Vertex.{Vertex}
use Rattle.hpr_located.specs.Sources.{standing_of}
use Rattle.hpr_impact.specs.Lines.{BeginsIn}
use Rattle.hpr_impact.proofs.LineMarks.{begins_more}
use Rattle.hpr_impact.proofs.marks.line_marks.Goals as goal

pub loop-vertex-preserved : goal.loop-vertex-preserved
loop-vertex-preserved c =
    let vs = c.args.vertices.now in
    let i = c.loop-vertex.vertex-index in
    let v = c.vertex-item.result in
    let taken = λ (w : Vertex). taken_item vs i v w c.loop-vertex-test.true c.vertex-item.is in
    begins_more (standing_of c.args.source.now) (take i vs) (take (i + 1) vs) v taken (IsMarked c.loop-vertex.marks.items) (IsMarked c.mark_place.new.marks.items) c.place.result c.place.ensures c.loop-vertex.invariant c.in_ok-mark_place.ensures

pub returns : goal.returns
returns c =
    let s = standing_of c.args.source.now in
    let marks = c.loop-vertex.marks.items in
    subst (λ (vs : List Vertex). (n : ℕ) → IsMarked marks n ↔ BeginsIn s (Contains vs) n) (take_all c.loop-vertex.vertex-index c.args.vertices.now c.loop-vertex-test.false) c.loop-vertex.invariant
