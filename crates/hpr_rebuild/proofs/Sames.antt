-- What is found for a graph is found for the same graph.
use Rattle.std.proofs.Common.{ℕ, List, [], ◌∷◌, ◌++◌, take, inl, inr}
use Rattle.hpr_syntax.specs.Issued.{Issued}
use Rattle.hpr_syntax.specs.Tree.{Tree}
use Rattle.hpr_graph.specs.declared.vertex.Vertex.{Vertex}
use Rattle.hpr_graph.specs.declared.vertex.Vertex.TheVariants.{Part, Final}
use Rattle.hpr_graph.specs.declared.edge.Edge.{Edge}
use Rattle.hpr_graph.specs.declared.edge.Kind.TheVariants.{Control, Independent}
use Rattle.hpr_graph.specs.Graphs.{Graph, Same}
use Rattle.hpr_graph.specs.ProgramGraph.{graph_of}
use Rattle.hpr_graph.specs.Arrangements.{edge_into, IsArrangement, AreArrangements}
use Rattle.hpr_graph.specs.Clashes.{StandInOneBlock, Clashes}
use Rattle.hpr_graph.specs.Leaves.{IsCut, IsLeaf, AreLeaves, AreLeavesSpent}
use Rattle.hpr_graph.specs.Rank.{parts_of}
use Rattle.hpr_graph.specs.Answer.{AnswerBy, interference, printed, no_program, spent, Fits, NoneFits, HasNoProgram, HasParts, IsFound}
use Rattle.hpr_graph.proofs.Laws.{same_turned, same_then}

module _ (g h : Graph) (s : Same g h) where
  turned : Same h g
  turned = same_turned g h s

  fits_too : (p : Tree) → Fits g p → Fits h p
  fits_too p fits = same_then (graph_of p) g h fits s

  fits_back : (p : Tree) → Fits h p → Fits g p
  fits_back p fits = same_then (graph_of p) h g fits turned

  none_too : (ps : List Tree) → NoneFits g ps → NoneFits h ps
  none_too ps none p there fits = none p there (fits_back p fits)

  no_program_too : HasNoProgram g → HasNoProgram h
  no_program_too none p prog fits = none p prog (fits_back p fits)

  parts_too : (n : ℕ) → HasParts g n → HasParts h n
  parts_too n (vs, once, all, len) = (
    vs,
    once,
    λ v. (
      λ there. (let (has, part) = (all v).0 there in ((s.0 v).0 has, part)),
      λ (has, part). (all v).1 ((s.0 v).1 has, part),
    ),
    len,
  )

pub arrangement_same : (g h : Graph) → Same g h → (issued : Issued) (p : Tree) → IsArrangement g issued p → IsArrangement h issued p
arrangement_same g h s issued p is = record {
  program = is.program;
  numbers = is.numbers;
  parts = λ t c. (λ says. (s.0 (Part t c)).0 ((is.parts t c).0 says), λ there. (is.parts t c).1 ((s.0 (Part t c)).1 there));
  control = λ label from t c.
      (let e = edge_into from (Part t c) (Control label) in
      (λ k. (s.1 e).0 ((is.control label from t c).0 k), λ there. (is.control label from t c).1 ((s.1 e).1 there)));
  finals = λ x. (λ ends. (s.0 (Final x)).0 ((is.finals x).0 ends), λ there. (is.finals x).1 ((s.0 (Final x)).1 there));
  ascending = is.ascending;
  outer = λ v from label out there.
      (let e = edge_into from v (Control label) in
      let only = is.outer v from label out ((s.0 v).1 there) in
      (λ k. only.0 ((s.1 e).1 k), λ h. (s.1 e).0 (only.1 h)));
  directed = λ v t c d k there directs. is.directed v t c d k ((s.1 (edge_into (Part v c) (Part t d) k)).1 there) directs;
}

pub arrangements_same : (g h : Graph) → Same g h → (rank : List Vertex) (issued : Issued) (ps : List Tree) → AreArrangements g rank issued ps → AreArrangements h rank issued ps
arrangements_same g h s rank issued ps are = (
  λ p. (
    λ there. arrangement_same g h s issued p ((are.0 p).0 there),
    λ is. (are.0 p).1 (arrangement_same h g (same_turned g h s) issued p is),
  ),
  are.1,
)

module _ (g h : Graph) (s : Same g h) where
  edge_too : (e : Edge) → g.edge e → h.edge e
  edge_too e = (s.1 e).0

  block_too : (v w : Vertex) → StandInOneBlock g v w → StandInOneBlock h v w
  block_too v w (from, label, a, b) = (from, label, edge_too (edge_into from v (Control label)) a, edge_too (edge_into from w (Control label)) b)

  pub clashes_same : (placed : List Vertex) (c : Vertex) → Clashes g placed c → Clashes h placed c
  clashes_same placed c (inl (x, d, front, back, is, block, defines, last, uses, lacks)) =
      inl (x, d, front, back, is, block_too d c block, defines, last, uses, λ e. lacks ((s.1 (edge_into d c (Independent x))).1 e))
  clashes_same placed c (inr (x, d, u, there, part, other, left, block, block_of_use, defines, too, needed)) =
      inr (x, d, u, there, part, other, left, block_too d c block, block_too c u block_of_use, defines, too, edge_too (edge_into d u (Independent x)) needed)

pub cut_same : (g h : Graph) → Same g h → (placed rest x : List Vertex) → IsCut g placed rest x → IsCut h placed rest x
cut_same g h s placed [] x is = is
cut_same g h s placed (c ∷ rest) x (inl (clash, is)) = inl (clashes_same g h s placed c clash, is)
cut_same g h s placed (c ∷ rest) x (inr (free, (y, is, more))) =
    inr (λ k. free (clashes_same h g (same_turned g h s) placed c k), (y, is, cut_same g h s (placed ++ c ∷ []) rest y more))

module _ (g h : Graph) (s : Same g h) where
  leaf_too : (p : Tree) (x : List Vertex) → IsLeaf g p x → IsLeaf h p x
  leaf_too p x = cut_same g h s [] (parts_of p) x

  leaf_back : (p : Tree) (x : List Vertex) → IsLeaf h p x → IsLeaf g p x
  leaf_back p x = cut_same h g (same_turned g h s) [] (parts_of p) x

  pub leaves_same : (ps : List Tree) (xs : List (List Vertex)) → AreLeaves g ps xs → AreLeaves h ps xs
  leaves_same ps xs (once, all, ordered) = (
    once,
    λ x. (
      λ there. (let (p, has, leaf) = (all x).0 there in (p, has, leaf_too p x leaf)),
      λ (p, has, leaf). (all x).1 (p, has, leaf_back p x leaf),
    ),
    λ i j k l p q x y at_i at_j leaf_p leaf_q. ordered i j k l p q x y at_i at_j (leaf_back p x leaf_p) (leaf_back q y leaf_q),
  )

  pub spent_same : (rank : List Vertex) (issued : Issued) (tries : ℕ) → AreLeavesSpent g rank issued tries → AreLeavesSpent h rank issued tries
  spent_same rank issued tries (ps, xs, are, leaves, more, none) = (
    ps,
    xs,
    arrangements_same g h s rank issued ps are,
    leaves_same ps xs leaves,
    more,
    λ x there (p, has, parts, fits). none x there (p, has, parts, fits_back g h s p fits),
  )

pub found_same : {X : Type 0} (g h : Graph) → Same g h → (rank : List Vertex) (issued : Issued) (tries : ℕ) (r : AnswerBy X) → IsFound g rank issued tries r → IsFound h rank issued tries r
found_same g h s rank issued tries (interference cs) found = found
found_same g h s rank issued tries (printed m) (ps, are, (front, back, is, fits, none)) =
    (ps, arrangements_same g h s rank issued ps are, (front, back, is, fits_too g h s m fits, none_too g h s front none))
found_same g h s rank issued tries (no_program n) (none, parts) = (no_program_too g h s none, parts_too g h s n parts)
found_same g h s rank issued tries spent (ps, are, more, none, leaves) =
    (ps, arrangements_same g h s rank issued ps are, more, none_too g h s (take tries ps) none, spent_same g h s rank issued tries leaves)
