-- The graph of a program depends on its body and on which finals it has: not on their order, nor on its issued numbers.
use Rattle.std.proofs.Common.{ℕ, inl, inr, Bool, List, Contains, subst}
use Rattle.std.proofs.lemmas.List.Sorted.{Contains-permutation, IsPermutation-sym}
use Rattle.hpr_syntax.specs.Body.{Body}
use Rattle.hpr_syntax.specs.Issued.{Issued}
use Rattle.hpr_syntax.specs.Tree.{Tree}
use Rattle.hpr_syntax.specs.Initial.{IsInitial, UsedBy}
use Rattle.hpr_syntax.specs.Skeleton.{Point, enter, at, exit}
use Rattle.hpr_graph.specs.declared.vertex.Vertex.{Vertex}
use Rattle.hpr_graph.specs.declared.vertex.Vertex.TheVariants.{Entry, Init, Part, Final}
use Rattle.hpr_graph.specs.declared.edge.Kind.{Kind}
use Rattle.hpr_graph.specs.declared.edge.Kind.TheVariants.{Control, Independent, Carried, Order}
use Rattle.hpr_graph.specs.Graphs.{IsWithin, Same}
use Rattle.hpr_graph.specs.ProgramGraph.{Defines, Reads, IsIndependent, IsCarried, HasFlow, IsOrder, IsTop, IsControl, IsVertexOf, IsEdgeBy, graph_of}
use Rattle.hpr_graph.proofs.Laws.{same_from_within}
use Rattle.hpr_rebuild.specs.Settled.{IsSettled}

abbrev Names : Type 0
Names = List (List ℕ)

abbrev tree : Issued → Body → Names → Tree
tree issued body finals = record { issued = issued; body = body; finals = finals }

module _ (b : Body) (i j : Issued) (xs ys : Names) (more : (x : List ℕ) → Contains xs x → Contains ys x) where
  abbrev P : Tree
  P = tree i b xs

  abbrev Q : Tree
  Q = tree j b ys

  used : (x : List ℕ) (a : Point) → UsedBy P x a → UsedBy Q x a
  used x enter h = h
  used x (at v) h = h
  used x exit h = more x h

  initial : (x : List ℕ) → IsInitial P x → IsInitial Q x
  initial x (a, marks, path, uses) = (a, marks, path, used x a uses)

  defines : (x : List ℕ) (v : Vertex) (a : Point) → Defines P x v a → Defines Q x v a
  defines x Entry a h = h
  defines x (Init y) a h = h
  defines x (Part t c) a h = h
  defines x (Final y) a h = h

  reads : (x : List ℕ) (v : Vertex) (a : Point) → Reads P x v a → Reads Q x v a
  reads x Entry a h = h
  reads x (Init y) a h = h
  reads x (Part t c) a h = h
  reads x (Final y) a (is, there, ends) = (is, more x there, ends)

  independent : (x : List ℕ) (from to : Vertex) → IsIndependent P x from to → IsIndependent Q x from to
  independent x from to (a, z, marks, (d, r, path), avoids) = (a, z, marks, (defines x from a d, reads x to z r, path), avoids)

  carried : (x : List ℕ) (w from to : Vertex) → IsCarried P x w from to → IsCarried Q x w from to
  carried x w from to (a, z, marks, l, c, (d, r, path), is, says, around, there) =
      (a, z, marks, l, c, (defines x from a d, reads x to z r, path), is, says, around, there)

  flow : (x : List ℕ) (from to : Vertex) → HasFlow P x from to → HasFlow Q x from to
  flow x from to (inl h) = inl (independent x from to h)
  flow x from to (inr (w, h)) = inr (w, carried x w from to h)

  order : (u from to : Vertex) → IsOrder P u from to → IsOrder Q u from to
  order u from to (x, a, z, d, d', f, f', left, whole) =
      (x, a, z, defines x from a d, defines x to z d', flow x from u f, flow x to u f', left, whole)

  top : (v : Vertex) → IsTop P v → IsTop Q v
  top Entry h = h
  top (Init x) h = initial x h
  top (Part t c) h = h
  top (Final x) h = more x h

  control : (label : Bool) (from to : Vertex) → IsControl P label from to → IsControl Q label from to
  control label from to (inl (is, mark, h)) = inl (is, mark, top to h)
  control label from to (inr h) = inr h

  vertex : (v : Vertex) → IsVertexOf P v → IsVertexOf Q v
  vertex Entry h = h
  vertex (Init x) h = initial x h
  vertex (Part t c) h = h
  vertex (Final x) h = more x h

  edge : (k : Kind) (from to : Vertex) → IsEdgeBy P k from to → IsEdgeBy Q k from to
  edge (Control label) from to h = control label from to h
  edge (Independent x) from to h = independent x from to h
  edge (Carried x w) from to h = carried x w from to h
  edge (Order u) from to h = order u from to h

  within : IsWithin (graph_of P) (graph_of Q)
  within = (vertex, λ e h. edge e.kind e.from e.to h)

-- a settled program has the graph of the program
pub settled_same : (issued : Issued) (p q : Tree) → IsSettled issued p q → Same (graph_of q) (graph_of p)
settled_same issued p q s =
    let to : (x : List ℕ) → Contains p.finals x → Contains q.finals x = λ x h. Contains-permutation p.finals q.finals x s.names h in
    let back : (x : List ℕ) → Contains q.finals x → Contains p.finals x =
    λ x h. Contains-permutation q.finals p.finals x (IsPermutation-sym p.finals q.finals s.names) h in
    same_from_within (graph_of q) (graph_of p)
    (subst (λ (b : Body). IsWithin (graph_of (tree q.issued b q.finals)) (graph_of p)) s.body (within p.body q.issued p.issued q.finals p.finals back))
    (subst (λ (b : Body). IsWithin (graph_of p) (graph_of (tree q.issued b q.finals))) s.body (within p.body p.issued q.issued p.finals q.finals to))
