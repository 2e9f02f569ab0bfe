-- The graphs of programs are whole.
use Rattle.std.proofs.Common.{ℕ, Bool, inl, inr, Option, None, List, [], ◌∷◌, Contains, refl, sym, subst}
use Rattle.std.specs.List.{AllByRecursion}
use Rattle.hpr_terms.specs.declared.tag.Tag.{Tag}
use Rattle.hpr_syntax.specs.declared.rows.Content.{Content}
use Rattle.hpr_syntax.specs.Nests.{Says}
use Rattle.hpr_syntax.specs.Paths.{IsUndisturbed}
use Rattle.hpr_syntax.specs.Shape.{IsProgram}
use Rattle.hpr_syntax.specs.Skeleton.{Point}
use Rattle.hpr_syntax.specs.Tree.{Tree}
use Rattle.hpr_graph.specs.declared.vertex.Vertex.{Vertex}
use Rattle.hpr_graph.specs.declared.vertex.Vertex.TheVariants.{Entry, Init, Part, Final}
use Rattle.hpr_graph.specs.declared.edge.Kind.{Kind}
use Rattle.hpr_graph.specs.declared.edge.Kind.TheVariants.{Control, Independent, Carried, Order}
use Rattle.hpr_graph.specs.Answer.{graphs_of}
use Rattle.hpr_graph.specs.Graphs.{OnThird}
use Rattle.hpr_graph.specs.ProgramGraph.{Defines, Reads, IsTop, HasFlow, IsVertexOf, IsEdgeBy, graph_of}
use Rattle.hpr_graph.proofs.Laws.{used_by_reads}
use Rattle.hpr_paths.proofs.Different.{distinct_program}
use Rattle.hpr_paths.proofs.Says.{says_one, says_of_standing}
use Rattle.hpr_graph.specs.Whole.{LeadsRight, HasUses, HasEnds, IsWhole, AreAll, SaysOnce}
use Rattle.hpr_closure.proofs.ProgramLoops.{program_loops}

pub says_once : (t : Tree) → IsProgram t → SaysOnce t
says_once t is l c d h k = says_one t.body (distinct_program t is) l c d h k

module _ (t : Tree) where
  -- order edges
  flow_right : (x : List ℕ) (from to : Vertex) → HasFlow t x from to → LeadsRight (graph_of t) from to
  flow_right x from to (inl h) = (record { to = to; from = from; kind = Independent x }, h, tt, refl, refl)
  flow_right x from to (inr (w, h)) = (record { to = to; from = from; kind = Carried x w }, h, tt, refl, refl)

  pub program_uses : HasUses (graph_of t)
  program_uses e u has is =
      let (x, a, b, d, d', f, f', left, whole) = subst (λ k. IsEdgeBy t k e.from e.to) is has in (flow_right x e.from u f, flow_right x e.to u f')

  -- the vertices of edges
  abbrev V : Vertex → Type 0
  V = IsVertexOf t

  source_is : (x : List ℕ) (from to : Vertex) (a z : Point) (marks : List (Option Tag)) → Defines t x from a → Reads t x to z → IsUndisturbed t.body x a z marks → V from
  source_is x Entry to a z marks h reads path = absurd h
  source_is x (Init y) to a z marks (same, is) reads path =
      subst (λ (w : List ℕ). V (Init w)) (sym same)
      (z, marks, subst (λ (p : Point). IsUndisturbed t.body x p z marks) is path, used_by_reads t x to z reads)
  source_is x (Part l c) to a z marks (sets, says, is) reads path = says
  source_is x (Final y) to a z marks h reads path = absurd h

  pub read_is : (x : List ℕ) (v : Vertex) (z : Point) → Reads t x v z → V v
  read_is x Entry z h = tt
  read_is x (Init y) z h = absurd h
  read_is x (Part v c) z (uses, says, is) = says
  read_is x (Final y) z (same, named, is) = subst (λ (w : List ℕ). Contains t.finals w) (sym same) named

  flow_source : (x : List ℕ) (from to : Vertex) → HasFlow t x from to → V from
  flow_source x from to (inl (a, z, marks, (defines, reads, path), avoids)) = source_is x from to a z marks defines reads path
  flow_source x from to (inr (w, (a, z, marks, l, c, (defines, reads, path), loop_is, says, around, carries))) = source_is x from to a z marks defines reads path

  flow_target : (x : List ℕ) (from to : Vertex) → HasFlow t x from to → V to
  flow_target x from to (inl (a, z, marks, (defines, reads, path), avoids)) = read_is x to z reads
  flow_target x from to (inr (w, (a, z, marks, l, c, (defines, reads, path), loop_is, says, around, carries))) = read_is x to z reads

  abbrev pub FlowsAt : List ℕ → Vertex → Vertex → Type 0
  FlowsAt x from to = (a z : Point) × Defines t x from a × Reads t x to z

  pub flow_at : (x : List ℕ) (from to : Vertex) → HasFlow t x from to → FlowsAt x from to
  flow_at x from to (inl (a, z, marks, (defines, reads, path), avoids)) = (a, z, defines, reads)
  flow_at x from to (inr (w, (a, z, marks, l, c, (defines, reads, path), loop_is, says, around, carries))) = (a, z, defines, reads)

  top_is : (v : Vertex) → IsTop t v → V v
  top_is Entry h = absurd h
  top_is (Init x) h = h
  top_is (Part v c) (s, stands, content, up) = subst (λ (k : Content). Says t.body v k) content (says_of_standing t.body [] None v s stands)
  top_is (Final x) h = h

  pub control_to : (label : Bool) (from to : Vertex) → IsEdgeBy t (Control label) from to → V to
  control_to label from to (inl (is, truth, top)) = top_is to top
  control_to label from to (inr (p, c, is, says, (v, s, stands, under, up))) = subst V (sym under) (says_of_standing t.body [] None v s stands)

  control_from : (label : Bool) (from to : Vertex) → IsEdgeBy t (Control label) from to → V from
  control_from label from to (inl (is, truth, top)) = subst V (sym is) tt
  control_from label from to (inr (p, c, is, says, under)) = subst V (sym is) says

  pub ends_by : (k : Kind) (from to : Vertex) → IsEdgeBy t k from to → V to × V from × OnThird V k
  ends_by (Control label) from to h = (control_to label from to h, control_from label from to h, tt)
  ends_by (Independent x) from to h = (flow_target x from to (inl h), flow_source x from to (inl h), tt)
  ends_by (Carried x w) from to (a, z, marks, l, c, path, is, says, around, carries) =
      let flow : HasFlow t x from to = inr (w, (a, z, marks, l, c, path, is, says, around, carries)) in
      (flow_target x from to flow, flow_source x from to flow, subst V (sym is) says)
  ends_by (Order u) from to (x, a, b, defines, defines_too, flow, flow_too, left, together) =
      (flow_source x to u flow_too, flow_source x from u flow, flow_target x from u flow)

  pub program_ends : HasEnds (graph_of t)
  program_ends e h = ends_by e.kind e.from e.to h

  pub program_whole : IsProgram t → IsWhole (graph_of t)
  program_whole is = record { loops = program_loops t (says_once t is); uses = program_uses; ends = program_ends }

pub programs_whole : (vs : List Tree) → AllByRecursion IsProgram vs → AreAll IsWhole (graphs_of vs)
programs_whole [] all = tt
programs_whole (t ∷ ts) all = (program_whole t all.0, programs_whole ts all.1)
