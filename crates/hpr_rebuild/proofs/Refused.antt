-- A graph whose control edges are refused has no arrangement, and so no leaves.
use Rattle.std.proofs.Common.{◌≡◌, ◌≢◌, ℕ, Bool, true, inl, inr, Option, Some, None, IfNone, List, [], ◌∷◌, slice_get, refl, sym, ◌∙◌, subst}
use Rattle.hpr_terms.specs.declared.tag.Tag.{Tag}
use Rattle.hpr_syntax.specs.declared.rows.Content.{Content}
use Rattle.hpr_syntax.specs.Issued.{Issued}
use Rattle.hpr_syntax.specs.Tree.{Tree}
use Rattle.hpr_graph.specs.declared.vertex.Vertex.{Vertex}
use Rattle.hpr_graph.specs.declared.vertex.Vertex.TheVariants.{Entry, Init, Part, Final}
use Rattle.hpr_graph.specs.declared.edge.Kind.{Kind}
use Rattle.hpr_graph.specs.declared.edge.Kind.TheVariants.{Control}
use Rattle.hpr_graph.specs.declared.edge.Edge.{Edge}
use Rattle.hpr_graph.specs.Graphs.{Graph}
use Rattle.hpr_graph.specs.ProgramGraph.{IsControl, IsEdgeBy, graph_of}
use Rattle.hpr_graph.specs.Arrangements.{AreArrangements, IsArrangement, IsOuter, edge_into}
use Rattle.hpr_graph.specs.Answer.{IsPart}
use Rattle.hpr_graph.specs.Leaves.{AreLeaves}
use Rattle.hpr_graph.proofs.Lists.{in_none, once_none}
use Rattle.hpr_order.specs.declared.tree.OrderError.{OrderError}
use Rattle.hpr_order.specs.declared.tree.OrderError.TheVariants.{TwoContents, Impossible, Memory}
use Rattle.hpr_order.specs.Regions.{Allows, IsControlKind, LeadsDown, IsPossible, HasTwoContents, IsRefusal}
use Rattle.hpr_rebuild.specs.FirstClash.{HasNoFirstClash}
use Rattle.hpr_rebuild.specs.Tries.{AreSoMany}
use Rattle.hpr_rebuild.proofs.Parts.{says_once}
use Rattle.hpr_rebuild.proofs.Regular.{possible}

no_part : (t : Tag) (c : Content) → Part t c ≢ Entry
no_part t c e = absurd cc

module _ (g : Graph) (issued : Issued) (p : Tree) (is : IsArrangement g issued p) where
  one_content : (t : Tag) → ¬ HasTwoContents g t
  one_content t (c, d, ne, h, k) = ne (says_once p is.program t c d ((is.parts t c).1 h) ((is.parts t d).1 k))

  control_of : (e : Edge) (label : Bool) → e.kind ≡ Control label → (graph_of p).edge e → IsControl p label e.from e.to
  control_of e label kind there = subst (λ (k : Kind). IsEdgeBy p k e.from e.to) kind there

  -- a control edge of the program into a part is one of the graph
  edge_too : (e : Edge) → IsControlKind e.kind → IsPart e.to → (graph_of p).edge e → g.edge e
  edge_too e (label, kind) (t, c, to) there =
      let control : IsControl p label e.from (Part t c) = subst (λ (v : Vertex). IsControl p label e.from v) to (control_of e label kind there) in
      let whole : e ≡ edge_into e.from (Part t c) (Control label) = (λ i. record { to = to i; from = e.from; kind = kind i }) in
      subst (λ (x : Edge). g.edge x) (sym whole) ((is.control label e.from t c).0 control)

  never_into_entry : (label : Bool) (from : Vertex) → ¬ IsControl p label from Entry
  never_into_entry label from (inl (entry, truth, top)) = absurd top
  never_into_entry label from (inr (q, c, from_is, says, (t, s, stands, wrong, under))) = absurd cc

  -- what control edges of the program lead over to a part are parts
  target : (e : Edge) (es : List Edge) (v : Vertex) → (graph_of p).edge e → IsControlKind e.kind → IsPart v → LeadsDown (graph_of p) e.to es v → IsPart e.to
  target e [] v there kind (t, c, part) same = (t, c, same ∙ part)
  target e (f ∷ es) v there (label, kind) part (next, (mark, is_control), from, more) =
      at (control_of f mark is_control next)
    where
      at : IsControl p mark f.from f.to → IsPart e.to
      at (inl (entry, truth, top)) =
          absurd (never_into_entry label e.from (subst (λ (w : Vertex). IsControl p label e.from w) (sym from ∙ entry) (control_of e label kind there)))
      at (inr (q, c, from_is, says, under)) = (q, c, sym from ∙ from_is)

  leads_too : (a : Vertex) (es : List Edge) (v : Vertex) → IsPart v → LeadsDown (graph_of p) a es v → LeadsDown g a es v
  leads_too a [] v part same = same
  leads_too a (e ∷ es) v part (there, kind, from, more) =
      (edge_too e kind (target e es v there kind part more) there, kind, from, leads_too e.to es v part more)

  part_possible : (t : Tag) (c : Content) → g.vertex (Part t c) → IsPossible g (Part t c)
  part_possible t c there =
      let own = possible p is.program (Part t c) ((is.parts t c).1 there) (no_part t c) in
      let (from, label, edge, only) = own.one in
      let (es, leads) = own.reached in
      record {
        one = (from, label, (is.control label from t c).0 edge, λ other mark k. only other mark ((is.control mark other t c).1 k));
        allowed = λ other mark k. own.allowed other mark ((is.control mark other t c).1 k);
        reached = (es, leads_too Entry es (Part t c) (t, c, refl) leads);
      }

  outer_possible : (v : Vertex) → IsOuter v → v ≢ Entry → g.vertex v → IsPossible g v
  outer_possible v outer ne there =
      let edge : g.edge (edge_into Entry v (Control true)) = (is.outer v Entry true outer there).1 (refl, refl) in
      record {
        one = (Entry, true, edge, λ other mark k. (is.outer v other mark outer there).0 k);
        allowed = λ other mark k.
            let (from, label) = (is.outer v other mark outer there).0 k in subst (λ (f : Vertex). Allows f mark v) (sym from) (label, ne);
        reached = (edge_into Entry v (Control true) ∷ [], (edge, (true, refl), refl, refl));
      }

  all_possible : (v : Vertex) → g.vertex v → v ≢ Entry → IsPossible g v
  all_possible Entry there ne = absurd (ne refl)
  all_possible (Init x) there ne = outer_possible (Init x) tt ne there
  all_possible (Part t c) there ne = part_possible t c there
  all_possible (Final x) there ne = outer_possible (Final x) tt ne there

pub never_arranged : (g : Graph) (e : OrderError) → IsRefusal g e → e ≢ Memory → (issued : Issued) (p : Tree) → ¬ IsArrangement g issued p
never_arranged g (TwoContents t) h ne issued p is = one_content g issued p is t h.0
never_arranged g (Impossible v) h ne issued p is = h.1.0.2 (all_possible g issued p is v h.1.0.0 h.1.0.1)
never_arranged g Memory h ne issued p is = absurd (ne refl)

nothing : (i : ℕ) (p : Tree) → ¬ (slice_get {X = Tree} [] i ≡ Some p)
nothing i p h = absurd cc

no_leaves : (g : Graph) → AreLeaves g [] []
no_leaves g = (
  once_none,
  λ x. (λ h. absurd (in_none x h), λ (p, has, leaf). absurd (in_none p has)),
  λ i j k l p q x y ep eq lx ly ex ey h. absurd (nothing i p ep),
)

pub where_none : {X : Type 0} (o : Option X) (P : Type 0) → o ≡ None → IfNone o P → P
where_none {X} o P is h = subst (λ (p : Option X). IfNone p P) is h

none_arranged : (g : Graph) (rank : List Vertex) (issued : Issued) → ((p : Tree) → ¬ IsArrangement g issued p) → AreArrangements g rank issued []
none_arranged g rank issued none = (λ p. (λ h. absurd (in_none p h), λ is. absurd (none p is)), λ i j p q less h k. absurd (nothing i p h))

pub none_at_all : (g : Graph) (rank : List Vertex) (issued : Issued) → ((p : Tree) → ¬ IsArrangement g issued p) → AreSoMany g rank issued 0
none_at_all g rank issued none = ([], [], none_arranged g rank issued none, no_leaves g, refl)

pub clear_at_all : (g : Graph) (rank : List Vertex) (issued : Issued) → ((p : Tree) → ¬ IsArrangement g issued p) → HasNoFirstClash g rank issued
clear_at_all g rank issued none = ([], [], none_arranged g rank issued none, no_leaves g, inl refl)
