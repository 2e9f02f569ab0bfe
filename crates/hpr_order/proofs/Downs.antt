-- Control edges by vertices and by numbers, and what they lead to from Entry.
use Rattle.std.proofs.Common.{◌≡◌, ℕ, inl, inr, Bool, Some, List, [], ◌∷◌, length, slice_get, refl, sym, ap, ◌∙◌, subst}
use Rattle.hpr_terms.proofs.Facts.{get_below}
use Rattle.hpr_search.specs.Marks.{IsMarked}
use Rattle.hpr_search.specs.Walks.{Walk, IsReached}
use Rattle.hpr_graph.specs.declared.vertex.Vertex.{Vertex}
use Rattle.hpr_graph.specs.declared.vertex.Vertex.TheVariants.{Entry}
use Rattle.hpr_graph.specs.declared.edge.Kind.{Kind}
use Rattle.hpr_graph.specs.declared.edge.Kind.TheVariants as kind
use Rattle.hpr_graph.specs.declared.edge.Edge.{Edge}
use Rattle.hpr_graph.specs.declared.link.LinkKind.{LinkKind}
use Rattle.hpr_graph.specs.declared.link.LinkKind.TheVariants.{Control, Independent, Carried, Order}
use Rattle.hpr_graph.specs.declared.link.Link.{Link}
use Rattle.hpr_graph.specs.Numbered.{Numbered, HasVertex, HasLink, IsKindAt, IsNumbered, graph_in}
use Rattle.hpr_graph.specs.Arrangements.{edge_into}
use Rattle.hpr_order.specs.Regions.{Controls, LeadsDown, IsUnderEntry, control_link}
use Rattle.hpr_order.specs.Controls.{AreControlled, AreReached}
use Rattle.hpr_graph.proofs.Lists.{some_inj, in_none, in_cons, in_here, contains_at}
use Rattle.hpr_search.specs.Rows.{numbers_at}
use Rattle.hpr_order.proofs.Rows.{row_within, control_of}

module _ (g : Numbered) (k : IsNumbered g) where
  -- a link is a control edge between its vertices
  pub control_edge : (from to : ℕ) (label : Bool) (v u : Vertex) → slice_get g.vertices from ≡ Some v → slice_get g.vertices to ≡ Some u → HasLink g to (control_link from label)
      → Controls (graph_in g) v label u
  control_edge from to label v u is_v is_u has = (to, control_link from label, has, (is_u, is_v, refl))

  control_kind : (l : LinkKind) (v : Vertex) (label : Bool) → IsKindAt g.vertices l v (kind.Control label) → l ≡ Control label
  control_kind (Control mark) v label h = let e : kind.Control label ≡ kind.Control mark = h in ap Control (sym (label_inj e))
    where
      label_inj : kind.Control label ≡ kind.Control mark → label ≡ mark
      label_inj e = cc
  control_kind Independent v label (x, d, h) = absurd (let e : kind.Control label ≡ kind.Independent x = h in cc)
  control_kind (Carried w) v label (x, u, d, at, h) = absurd (let e : kind.Control label ≡ kind.Carried x u = h in cc)
  control_kind (Order w) v label (u, at, h) = absurd (let e : kind.Control label ≡ kind.Order u = h in cc)

  -- and a control edge is such a link
  pub control_back : (v u : Vertex) (label : Bool) → Controls (graph_in g) v label u → (to : ℕ) → slice_get g.vertices to ≡ Some u
      → (from : ℕ) × (slice_get g.vertices from ≡ Some v) × HasLink g to (control_link from label)
  control_back v u label (at, l, has, (is_u, is_v, is_kind)) to there =
      let same : at ≡ to = k.once at to u is_u there in
      let link : l ≡ control_link l.from label = control_of l l.from label (control_kind l.kind v label is_kind) refl in
      (l.from, is_v, subst (λ (x : Link). HasLink g to x) link (subst (λ (n : ℕ). HasLink g n l) same has))

  module _ (rows : List (List ℕ)) (all : AreControlled g rows) where
    -- a walk by numbers leads over control edges
    pub walk_down : (a : ℕ) (via : List ℕ) (b : ℕ) (v w : Vertex) → slice_get g.vertices a ≡ Some v → slice_get g.vertices b ≡ Some w → Walk (numbers_at rows) a via b
        → (es : List Edge) × LeadsDown (graph_in g) v es w
    walk_down a [] b v w is_v is_w same =
        ([], some_inj v w (sym is_v ∙ ap (slice_get g.vertices) same ∙ is_w))
    walk_down a (c ∷ via) b v w is_v is_w (step, rest) =
        let (label, has) = (all.exact a c).0 step in
        let (u, is_u) = get_below g.vertices c (row_within g k c (control_link a label) has) in
        let (es, down) = walk_down c via b u w is_u is_w rest in
        (edge_into v u (kind.Control label) ∷ es, (control_edge a c label v u is_v is_u has, (label, refl), refl, down))

    -- and control edges lead by numbers
    pub down_walk : (v w : Vertex) (es : List Edge) → LeadsDown (graph_in g) v es w → (a : ℕ) → slice_get g.vertices a ≡ Some v
        → (b : ℕ) × (slice_get g.vertices b ≡ Some w) × ((via : List ℕ) × Walk (numbers_at rows) a via b)
    down_walk v w [] same a is_v = (a, is_v ∙ ap Some same, ([], refl))
    down_walk v w (e ∷ es) ((to, l, has, (is_to, is_from, is_kind)), (label, kind_is), start, down) a is_v =
        let from : l.from ≡ a = k.once l.from a e.from is_from (is_v ∙ ap Some (sym start)) in
        let link : l ≡ control_link a label =
        control_of l a label (control_kind l.kind e.from label (subst (λ (x : Kind). IsKindAt g.vertices l.kind e.from x) kind_is is_kind)) from in
        let (b, is_w, (via, walk)) = down_walk e.to w es down to is_to in
        (b, is_w, (to ∷ via, ((all.exact a to).1 (label, subst (λ (x : Link). HasLink g to x) link has), walk)))

    -- the marks from Entry
    pub reached_marks : (entry : ℕ) (marks : List Bool) → slice_get g.vertices entry ≡ Some Entry → length marks ≡ length rows
        → ((p : ℕ) → IsMarked marks p → IsReached (numbers_at rows) (entry ∷ []) p) → ((p : ℕ) → IsReached (numbers_at rows) (entry ∷ []) p → IsMarked marks p) → AreReached g marks
    reached_marks entry marks is_entry row sound complete = record {
      count = row ∙ all.count;
      exact = λ at v is_v. (
        λ m.
            (let (s, via, one, walk) = sound at m in
            elim (in_cons entry s [] one) [
              | inl e ↦ walk_down s via at Entry v (subst (λ (n : ℕ). slice_get g.vertices n ≡ Some Entry) e is_entry) is_v walk
              | inr none ↦ absurd (in_none s none)
            ]),
        λ (es, down).
            (let (b, is_b, (via, walk)) = down_walk Entry v es down entry is_entry in
            complete at (entry, via, in_here entry [], subst (λ (n : ℕ). Walk (numbers_at rows) entry via n) (k.once b at v is_b is_v) walk)),
      );
    }

    -- where there is no Entry, nothing is reached from it
    pub unreached_marks : (marks : List Bool) → ¬ HasVertex g Entry → length marks ≡ length rows
        → ((p : ℕ) → IsMarked marks p → IsReached (numbers_at rows) [] p) → AreReached g marks
    unreached_marks marks stranger row sound = record {
      count = row ∙ all.count;
      exact = λ at v is_v. (
        λ m. (let (s, via, one, walk) = sound at m in absurd (in_none s one)),
        λ under. absurd (nowhere at v is_v under),
      );
    }
      where
        nowhere : (at : ℕ) (v : Vertex) → slice_get g.vertices at ≡ Some v → IsUnderEntry (graph_in g) v → ⊥
        nowhere at v is_v ([], same) = stranger (contains_at g.vertices at Entry (is_v ∙ ap Some (sym same)))
        nowhere at v is_v (e ∷ es, ((to, l, has, (is_to, is_from, is_kind)), control, start, down)) =
            stranger (contains_at g.vertices l.from Entry (is_from ∙ ap Some start))
