-- The graph of a program with other tags, where the renaming takes each tag back: it is what is in the program's graph once that is renamed.
use Rattle.std.proofs.Common.{◌≡◌, ℕ, List, [], ◌∷◌, ◌⊎◌, Option, Some, None, refl, ap, sym, subst, ◌∙◌, inl, inr}
use Rattle.hpr_terms.specs.declared.tag.Tag.{Tag}
use Rattle.hpr_syntax.specs.Body.{Body}
use Rattle.hpr_syntax.specs.Initial.{IsInitial, UsedBy}
use Rattle.hpr_syntax.specs.Issued.{Issued}
use Rattle.hpr_syntax.specs.Paths.{one, step, DefinesAt, IsUndisturbed}
use Rattle.hpr_syntax.specs.Places.{StandsLeft, Parted, EnclosesBoth}
use Rattle.hpr_syntax.specs.Skeleton.{Point, enter, at, exit, skeleton}
use Rattle.hpr_syntax.specs.Tree.{Tree}
use Rattle.hpr_graph.specs.declared.vertex.Vertex.{Vertex}
use Rattle.hpr_graph.specs.declared.vertex.Vertex.TheVariants.{Entry, Init, Part, Final}
use Rattle.hpr_graph.specs.declared.edge.Kind.{Kind}
use Rattle.hpr_graph.specs.declared.edge.Kind.TheVariants.{Control, Independent, Carried, Order}
use Rattle.hpr_graph.specs.declared.edge.Edge.{Edge}
use Rattle.hpr_graph.specs.Graphs.{Graph, Same}
use Rattle.hpr_graph.specs.ProgramGraph.{Defines, Reads, IsIndependent, IsCarried, HasFlow, IsTop, IsVertexOf, IsEdgeBy, graph_of}
use Rattle.hpr_paths.proofs.Among.{Among, here, there, among_cons, among_none, among_contains, contains_among}
use Rattle.hpr_rename.specs.Renamed.{body_with, tree_with, vertex_with, kind_with, edge_with}
use Rattle.hpr_rename.proofs.Skeletons.{GoesBack, point_with, mark_with, sk_of, says_with, parent_with, standing_with, stands_with, left_with, parted_with, encloses_with, pair_with, body_twice, point_twice}

-- what is in a graph once it is renamed
abbrev pub graph_back : (Tag → Tag) → Graph → Graph
graph_back f g = record { vertex = λ v. g.vertex (vertex_with f v); edge = λ e. g.edge (edge_with f e) }

module _ (f : Tag → Tag) (back : GoesBack f) where
  abbrev marks_with : List (Option Tag) → List (Option Tag)
  marks_with [] = []
  marks_with (m ∷ ms) = mark_with f m ∷ marks_with ms

  mark_in : (w : Tag) (ms : List (Option Tag)) → Among (Some w) ms → Among (Some (f w)) (marks_with ms)
  mark_in w _ (here {ms = ms}) = here
  mark_in w _ (there {n = m} {ms = ms} h) = there (mark_in w ms h)

  mark_out : (w : Tag) (ms : List (Option Tag)) → Among (Some w) (marks_with ms) → Among (Some (f w)) ms
  mark_out w [] h = absurd (among_none (Some w) h)
  mark_out w (m ∷ ms) h = go m (among_cons h) (λ g. mark_out w ms g)
    where
      go : (m : Option Tag) → (mark_with f m ≡ Some w) ⊎ Among (Some w) (marks_with ms) → (Among (Some w) (marks_with ms) → Among (Some (f w)) ms) → Among (Some (f w)) (m ∷ ms)
      go m (inr g) r = there (r g)
      go None (inl e) r = absurd cc
      go (Some v) (inl e) r = let q : f v ≡ w = cc in subst (λ z. Among (Some z) (Some v ∷ ms)) (sym (back v) ∙ ap f q) here

  defines_at : (B : Body) (x : List ℕ) (p : Point) → DefinesAt B x p → DefinesAt (body_with f B) x (point_with f p)
  defines_at B x p (t, c, is, says, e) = (f t, c, ap (point_with f) is, says_with f B t c says, e)

  defines_back : (B : Body) (x : List ℕ) (p : Point) → DefinesAt (body_with f B) x (point_with f p) → DefinesAt B x p
  defines_back B x p h =
      subst (λ b. DefinesAt b x p) (body_twice f back B) (subst (DefinesAt (body_with f (body_with f B)) x) (point_twice f back p) (defines_at (body_with f B) x (point_with f p) h))

  path_with : (B : Body) (x : List ℕ) {a z : Point} {ms : List (Option Tag)} → IsUndisturbed B x a z ms → IsUndisturbed (body_with f B) x (point_with f a) (point_with f z) (marks_with ms)
  path_with B x (one {a = a} {z = z} {m = m} r) = one (pair_with f B a z m r)
  path_with B x (step {a = a} {b = b} {m = m} r n q) = step (pair_with f B a b m r) (λ h. n (defines_back B x b h)) (path_with B x q)

  enclosed : (B : Body) (d u : Point) (w : Tag) → EnclosesBoth (skeleton B) d u w → EnclosesBoth (skeleton (body_with f B)) (point_with f d) (point_with f u) (f w)
  enclosed B d u w h = subst (λ sk. EnclosesBoth sk (point_with f d) (point_with f u) (f w)) (sym (sk_of f B)) (encloses_with f (skeleton B) d u w h)

  enclosed_back : (B : Body) (d u : Point) (w : Tag) → EnclosesBoth (skeleton (body_with f B)) (point_with f d) (point_with f u) w → EnclosesBoth (skeleton B) d u (f w)
  enclosed_back B d u w h =
      let g = enclosed (body_with f B) (point_with f d) (point_with f u) w h in
      subst (λ b. EnclosesBoth (skeleton b) d u (f w)) (body_twice f back B)
      (subst (λ p. EnclosesBoth (skeleton (body_with f (body_with f B))) d p (f w)) (point_twice f back u)
      (subst (λ p. EnclosesBoth (skeleton (body_with f (body_with f B))) p (point_with f (point_with f u)) (f w)) (point_twice f back d) g))

  parted : (B : Body) (d u : Point) → Parted (skeleton B) d u → Parted (skeleton (body_with f B)) (point_with f d) (point_with f u)
  parted B d u h = subst (λ sk. Parted sk (point_with f d) (point_with f u)) (sym (sk_of f B)) (parted_with f (skeleton B) d u h)

  parted_back : (B : Body) (d u : Point) → Parted (skeleton (body_with f B)) (point_with f d) (point_with f u) → Parted (skeleton B) d u
  parted_back B d u h =
      let g = parted (body_with f B) (point_with f d) (point_with f u) h in
      subst (λ b. Parted (skeleton b) d u) (body_twice f back B)
      (subst (λ p. Parted (skeleton (body_with f (body_with f B))) d p) (point_twice f back u)
      (subst (λ p. Parted (skeleton (body_with f (body_with f B))) p (point_with f (point_with f u))) (point_twice f back d) g))

  module _ (issued : Issued) where
    abbrev T : Tree → Tree
    T t = tree_with f issued t

    abbrev W : Vertex → Vertex
    W v = vertex_with f v

    defines : (t : Tree) (x : List ℕ) (v : Vertex) (a : Point) → Defines t x v a → Defines (T t) x (W v) (point_with f a)
    defines t x Entry a h = h
    defines t x (Init y) a (e, is) = (e, ap (point_with f) is)
    defines t x (Part u c) a (e, says, is) = (e, says_with f t.body u c says, ap (point_with f) is)
    defines t x (Final y) a h = h

    reads : (t : Tree) (x : List ℕ) (v : Vertex) (z : Point) → Reads t x v z → Reads (T t) x (W v) (point_with f z)
    reads t x Entry z h = h
    reads t x (Init y) z h = h
    reads t x (Part u c) z (e, says, is) = (e, says_with f t.body u c says, ap (point_with f) is)
    reads t x (Final y) z (e, c, is) = (e, c, ap (point_with f) is)

    independent : (t : Tree) (x : List ℕ) (from to : Vertex) → IsIndependent t x from to → IsIndependent (T t) x (W from) (W to)
    independent t x from to (a, z, ms, (d, r, q), avoids) = (
      point_with f a,
      point_with f z,
      marks_with ms,
      (defines t x from a d, reads t x to z r, path_with t.body x q),
      λ w e c. avoids (f w) (enclosed_back t.body a z w e) (contains_among (Some (f w)) ms (mark_out w ms (among_contains (Some w) (marks_with ms) c))),
    )

    carried : (t : Tree) (x : List ℕ) (w from to : Vertex) → IsCarried t x w from to → IsCarried (T t) x (W w) (W from) (W to)
    carried t x w from to (a, z, ms, l, c, (d, r, q), is, says, e, m) = (
      point_with f a,
      point_with f z,
      marks_with ms,
      f l,
      c,
      (defines t x from a d, reads t x to z r, path_with t.body x q),
      ap W is,
      says_with f t.body l c says,
      enclosed t.body a z l e,
      contains_among (Some (f l)) (marks_with ms) (mark_in l ms (among_contains (Some l) ms m)),
    )

    flow : (t : Tree) (x : List ℕ) (from to : Vertex) → HasFlow t x from to → HasFlow (T t) x (W from) (W to)
    flow t x from to (inl h) = inl (independent t x from to h)
    flow t x from to (inr (w, h)) = inr (W w, carried t x w from to h)

    initial : (t : Tree) (x : List ℕ) → IsInitial t x → IsInitial (T t) x
    initial t x (z, ms, q, u) = (point_with f z, marks_with ms, path_with t.body x q, used z u)
      where
        used : (z : Point) → UsedBy t x z → UsedBy (T t) x (point_with f z)
        used enter h = h
        used (at v) (c, says, u) = (c, says_with f t.body v c says, u)
        used exit h = h

    top_too : (t : Tree) (v : Vertex) → IsTop t v → IsTop (T t) (W v)
    top_too t Entry h = h
    top_too t (Init x) h = initial t x h
    top_too t (Part u c) (s, stands, is, none) = (standing_with f s, stands_with f t.body [] None u s stands, is, ap (parent_with f) none)
    top_too t (Final x) h = h

    edge_too : (t : Tree) (k : Kind) (from to : Vertex) → IsEdgeBy t k from to → IsEdgeBy (T t) (kind_with f k) (W from) (W to)
    edge_too t (Control label) from to (inl (is, l, h)) = inl (ap W is, l, top_too t to h)
    edge_too t (Control label) from to (inr (p, c, is, says, (u, s, stands, to_is, parent))) =
        inr (f p, c, ap W is, says_with f t.body p c says, (f u, standing_with f s, stands_with f t.body [] None u s stands, ap W to_is, ap (parent_with f) parent))
    edge_too t (Independent x) from to h = independent t x from to h
    edge_too t (Carried x w) from to h = carried t x w from to h
    edge_too t (Order u) from to (x, a, b, d, d', g, g', left, whole) = (
      x,
      point_with f a,
      point_with f b,
      defines t x from a d,
      defines t x to b d',
      flow t x from u g,
      flow t x to u g',
      subst (λ sk. StandsLeft sk (point_with f a) (point_with f b)) (sym (sk_of f t.body)) (left_with f (skeleton t.body) a b left),
      λ h. whole (parted_back t.body a b h),
    )

    vertex_too : (t : Tree) (v : Vertex) → IsVertexOf t v → IsVertexOf (T t) (W v)
    vertex_too t Entry h = h
    vertex_too t (Init x) h = initial t x h
    vertex_too t (Part u c) h = says_with f t.body u c h
    vertex_too t (Final x) h = h

  pub vertex_twice : (v : Vertex) → vertex_with f (vertex_with f v) ≡ v
  vertex_twice Entry = refl
  vertex_twice (Init x) = refl
  vertex_twice (Part u c) = ap (λ z. Part z c) (back u)
  vertex_twice (Final x) = refl

  kind_twice : (k : Kind) → kind_with f (kind_with f k) ≡ k
  kind_twice (Control label) = refl
  kind_twice (Independent x) = refl
  kind_twice (Carried x w) = ap (Carried x) (vertex_twice w)
  kind_twice (Order u) = ap Order (vertex_twice u)

  edge_twice : (e : Edge) → edge_with f (edge_with f e) ≡ e
  edge_twice e = let p = vertex_twice e.to in let q = vertex_twice e.from in let r = kind_twice e.kind in (λ i. record { to = p i; from = q i; kind = r i })

  -- back and forth: the tags of the program with other tags are renamed again
  module _ (t : Tree) (issued : Issued) where
    again : tree_with f t.issued (tree_with f issued t) ≡ t
    again = let p = body_twice f back t.body in (λ i. record { issued = t.issued; body = p i; finals = t.finals })

    pub graph_there : Same (graph_of (tree_with f issued t)) (graph_back f (graph_of t))
    graph_there = (
      (λ v. (
        (λ h. subst (λ s. IsVertexOf s (vertex_with f v)) again (vertex_too t.issued (tree_with f issued t) v h)),
        (λ h. subst (IsVertexOf (tree_with f issued t)) (vertex_twice v) (vertex_too issued t (vertex_with f v) h)),
      )),
      (λ e. (
        (λ h. subst (λ s. IsEdgeBy s (kind_with f e.kind) (vertex_with f e.from) (vertex_with f e.to)) again (edge_too t.issued (tree_with f issued t) e.kind e.from e.to h)),
        (λ h. subst (λ d. IsEdgeBy (tree_with f issued t) d.kind d.from d.to) (edge_twice e) (edge_too issued t (kind_with f e.kind) (vertex_with f e.from) (vertex_with f e.to) h)),
      )),
    )
