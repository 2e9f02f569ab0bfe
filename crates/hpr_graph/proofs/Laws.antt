-- Laws of the definitions, for the crates above.
use Rattle.std.proofs.Common.{◌≡◌, ℕ, ◌<◌, ◌≤◌, ◌↔◌, ◌⊎◌, inl, inr, List, [], ◌∷◌, length, sym, subst, arith, zero, suc}
use Rattle.hpr_terms.specs.declared.tag.Tag.{Tag}
use Rattle.hpr_syntax.specs.declared.rows.Content.{Content}
use Rattle.hpr_syntax.specs.Initial.{UsedBy}
use Rattle.hpr_syntax.specs.Skeleton.{Point}
use Rattle.hpr_syntax.specs.Tree.{Tree}
use Rattle.hpr_graph.specs.declared.vertex.Vertex.{Vertex}
use Rattle.hpr_graph.specs.declared.vertex.Vertex.TheVariants.{Entry, Init, Part, Final}
use Rattle.hpr_graph.specs.declared.edge.Kind.{Kind}
use Rattle.hpr_graph.specs.declared.edge.Kind.TheVariants as kind
use Rattle.hpr_graph.specs.declared.edge.Edge.{Edge}
use Rattle.hpr_graph.specs.declared.link.LinkKind.{LinkKind}
use Rattle.hpr_graph.specs.declared.link.LinkKind.TheVariants.{Control, Independent, Carried, Order}
use Rattle.hpr_graph.specs.declared.link.Link.{Link}
use Rattle.hpr_graph.specs.Graphs.{Graph, IsWithin, Same, OnThird, HasVertices, union_of, restrict_to, HasEdges, HasMoreEdges, nothing}
use Rattle.hpr_graph.specs.Numbered.{Numbered, HasVertex, HasLink, IsKindAt, IsEdgeAt, HasEdge, IsNumbered, IsGrown, graph_in}
use Rattle.hpr_graph.specs.Whole.{HasEnds}
use Rattle.hpr_graph.specs.Slices.{LeadsTo, ReachesOne, slice_of, slice_at}
use Rattle.hpr_graph.specs.Points.{IsShared, IsAffected, merged, AllShare, IsPreservedBy, changed, merged_all}
use Rattle.hpr_graph.specs.ProgramGraph.{Reads}
use Rattle.hpr_graph.proofs.Lists.{contains_at, no_longer}
use Rattle.hpr_graph.specs.Conflicts.{graph_at}
use Rattle.hpr_graph.proofs.Numbers.{edge_longer}
use Rattle.hpr_graph.proofs.EdgeList.{edge_one}

-- each graph is the same as itself
pub same_itself : (g : Graph) → Same g g
same_itself g = (λ v. (λ h. h, λ h. h), λ e. (λ h. h, λ h. h))

pub same_turned : (g h : Graph) → Same g h → Same h g
same_turned g h a = (λ v. ((a.0 v).1, (a.0 v).0), λ e. ((a.1 e).1, (a.1 e).0))

pub same_then : (f g h : Graph) → Same f g → Same g h → Same f h
same_then f g h a b = (
  λ v. (λ x. (b.0 v).0 ((a.0 v).0 x), λ x. (a.0 v).1 ((b.0 v).1 x)),
  λ e. (λ x. (b.1 e).0 ((a.1 e).0 x), λ x. (a.1 e).1 ((b.1 e).1 x)),
)

-- two graphs are the same where each has all of the other
pub same_from_within : (g h : Graph) → IsWithin g h → IsWithin h g → Same g h
same_from_within g h a b = (λ v. (a.0 v, b.0 v), λ e. (a.1 e, b.1 e))

pub within_from_same : (g h : Graph) → Same g h → IsWithin g h
within_from_same g h a = (λ v. (a.0 v).0, λ e. (a.1 e).0)

pub within_then : (f g h : Graph) → IsWithin f g → IsWithin g h → IsWithin f h
within_then f g h a b = (λ v x. b.0 v (a.0 v x), λ e x. b.1 e (a.1 e x))

either_map : (A B C D : Type 0) → (A ↔ C) → (B ↔ D) → ((A ⊎ B) ↔ (C ⊎ D))
either_map A B C D f g =
    (λ h. elim h [ inl a ↦ inl (f.0 a) | inr b ↦ inr (g.0 b) ], λ h. elim h [ inl c ↦ inl (f.1 c) | inr d ↦ inr (g.1 d) ])

-- unions, restrictions and slices of the same graphs are the same
pub union_same : (g g' h h' : Graph) → Same g g' → Same h h' → Same (union_of g h) (union_of g' h')
union_same g g' h h' a b = (
  λ v. either_map (g.vertex v) (h.vertex v) (g'.vertex v) (h'.vertex v) (a.0 v) (b.0 v),
  λ e. either_map (g.edge e) (h.edge e) (g'.edge e) (h'.edge e) (a.1 e) (b.1 e),
)

third_map : (P Q : Vertex → Type 0) → ((v : Vertex) → P v → Q v) → (k : Kind) → OnThird P k → OnThird Q k
third_map P Q f (kind.Control label) h = tt
third_map P Q f (kind.Independent x) h = tt
third_map P Q f (kind.Carried x w) h = f w h
third_map P Q f (kind.Order u) h = f u h

pub vertices_map : (P Q : Vertex → Type 0) → ((v : Vertex) → P v → Q v) → (e : Edge) → HasVertices P e → HasVertices Q e
vertices_map P Q f e h = (f e.to h.0, f e.from h.1, third_map P Q f e.kind h.2)

pub restrict_same : (g h : Graph) (P Q : Vertex → Type 0) → Same g h → ((v : Vertex) → P v ↔ Q v) → Same (restrict_to g P) (restrict_to h Q)
restrict_same g h P Q a f = (
  λ v. (λ x. ((a.0 v).0 x.0, (f v).0 x.1), λ x. ((a.0 v).1 x.0, (f v).1 x.1)),
  λ e. (λ x. ((a.1 e).0 x.0, vertices_map P Q (λ v. (f v).0) e x.1), λ x. ((a.1 e).1 x.0, vertices_map Q P (λ v. (f v).1) e x.1)),
)

pub leads_within : (g h : Graph) → IsWithin g h → (a : Vertex) (es : List Edge) (b : Vertex) → LeadsTo g a es b → LeadsTo h a es b
leads_within g h i a [] b w = w
leads_within g h i a (e ∷ es) b w = (i.1 e w.0, w.1, w.2, leads_within g h i e.to es b w.3)

pub reaches_within : (g h : Graph) (S T : Vertex → Type 0) → IsWithin g h → ((v : Vertex) → S v → T v) → (v : Vertex) → ReachesOne g S v → ReachesOne h T v
reaches_within g h S T i f v (s, es, one, leads) = (s, es, f s one, leads_within g h i v es s leads)

pub slice_same : (g h : Graph) (S T : Vertex → Type 0) → Same g h → ((v : Vertex) → S v ↔ T v) → Same (slice_of g S) (slice_of h T)
slice_same g h S T a f =
    restrict_same g h (ReachesOne g S) (ReachesOne h T) a
    (λ v. (
      reaches_within g h S T (within_from_same g h a) (λ s. (f s).0) v,
      reaches_within h g T S (within_from_same h g (same_turned g h a)) (λ s. (f s).1) v,
    ))

pub slice_at_same : (g h : Graph) (v : Vertex) → Same g h → Same (slice_at g v) (slice_at h v)
slice_at_same g h v a = slice_same g h (λ s. s ≡ v) (λ s. s ≡ v) a (λ s. (λ x. x, λ x. x))

pub third_map_on : (V P Q : Vertex → Type 0) → ((v : Vertex) → V v → P v → Q v) → (k : Kind) → OnThird V k → OnThird P k → OnThird Q k
third_map_on V P Q f (kind.Control label) v h = tt
third_map_on V P Q f (kind.Independent x) v h = tt
third_map_on V P Q f (kind.Carried x w) v h = f w v h
third_map_on V P Q f (kind.Order u) v h = f u v h

-- only what is said of its vertices matters to a closed graph's restrictions and slices
pub restrict_same_on : (g : Graph) (P Q : Vertex → Type 0) → HasEnds g → ((v : Vertex) → g.vertex v → P v ↔ Q v) → Same (restrict_to g P) (restrict_to g Q)
restrict_same_on g P Q closed f = (
  λ v. (λ (h, p). (h, (f v h).0 p), λ (h, q). (h, (f v h).1 q)),
  λ e. (
    λ (h, (to, from, third)). (let v = closed e h in
        (h, ((f e.to v.0).0 to, (f e.from v.1).0 from, third_map_on g.vertex P Q (λ w x. (f w x).0) e.kind v.2 third))),
    λ (h, (to, from, third)). (let v = closed e h in
        (h, ((f e.to v.0).1 to, (f e.from v.1).1 from, third_map_on g.vertex Q P (λ w x. (f w x).1) e.kind v.2 third))),
  ),
)

leads_to_vertex : (g : Graph) → HasEnds g → (a : Vertex) (es : List Edge) (b : Vertex) → g.vertex a → LeadsTo g a es b → g.vertex b
leads_to_vertex g closed a [] b h w = subst g.vertex w h
leads_to_vertex g closed a (e ∷ es) b h w = leads_to_vertex g closed e.to es b (closed e w.0).0 w.3

reaches_on : (g : Graph) (S T : Vertex → Type 0) → HasEnds g → ((v : Vertex) → g.vertex v → S v → T v) → (v : Vertex) → g.vertex v → ReachesOne g S v → ReachesOne g T v
reaches_on g S T closed f v h (s, es, one, leads) = (s, es, f s (leads_to_vertex g closed v es s h leads) one, leads)

pub slice_same_on : (g : Graph) (S T : Vertex → Type 0) → HasEnds g → ((v : Vertex) → g.vertex v → S v ↔ T v) → Same (slice_of g S) (slice_of g T)
slice_same_on g S T closed f =
    restrict_same_on g (ReachesOne g S) (ReachesOne g T) closed
    (λ v h. (reaches_on g S T closed (λ s x. (f s x).0) v h, reaches_on g T S closed (λ s x. (f s x).1) v h))

-- parts of a graph are within it
pub restrict_within : (g : Graph) (P : Vertex → Type 0) → IsWithin (restrict_to g P) g
restrict_within g P = (λ v h. h.0, λ e h. h.0)

pub slice_within : (g : Graph) (S : Vertex → Type 0) → IsWithin (slice_of g S) g
slice_within g S = restrict_within g (ReachesOne g S)

pub first_within : (g h : Graph) → IsWithin g (union_of g h)
first_within g h = (λ v x. inl x, λ e x. inl x)

pub second_within : (g h : Graph) → IsWithin h (union_of g h)
second_within g h = (λ v x. inr x, λ e x. inr x)

-- the points and the merged graph of the same graphs are the same
pub shared_same : (g g' h h' : Graph) → Same g g' → Same h h' → (v : Vertex) → IsShared g h v → IsShared g' h' v
shared_same g g' h h' a b v (there, same) = (
  (b.0 v).0 there,
  same_then (slice_at g' v) (slice_at g v) (slice_at h' v) (same_turned (slice_at g v) (slice_at g' v) (slice_at_same g g' v a))
      (same_then (slice_at g v) (slice_at h v) (slice_at h' v) same (slice_at_same h h' v b)),
)

pub affected_same : (g g' base base' : Graph) → Same g g' → Same base base' → (v : Vertex) → IsAffected g base v → IsAffected g' base' v
affected_same g g' base base' a b v (there, differs) =
    ((a.0 v).0 there, λ shared. differs (shared_same g' g base' base (same_turned g g' a) (same_turned base base' b) v shared))

-- two lists of graphs that are the same one by one
abbrev pub AllSame : List Graph → List Graph → Type 0
AllSame [] [] = Unit {0}
AllSame [] (h ∷ hs) = ⊥
AllSame (g ∷ gs) [] = ⊥
AllSame (g ∷ gs) (h ∷ hs) = Same g h × AllSame gs hs

pub all_turned : (gs hs : List Graph) → AllSame gs hs → AllSame hs gs
all_turned [] [] all = tt
all_turned [] (h ∷ hs) all = absurd all
all_turned (g ∷ gs) [] all = absurd all
all_turned (g ∷ gs) (h ∷ hs) all = (same_turned g h all.0, all_turned gs hs all.1)

pub graph_at_same : (gs hs : List Graph) → AllSame gs hs → (i : ℕ) → Same (graph_at gs i) (graph_at hs i)
graph_at_same [] [] all i = same_itself nothing
graph_at_same [] (h ∷ hs) all i = absurd all
graph_at_same (g ∷ gs) [] all i = absurd all
graph_at_same (g ∷ gs) (h ∷ hs) all zero = all.0
graph_at_same (g ∷ gs) (h ∷ hs) all (suc i) = graph_at_same gs hs all.1 i

module _ (base base' : Graph) (s : Same base base') where
  all_share_same : (v : Vertex) (gs hs : List Graph) → AllSame gs hs → AllShare base gs v → AllShare base' hs v
  all_share_same v [] [] all share = tt
  all_share_same v [] (h ∷ hs) all share = absurd all
  all_share_same v (g ∷ gs) [] all share = absurd all
  all_share_same v (g ∷ []) (h ∷ []) all share = shared_same base base' g h s all.0 v share
  all_share_same v (g ∷ []) (h ∷ k ∷ hs) all share = absurd all.1
  all_share_same v (g ∷ f ∷ gs) (h ∷ []) all share = absurd all.1
  all_share_same v (g ∷ f ∷ gs) (h ∷ k ∷ hs) all share =
      (shared_same base base' g h s all.0 v share.0, all_share_same v (f ∷ gs) (k ∷ hs) all.1 share.1)

  preserved_same : (gs hs : List Graph) → AllSame gs hs → (v : Vertex) → IsPreservedBy base gs v → IsPreservedBy base' hs v
  preserved_same gs hs all v (init, there, share) = (init, (s.0 v).0 there, all_share_same v gs hs all share)

  own_same : (g h : Graph) → Same g h → Same (slice_of g (IsAffected g base)) (slice_of h (IsAffected h base'))
  own_same g h one =
      slice_same g h (IsAffected g base) (IsAffected h base') one
      (λ v. (affected_same g h base base' one s v, affected_same h g base' base (same_turned g h one) (same_turned base base' s) v))

  changed_same : (gs hs : List Graph) → AllSame gs hs → Same (changed base gs) (changed base' hs)
  changed_same [] [] all = same_itself nothing
  changed_same [] (h ∷ hs) all = absurd all
  changed_same (g ∷ gs) [] all = absurd all
  changed_same (g ∷ []) (h ∷ []) all = own_same g h all.0
  changed_same (g ∷ []) (h ∷ k ∷ hs) all = absurd all.1
  changed_same (g ∷ f ∷ gs) (h ∷ []) all = absurd all.1
  changed_same (g ∷ f ∷ gs) (h ∷ k ∷ hs) all =
      union_same (slice_of g (IsAffected g base)) (slice_of h (IsAffected h base')) (changed base (f ∷ gs)) (changed base' (k ∷ hs))
      (own_same g h all.0) (changed_same (f ∷ gs) (k ∷ hs) all.1)

pub merged_all_same : (base base' : Graph) (gs hs : List Graph) → Same base base' → AllSame gs hs → Same (merged_all base gs) (merged_all base' hs)
merged_all_same base base' gs hs s all =
    union_same (changed base gs) (changed base' hs) (slice_of base (IsPreservedBy base gs)) (slice_of base' (IsPreservedBy base' hs))
    (changed_same base base' s gs hs all)
    (slice_same base base' (IsPreservedBy base gs) (IsPreservedBy base' hs) s
    (λ v. (preserved_same base base' s gs hs all v, preserved_same base' base (same_turned base base' s) hs gs (all_turned gs hs all) v)))

pub merged_same : (base base' a a' b b' : Graph) → Same base base' → Same a a' → Same b b' → Same (merged base a b) (merged base' a' b')
merged_same base base' a a' b b' s sa sb = merged_all_same base base' (a ∷ b ∷ []) (a' ∷ b' ∷ []) s (sa, (sb, tt))

-- a graph by numbers is closed
third_there : (g : Numbered) (k : LinkKind) (from : Vertex) (e : Kind) → IsKindAt g.vertices k from e → OnThird (HasVertex g) e
third_there g (Control label) from e is = subst (OnThird (HasVertex g)) (sym is) tt
third_there g Independent from e (x, d, is) = subst (OnThird (HasVertex g)) (sym is) tt
third_there g (Carried w) from e (x, v, d, at, is) = subst (OnThird (HasVertex g)) (sym is) (contains_at g.vertices w v at)
third_there g (Order u) from e (v, at, is) = subst (OnThird (HasVertex g)) (sym is) (contains_at g.vertices u v at)

pub closed_by_numbers : (g : Numbered) → HasEnds (graph_in g)
closed_by_numbers g e (to, l, has, is) =
    (contains_at g.vertices to e.to is.0, contains_at g.vertices l.from e.from is.1, third_there g l.kind e.from e.kind is.2)

-- a link is one edge, and an edge is one link's
pub one_edge : (vs : List Vertex) (to : ℕ) (l : Link) (e f : Edge) → IsEdgeAt vs to l e → IsEdgeAt vs to l f → e ≡ f
one_edge = edge_one

-- vertices alone add no edge
pub grown_edges : (old new : Numbered) → IsNumbered old → IsGrown old new → (e : Edge) → HasEdge new e ↔ HasEdge old e
grown_edges old new k g e = (
  λ (to, l, has, is). (let (f, was) = k.links to l (g.only to l has) in
      let same : f ≡ e = edge_one new.vertices to l f e (edge_longer old.vertices new.vertices to l f g.vertices was) is in
      (to, l, g.only to l has, subst (λ (x : Edge). IsEdgeAt old.vertices to l x) same was)),
  λ (to, l, has, is). (to, l, g.kept to l has, edge_longer old.vertices new.vertices to l e g.vertices is),
)

-- the edges after a link was added
pub link_edges : (old new : Numbered) (to : ℕ) (link : Link) → new.vertices ≡ old.vertices → HasLink new to link → ((at : ℕ) (l : Link) → HasLink old at l → HasLink new at l) → ((at : ℕ) (l : Link) → HasLink new at l → HasLink old at l ⊎ ((at ≡ to) × (l ≡ link)))
    → (e : Edge) → HasEdge new e ↔ (HasEdge old e ⊎ IsEdgeAt old.vertices to link e)
link_edges old new to link same there kept only e = (
  λ (i, l, has, is). (let is' : IsEdgeAt old.vertices i l e = subst (λ (vs : List Vertex). IsEdgeAt vs i l e) same is in
      elim (only i l has) [
        | inl was ↦ inl (i, l, was, is')
        | inr now ↦ inr (subst (λ (x : Link). IsEdgeAt old.vertices to x e) now.1 (subst (λ (n : ℕ). IsEdgeAt old.vertices n l e) now.0 is'))
      ]),
  λ h. elim h [
    | inl (i, l, was, is) ↦ (i, l, kept i l was, subst (λ (vs : List Vertex). IsEdgeAt vs i l e) (sym same) is)
    | inr is ↦ (to, link, there, subst (λ (vs : List Vertex). IsEdgeAt vs to link e) (sym same) is)
  ],
)

-- a graph has more than n edges where one within it has
pub more_edges : (g h : Graph) (m n : ℕ) → ((e : Edge) → g.edge e → h.edge e) → HasEdges g m → n < m → HasMoreEdges h n
more_edges g h m n into (es, (once, all), len) more = (es, once, λ e x. into e ((all e).0 x), omega (arith, more, len))

-- a graph has not more edges than one that has all of its edges
pub no_more_edges : (g h : Graph) (m n : ℕ) → ((e : Edge) → h.edge e → g.edge e) → HasEdges g m → m ≤ n → ¬ HasMoreEdges h n
no_more_edges g h m n all (fs, (once', all'), len) few (es, once, in_h, more) =
    let short : length es ≤ length fs = no_longer es fs once (λ e x. (all' e).1 (all e (in_h e x))) in
    omega (arith, more, few, len, short)

-- a part tells its tag
pub part_tag : (t u : Tag) (c d : Content) → Part t c ≡ Part u d → t ≡ u
part_tag t u c d e = cc

-- a vertex that reads a name is at a point that uses it
pub used_by_reads : (t : Tree) (x : List ℕ) (v : Vertex) (z : Point) → Reads t x v z → UsedBy t x z
used_by_reads t x Entry z h = absurd h
used_by_reads t x (Init y) z h = absurd h
used_by_reads t x (Part u c) z (uses, says, e) = subst (UsedBy t x) (sym e) (c, says, uses)
used_by_reads t x (Final y) z (e, there, f) = subst (UsedBy t x) (sym f) there
