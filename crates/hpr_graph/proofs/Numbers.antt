-- A graph by numbers after a vertex or a link was added.
use Rattle.std.proofs.Common.{◌≡◌, ℕ, ◌+◌, ◌<◌, inl, inr, Some, List, [], ◌∷◌, ◌++◌, length, Contains, slice_get, sym, subst, ◌∙◌, arith, length-append}
use Rattle.std.proofs.lemmas.Option.{slice_get_within}
use Rattle.std.proofs.lemmas.List.{length-set}
use Rattle.hpr_graph.specs.declared.vertex.Vertex.{Vertex}
use Rattle.hpr_graph.specs.declared.edge.Kind.{Kind}
use Rattle.hpr_graph.specs.declared.edge.Edge.{Edge}
use Rattle.hpr_graph.specs.declared.link.LinkKind.{LinkKind}
use Rattle.hpr_graph.specs.declared.link.LinkKind.TheVariants.{Control, Independent, Carried, Order}
use Rattle.hpr_graph.specs.declared.link.Link.{Link}
use Rattle.hpr_graph.specs.Graphs.{IsOnce}
use Rattle.hpr_graph.specs.Numbered.{Numbered, IsKindAt, IsEdgeAt, IsLink, IsCounted, IsGrown, row_items}
use Rattle.hpr_graph.specs.Moves.{with_link, with_row}
use Rattle.hpr_graph.proofs.Lists.{get_longer, once_push}
use Rattle.hpr_graph.proofs.Rows.{InRow, row_grown, count_grown, with_link-only, with_link-once, with_link-count}

-- an edge by numbers is one in a list that keeps the numbers
kind_longer : (vs us : List Vertex) (k : LinkKind) (v : Vertex) (e : Kind) → ((i : ℕ) (x : Vertex) → slice_get vs i ≡ Some x → slice_get us i ≡ Some x) → IsKindAt vs k v e → IsKindAt us k v e
kind_longer vs us (Control label) v e more h = h
kind_longer vs us Independent v e more h = h
kind_longer vs us (Carried w) v e more (x, t, d, at, is) = (x, t, d, more w t at, is)
kind_longer vs us (Order u) v e more (t, at, is) = (t, more u t at, is)

pub edge_longer : (vs us : List Vertex) (to : ℕ) (l : Link) (e : Edge) → ((i : ℕ) (x : Vertex) → slice_get vs i ≡ Some x → slice_get us i ≡ Some x) → IsEdgeAt vs to l e → IsEdgeAt us to l e
edge_longer vs us to l e more h = (more to e.to h.0, more l.from e.from h.1, kind_longer vs us l.kind e.from e.kind more h.2)

abbrev pub numbered : List Vertex → List (List Link) → Numbered
numbered vs rows = record { vertices = vs; links = rows }

pub link_within : (g : Numbered) (to : ℕ) (l : Link) → IsLink g to l → to < length g.vertices
link_within g to l (e, is) = slice_get_within g.vertices to e.to is.0

-- the invariant after a vertex
pub counted_vertex : (vs vs' : List Vertex) (rows rows' : List (List Link)) (n : ℕ) (v : Vertex) → IsCounted (numbered vs rows) n → ¬ Contains vs v → vs' ≡ vs ++ v ∷ [] → rows' ≡ with_row rows → IsCounted (numbered vs' rows') n
counted_vertex vs vs' rows rows' n v g new vs_is rows_is =
    rw (vs_is, rows_is) (record {
      numbered = record {
        once = once_push vs v g.numbered.once new;
        rows = omega (arith, g.numbered.rows, length-append vs (v ∷ []), length-append rows ([] ∷ []));
        links_once = λ to. subst (λ (xs : List Link). IsOnce xs) (sym (row_grown rows to)) (g.numbered.links_once to);
        links = λ to l h.
            (let (e, is) = g.numbered.links to l (subst (λ (xs : List Link). Contains xs l) (row_grown rows to) h) in
            (e, edge_longer vs (vs ++ v ∷ []) to l e (λ i x at. get_longer vs (v ∷ []) i x at) is));
      };
      count = g.count ∙ sym (count_grown rows);
    })

pub grown_vertex : (vs vs' : List Vertex) (rows rows' : List (List Link)) (v : Vertex) → vs' ≡ vs ++ v ∷ [] → rows' ≡ with_row rows → IsGrown (numbered vs rows) (numbered vs' rows')
grown_vertex vs vs' rows rows' v vs_is rows_is =
    rw (vs_is, rows_is) (record {
      vertices = λ at x h. get_longer vs (v ∷ []) at x h;
      kept = λ at l h. subst (λ (xs : List Link). Contains xs l) (sym (row_grown rows at)) h;
      only = λ at l h. subst (λ (xs : List Link). Contains xs l) (row_grown rows at) h;
    })

-- the invariant after a link
pub counted_link : (vs : List Vertex) (rows rows' : List (List Link)) (n to : ℕ) (link : Link) → IsCounted (numbered vs rows) n → IsLink (numbered vs rows) to link → ¬ InRow rows to link → rows' ≡ with_link rows to link → IsCounted (numbered vs rows') (n + 1)
counted_link vs rows rows' n to link g (e, stands) new is =
    let h : to < length rows = omega (arith, g.numbered.rows, slice_get_within vs to e.to stands.0) in
    rw is (record {
      numbered = record {
        once = g.numbered.once;
        rows = length-set rows to (row_items (slice_get rows to) ++ link ∷ []) ∙ g.numbered.rows;
        links_once = with_link-once rows to link h g.numbered.links_once new;
        links = λ at l m. elim (with_link-only rows to link h at l m) [
          | inl was ↦ g.numbered.links at l was
          | inr now ↦ (e, subst (λ (x : Link). IsEdgeAt vs at x e) (sym now.1) (subst (λ (i : ℕ). IsEdgeAt vs i link e) (sym now.0) stands))
        ];
      };
      count = omega (arith, g.count, with_link-count rows to link h);
    })

pub grown_itself : (g : Numbered) → IsGrown g g
grown_itself g = record { vertices = λ at v h. h; kept = λ at l h. h; only = λ at l h. h }

pub grown_then : (f g h : Numbered) → IsGrown f g → IsGrown g h → IsGrown f h
grown_then f g h a b =
    record {
      vertices = λ at v e. b.vertices at v (a.vertices at v e);
      kept = λ at l e. b.kept at l (a.kept at l e);
      only = λ at l e. a.only at l (b.only at l e);
    }
