-- The edges of a graph as a list in which none stands twice, as long as its rows together.
use Rattle.std.proofs.Common.{◌≡◌, ℕ, zero, suc, ◌+◌, ◌↔◌, inl, inr, Some, List, [], ◌∷◌, ◌++◌, length, Contains, slice_get, sum_by, refl, sym, ap, ◌∙◌, subst, arith, length-append}
use Rattle.std.proofs.lemmas.List.Sums.{sum_by-cons}
use Rattle.std.proofs.lemmas.List.Elements.{Contains-append_left, Contains-append_right, Contains-append_cases}
use Rattle.hpr_graph.specs.declared.vertex.Vertex.{Vertex}
use Rattle.hpr_graph.specs.declared.edge.Kind.{Kind}
use Rattle.hpr_graph.specs.declared.edge.Kind.TheVariants as kind
use Rattle.hpr_graph.specs.declared.edge.Edge.{Edge}
use Rattle.hpr_graph.specs.declared.link.LinkKind.{LinkKind}
use Rattle.hpr_graph.specs.declared.link.LinkKind.TheVariants.{Control, Independent, Carried, Order}
use Rattle.hpr_graph.specs.declared.link.Link.{Link}
use Rattle.hpr_graph.specs.Graphs.{IsOnce, HasEdges}
use Rattle.hpr_graph.specs.Numbered.{Numbered, IsKindAt, IsEdgeAt, HasLink, HasEdge, IsNumbered, row_items, graph_in, link_count}
use Rattle.hpr_graph.proofs.Lists.{some_inj, in_none, in_cons, in_here, in_later, once_none, once_tail, once_head, once_cons, once_append}

-- a link is one edge
kind_one : (vs : List Vertex) (k : LinkKind) (v : Vertex) (e f : Kind) → IsKindAt vs k v e → IsKindAt vs k v f → e ≡ f
kind_one vs (Control label) v e f h i = h ∙ sym i
kind_one vs Independent v e f (x, d, is) (y, c, js) = is ∙ ap kind.Independent (some_inj x y (sym d ∙ c)) ∙ sym js
kind_one vs (Carried w) v e f (x, t, d, at, is) (y, s, c, bt, js) =
    is ∙ ap (λ (z : List ℕ). kind.Carried z t) (some_inj x y (sym d ∙ c)) ∙ ap (λ (z : Vertex). kind.Carried y z) (some_inj t s (sym at ∙ bt)) ∙ sym js
kind_one vs (Order u) v e f (t, at, is) (s, bt, js) = is ∙ ap kind.Order (some_inj t s (sym at ∙ bt)) ∙ sym js

pub edge_one : (vs : List Vertex) (to : ℕ) (l : Link) (e f : Edge) → IsEdgeAt vs to l e → IsEdgeAt vs to l f → e ≡ f
edge_one vs to l e f h i =
    let a : e.to ≡ f.to = some_inj e.to f.to (sym h.0 ∙ i.0) in
    let b : e.from ≡ f.from = some_inj e.from f.from (sym h.1 ∙ i.1) in
    let c : e.kind ≡ f.kind = kind_one vs l.kind f.from e.kind f.kind (subst (λ (v : Vertex). IsKindAt vs l.kind v e.kind) b h.2) i.2 in
    (λ t. record { to = a t; from = b t; kind = c t })

module _ (vs : List Vertex) (once : IsOnce vs) where
  kind_once : (k m : LinkKind) (v : Vertex) (e : Kind) → IsKindAt vs k v e → IsKindAt vs m v e → k ≡ m
  kind_once (Control label) (Control other) v e h h' = let s : kind.Control label ≡ kind.Control other = sym h ∙ h' in let t : label ≡ other = cc in ap Control t
  kind_once (Control label) Independent v e h (x, d, is) = absurd (let s : kind.Control label ≡ kind.Independent x = sym h ∙ is in cc)
  kind_once (Control label) (Carried w) v e h (x, y, d, at, is) = absurd (let s : kind.Control label ≡ kind.Carried x y = sym h ∙ is in cc)
  kind_once (Control label) (Order u) v e h (y, at, is) = absurd (let s : kind.Control label ≡ kind.Order y = sym h ∙ is in cc)
  kind_once Independent (Control label) v e (x, d, is) h = absurd (let s : kind.Control label ≡ kind.Independent x = sym h ∙ is in cc)
  kind_once Independent Independent v e h h' = refl
  kind_once Independent (Carried w) v e (x, d, is) (x', y, d', at, is') = absurd (let s : kind.Independent x ≡ kind.Carried x' y = sym is ∙ is' in cc)
  kind_once Independent (Order u) v e (x, d, is) (y, at, is') = absurd (let s : kind.Independent x ≡ kind.Order y = sym is ∙ is' in cc)
  kind_once (Carried w) (Control label) v e (x, y, d, at, is) h = absurd (let s : kind.Control label ≡ kind.Carried x y = sym h ∙ is in cc)
  kind_once (Carried w) Independent v e (x, y, d, at, is) (x', d', is') = absurd (let s : kind.Carried x y ≡ kind.Independent x' = sym is ∙ is' in cc)
  kind_once (Carried w) (Carried w') v e (x, y, d, at, is) (x', y', d', at', is') =
      let s : kind.Carried x y ≡ kind.Carried x' y' = sym is ∙ is' in
      let t : y ≡ y' = cc in
      ap Carried (once w w' y' (at ∙ ap Some t) at')
  kind_once (Carried w) (Order u) v e (x, y, d, at, is) (y', at', is') = absurd (let s : kind.Carried x y ≡ kind.Order y' = sym is ∙ is' in cc)
  kind_once (Order u) (Control label) v e (y, at, is) h = absurd (let s : kind.Control label ≡ kind.Order y = sym h ∙ is in cc)
  kind_once (Order u) Independent v e (y, at, is) (x, d, is') = absurd (let s : kind.Order y ≡ kind.Independent x = sym is ∙ is' in cc)
  kind_once (Order u) (Carried w) v e (y, at, is) (x, y', d, at', is') = absurd (let s : kind.Order y ≡ kind.Carried x y' = sym is ∙ is' in cc)
  kind_once (Order u) (Order u') v e (y, at, is) (y', at', is') =
      let s : kind.Order y ≡ kind.Order y' = sym is ∙ is' in
      let t : y ≡ y' = cc in
      ap Order (once u u' y' (at ∙ ap Some t) at')

  -- an edge is one link's
  pub link_once : (to to' : ℕ) (l l' : Link) (e : Edge) → IsEdgeAt vs to l e → IsEdgeAt vs to' l' e → (to ≡ to') × (l ≡ l')
  link_once to to' l l' e h h' =
      let a : l.from ≡ l'.from = once l.from l'.from e.from h.1 h'.1 in
      let b : l.kind ≡ l'.kind = kind_once l.kind l'.kind e.from e.kind h.2 h'.2 in
      (once to to' e.to h.0 h'.0, λ i. record { from = a i; kind = b i })

-- the edges with P, each once
abbrev Listed : (Edge → Type 0) → ℕ → Type 0
Listed P n = (es : List Edge) × IsOnce es × (length es ≡ n) × ((e : Edge) → Contains es e ↔ P e)

module _ (vs : List Vertex) (once : IsOnce vs) where
  abbrev IsIn : ℕ → List Link → Edge → Type 0
  IsIn to row e = (l : Link) × Contains row l × IsEdgeAt vs to l e

  row_listed : (to : ℕ) (row : List Link) → IsOnce row → ((l : Link) → Contains row l → (e : Edge) × IsEdgeAt vs to l e) → Listed (IsIn to row) (length row)
  row_listed to [] o stands = ([], once_none, refl, λ e. ((λ h. absurd (in_none e h)), (λ (l, h, is). absurd (in_none l h))))
  row_listed to (l ∷ row) o stands =
      let (f, is) = stands l (in_here l row) in
      let (es, es_once, len, all) = row_listed to row (once_tail l row o) (λ k h. stands k (in_later l k row h)) in (
        f ∷ es,
        once_cons f es (λ h. (let (k, there, is') = (all f).0 h in
            let same = link_once vs once to to l k f is is' in
            once_head l row o (subst (Contains row) (sym same.1) there))) es_once,
        ap suc len,
        λ e. (
          (λ h. elim (in_cons f e es h) [
            | inl same ↦ (l, in_here l row, subst (IsEdgeAt vs to l) same is)
            | inr later ↦ (let (k, there, is') = (all e).0 later in (k, in_later l k row there, is'))
          ]),
          (λ (k, there, is'). elim (in_cons l k row there) [
            | inl same ↦ subst (Contains (f ∷ es)) (edge_one vs to l f e is (subst (λ (x : Link). IsEdgeAt vs to x e) (sym same) is')) (in_here f es)
            | inr later ↦ in_later f e es ((all e).1 (k, later, is'))
          ]),
        ),
      )

  abbrev IsInRows : ℕ → List (List Link) → Edge → Type 0
  IsInRows n rows e = (i : ℕ) × (l : Link) × Contains (row_items (slice_get rows i)) l × IsEdgeAt vs (n + i) l e

  in_rows : (n : ℕ) (row : List Link) (rows : List (List Link)) (es fs : List Edge) (e : Edge) → ((x : Edge) → Contains es x ↔ IsIn (n + 0) row x) → ((x : Edge) → Contains fs x ↔ IsInRows (n + 1) rows x)
      → (i : ℕ) (l : Link) → Contains (row_items (slice_get (row ∷ rows) i)) l → IsEdgeAt vs (n + i) l e → Contains (es ++ fs) e
  in_rows n row rows es fs e es_all fs_all zero l there is = Contains-append_left es fs e ((es_all e).1 (l, there, is))
  in_rows n row rows es fs e es_all fs_all (suc i) l there is =
      Contains-append_right es fs e ((fs_all e).1 (i, l, there, subst (λ (m : ℕ). IsEdgeAt vs m l e) (let one : n + suc i ≡ (n + 1) + i = omega arith in one) is))

  rows_listed : (n : ℕ) (rows : List (List Link)) → ((i : ℕ) → IsOnce (row_items (slice_get rows i))) → ((i : ℕ) (l : Link) → Contains (row_items (slice_get rows i)) l → (e : Edge) × IsEdgeAt vs (n + i) l e)
      → Listed (IsInRows n rows) (sum_by (λ row. length row) rows)
  rows_listed n [] o stands = ([], once_none, refl, λ e. ((λ h. absurd (in_none e h)), (λ (i, l, h, is). absurd (in_none l h))))
  rows_listed n (row ∷ rows) o stands =
      let one : (i : ℕ) → (n + 1) + i ≡ n + suc i = λ i. omega arith in
      let (es, es_once, es_len, es_all) = row_listed (n + 0) row (o 0) (stands 0) in
      let (fs, fs_once, fs_len, fs_all) = rows_listed (n + 1) rows (λ i. o (suc i))
      (λ i l h. (let (e, is) = stands (suc i) l h in (e, subst (λ (m : ℕ). IsEdgeAt vs m l e) (sym (one i)) is))) in (
        es ++ fs,
        once_append es fs es_once fs_once (λ e a b.
            (let (l, there, is) = (es_all e).0 a in
            let (i, k, there', is') = (fs_all e).0 b in
            let same = (link_once vs once (n + 0) ((n + 1) + i) l k e is is').0 in
            omega (arith, same))),
        omega (arith, length-append es fs, es_len, fs_len, sum_by-cons (λ (r : List Link). length r) row rows),
        λ e. (
          (λ h. elim (Contains-append_cases es fs e h) [
            | inl a ↦ (let (l, there, is) = (es_all e).0 a in (0, l, there, is))
            | inr b ↦ (let (i, l, there, is) = (fs_all e).0 b in (suc i, l, there, subst (λ (m : ℕ). IsEdgeAt vs m l e) (one i) is))
          ]),
          (λ (i, l, there, is). in_rows n row rows es fs e es_all fs_all i l there is),
        ),
      )

zero_plus : (i : ℕ) → i ≡ 0 + i
zero_plus i = omega arith

-- a graph has as many edges as links
pub edges_counted : (g : Numbered) → IsNumbered g → HasEdges (graph_in g) (link_count g)
edges_counted g k =
    let (es, once, len, all) = rows_listed g.vertices k.once 0 g.links k.links_once
    (λ i l h. (let (e, is) = k.links i l h in (e, subst (λ (m : ℕ). IsEdgeAt g.vertices m l e) (zero_plus i) is))) in (
      es,
      (
        once,
        λ e. (
          (λ h. (let (i, l, there, is) = (all e).0 h in (i, l, there, subst (λ (m : ℕ). IsEdgeAt g.vertices m l e) (sym (zero_plus i)) is))),
          (λ (i, l, there, is). (all e).1 (i, l, there, subst (λ (m : ℕ). IsEdgeAt g.vertices m l e) (zero_plus i) is)),
        ),
      ),
      len,
    )

-- an edge of a graph is that of its link
pub edge_link : (g : Numbered) → IsOnce g.vertices → (to : ℕ) (l : Link) (e : Edge) → IsEdgeAt g.vertices to l e → HasEdge g e → HasLink g to l
edge_link g once to l e is (to', l', has, is') =
    let same = link_once g.vertices once to to' l l' e is is' in
    subst (λ (x : Link). HasLink g to x) (sym same.1) (subst (λ (n : ℕ). HasLink g n l') (sym same.0) has)
