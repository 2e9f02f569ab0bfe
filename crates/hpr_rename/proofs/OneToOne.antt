-- The graph of a tree whose tags are replaced one to one is its graph with these tags. Each tag is first replaced by a new one, and then each of
-- these by what it becomes: in both steps a renaming that takes each tag back replaces them so.
use Rattle.std.proofs.Common.{◌≡◌, ℕ, ◌+◌, ◌-◌, ◌<◌, List, [], ◌∷◌, Contains, refl, sym, ap, subst, ◌∙◌, inl, inr, arith}
use Rattle.hpr_terms.specs.declared.tag.Tag.{Tag}
use Rattle.hpr_terms.proofs.Facts.{in_none, in_cons, map_in}
use Rattle.hpr_syntax.specs.Body.{Body, done, action, branch, loop}
use Rattle.hpr_syntax.specs.Issued.{Issued}
use Rattle.hpr_syntax.specs.Parts.{tags_of}
use Rattle.hpr_syntax.specs.Tree.{Tree}
use Rattle.hpr_graph.specs.declared.vertex.Vertex.{Vertex}
use Rattle.hpr_graph.specs.declared.vertex.Vertex.TheVariants.{Entry, Init, Part, Final}
use Rattle.hpr_graph.specs.declared.edge.Kind.{Kind}
use Rattle.hpr_graph.specs.declared.edge.Kind.TheVariants.{Control, Independent, Carried, Order}
use Rattle.hpr_graph.specs.declared.edge.Edge.{Edge}
use Rattle.hpr_graph.specs.Graphs.{Graph, Same}
use Rattle.hpr_graph.specs.ProgramGraph.{IsVertexOf, graph_of}
use Rattle.hpr_graph.proofs.Laws.{same_then, same_turned}
use Rattle.hpr_paths.proofs.Says.{says_stands}
use Rattle.hpr_closure.proofs.ProgramWhole.{program_ends}
use Rattle.hpr_rename.specs.Renamed.{body_with, tree_with, vertex_with, kind_with, edge_with, graph_with}
use Rattle.hpr_rename.specs.Replaced.{IsTagOf, IsOneToOne}
use Rattle.hpr_rename.proofs.Graphs.{graph_back, graph_there, vertex_twice}
use Rattle.hpr_rename.proofs.Mapped.{mapped}
use Rattle.hpr_rename.proofs.MappedAlike.{back_mapped, with_mapped}
use Rattle.hpr_rename.proofs.Programs.{tags_with}
use Rattle.hpr_rename.proofs.Swaps.{IsReplacement, replaced}
use Rattle.hpr_rename.proofs.Tags.{listed}

-- ---- tags that are replaced by new ones, or stay

module _ (f h : Tag → Tag) (t : Tree) (same : (u : Tag) → IsTagOf t u → f u ≡ h u) where
  vertex_alike : (v : Vertex) → IsVertexOf t v → vertex_with f v ≡ vertex_with h v
  vertex_alike Entry has = refl
  vertex_alike (Init x) has = refl
  vertex_alike (Part u c) has = ap (λ (s : Tag). Part s c) (same u (listed t.body [] u (says_stands t.body u c has)))
  vertex_alike (Final x) has = refl

swapped_graph : (f : Tag → Tag) (t : Tree) → IsReplacement f t → (issued : Issued) → Same (graph_of (tree_with f issued t)) (graph_with f (graph_of t))
swapped_graph f t is issued =
    let (h, back, agree, same) = replaced f t is in
    let g : Graph = graph_of t in
    let there : Same (graph_of (tree_with h issued t)) (graph_with f g) =
    same_then (graph_of (tree_with h issued t)) (graph_back h g) (graph_with f g) (graph_there h back t issued)
    (same_then (graph_back h g) (mapped (vertex_with h) g) (graph_with f g) (back_mapped h g)
    (same_turned (graph_with f g) (mapped (vertex_with h) g)
    (with_mapped g (program_ends t) f (vertex_with h) (vertex_twice h back) (vertex_alike h f t agree)))) in
    subst (λ (s : Tree). Same (graph_of s) (graph_with f g)) (same issued) there

-- ---- tags that are renamed twice

graph_with_same : (f : Tag → Tag) (g h : Graph) → Same g h → Same (graph_with f g) (graph_with f h)
graph_with_same f g h same = (
  λ w. (λ (v, has, is). (v, (same.0 v).0 has, is), λ (v, has, is). (v, (same.0 v).1 has, is)),
  λ d. (λ (e, has, is). (e, (same.1 e).0 has, is), λ (e, has, is). (e, (same.1 e).1 has, is)),
)

module _ (f h : Tag → Tag) where
  abbrev both : Tag → Tag
  both u = h (f u)

  body_both : (b : Body) → body_with h (body_with f b) ≡ body_with both b
  body_both done = refl
  body_both (action t d rest) = ap (action (h (f t)) d) (body_both rest)
  body_both (branch t e a b rest) =
      let p = body_both a in let q = body_both b in let r = body_both rest in (λ i. branch (h (f t)) e (p i) (q i) (r i))
  body_both (loop t e b rest) = let q = body_both b in let r = body_both rest in (λ i. loop (h (f t)) e (q i) (r i))

  tree_both : (between issued : Issued) (t : Tree) → tree_with h issued (tree_with f between t) ≡ tree_with both issued t
  tree_both between issued t = let p = body_both t.body in (λ i. record { issued = issued; body = p i; finals = t.finals })

  vertex_both : (v : Vertex) → vertex_with h (vertex_with f v) ≡ vertex_with both v
  vertex_both Entry = refl
  vertex_both (Init x) = refl
  vertex_both (Part t c) = refl
  vertex_both (Final x) = refl

  kind_both : (k : Kind) → kind_with h (kind_with f k) ≡ kind_with both k
  kind_both (Control label) = refl
  kind_both (Independent x) = refl
  kind_both (Carried x w) = ap (Carried x) (vertex_both w)
  kind_both (Order u) = ap Order (vertex_both u)

  edge_both : (e : Edge) → edge_with h (edge_with f e) ≡ edge_with both e
  edge_both e = let p = vertex_both e.to in let q = vertex_both e.from in let r = kind_both e.kind in (λ i. record { to = p i; from = q i; kind = r i })

  graph_both : (g : Graph) → Same (graph_with h (graph_with f g)) (graph_with both g)
  graph_both g = (
    λ w. (
      λ (v, (u, has, is), is_w). (u, has, sym (vertex_both u) ∙ ap (vertex_with h) is ∙ is_w),
      λ (u, has, is). (vertex_with f u, (u, has, refl), vertex_both u ∙ is),
    ),
    λ d. (
      λ (e, (c, has, is), is_d). (c, has, sym (edge_both c) ∙ ap (edge_with h) is ∙ is_d),
      λ (c, has, is). (edge_with f c, (c, has, refl), edge_both c ∙ is),
    ),
  )

-- ---- tags that are replaced one to one

module _ (f : Tag → Tag) where
  -- more than each serial of these tags, and of what they become
  abbrev above : List Tag → ℕ
  above [] = 0
  above (t ∷ ts) = t.serial + (f t).serial + 1 + above ts

  below : (ts : List Tag) (u : Tag) → Contains ts u → (u.serial < above ts) × ((f u).serial < above ts)
  below [] u h = absurd (in_none u h)
  below (t ∷ ts) u h = elim (in_cons t u ts h) [
    | inl same ↦
        (let here : (t.serial < above (t ∷ ts)) × ((f t).serial < above (t ∷ ts)) = (omega arith, omega arith) in
        subst (λ (w : Tag). (w.serial < above (t ∷ ts)) × ((f w).serial < above (t ∷ ts))) same here)
    | inr later ↦ (let (own, other) = below ts u later in (omega (arith, own), omega (arith, other)))
  ]

  module _ (t : Tree) (once : IsOneToOne f t) where
    abbrev most : ℕ
    most = above (tags_of t.body [])

    abbrev up : Tag → Tag
    up u = record { author = u.author; serial = u.serial + most }

    abbrev down : Tag → Tag
    down u = f (record { author = u.author; serial = u.serial - most })

    abbrev between : Tree
    between = tree_with up t.issued t

    up_once : (u v : Tag) → up u ≡ up v → u ≡ v
    up_once u v e =
        let a : u.author ≡ v.author = ap (λ (w : Tag). w.author) e in
        let s : u.serial + most ≡ v.serial + most = ap (λ (w : Tag). w.serial) e in
        let n : u.serial ≡ v.serial = omega (arith, s) in
        (λ i. record { author = a i; serial = n i })

    down_up : (u : Tag) → down (up u) ≡ f u
    down_up u =
        let n : u.serial + most - most ≡ u.serial = omega arith in
        ap (λ (k : ℕ). f (record { author = u.author; serial = k })) n

    -- what was there has become new
    came_from : (w : Tag) → IsTagOf between w → (u : Tag) × IsTagOf t u × (up u ≡ w)
    came_from w h = map_in up (tags_of t.body []) w (subst (λ (ts : List Tag). Contains ts w) (tags_with up t.body []) h)

    goes_up : IsReplacement up t
    goes_up = record {
      one_to_one = λ u v hu hv e. up_once u v e;
      own_or_new = λ u hu. inr (λ again. (let (less, other) = below (tags_of t.body []) (up u) again in omega (arith, less)));
    }

    goes_down : IsReplacement down between
    goes_down = record {
      one_to_one = λ w z hw hz e. (let (u, hu, is_w) = came_from w hw in
          let (v, hv, is_z) = came_from z hz in
          let alike : f u ≡ f v = sym (down_up u) ∙ ap down is_w ∙ e ∙ sym (ap down is_z) ∙ down_up v in
          sym is_w ∙ ap up (once u v hu hv alike) ∙ is_z);
      own_or_new = λ w hw. inr (λ again. (let (u, hu, is_w) = came_from w hw in
          let (v, hv, is_down) = came_from (down w) again in
          let (own, other) = below (tags_of t.body []) u hu in
          let n : v.serial + most ≡ (f u).serial = ap (λ (x : Tag). x.serial) (is_down ∙ sym (ap down is_w) ∙ down_up u) in
          omega (arith, other, n)));
    }

    up_and_down : both up down ≡ f
    up_and_down = (λ i u. down_up u i)

    between_is : (issued : Issued) → tree_with down issued between ≡ tree_with f issued t
    between_is issued = tree_both up down t.issued issued t ∙ ap (λ (k : Tag → Tag). tree_with k issued t) up_and_down

    pub renamed_graph : (issued : Issued) → Same (graph_of (tree_with f issued t)) (graph_with f (graph_of t))
    renamed_graph issued =
        let g : Graph = graph_of t in
        let low : Graph = graph_of (tree_with down issued between) in
        let two : Same low (graph_with down (graph_with up g)) =
        same_then low (graph_with down (graph_of between)) (graph_with down (graph_with up g)) (swapped_graph down between goes_down issued)
        (graph_with_same down (graph_of between) (graph_with up g) (swapped_graph up t goes_up t.issued)) in
        let one : Same low (graph_with (both up down) g) =
        same_then low (graph_with down (graph_with up g)) (graph_with (both up down) g) two (graph_both up down g) in
        let own : Same low (graph_with f g) = subst (λ (k : Tag → Tag). Same low (graph_with k g)) up_and_down one in
        subst (λ (s : Tree). Same (graph_of s) (graph_with f g)) (between_is issued) own
