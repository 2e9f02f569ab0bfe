-- Links among other vertices, which define the same names under the same numbers.
use Rattle.std.proofs.Common.{◌≡◌, ℕ, Option, Some, List, map, length, slice_get, refl, sym, ap, ◌∙◌, subst}
use Rattle.std.proofs.lemmas.List.{length-map}
use Rattle.hpr_terms.proofs.Facts.{get_in_map, get_map}
use Rattle.hpr_graph.specs.declared.vertex.Vertex.{Vertex}
use Rattle.hpr_graph.specs.declared.edge.Kind.{Kind}
use Rattle.hpr_graph.specs.declared.edge.Kind.TheVariants as kind
use Rattle.hpr_graph.specs.declared.link.LinkKind.{LinkKind}
use Rattle.hpr_graph.specs.declared.link.LinkKind.TheVariants.{Control, Independent, Carried, Order}
use Rattle.hpr_graph.specs.declared.link.Link.{Link}
use Rattle.hpr_graph.specs.Graphs.{IsOnce, name_of}
use Rattle.hpr_graph.specs.Numbered.{IsKindAt, IsLink, IsCounted}
use Rattle.hpr_graph.proofs.Numbers.{numbered}

module _ (vs us : List Vertex) (names : map name_of us ≡ map name_of vs) where
  same_length : length us ≡ length vs
  same_length = sym (length-map us name_of) ∙ ap (λ (ns : List (Option (List ℕ))). length ns) names ∙ length-map vs name_of

  there_named : (i : ℕ) (v : Vertex) → slice_get vs i ≡ Some v → (u : Vertex) × (slice_get us i ≡ Some u) × (name_of u ≡ name_of v)
  there_named i v at =
      get_map name_of us i (name_of v) (ap (λ (ns : List (Option (List ℕ))). slice_get ns i) names ∙ get_in_map name_of vs i v at)

  kind_named : (k : LinkKind) (v u : Vertex) (e : Kind) → name_of u ≡ name_of v → IsKindAt vs k v e → (f : Kind) × IsKindAt us k u f
  kind_named (Control label) v u e same h = (kind.Control label, refl)
  kind_named Independent v u e same (x, d, is) = (kind.Independent x, (x, same ∙ d, refl))
  kind_named (Carried w) v u e same (x, t, d, at, is) = let (z, there, named) = there_named w t at in (kind.Carried x z, (x, z, same ∙ d, there, refl))
  kind_named (Order w) v u e same (t, at, is) = let (z, there, named) = there_named w t at in (kind.Order z, (z, there, refl))

  link_named : (rows : List (List Link)) (to : ℕ) (l : Link) → IsLink (numbered vs rows) to l → IsLink (numbered us rows) to l
  link_named rows to l (e, (a, b, c)) =
      let (v, there, same) = there_named to e.to a in
      let (u, from, named) = there_named l.from e.from b in
      let (k, is) = kind_named l.kind e.from u e.kind named c in
      (record { to = v; from = u; kind = k }, (there, from, is))

  pub counted_named : (rows copies : List (List Link)) (n : ℕ) → copies ≡ rows → IsOnce us → IsCounted (numbered vs rows) n → IsCounted (numbered us copies) n
  counted_named rows copies n same once g =
      subst (λ (ls : List (List Link)). IsCounted (numbered us ls) n) (sym same) (record {
        numbered = record {
          once = once;
          rows = g.numbered.rows ∙ sym same_length;
          links_once = g.numbered.links_once;
          links = λ to l h. link_named rows to l (g.numbered.links to l h);
        };
        count = g.count;
      })
