-- The derived order of vertices is that of the definitions.
use Rattle.std.proofs.Common.{◌≡◌, refl, ap, ap₂}
use Rattle.std.specs.Ordering.{ordering_then}
use Rattle.std.specs.declared.cmp.Ordering.{Ordering}
use Rattle.hpr_terms.proofs.Compare.{cmp_codes}
use Rattle.hpr_syntax.specs.declared.rows.Content.{Content}
use Rattle.hpr_syntax.specs.declared.rows.Content.TheVariants.{Assign, If, While, Write, Store}
use Rattle.hpr_syntax.specs.contracts.rows.ContentOrd.TheImpl as contents
use Rattle.hpr_graph.specs.declared.vertex.Vertex.{Vertex}
use Rattle.hpr_graph.specs.declared.vertex.Vertex.TheVariants.{Entry, Init, Part, Final}
use Rattle.hpr_graph.specs.contracts.vertex.VertexOrd.TheImpl as vertices
use Rattle.hpr_graph.specs.Order.{content_cmp, vertex_cmp, name_cmp, tag_cmp}

content_order : (c d : Content) → (contents.ghosts).cmp c d ≡ content_cmp c d
content_order (Assign x e) (Assign y f) = ap (λ o. ordering_then (name_cmp x y) o) (cmp_codes e f)
content_order (If e) (If f) = cmp_codes e f
content_order (While e) (While f) = cmp_codes e f
content_order (Write x e) (Write y f) = ap (λ o. ordering_then (name_cmp x y) o) (cmp_codes e f)
content_order (Store x i e) (Store y j f) = ap₂ (λ (o p : Ordering). ordering_then (name_cmp x y) (ordering_then o p)) (cmp_codes i j) (cmp_codes e f)
content_order _ _ = refl

pub vertex_order : (v w : Vertex) → (vertices.ghosts).cmp v w ≡ vertex_cmp v w
vertex_order Entry Entry = refl
vertex_order (Init x) (Init y) = refl
vertex_order (Part s c) (Part t d) = ap (λ o. ordering_then (tag_cmp s t) o) (content_order c d)
vertex_order (Final x) (Final y) = refl
vertex_order _ _ = refl
