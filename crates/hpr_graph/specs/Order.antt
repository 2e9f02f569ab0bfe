-- The order of vertices and of edges: variants and fields in the order of their declaration, names by bytes.
--
-- name_cmp x y    == by bytes, the shorter first where it begins the longer
-- tag_cmp s t     == by author, then by serial
-- expr_cmp e f    == by the numbers that the expressions are in preorder: literals, names, operators by the
--                    declared order and their operands, then elements by their array's name and their index
-- content_rank c  == Assign, If, While, Write, Store
-- content_cmp c d == by variant; then assignments and writes by name and expression, predicates by
--                    expression, stores by array, index and number
-- vertex_rank v   == Entry, Init, Part, Final
-- vertex_cmp v w  == by variant; then Init and Final by name, Part by tag and content
-- kind_rank k     == Control, Independent, Carried, Order
-- kind_cmp k l    == by variant; then by label, by name, by loop or shared use
-- edge_cmp e f    == by target, then by source, then by kind
use Rattle.std.specs.Prelude.{ℕ, List}
use Rattle.std.specs.declared.cmp.Ordering.{Ordering}
use Rattle.std.specs.Ordering.{nat_cmp, bool_cmp, ordering_then}
use Rattle.std.specs.Cmp.Lexicographic.{slice_cmp}
use Rattle.hpr_terms.specs.declared.tag.Tag.{Tag}
use Rattle.hpr_terms.specs.declared.expr.Expr.{Expr}
use Rattle.hpr_terms.specs.TermOrder.{code_of}
use Rattle.hpr_terms.specs.TermOf.{term_of}
use Rattle.hpr_syntax.specs.declared.rows.Content.{Content}
use Rattle.hpr_syntax.specs.declared.rows.Content.TheVariants.{Assign, If, While, Write, Store}
use Rattle.hpr_graph.specs.declared.vertex.Vertex.{Vertex}
use Rattle.hpr_graph.specs.declared.vertex.Vertex.TheVariants.{Entry, Init, Part, Final}
use Rattle.hpr_graph.specs.declared.edge.Kind.{Kind}
use Rattle.hpr_graph.specs.declared.edge.Kind.TheVariants.{Control, Independent, Carried, Order}
use Rattle.hpr_graph.specs.declared.edge.Edge.{Edge}

abbrev pub name_cmp : List ℕ → List ℕ → Ordering
name_cmp x y = slice_cmp nat_cmp x y

abbrev pub tag_cmp : Tag → Tag → Ordering
tag_cmp s t = ordering_then (nat_cmp s.author t.author) (nat_cmp s.serial t.serial)

abbrev pub expr_cmp : Expr → Expr → Ordering
expr_cmp e f = slice_cmp nat_cmp (code_of (term_of e)) (code_of (term_of f))

abbrev pub content_rank : Content → ℕ
content_rank (Assign x e) = 0
content_rank (If e) = 1
content_rank (While e) = 2
content_rank (Write x e) = 3
content_rank (Store x i e) = 4

abbrev pub content_cmp : Content → Content → Ordering
content_cmp (Assign x e) (Assign y f) = ordering_then (name_cmp x y) (expr_cmp e f)
content_cmp (If e) (If f) = expr_cmp e f
content_cmp (While e) (While f) = expr_cmp e f
content_cmp (Write x e) (Write y f) = ordering_then (name_cmp x y) (expr_cmp e f)
content_cmp (Store x i e) (Store y j f) = ordering_then (name_cmp x y) (ordering_then (expr_cmp i j) (expr_cmp e f))
content_cmp c d = nat_cmp (content_rank c) (content_rank d)

abbrev pub vertex_rank : Vertex → ℕ
vertex_rank Entry = 0
vertex_rank (Init x) = 1
vertex_rank (Part t c) = 2
vertex_rank (Final x) = 3

abbrev pub vertex_cmp : Vertex → Vertex → Ordering
vertex_cmp (Init x) (Init y) = name_cmp x y
vertex_cmp (Part s c) (Part t d) = ordering_then (tag_cmp s t) (content_cmp c d)
vertex_cmp (Final x) (Final y) = name_cmp x y
vertex_cmp v w = nat_cmp (vertex_rank v) (vertex_rank w)

abbrev pub kind_rank : Kind → ℕ
kind_rank (Control label) = 0
kind_rank (Independent x) = 1
kind_rank (Carried x w) = 2
kind_rank (Order u) = 3

abbrev pub kind_cmp : Kind → Kind → Ordering
kind_cmp (Control label) (Control other) = bool_cmp label other
kind_cmp (Independent x) (Independent y) = name_cmp x y
kind_cmp (Carried x v) (Carried y w) = ordering_then (name_cmp x y) (vertex_cmp v w)
kind_cmp (Order u) (Order v) = vertex_cmp u v
kind_cmp k l = nat_cmp (kind_rank k) (kind_rank l)

abbrev pub edge_cmp : Edge → Edge → Ordering
edge_cmp e f = ordering_then (vertex_cmp e.to f.to) (ordering_then (vertex_cmp e.from f.from) (kind_cmp e.kind f.kind))
