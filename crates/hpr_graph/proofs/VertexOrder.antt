-- The orders of vertices, of edges and of links are total, and what ties is the same.
use Rattle.std.proofs.Common.{◌≡◌, ◌↔◌, ℕ, Bool, true, false, IsTrue, List, [], refl, sym, ap, ap₂, ◌∙◌}
use Rattle.std.specs.Cmp.{IsTotalOrder, tied_itself, then_total, on_total, nat_cmp_total, bool_cmp_total}
use Rattle.std.specs.Cmp.Lexicographic.{nat_list_cmp_total}
use Rattle.std.specs.FinMap.{nat_cmp-IsAntisymmetric, slice_cmp-IsAntisymmetric}
use Rattle.std.specs.Ordering.{is_eq, nat_cmp, bool_cmp, ordering_then}
use Rattle.std.specs.declared.cmp.Ordering.{Ordering}
use Rattle.std.specs.declared.cmp.Ordering.TheVariants.{Less, Equal, Greater}
use Rattle.hpr_terms.specs.declared.tag.Tag.{Tag}
use Rattle.hpr_terms.specs.declared.expr.Expr.{Expr}
use Rattle.hpr_terms.specs.TermOrder.{code_of}
use Rattle.hpr_terms.specs.TermOf.{term_of}
use Rattle.hpr_terms.specs.Private.ExprCode.{expr_inj}
use Rattle.hpr_syntax.specs.declared.rows.Content.{Content}
use Rattle.hpr_syntax.specs.declared.rows.Content.TheVariants.{Assign, If, While, Write, Store}
use Rattle.hpr_graph.specs.declared.vertex.Vertex.{Vertex}
use Rattle.hpr_graph.specs.declared.vertex.Vertex.TheVariants.{Entry, Init, Part, Final}
use Rattle.hpr_graph.specs.declared.edge.Kind.{Kind}
use Rattle.hpr_graph.specs.declared.edge.Kind.TheVariants.{Control, Independent, Carried, Order}
use Rattle.hpr_graph.specs.declared.edge.Edge.{Edge}
use Rattle.hpr_graph.specs.contracts.vertex.VertexPartialEq.TheImpl as equals
use Rattle.hpr_graph.specs.contracts.vertex.VertexOrd.TheImpl as vertices
use Rattle.hpr_graph.specs.contracts.vertex.VertexOrd.TheImpl.Laws as vertex_laws
use Rattle.hpr_graph.specs.Order.{name_cmp, tag_cmp, expr_cmp, content_cmp, vertex_cmp, kind_rank, kind_cmp, edge_cmp}
use Rattle.hpr_graph.proofs.Ascending.{Never, never_both, total_by}
use Rattle.hpr_graph.proofs.Orders.{vertex_order}

pub vertex_total : IsTotalOrder vertex_cmp
vertex_total = total_by (vertices.ghosts).cmp vertex_cmp vertex_order vertex_laws.total-law

-- a kind of edge as its rank, its label, its name and its vertex
abbrev label_of : Kind → Bool
label_of (Control b) = b
label_of _ = false

abbrev kind_name : Kind → List ℕ
kind_name (Independent x) = x
kind_name (Carried x v) = x
kind_name _ = []

abbrev kind_vertex : Kind → Vertex
kind_vertex (Carried x v) = v
kind_vertex (Order v) = v
kind_vertex _ = Entry

abbrev by_fields : Kind → Kind → Ordering
by_fields k l =
    ordering_then (nat_cmp (kind_rank k) (kind_rank l)) (ordering_then (bool_cmp (label_of k) (label_of l)) (ordering_then (name_cmp (kind_name k) (kind_name l)) (vertex_cmp (kind_vertex k) (kind_vertex l))))

then_same : (o : Ordering) → ordering_then o Equal ≡ o
then_same Less = refl
then_same Equal = refl
then_same Greater = refl

kind_by_fields : (k l : Kind) → by_fields k l ≡ kind_cmp k l
kind_by_fields (Control a) (Control b) = then_same (bool_cmp a b)
kind_by_fields (Independent x) (Independent y) = then_same (name_cmp x y)
kind_by_fields (Carried x v) (Carried y w) = refl
kind_by_fields (Order u) (Order v) = refl
kind_by_fields _ _ = refl

kind_total : IsTotalOrder kind_cmp
kind_total =
    total_by by_fields kind_cmp kind_by_fields
    (then_total (on_total kind_rank nat_cmp_total) (then_total (on_total label_of bool_cmp_total) (then_total (on_total kind_name nat_list_cmp_total) (on_total kind_vertex vertex_total))))

pub edge_total : IsTotalOrder edge_cmp
edge_total =
    then_total (on_total (λ (e : Edge). e.to) vertex_total) (then_total (on_total (λ (e : Edge). e.from) vertex_total) (on_total (λ (e : Edge). e.kind) kind_total))

pub vertex_never : Never vertex_cmp
vertex_never = never_both vertex_cmp vertex_total

pub edge_never : Never edge_cmp
edge_never = never_both edge_cmp edge_total

pub vertex_itself : (v : Vertex) → vertex_cmp v v ≡ Equal
vertex_itself v = tied_itself vertex_total v

pub then_equal : (a b : Ordering) → ordering_then a b ≡ Equal → (a ≡ Equal) × (b ≡ Equal)
then_equal Equal b e = (refl, e)
then_equal Less b e = absurd cc
then_equal Greater b e = absurd cc

pub name_tied : (x y : List ℕ) → name_cmp x y ≡ Equal → x ≡ y
name_tied = slice_cmp-IsAntisymmetric nat_cmp-IsAntisymmetric

pub tag_tied : (s t : Tag) → tag_cmp s t ≡ Equal → s ≡ t
tag_tied s t e =
    let (author, serial) = then_equal (nat_cmp s.author t.author) (nat_cmp s.serial t.serial) e in
    let a : s.author ≡ t.author = nat_cmp-IsAntisymmetric s.author t.author author in
    let b : s.serial ≡ t.serial = nat_cmp-IsAntisymmetric s.serial t.serial serial in
    (λ i. record { author = a i; serial = b i })

expr_tied : (e f : Expr) → expr_cmp e f ≡ Equal → e ≡ f
expr_tied e f h = (expr_inj e f [] [] (name_tied (code_of (term_of e)) (code_of (term_of f)) h)).0

content_tied : (c d : Content) → content_cmp c d ≡ Equal → c ≡ d
content_tied (Assign x e) (Assign y f) h =
    let (name, expr) = then_equal (name_cmp x y) (expr_cmp e f) h in
    ap₂ (λ (z : List ℕ) (g : Expr). Assign z g) (name_tied x y name) (expr_tied e f expr)
content_tied (If e) (If f) h = ap (λ (g : Expr). If g) (expr_tied e f h)
content_tied (While e) (While f) h = ap (λ (g : Expr). While g) (expr_tied e f h)
content_tied (Write x e) (Write y f) h =
    let (name, expr) = then_equal (name_cmp x y) (expr_cmp e f) h in
    ap₂ (λ (z : List ℕ) (g : Expr). Write z g) (name_tied x y name) (expr_tied e f expr)
content_tied (Store x i e) (Store y j f) h =
    let (name, rest) = then_equal (name_cmp x y) (ordering_then (expr_cmp i j) (expr_cmp e f)) h in
    let (index, value) = then_equal (expr_cmp i j) (expr_cmp e f) rest in
    let x_y : x ≡ y = name_tied x y name in
    let i_j : i ≡ j = expr_tied i j index in
    let e_f : e ≡ f = expr_tied e f value in
    (λ k. Store (x_y k) (i_j k) (e_f k))
content_tied _ _ h = absurd cc

pub vertex_tied : (v w : Vertex) → vertex_cmp v w ≡ Equal → v ≡ w
vertex_tied Entry Entry h = refl
vertex_tied (Init x) (Init y) h = ap (λ (z : List ℕ). Init z) (name_tied x y h)
vertex_tied (Part s c) (Part t d) h =
    let (tag, content) = then_equal (tag_cmp s t) (content_cmp c d) h in
    ap₂ (λ (r : Tag) (k : Content). Part r k) (tag_tied s t tag) (content_tied c d content)
vertex_tied (Final x) (Final y) h = ap (λ (z : List ℕ). Final z) (name_tied x y h)
vertex_tied _ _ h = absurd cc

-- what `==` answers at vertices
pub equal_by : (o : Ordering) → is_eq o ≡ true → o ≡ Equal
equal_by Equal e = refl
equal_by Less e = absurd cc
equal_by Greater e = absurd cc

pub vertex_equal : (v w : Vertex) (r : Bool) → r ≡ (equals.ghosts).eq v w → IsTrue r ↔ (v ≡ w)
vertex_equal v w r is =
    let by_order : r ≡ is_eq (vertex_cmp v w) = is ∙ vertex_laws.matches_eq-law v w ∙ ap is_eq (vertex_order v w) in
    let tie : v ≡ w → r ≡ true = λ same. by_order ∙ ap is_eq (ap (λ (x : Vertex). vertex_cmp x w) same ∙ vertex_itself w) in
    (λ p. vertex_tied v w (equal_by (vertex_cmp v w) (sym by_order ∙ p)), tie)
