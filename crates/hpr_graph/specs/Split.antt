-- A graph split: some of its parts get new tags of author 0, wherever they stand. The 1989 paper has no tags.
--
-- HasTag g t v           == v is a part of g with the tag t
-- KeepsTag hs g t v      == v is the part with the tag t of the first of the graphs hs that has a part of g
--                           with that tag
-- IsSplitOff hs g v      == v is a part of g, another part of g has its tag, and v doesn't keep it
-- max_serial             == the greatest serial
-- new_tag n              == the tag 0.n
-- with_new_tags z vs     == each of these vertices with a new tag: the k-th, k from 1, with 0.(z + k)
-- AreSplitParts g P vs   == vs are the parts of g that have P, in the order of vertices
-- AreRenamed g P z rs    == these, each with its new tag
-- PassSerials g P z      == they are so many that their serials would pass the greatest
-- AreRenamedWithin g P z rs == these, each with its new tag, where the serials don't pass the greatest; else
--                              none
-- with_tag t v           == the part v under the tag t
-- renamed rs v           == the vertex v under its new tag, where the list has one for it; else v
-- renamed_kind rs k, renamed_edge rs e == the same of each vertex of an edge
-- split_graph rs g       == the same of each vertex of g, and of each vertex of its edges
-- split_numbered rs g    == the same of g by numbers: they stay as they are, and so do its links
-- split_rank rs rank     == the same of each vertex of the rank
-- split_issued n issued  == author 0's number is greater by n; every other author's is as it was
-- HasOneContent P        == no two parts that have P differ in their content alone
-- AreIssuedAmong P issued == the serial of each part that has P is at least 1 and at most its author's issued
--                            number
use Rattle.std.specs.Prelude.{◌≡◌, ℕ, ◌+◌, ◌<◌, ◌≤◌, ◌==◌, ◌↔◌, ◌⊎◌, if◌then◌else◌, List, [], ◌∷◌, map, length, Contains}
use Rattle.std.specs.Ordering.{is_eq}
use Rattle.hpr_terms.specs.declared.limits.TheConstants.{MAX_TAG_NUMBER}
use Rattle.hpr_terms.specs.declared.tag.Tag.{Tag}
use Rattle.hpr_syntax.specs.declared.rows.Content.{Content}
use Rattle.hpr_syntax.specs.Issued.{Issued, issued_to, raised}
use Rattle.hpr_graph.specs.declared.vertex.Vertex.{Vertex}
use Rattle.hpr_graph.specs.declared.vertex.Vertex.TheVariants.{Entry, Init, Part, Final}
use Rattle.hpr_graph.specs.declared.edge.Kind.{Kind}
use Rattle.hpr_graph.specs.declared.edge.Kind.TheVariants.{Control, Independent, Carried, Order}
use Rattle.hpr_graph.specs.declared.edge.Edge.{Edge}
use Rattle.hpr_graph.specs.Fits.{IsPart}
use Rattle.hpr_graph.specs.Graphs.{Graph}
use Rattle.hpr_graph.specs.Numbered.{Numbered}
use Rattle.hpr_graph.specs.Order.{vertex_cmp}
use Rattle.hpr_graph.specs.InOrder.{Ascends}

abbrev pub HasTag : Graph → Tag → Vertex → Type 0
HasTag g t v = (c : Content) × (v ≡ Part t c) × g.vertex v

abbrev pub KeepsTag : List Graph → Graph → Tag → Vertex → Type 0
KeepsTag [] g t v = ⊥
KeepsTag (h ∷ hs) g t v =
    (HasTag g t v × h.vertex v) ⊎ ((¬ ((w : Vertex) × HasTag g t w × h.vertex w)) × KeepsTag hs g t v)

abbrev pub IsSplitOff : List Graph → Graph → Vertex → Type 0
IsSplitOff hs g v = (t : Tag) × HasTag g t v × ((w : Vertex) × HasTag g t w × ¬ (w ≡ v)) × ¬ KeepsTag hs g t v

abbrev pub max_serial : ℕ
max_serial = MAX_TAG_NUMBER

abbrev pub new_tag : ℕ → Tag
new_tag n = record { author = 0; serial = n }

abbrev pub with_new_tags : ℕ → List Vertex → List (Vertex × Tag)
with_new_tags z [] = []
with_new_tags z (v ∷ vs) = (v, new_tag (z + 1)) ∷ with_new_tags (z + 1) vs

abbrev pub AreSplitParts : Graph → (Vertex → Type 0) → List Vertex → Type 0
AreSplitParts g P vs = Ascends vertex_cmp vs × ((v : Vertex) → Contains vs v ↔ (g.vertex v × IsPart v × P v))

abbrev pub AreRenamed : Graph → (Vertex → Type 0) → ℕ → List (Vertex × Tag) → Type 0
AreRenamed g P z rs = (vs : List Vertex) × AreSplitParts g P vs × (rs ≡ with_new_tags z vs)

abbrev pub PassSerials : Graph → (Vertex → Type 0) → ℕ → Type 0
PassSerials g P z = (vs : List Vertex) × AreSplitParts g P vs × (max_serial < z + length vs)

abbrev pub AreRenamedWithin : Graph → (Vertex → Type 0) → ℕ → List (Vertex × Tag) → Type 0
AreRenamedWithin g P z rs = (AreRenamed g P z rs × (z + length rs ≤ max_serial)) ⊎ (PassSerials g P z × (rs ≡ []))

abbrev pub with_tag : Tag → Vertex → Vertex
with_tag t Entry = Entry
with_tag t (Init x) = Init x
with_tag t (Part s c) = Part t c
with_tag t (Final x) = Final x

abbrev pub renamed : List (Vertex × Tag) → Vertex → Vertex
renamed [] v = v
renamed (r ∷ rs) v = if is_eq (vertex_cmp r.0 v) then with_tag r.1 v else renamed rs v

abbrev pub renamed_kind : List (Vertex × Tag) → Kind → Kind
renamed_kind rs (Control label) = Control label
renamed_kind rs (Independent x) = Independent x
renamed_kind rs (Carried x w) = Carried x (renamed rs w)
renamed_kind rs (Order u) = Order (renamed rs u)

abbrev pub renamed_edge : List (Vertex × Tag) → Edge → Edge
renamed_edge rs e = record { to = renamed rs e.to; from = renamed rs e.from; kind = renamed_kind rs e.kind }

abbrev pub split_graph : List (Vertex × Tag) → Graph → Graph
split_graph rs g = record {
  vertex = λ w. (v : Vertex) × g.vertex v × (renamed rs v ≡ w);
  edge = λ f. (e : Edge) × g.edge e × (renamed_edge rs e ≡ f);
}

abbrev pub split_numbered : List (Vertex × Tag) → Numbered → Numbered
split_numbered rs g = record { vertices = map (renamed rs) g.vertices; links = g.links }

abbrev pub split_rank : List (Vertex × Tag) → List Vertex → List Vertex
split_rank rs rank = map (renamed rs) rank

abbrev pub split_issued : ℕ → Issued → Issued
split_issued n issued = if n == 0 then issued else raised 0 (issued_to 0 issued + n) issued

abbrev pub HasOneContent : (Vertex → Type 0) → Type 0
HasOneContent P = (t : Tag) (c d : Content) → P (Part t c) → P (Part t d) → c ≡ d

abbrev pub AreIssuedAmong : (Vertex → Type 0) → Issued → Type 0
AreIssuedAmong P issued = (t : Tag) (c : Content) → P (Part t c) → (1 ≤ t.serial) × (t.serial ≤ issued_to t.author issued)
