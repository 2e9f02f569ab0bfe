-- What the edge of some conflicts of one variant means, in words. Such an edge is in the points' slices in
-- the merged graph, and not in their slices in the variant's own; it ends in a vertex of the latter. What
-- stands elsewhere may have another content in the variant, so it is told with what it says.
--
-- named v            == a vertex of the variant: a part by its tag
-- shown v            == any vertex: a part by its tag, with what it says
-- gets v x           == how the vertex v gets the name x
-- branch_text label v == where the test of v comes out so
-- flow_text x from to == the name x flows from one vertex to the other
-- meaning e          == what the edge says
-- points_text vs     == three of these vertices at most, and the number of the rest
-- sentence file e vs == that an edge matters to these points beside the other changes, and not in the file
--                      alone, where it may stand without reaching them; and what it says
use Rattle.std.specs.Prelude.{ℕ, Bool, true, false, List, [], ◌∷◌, ◌++◌, length, codes}
use Rattle.std.specs.Fmt.{decimal}
use Rattle.hpr_terms.specs.Texts.{tag_text}
use Rattle.hpr_syntax.specs.Print.{content_text}
use Rattle.hpr_graph.specs.declared.vertex.Vertex.{Vertex}
use Rattle.hpr_graph.specs.declared.vertex.Vertex.TheVariants.{Entry, Init, Part, Final}
use Rattle.hpr_graph.specs.declared.edge.Kind.{Kind}
use Rattle.hpr_graph.specs.declared.edge.Kind.TheVariants.{Control, Independent, Carried, Order}
use Rattle.hpr_graph.specs.declared.edge.Edge.{Edge}

unfoldable pub named : Vertex → List ℕ
named Entry = codes "the program"
named (Init x) = codes "the start value of " ++ x
named (Part t c) = tag_text t
named (Final x) = codes "the final value of " ++ x

unfoldable pub shown : Vertex → List ℕ
shown Entry = named Entry
shown (Init x) = named (Init x)
shown (Part t c) = tag_text t ++ codes " (" ++ content_text c ++ codes ")"
shown (Final x) = named (Final x)

unfoldable pub gets : Vertex → List ℕ → List ℕ
gets Entry x = codes "reads " ++ x
gets (Init y) x = codes "reads " ++ x
gets (Part t c) x = codes "reads " ++ x
gets (Final y) x = codes "comes"

unfoldable pub branch_text : Bool → Vertex → List ℕ
branch_text true Entry = codes "no branch"
branch_text true v = codes "the true branch of " ++ shown v
branch_text false v = codes "the false branch of " ++ shown v

unfoldable pub flow_text : List ℕ → Vertex → Vertex → List ℕ
flow_text x from to = named to ++ codes " " ++ gets to x ++ codes " from " ++ shown from

unfoldable pub meaning_by : Kind → Vertex → Vertex → List ℕ
meaning_by (Control label) from to = named to ++ codes " stands in " ++ branch_text label from
meaning_by (Independent x) from to = flow_text x from to
meaning_by (Carried x w) from to = flow_text x from to ++ codes " of an earlier turn of " ++ shown w
meaning_by (Order u) from to =
    shown from ++ codes " comes before " ++ named to ++ codes ", and both reach " ++ shown u

abbrev pub meaning : Edge → List ℕ
meaning e = meaning_by e.kind e.from e.to

unfoldable pub points_text : List Vertex → List ℕ
points_text [] = []
points_text (a ∷ []) = named a
points_text (a ∷ b ∷ []) = named a ++ codes " and " ++ named b
points_text (a ∷ b ∷ c ∷ []) = named a ++ codes ", " ++ named b ++ codes " and " ++ named c
points_text (a ∷ b ∷ c ∷ d ∷ vs) =
    named a ++ codes ", " ++ named b ++ codes ", " ++ named c ++ codes " and "
    ++ decimal (length (d ∷ vs)) ++ codes " more"

unfoldable pub sentence : List ℕ → Edge → List Vertex → List ℕ
sentence file e vs =
    codes "beside the other changes, and not in " ++ file ++ codes " alone, this matters to "
    ++ points_text vs
    ++ codes ": " ++ meaning e
