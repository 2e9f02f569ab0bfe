-- What interferes, as JSON. Members stand in ascending order of their keys.
--
-- own_first ss n     == the file n, and behind it the others in their order; all where there is no file n
-- file_at ss n       == the name of the file n; empty where there is none
-- conflict_object e f g p n == a conflict: the edge that shows it, the variant's file, its group, the
--                       affected point, and the number of the variant
-- conflict_data ss (c, g) == the same of c in the group g, where the files are base and the variants: edge
--                       and point have their places in the variant's own file, or else in another
-- group_object is e s n == a group: the places of its conflicts, from 0, its edge, a sentence on what this
--                       means, and the number of the variant
-- group_data ss g    == the same of the group g
-- status_of cs       == whether the variants interfere
-- answer_data ss cs ns gs == the conflicts with the numbers of their groups, and the groups
-- Tells ss cs d      == d tells these conflicts in groups
use Rattle.std.specs.Prelude.{◌≡◌, ℕ, zero, suc, ◌≤◌, List, [], ◌∷◌, ◌++◌, map, zip, remove, take, drop, Contains, codes}
use Rattle.serde_json.specs.Data.{Data, string, array, object, member, no_members}
use Rattle.serde_json.specs.View.{items_of}
use Rattle.hpr_syntax.specs.Tree.{Tree}
use Rattle.hpr_graph.specs.declared.conflict.ManyConflict.{ManyConflict}
use Rattle.hpr_graph.specs.declared.edge.Edge.{Edge}
use Rattle.hpr_graph.specs.declared.vertex.Vertex.{Vertex}
use Rattle.hpr_graph.specs.Answer.{graphs_of}
use Rattle.hpr_graph.specs.Conflicts.{AreConflictsBy, told_many}
use Rattle.hpr_graph.specs.ProgramGraph.{graph_of}
use Rattle.hpr_report.specs.GraphJson.{number_data}
use Rattle.hpr_located.specs.Sources.{Standing}
use Rattle.hpr_located.specs.Shown.{located_data, located_edge}
use Rattle.hpr_interference.specs.Groups.{AreGroups, Group}
use Rattle.hpr_conflicts.specs.Sentences.{sentence}

abbrev pub own_first : {X : Type 0} → List X → ℕ → List X
own_first ss n = take 1 (drop n ss) ++ remove ss n

abbrev pub file_at : List Standing → ℕ → List ℕ
file_at [] n = []
file_at (s ∷ ss) zero = s.file
file_at (s ∷ ss) (suc n) = file_at ss n

abbrev pub conflict_object : Data → List ℕ → ℕ → Data → ℕ → Data
conflict_object edge file group point variant =
    object
    (member (codes "edge") edge
    (member (codes "file") (string file)
    (member (codes "group") (number_data group)
    (member (codes "point") point (member (codes "variant") (number_data variant) no_members)))))

abbrev pub conflict_data : List Standing → ManyConflict × ℕ → Data
conflict_data ss (c, g) =
    conflict_object (located_edge (own_first ss c.variant) c.edge) (file_at ss c.variant) g
    (located_data (own_first ss c.variant) c.point) c.variant

abbrev pub group_object : List ℕ → Data → List ℕ → ℕ → Data
group_object places edge said variant =
    object
    (member (codes "conflicts") (array (items_of (map number_data places)))
    (member (codes "edge") edge
    (member (codes "sentence") (string said) (member (codes "variant") (number_data variant) no_members))))

abbrev pub group_data : List Standing → Group → Data
group_data ss g =
    group_object g.places (located_edge (own_first ss g.variant) g.edge)
    (sentence (file_at ss g.variant) g.edge g.points) g.variant

abbrev pub status_of : List ManyConflict → List ℕ
status_of [] = codes "none"
status_of (c ∷ cs) = codes "interference"

abbrev pub answer_data : List Standing → List ManyConflict → List ℕ → List Group → Data
answer_data ss cs ns gs =
    object
    (member (codes "conflicts") (array (items_of (map (conflict_data ss) (zip cs ns))))
    (member (codes "groups") (array (items_of (map (group_data ss) gs)))
    (member (codes "status") (string (status_of cs)) no_members)))

abbrev pub Tells : List Standing → List ManyConflict → Data → Type 0
Tells ss cs d = (ns : List ℕ) × (gs : List Group) × AreGroups cs ns gs × (d ≡ answer_data ss cs ns gs)
