-- The vertices beside each vertex, by their numbers.
--
-- follows kind          == whether a slice follows links of this kind: those of control and flow edges
-- Follows kind          == a slice follows links of this kind
-- HasSource links from  == one of these links that a slice follows is from the vertex with this number
-- sources_of links      == the sources of those of the links that a slice follows, in their order
-- sources_at g to       == the vertices from which control and flow edges lead to the vertex with this number
-- AreTargets g rows     == for each vertex a row of exactly the vertices to which a control or flow edge
--                          leads from it
-- IsPushedFrom old links n new == the rows with the number n more in the row of each vertex from which one of
--                                 these links is that a slice follows
use Rattle.std.specs.Prelude.{◌≡◌, ℕ, ◌↔◌, ◌⊎◌, Bool, true, false, if◌then◌else◌, List, [], ◌∷◌, Contains, length}
use Rattle.hpr_search.specs.Rows.{numbers_at}
use Rattle.hpr_graph.specs.declared.link.LinkKind.{LinkKind}
use Rattle.hpr_graph.specs.declared.link.LinkKind.TheVariants.{Control, Independent, Carried, Order}
use Rattle.hpr_graph.specs.declared.link.Link.{Link}
use Rattle.hpr_graph.specs.Numbered.{Numbered, row_of}

abbrev pub follows : LinkKind → Bool
follows (Control label) = true
follows Independent = true
follows (Carried w) = true
follows (Order u) = false

abbrev pub Follows : LinkKind → Type 0
Follows kind = follows kind ≡ true

abbrev pub HasSource : List Link → ℕ → Type 0
HasSource links from = (l : Link) × Contains links l × Follows l.kind × (l.from ≡ from)

abbrev pub sources_of : List Link → List ℕ
sources_of [] = []
sources_of (l ∷ links) = if follows l.kind then l.from ∷ sources_of links else sources_of links

abbrev pub sources_at : Numbered → ℕ → List ℕ
sources_at g to = sources_of (row_of g to)

pub record AreTargets (g : Numbered) (rows : List (List ℕ)) : Type 0 where
  pub count : length rows ≡ length g.vertices
  pub exact : (from to : ℕ) → Contains (numbers_at rows from) to ↔ HasSource (row_of g to) from

abbrev pub IsPushedFrom : List (List ℕ) → List Link → ℕ → List (List ℕ) → Type 0
IsPushedFrom old links n new =
    (from to : ℕ) → Contains (numbers_at new from) to ↔ (Contains (numbers_at old from) to ⊎ (HasSource links from × (to ≡ n)))
