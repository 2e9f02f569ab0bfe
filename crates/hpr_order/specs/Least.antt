-- The least of what has a property.
--
-- HasTag v t          == v is the part t
-- HasTwoIn vs t       == two of the vertices are the part t, with two contents
-- IsLeastIn cmp P o   == o is the least that has P in this order, or none where nothing has
-- lesser cmp o x      == the lesser of the two, or x where there is no other
-- noted seen o v      == the lesser of o and the tag of v, if that is seen; else o
use Rattle.std.specs.Prelude.{◌≡◌, ◌≢◌, Bool, if◌then◌else◌, List, Option, Some, None, Contains}
use Rattle.std.specs.declared.cmp.Ordering.{Ordering}
use Rattle.std.specs.declared.cmp.Ordering.TheVariants.{Less, Equal, Greater}
use Rattle.hpr_terms.specs.declared.tag.Tag.{Tag}
use Rattle.hpr_syntax.specs.declared.rows.Content.{Content}
use Rattle.hpr_graph.specs.declared.vertex.Vertex.{Vertex}
use Rattle.hpr_graph.specs.declared.vertex.Vertex.TheVariants.{Entry, Init, Part, Final}
use Rattle.hpr_graph.specs.Order.{tag_cmp}
use Rattle.hpr_order.specs.Regions.{IsLeastOf}

abbrev pub HasTag : Vertex → Tag → Type 0
HasTag v t = (c : Content) × (v ≡ Part t c)

abbrev pub HasTwoIn : List Vertex → Tag → Type 0
HasTwoIn vs t = (c d : Content) × (c ≢ d) × Contains vs (Part t c) × Contains vs (Part t d)

abbrev pub IsLeastIn : {X : Type 0} → (X → X → Ordering) → (X → Type 0) → Option X → Type 0
IsLeastIn {X} cmp P None = (x : X) → ¬ P x
IsLeastIn {X} cmp P (Some x) = IsLeastOf cmp P x

abbrev pub before_or : {X : Type 0} → Ordering → X → X → X
before_or Less x y = x
before_or Equal x y = y
before_or Greater x y = y

abbrev pub lesser : {X : Type 0} → (X → X → Ordering) → Option X → X → X
lesser cmp None x = x
lesser cmp (Some y) x = before_or (cmp x y) x y

abbrev pub noted : (Tag → Bool) → Option Tag → Vertex → Option Tag
noted seen least Entry = least
noted seen least (Init x) = least
noted seen least (Part t c) = if seen t then Some (lesser tag_cmp least t) else least
noted seen least (Final x) = least
