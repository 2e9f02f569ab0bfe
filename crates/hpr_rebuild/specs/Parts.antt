-- The parts among vertices.
--
-- is_part v             == whether v is a part
-- IsIssuedPart issued v == where v is a part, its serial is at least 1 and at most the number issued to its
--                          author
use Rattle.std.specs.Prelude.{◌≡◌, ◌≤◌, Bool, true, false}
use Rattle.hpr_terms.specs.declared.tag.Tag.{Tag}
use Rattle.hpr_syntax.specs.declared.rows.Content.{Content}
use Rattle.hpr_syntax.specs.Issued.{Issued, issued_to}
use Rattle.hpr_graph.specs.declared.vertex.Vertex.{Vertex}
use Rattle.hpr_graph.specs.declared.vertex.Vertex.TheVariants.{Entry, Init, Part, Final}

abbrev pub is_part : Vertex → Bool
is_part Entry = false
is_part (Init x) = false
is_part (Part t c) = true
is_part (Final x) = false

abbrev pub IsIssuedPart : Issued → Vertex → Type 0
IsIssuedPart issued v = (t : Tag) (c : Content) → v ≡ Part t c → (1 ≤ t.serial) × (t.serial ≤ issued_to t.author issued)
