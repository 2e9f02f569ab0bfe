-- The text of a vertex among the texts of all.
use Rattle.std.proofs.Common.{◌≡◌, ℕ, zero, suc, ◌<◌, List, [], ◌∷◌, length, map, get_or, Global, String, string_bytes, ap, ◌∙◌, arith}
use Rattle.hpr_graph.specs.declared.vertex.Vertex.{Vertex}
use Rattle.hpr_graph.specs.declared.vertex.Vertex.TheVariants.{Entry}
use Rattle.hpr_report.specs.GraphTexts.{vertex_text}

pub text_there : (texts : List (String Global)) (vs : List Vertex) (at : ℕ) (t : String Global) → map string_bytes texts ≡ map vertex_text vs → at < length texts → t ≡ get_or texts at t → string_bytes t ≡ vertex_text (get_or vs at Entry)
text_there [] vs at t same l is = absurd (omega (arith, l))
text_there (s ∷ texts) [] at t same l is = absurd cc
text_there (s ∷ texts) (v ∷ vs) zero t same l is = let e : string_bytes s ≡ vertex_text v = cc in ap string_bytes is ∙ e
text_there (s ∷ texts) (v ∷ vs) (suc at) t same l is = let e : map string_bytes texts ≡ map vertex_text vs = cc in text_there texts vs at t e (omega (arith, l)) is
