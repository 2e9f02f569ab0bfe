-- The vertices that words name.
--
-- point_text v                 == the word for a vertex: `entry`, `init:x`, `final:x` (of an array
--                                 `init:a[]`), and for a part its tag
-- IsNamed g word               == the word is that for a vertex of g
-- IsPoint words v              == the word for v is one of these
-- IsFirstStranger P words word == of these words it is the first of which P doesn't hold
-- no_such_point word           == the message on a word that is that for no vertex
-- OnPoints g words next r      == r refuses the first word that is that for no vertex of g; or there is none,
--                                 and r is what next says
use Rattle.std.specs.Prelude.{◌≡◌, ◌⊎◌, List, [], ◌∷◌, ◌++◌, Contains, All, codes}
use Rattle.hpr_terms.specs.Texts.{tag_text}
use Rattle.hpr_graph.specs.declared.vertex.Vertex.{Vertex}
use Rattle.hpr_graph.specs.declared.vertex.Vertex.TheVariants.{Entry, Init, Part, Final}
use Rattle.hpr_graph.specs.Graphs.{Graph}
use Rattle.hpr_words.specs.Request.{Text}
use Rattle.hpr_inputs.specs.Decision.{Decision, refuses}
use Rattle.hpr_refusals.specs.Reasons.{about}

abbrev pub point_text : Vertex → Text
point_text Entry = codes "entry"
point_text (Init x) = codes "init:" ++ x
point_text (Part t c) = tag_text t
point_text (Final x) = codes "final:" ++ x

abbrev pub IsNamed : Graph → Text → Type 0
IsNamed g word = (v : Vertex) × g.vertex v × (word ≡ point_text v)

abbrev pub IsPoint : List Text → Vertex → Type 0
IsPoint words v = Contains words (point_text v)

abbrev pub IsFirstStranger : (Text → Type 0) → List Text → Text → Type 0
IsFirstStranger P [] word = ⊥
IsFirstStranger P (w ∷ ws) word = ((P w → ⊥) × (word ≡ w)) ⊎ (P w × IsFirstStranger P ws word)

abbrev pub no_such_point : Text → Text
no_such_point word = about word (codes "no such point")

abbrev pub OnPoints : Graph → List Text → Type 0 → Decision → Type 0
OnPoints g words next r =
    ((word : Text) × IsFirstStranger (IsNamed g) words word × (r ≡ refuses (no_such_point word))) ⊎ (All (IsNamed g) words × next)
