-- Reach in a program, by the tags of its parts.
--
-- NestOf body a loops       == these loops enclose the point a, from the outermost on; none encloses Enter
--                              and Exit
-- AvoidsTags loops marks    == none of the marks is of a back edge to one of these loops
-- AvoidsShared loops others marks == none of the marks is of a back edge to a loop of both lists
use Rattle.std.specs.Prelude.{◌≡◌, Option, Some, List, [], Contains}
use Rattle.hpr_terms.specs.declared.tag.Tag.{Tag}
use Rattle.hpr_syntax.specs.Body.{Body}
use Rattle.hpr_syntax.specs.Skeleton.{Point, enter, at, exit}
use Rattle.hpr_syntax.specs.Nests.{Standing, StandsAsIn}

abbrev pub NestOf : Body → Point → List Tag → Type 0
NestOf body enter loops = loops ≡ []
NestOf body (at v) loops = (s : Standing) × StandsAsIn body v s × (loops ≡ s.nest)
NestOf body exit loops = loops ≡ []

abbrev pub AvoidsTags : List Tag → List (Option Tag) → Type 0
AvoidsTags loops marks = (w : Tag) → Contains loops w → ¬ Contains marks (Some w)

abbrev pub AvoidsShared : List Tag → List Tag → List (Option Tag) → Type 0
AvoidsShared loops others marks = (w : Tag) → Contains loops w → Contains others w → ¬ Contains marks (Some w)
