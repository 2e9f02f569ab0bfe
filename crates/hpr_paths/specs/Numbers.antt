-- Points by number and points by tag, and paths over numbers.
--
-- IsNumberOf spots p a             == the number p stands for the point a
-- HaveTags spots loops tags        == these loops have these tags, in order
-- mark_of spots s                  == the loop whose back edge the step is; none where it is no back edge
-- marks_of spots steps             == the marks of these steps
-- Leads spots p q s                == s is a step from p to q
-- NumberPath spots p q steps       == a path of at least one step from p to q
-- NumberUndisturbed spots x p q steps == one on which no point strictly between p and q defines x
use Rattle.std.specs.Prelude.{◌≡◌, ℕ, if◌then◌else◌, Option, Some, None, List, map, Contains}
use Rattle.hpr_terms.specs.declared.tag.Tag.{Tag}
use Rattle.hpr_syntax.specs.Skeleton.{Point}
use Rattle.hpr_syntax.specs.Paths.{Path}
use Rattle.hpr_paths.specs.declared.spot.Step.{Step}
use Rattle.hpr_paths.specs.Spots.{Role, Spot, point_of, role_at, tag_at, next_at, defined_at}

abbrev pub IsNumberOf : List Spot → ℕ → Point → Type 0
IsNumberOf spots p a = (r : Role) × (role_at spots p ≡ Some r) × (a ≡ point_of r)

abbrev pub HaveTags : List Spot → List ℕ → List Tag → Type 0
HaveTags spots loops tags = map (tag_at spots) loops ≡ map Some tags

abbrev pub mark_of : List Spot → Step → Option Tag
mark_of spots s = if s.back then tag_at spots s.to else None

abbrev pub marks_of : List Spot → List Step → List (Option Tag)
marks_of spots steps = map (mark_of spots) steps

abbrev pub Leads : List Spot → ℕ → ℕ → Step → Type 0
Leads spots p q s = Contains (next_at spots p) s × (q ≡ s.to)

abbrev pub NumberPath : List Spot → ℕ → ℕ → List Step → Type 0
NumberPath spots p q steps = Path (Leads spots) (λ _. ⊥) p q steps

abbrev pub NumberUndisturbed : List Spot → List ℕ → ℕ → ℕ → List Step → Type 0
NumberUndisturbed spots x p q steps = Path (Leads spots) (λ b. defined_at spots b ≡ Some x) p q steps
